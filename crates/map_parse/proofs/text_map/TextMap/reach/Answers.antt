use Rattle.std.proofs.Common.{rules, sym, ◌∙◌, subst}
use Rattle.std.specs.Ordering.{is_le, nat_cmp}
use Rattle.std.specs.Cmp.Lexicographic.{slice_cmp}
use Rattle.std.proofs.lemmas.List.Sorted.{IsPartitionPoint-from_clause}
use Rattle.map_parse.specs.TextMaps.{IsAscending}
use Rattle.map_parse.proofs.ReachLemmas.{parted_below, none_at_all, none_beyond}
use Rattle.map_parse.proofs.text_map.TextMap.reach.Goals as goal

pub returns-then-behind-eq0-clause-none : goal.returns-then-behind-eq0-clause-none
returns-then-behind-eq0-clause-none g c =
    let up = subst IsAscending (sym c.as_slice-entries.ensures.value) c.self.invariant in
    let point = IsPartitionPoint-from_clause (λ y. is_le (slice_cmp nat_cmp y.0 c.args.text.now)) _ _ c.partition_point-behind.ensures.partitioned (parted_below c.args.text.now _ up) (λ a r f k. search rules) in
    λ n more within. none_at_all _ c.args.text.now _ _ _ n (sym c.self.view_is) c.as_slice-entries.ensures.value (search rules) point

pub returns-in-Some-clause-none : goal.returns-in-Some-clause-none
returns-in-Some-clause-none g c =
    let up = subst IsAscending (sym c.as_slice-entries.ensures.value) c.self.invariant in
    let point = IsPartitionPoint-from_clause (λ y. is_le (slice_cmp nat_cmp y.0 c.args.text.now)) _ _ c.partition_point-behind.ensures.partitioned (parted_below c.args.text.now _ up) (λ a r f k. search rules) in
    none_beyond _ c.args.text.now _ _ _ _ c.common_front.result c.in-Some.entry.now (sym c.self.view_is) c.as_slice-entries.ensures.value (search rules) up point c.in-Some.ensures.lookup.3 c.as_bytes.result.now c.as_bytes-in-Some.result.now c.as_bytes.ensures.value (c.as_bytes-in-Some.ensures.value ∙ c.as_str.ensures) c.common_front.ensures.longest
