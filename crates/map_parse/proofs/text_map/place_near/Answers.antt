use Rattle.std.proofs.Common.{rules}
use Rattle.std.specs.Ordering.{is_lt, nat_cmp}
use Rattle.std.specs.Cmp.Lexicographic.{slice_cmp}
use Rattle.std.proofs.lemmas.List.Sorted.{IsPartitionPoint-from_clause}
use Rattle.map_parse.proofs.TextMapLemmas.{parted}
use Rattle.map_parse.proofs.text_map.place_near.Goals as goal

pub returns : goal.returns
returns g c = IsPartitionPoint-from_clause (λ y. is_lt (slice_cmp nat_cmp y.0 c.args.text.now)) _ _ c.partition_point.ensures.partitioned (parted c.args.text.now _ c.requires) (λ a r f k. search rules)
