use Rattle.std.proofs.Common.{rules, subst, ◌∙◌}
use Rattle.std.proofs.lemmas.List.Sorted.{IsPartitionPoint-from_clause}
use Rattle.std.specs.Map.{keys_of}
use Rattle.exports_patterns.specs.Fronts.{IsAscending}
use Rattle.exports_patterns.proofs.FrontLemmas.{IsBelow, searched_top}
use Rattle.exports_patterns.proofs.fronts.Fronts.top.Goals as goal

pub returns : goal.returns
returns g c =
    searched_top c.args.text.now c.args.self.now c.as_slice-entries.result.now c.partition_point-from.result c.climb.result
    (c.as_slice-entries.ensures.value ∙ c.self.view_is)
    (subst (λ es. IsAscending (keys_of es)) c.self.view_is c.self.invariant.0)
    c.partition_point-from.ensures.bound
    (λ parted. IsPartitionPoint-from_clause (IsBelow c.args.text.now) _ _ c.partition_point-from.ensures.partitioned parted (λ a r f k. search rules))
    c.climb.ensures
