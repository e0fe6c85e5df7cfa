use Rattle.std.proofs.Common.{rules}
use Rattle.std.proofs.lemmas.List.Sorted.{IsPartitionPoint-from_clause}
use Rattle.scope_builder.specs.Keys.{is_below}
use Rattle.scope_builder.proofs.Values.{parted}
use Rattle.scope_builder.proofs.keyed.place_of.Goals as goal

pub returns : goal.returns
returns g c = IsPartitionPoint-from_clause (is_below c.args.key.now) _ _ c.partition_point.ensures.partitioned (parted c.args.key.now _ c.requires) (λ a r f k. search rules)
