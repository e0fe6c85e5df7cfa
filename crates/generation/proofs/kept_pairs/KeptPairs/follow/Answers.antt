use Rattle.std.proofs.Common.{sym}
use Rattle.trace_graph.specs.Links.{source_of}
use Rattle.generation.proofs.Pairings.{one_turned, still_within, whole}
use Rattle.generation.proofs.kept_pairs.KeptPairs.follow.Goals as goal

pub loop-place-init : goal.loop-place-init
loop-place-init c = (sym (whole c.args.self.now.modules), c.requires.once)

pub follow_at-requires-clause-place : goal.follow_at-requires-clause-place
follow_at-requires-clause-place c =
    still_within c.args.self.now.modules c.loop-place.self.modules c.args.trace.now.gathered.sources c.loop-place.place c.count-place-end.result c.loop-place-test.true c.count-place-end.ensures c.loop-place.invariant.0

pub loop-place-preserved : goal.loop-place-preserved
loop-place-preserved c = (
  one_turned c.args.self.now.modules c.loop-place.self.modules c.follow_at.new.self.modules c.args.trace.now.gathered.sources c.loop-place.place (source_of c.in-Some.module) (sym c.in-Some.ensures) c.loop-place.invariant.0 c.in_ok-follow_at.ensures.bytes,
  c.in_ok-follow_at.ensures.once,
)
