use Rattle.std.proofs.Common.{◌≤◌, ◌-◌, length, drop}
use Rattle.url_spec.specs.Parsing.{IsUrl}
use Rattle.trace_spec.specs.Modules.{Module}
use Rattle.trace_spec.specs.Walking.{Referrer, followed}
use Rattle.trace_spec.specs.Checks.{rules}
use Rattle.trace_walk.specs.Shown.{before_of, specifiers_of}
use Rattle.trace_walk.specs.Walking.{IsReferrer, AllNamed, Counts, Advances}
use Rattle.trace_walk.proofs.Meetings.{Left}
use Rattle.trace_walk.proofs.visits.follow_all.Given as goal

abbrev pub invariant-loop-next : goal.invariant-loop-next
invariant-loop-next g l = record {
  left : (r : Referrer Module) → IsReferrer l.config r l.referrer → AllNamed l.config l.fn.tables.modules.entries → Left (g.A.Answerer.state l.fn.answerer) (followed (rules l.config) (before_of l.fn.tables) r (specifiers_of l.specifiers)) (g.A.Answerer.state l.answerer) (followed (rules l.config) (before_of l.tables) r (drop l.next (specifiers_of l.specifiers)));
  advances : Advances l.config 0 (IsUrl l.referrer.text) l.fn.tables l.tables (g.A.Answerer.state l.fn.answerer).steps (g.A.Answerer.state l.answerer).steps (g.A.Answerer.ready l.answerer);
  counts : Counts l.next l.fn.tables l.tables;
  within : l.next ≤ length (specifiers_of l.specifiers);
}

abbrev pub decreases-loop-next : goal.decreases-loop-next
decreases-loop-next g l = length (specifiers_of l.specifiers) - l.next
