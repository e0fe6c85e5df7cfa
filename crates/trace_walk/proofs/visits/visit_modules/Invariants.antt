use Rattle.std.proofs.Common.{◌≤◌, ◌-◌, length}
use Rattle.trace_spec.specs.Walking.{walked}
use Rattle.trace_spec.specs.Checks.{rules}
use Rattle.trace_walk.specs.Shown.{before_of}
use Rattle.trace_walk.specs.Walking.{AllNamed, Counts, Advances}
use Rattle.trace_walk.proofs.Meetings.{Left}
use Rattle.trace_walk.proofs.visits.visit_modules.Given as goal

abbrev pub invariant-loop-place : goal.invariant-loop-place
invariant-loop-place g l = record {
  left : AllNamed l.config l.fn.tables.modules.entries → Left (g.A.Answerer.state l.fn.answerer) (walked (rules l.config) 20001 (before_of l.fn.tables) 0) (g.A.Answerer.state l.answerer) (walked (rules l.config) (20001 - l.place) (before_of l.tables) l.place);
  advances : Advances l.config l.place (AllNamed l.config l.fn.tables.modules.entries) l.fn.tables l.tables (g.A.Answerer.state l.fn.answerer).steps (g.A.Answerer.state l.answerer).steps (g.A.Answerer.ready l.answerer);
  counts : Counts 0 l.fn.tables l.tables;
  few : length l.tables.modules.entries ≤ 20000;
  within : l.place ≤ length l.tables.modules.entries;
}

abbrev pub decreases-loop-place : goal.decreases-loop-place
decreases-loop-place g l = 20000 - l.place
