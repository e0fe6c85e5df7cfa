use Rattle.std.proofs.Common.{◌≤◌, length}
use Rattle.std.specs.Prelude.{All}
use Rattle.kept_answers.specs.KnownLooks.{IsAsKnown}
use Rattle.kept_answers.specs.WholeLooks.{total_size}
use Rattle.kept_answers.proofs.looks.are_shown.Given as goal

abbrev pub invariant-loop-look : goal.invariant-loop-look
invariant-loop-look l = record {
  each : All (IsAsKnown l.fn.known) l.rest → All (IsAsKnown l.fn.known) l.fn.looks;
  size : total_size l.rest ≤ l.left → total_size l.fn.looks ≤ l.fn.most;
}

abbrev pub decreases-loop-look : goal.decreases-loop-look
decreases-loop-look l = length l.rest
