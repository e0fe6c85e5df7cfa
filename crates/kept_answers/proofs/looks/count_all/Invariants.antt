use Rattle.std.proofs.Common.{◌≡◌, [], length}
use Rattle.package_lookup.specs.Trails.{Lengthens}
use Rattle.kept_answers.specs.WholeLooks.{counted_all, HasSpaceFor}
use Rattle.kept_answers.proofs.looks.count_all.Given as goal

abbrev pub invariant-loop-look : goal.invariant-loop-look
invariant-loop-look l = record {
  counts : counted_all l.trail l.rest ≡ counted_all l.fn.trail l.fn.looks;
  space : HasSpaceFor l.trail l.rest;
  grows : Lengthens l.fn.trail l.trail;
  none : l.fn.looks ≡ [] → l.rest ≡ [];
}

abbrev pub decreases-loop-look : goal.decreases-loop-look
decreases-loop-look l = length l.rest
