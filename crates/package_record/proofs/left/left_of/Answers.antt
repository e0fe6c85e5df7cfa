use Rattle.std.proofs.Common.{sym, subst}
use Rattle.package_record.specs.Targets.{AreLeftOf}
use Rattle.package_record.proofs.LeftLemmas.{comes_under}
use Rattle.package_record.proofs.left.left_of.Goals as goal

pub returns : goal.returns
returns c = record {
  whole = comes_under _ _ _ _ _ (sym c.in_ok-conditions.ensures) c.in_ok-whole.ensures;
  targets = subst (λ cs. AreLeftOf cs c.args.imports c.args.value.now c.in_ok-targets.targets.items) (sym c.in_ok-conditions.ensures) c.in_ok-targets.ensures;
}
