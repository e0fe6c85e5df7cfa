use Rattle.std.proofs.Common.{refl, ◌∙◌, arith}
use Rattle.workload.proofs.Puttings.{next_package}
use Rattle.workload.proofs.packages.tree_of.Goals as goal

pub loop-number-preserved : goal.loop-number-preserved
loop-number-preserved c =
    let below = c.loop-number-test.true in (
      next_package _ _ _ c.loop-number.number c.args.count _ (omega (arith, below)) refl c.loop-number.invariant.0 c.in_ok-put_package.ensures.tree,
      c.in_ok-put_package.ensures.rest ∙ c.loop-number.invariant.1,
    )
