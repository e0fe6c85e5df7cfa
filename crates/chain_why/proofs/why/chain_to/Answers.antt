use Rattle.std.proofs.Common.{◌≡◌, ◌-◌, suc, arith, ◌∙◌}
use Rattle.chain_why.proofs.Finding.{one_back, all_back}
use Rattle.chain_why.proofs.why.chain_to.Goals as goal

pub loop-from-preserved : goal.loop-from-preserved
loop-from-preserved c =
    let index : c.loop-from.from ≡ suc (c.loop-from.from - 1) = omega (arith, c.loop-from-test.true) in
    let before = c.requires.ordered (c.loop-from.from - 1) c.step_at-step.result c.step_at-step.ensures in
    record {
      within = omega (arith, before, c.loop-from.invariant.within);
      leads = λ targets back is.
          one_back targets c.args.reached.now.keys back c.loop-from.from (c.loop-from.from - 1) c.loop-from.steps.items
          c.push-in-loop-from.new.self.items c.step_at-step.result index c.step_at-step.ensures c.in_ok-push-2.ensures.items
          (c.loop-from.invariant.leads targets back is);
    }

pub returns : goal.returns
returns c = λ targets back is.
    all_back targets c.args.reached.now.keys back c.loop-from.from c.loop-from.steps.items c.from_vec.result
    (omega (arith, c.loop-from-test.false)) (c.from_vec.ensures ∙ c.reverse.ensures.items) (c.loop-from.invariant.leads targets back is)
