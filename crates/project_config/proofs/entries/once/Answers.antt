use Rattle.std.proofs.Common.{arith}
use Rattle.project_config.proofs.Once.{one_more}
use Rattle.project_config.proofs.entries.once.Goals as goal

pub loop-text-preserved : goal.loop-text-preserved
loop-text-preserved c = one_more c.args.texts.now c.loop-text.text-index c.text-item.result _ _ _ (omega arith) c.text-item.is c.loop-text.invariant c.in_ok-copy.ensures c.in_ok-insert.ensures.keys
