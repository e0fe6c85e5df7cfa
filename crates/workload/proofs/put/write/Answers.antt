use Rattle.std.proofs.Common.{subst}
use Rattle.workload.specs.Putting.{IsPut}
use Rattle.workload.proofs.Puttings.{is_put}
use Rattle.workload.proofs.put.write.Goals as goal

pub returns-in-Ok : goal.returns-in-Ok
returns-in-Ok c =
    subst (λ bytes. IsPut c.args.folder.now c.args.path.now bytes c.write.new.self) c.as_bytes.ensures.value
    (is_put c.args.folder.now c.write.new.self c.args.path.now c.as_bytes.result.now c.write.result c.in-Ok.field-0 c.in-Ok.is c.requires c.write.ensures.written c.write.ensures.quiet c.write.ensures.asked c.write.ensures.looks
    c.write.ensures.look_faults c.write.ensures.failing_looks c.write.ensures.failing_writes)
