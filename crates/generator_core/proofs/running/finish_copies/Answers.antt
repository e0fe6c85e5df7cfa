use Rattle.std.proofs.Common.{length, ap, ◌∙◌, subst}
use Rattle.tree_vendor.specs.Copying.{CopiesOut, copies as written_of}
use Rattle.generator_spec.specs.Lines.{vendored_line}
use Rattle.generator_core.specs.Vendoring.{new_files}
use Rattle.generator_core.proofs.CopiesTold.{broken_finishes, copied_finishes}
use Rattle.generator_core.proofs.Vendorings.{wrote_all, wrote_some}
use Rattle.generator_core.proofs.running.finish_copies.Goals as goal

pub copy_out-requires : goal.copy_out-requires
copy_out-requires g c = c.requires

pub returns-in-Ok-copy_out : goal.returns-in-Ok-copy_out
returns-in-Ok-copy_out g c =
    let known = c.args.copies.now.known in
    let plan = c.args.copies.now.plan in
    let before = g.F.Folder.state c.args.folder.now in
    let after = g.F.Folder.state c.copy_out.new.folder in
    let is = subst (λ r. CopiesOut known plan before r after) c.in-Ok-copy_out.is c.copy_out.ensures in
    copied_finishes (new_files known plan) (vendored_line (length plan)) before after _ _ _
    c.tell-in-Ok-copy_out.ensures.later c.as_slice.result.now
    (let slice = c.as_slice.ensures.value in let line = c.in-Ok.ensures ∙ ap vendored_line c.len.ensures in cc)
    (wrote_all before after (written_of known plan) is.all is.quiet) c.tell-in-Ok-copy_out.ensures.ends

pub returns : goal.returns
returns g c =
    let known = c.args.copies.now.known in
    let plan = c.args.copies.now.plan in
    let before = g.F.Folder.state c.args.folder.now in
    let after = g.F.Folder.state c.copy_out.new.folder in
    let is = subst (λ r. CopiesOut known plan before r after) c.in-Err.is c.copy_out.ensures in
    broken_finishes (new_files known plan) (vendored_line (length plan)) before after _ _ _ c.tell-in-Err.ensures.later
    c.write_fault_line.result.now c.write_fault_line.ensures
    (wrote_some before after (written_of known plan) is.stopped is.failed is.later) c.tell-in-Err.ensures.ends
