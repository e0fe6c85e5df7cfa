use Rattle.std.proofs.Common.{sym, ◌∙◌, subst, IfSome}
use Rattle.page_spec.specs.Injection.{KeepsMapsOut, TakesMaps}
use Rattle.config_spec.specs.declared.Command.TheVariants.{Inject}
use Rattle.generator_spec.specs.Commands.{IsPage}
use Rattle.generator_core.specs.Preparing.{FindsPage}
use Rattle.generator_core.proofs.Preparings.{page_refused, page_keeps_out, page_prepared}
use Rattle.generator_core.proofs.StepsByTrace.{held_earlier, page_opening, unspent_opening, unspent_to_end}
use Rattle.generator_core.proofs.prepared.prepare_page.Goals as goal

pub returns-in-Err-clause-prepares : goal.returns-in-Err-clause-prepares
returns-in-Err-clause-prepares g c =
    let before = g.F.Folder.state c.args.folder.now in
    let after = g.F.Folder.state c.page_of.new.folder in
    page_refused c.args.config.now before after c.in-Err.stop (subst (λ r. FindsPage c.args.config.now before r after) c.in-Err.is c.page_of.ensures)

pub returns-in-Err-site_of-clause-prepares : goal.returns-in-Err-site_of-clause-prepares
returns-in-Err-site_of-clause-prepares g c =
    let before = g.F.Folder.state c.args.folder.now in
    let after = g.F.Folder.state c.page_of.new.folder in
    page_keeps_out c.args.config.now before after c.in-Ok.page c.in-Err-site_of.fault c.without_page.result (subst (λ r. FindsPage c.args.config.now before r after) c.in-Ok.is c.page_of.ensures)
    (subst (λ b. KeepsMapsOut b c.in-Err-site_of.fault) c.as_slice.ensures c.in-Err-site_of.ensures) c.without_page.ensures

pub returns-clause-prepares : goal.returns-clause-prepares
returns-clause-prepares g c =
    let before = g.F.Folder.state c.args.folder.now in
    let middle = g.F.Folder.state c.page_of.new.folder in
    let after = g.F.Folder.state c.prepare_at.new.folder in
    let same = c.in-Ok-site_of.ensures.page in
    page_prepared c.args.config.now before middle after c.in-Ok.page c.prepare_at.result (subst TakesMaps (c.as_slice.ensures) c.in-Ok-site_of.ensures.takes) (subst (λ r. FindsPage c.args.config.now before r middle) c.in-Ok.is c.page_of.ensures) c.prepare_at.ensures.asked.once c.prepare_at.ensures.asked.footprint
    (λ stands. c.prepare_at.ensures.prepares (subst TakesMaps (sym same) c.in-Ok-site_of.ensures.takes)
    (subst (λ b. IfSome middle.holds (λ tree. IsPage tree c.args.config.now b)) (sym (same ∙ c.as_slice.ensures)) stands))

pub returns-in-Err-clause-to_end : goal.returns-in-Err-clause-to_end
returns-in-Err-clause-to_end g c = unspent_to_end c.args.config.now (g.F.Folder.state c.args.folder.now).holds c.args.steps.now

pub returns-in-Err-site_of-clause-to_end : goal.returns-in-Err-site_of-clause-to_end
returns-in-Err-site_of-clause-to_end g c = unspent_to_end c.args.config.now (g.F.Folder.state c.args.folder.now).holds c.args.steps.now

pub returns-clause-to_end : goal.returns-clause-to_end
returns-clause-to_end g c =
    let before = g.F.Folder.state c.args.folder.now in
    let middle = g.F.Folder.state c.page_of.new.folder in
    let found = subst (λ r. FindsPage c.args.config.now before r middle) c.in-Ok.is c.page_of.ensures in
    held_earlier c.args.config.now before middle c.args.steps.now c.prepare_at.new.steps found.found.looks.tree c.prepare_at.ensures.to_end

pub returns-in-Err-clause-opened : goal.returns-in-Err-clause-opened
returns-in-Err-clause-opened g c = unspent_opening Inject c.args.config.now (g.F.Folder.state c.args.folder.now).holds c.args.steps.now

pub returns-in-Err-site_of-clause-opened : goal.returns-in-Err-site_of-clause-opened
returns-in-Err-site_of-clause-opened g c = unspent_opening Inject c.args.config.now (g.F.Folder.state c.args.folder.now).holds c.args.steps.now

pub returns-clause-opened : goal.returns-clause-opened
returns-clause-opened g c =
    let before = g.F.Folder.state c.args.folder.now in
    let middle = g.F.Folder.state c.page_of.new.folder in
    let found = subst (λ r. FindsPage c.args.config.now before r middle) c.in-Ok.is c.page_of.ensures in
    page_opening c.in-Ok.page c.args.config.now before.holds c.args.steps.now c.prepare_at.new.steps
    (subst TakesMaps (c.as_slice.ensures) c.in-Ok-site_of.ensures.takes) found.found.is_page
