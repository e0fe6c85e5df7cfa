use Rattle.std.proofs.Common.{rules, refl, subst}
use Rattle.config_spec.specs.declared.Command.TheVariants.{Refresh, Vendor}
use Rattle.generator_spec.specs.Asked.{AsksInOrder}
use Rattle.generator_spec.specs.Commands.{SaysCounts}
use Rattle.session_spec.specs.Openings.{refresh_words}
use Rattle.generator_core.specs.Configuring.{FindsConfig}
use Rattle.generator_core.proofs.Endings.{config_stop_end, ends_from, stop_spends}
use Rattle.generator_core.proofs.CopiesTold.{copies_ask, vendors_no_project, vendors_project, vendor_command}
use Rattle.generator_core.proofs.HeldSessions.{refreshes}
use Rattle.generator_core.proofs.Runs.{config_still, for_all_words, project_asks}
use Rattle.generator_core.proofs.StepsByTrace.{fits_earlier, order_fits, unspent_words}
use Rattle.generator_core.proofs.running.vendor.Goals as goal

pub tell_copies-status-requires : goal.tell_copies-status-requires
tell_copies-status-requires g c = c.requires

pub returns-in-Ok-clause-end : goal.returns-in-Ok-clause-end
returns-in-Ok-clause-end g c =
    λ words is.
    let before = g.F.Folder.state c.args.folder.now in
    let middle = g.F.Folder.state c.configured.new.folder in
    let at =
    vendors_project words c.args.to.now is before middle c.in-Ok.config
    (subst (λ r. FindsConfig refresh_words Refresh before r middle) c.in-Ok.is (c.configured.ensures refresh_words refreshes)) in
    ends_from words before middle (g.F.Folder.state c.tell_copies-status.new.folder) _ _ _ at.found.looks
    (c.tell_copies-status.ensures.end words is.asks (config_still words Vendor c.in-Ok.config before middle at.found.looks.tree at.found.is))

pub returns-in-Ok-clause-asked : goal.returns-in-Ok-clause-asked
returns-in-Ok-clause-asked g c =
    let before = g.F.Folder.state c.args.folder.now in
    let middle = g.F.Folder.state c.configured.new.folder in
    let after = g.F.Folder.state c.tell_copies-status.new.folder in
    for_all_words (λ words old. AsksInOrder words before old after) before.asked
    (λ words is.
    let at =
    vendors_project words c.args.to.now is before middle c.in-Ok.config
    (subst (λ r. FindsConfig refresh_words Refresh before r middle) c.in-Ok.is (c.configured.ensures refresh_words refreshes)) in
    copies_ask words c.args.to.now c.in-Ok.config before middle after before.asked is.asks at.found.is at.found.looks.tree at.asked c.tell_copies-status.ensures.asked)

pub returns-in-Ok-clause-steps : goal.returns-in-Ok-clause-steps
returns-in-Ok-clause-steps g c = c.tell_copies-status.ensures.spends

pub returns-in-Err-clause-end : goal.returns-in-Err-clause-end
returns-in-Err-clause-end g c =
    λ words is.
    let before = g.F.Folder.state c.args.folder.now in
    let after = g.F.Folder.state c.configured.new.folder in
    let at =
    vendors_no_project words c.args.to.now is before after c.in-Err.stop
    (subst (λ r. FindsConfig refresh_words Refresh before r after) c.in-Err.is (c.configured.ensures refresh_words refreshes)) in
    config_stop_end words Vendor (vendor_command words c.args.to.now is) before after _ _ _ c.in-Err.stop at.stopped c.close.ensures.tells c.close.ensures.later

pub returns-in-Err-clause-asked : goal.returns-in-Err-clause-asked
returns-in-Err-clause-asked g c =
    let before = g.F.Folder.state c.args.folder.now in
    let after = g.F.Folder.state c.configured.new.folder in
    for_all_words (λ words old. AsksInOrder words before old after) before.asked
    (λ words is. project_asks words before after before.asked (c.configured.ensures refresh_words refreshes).asked)

pub returns-in-Err-clause-steps : goal.returns-in-Err-clause-steps
returns-in-Err-clause-steps g c = stop_spends (SaysCounts Vendor) c.in-Err.stop _ _ _ _ _ c.close.ensures.tells (search rules)

pub returns-in-Ok-clause-by_trace : goal.returns-in-Ok-clause-by_trace
returns-in-Ok-clause-by_trace g c =
    λ words is.
    let before = g.F.Folder.state c.args.folder.now in
    let middle = g.F.Folder.state c.configured.new.folder in
    let at =
    vendors_project words c.args.to.now is before middle c.in-Ok.config
    (subst (λ r. FindsConfig refresh_words Refresh before r middle) c.in-Ok.is (c.configured.ensures refresh_words refreshes)) in
    order_fits words c.in-Ok.config before _ _ Vendor at.found.is
    (fits_earlier c.in-Ok.config before middle _ _ Vendor Vendor refl at.found.looks.tree c.tell_copies-status.ensures.by_trace)

pub returns-in-Err-clause-by_trace : goal.returns-in-Err-clause-by_trace
returns-in-Err-clause-by_trace g c = λ words is. unspent_words words (g.F.Folder.state c.args.folder.now).holds _
