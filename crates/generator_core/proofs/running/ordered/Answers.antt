use Rattle.std.proofs.Common.{rules, sym, subst, ◌∙◌}
use Rattle.command_words.specs.Orders.{command_ordered}
use Rattle.generator_spec.specs.Commands.{IsGenerating}
use Rattle.generator_spec.specs.Asked.{AsksInOrder, IsConfigAt}
use Rattle.generator_core.specs.Configuring.{FindsConfig}
use Rattle.generator_core.proofs.Endings.{config_stop_end, ends_from, order_spends, stop_spends}
use Rattle.generator_core.proofs.Runs.{command_is, config_asks, config_still, for_all_words, not_vendor, not_why, project_asks}
use Rattle.generator_core.proofs.StepsByTrace.{fits_earlier, order_fits, unspent_words}
use Rattle.generator_core.proofs.running.ordered.Goals as goal

pub commanded-status-requires-clause-explains : goal.commanded-status-requires-clause-explains
commanded-status-requires-clause-explains g c = λ why. not_why c.args.order (sym c.command-command.ensures ∙ why)

pub commanded-status-requires-clause-vendors : goal.commanded-status-requires-clause-vendors
commanded-status-requires-clause-vendors g c = λ vendor. not_vendor c.args.order (sym c.command-command.ensures ∙ vendor)

pub returns-in-Ok-clause-end : goal.returns-in-Ok-clause-end
returns-in-Ok-clause-end g c =
    λ words is.
    let before = g.F.Folder.state c.args.folder.now in
    let middle = g.F.Folder.state c.configured.new.folder in
    let at = subst (λ r. FindsConfig words (command_ordered c.args.order) before r middle) c.in-Ok.is (c.configured.ensures words is) in
    ends_from words before middle (g.F.Folder.state c.commanded-status.new.folder) _ _ _ at.found.looks
    (c.commanded-status.ensures.end words
    (subst (λ command. IsConfigAt words command c.in-Ok.config middle) (sym c.command-command.ensures)
    (config_still words (command_ordered c.args.order) c.in-Ok.config before middle at.found.looks.tree at.found.is)))

pub returns-in-Ok-clause-asked : goal.returns-in-Ok-clause-asked
returns-in-Ok-clause-asked g c =
    let before = g.F.Folder.state c.args.folder.now in
    let middle = g.F.Folder.state c.configured.new.folder in
    let after = g.F.Folder.state c.commanded-status.new.folder in
    for_all_words (λ words old. AsksInOrder words before old after) before.asked
    (λ words is.
    let at = subst (λ r. FindsConfig words (command_ordered c.args.order) before r middle) c.in-Ok.is (c.configured.ensures words is) in
    config_asks words c.command-command.result c.in-Ok.config before middle after before.asked
    (subst (λ command. IsConfigAt words command c.in-Ok.config before) (sym c.command-command.ensures) at.found.is) at.found.looks.tree at.asked c.commanded-status.ensures.asked)

pub returns-in-Ok-clause-steps : goal.returns-in-Ok-clause-steps
returns-in-Ok-clause-steps g c = record {
  told = λ generating zero. c.commanded-status.ensures.spends.told (subst IsGenerating (sym c.command-command.ensures) generating) zero;
  bounded = λ other. c.commanded-status.ensures.spends.bounded (λ strict. other (sym c.command-command.ensures ∙ strict));
  strictly = c.commanded-status.ensures.spends.strictly;
}

pub returns-in-Err-clause-end : goal.returns-in-Err-clause-end
returns-in-Err-clause-end g c =
    λ words is.
    let before = g.F.Folder.state c.args.folder.now in
    let after = g.F.Folder.state c.configured.new.folder in
    config_stop_end words (command_ordered c.args.order) (command_is words c.args.order is) before after _ _ _ c.in-Err.stop
    (subst (λ r. FindsConfig words (command_ordered c.args.order) before r after) c.in-Err.is (c.configured.ensures words is)).stopped c.close.ensures.tells c.close.ensures.later

pub returns-in-Err-clause-asked : goal.returns-in-Err-clause-asked
returns-in-Err-clause-asked g c =
    let before = g.F.Folder.state c.args.folder.now in
    let after = g.F.Folder.state c.configured.new.folder in
    for_all_words (λ words old. AsksInOrder words before old after) before.asked
    (λ words is. project_asks words before after before.asked (c.configured.ensures words is).asked)

pub returns-in-Err-clause-steps : goal.returns-in-Err-clause-steps
returns-in-Err-clause-steps g c = order_spends (command_ordered c.args.order) _ _ _ _ _ (stop_spends (IsGenerating (command_ordered c.args.order)) c.in-Err.stop _ _ _ _ _ c.close.ensures.tells (search rules))

pub returns-in-Ok-clause-by_trace : goal.returns-in-Ok-clause-by_trace
returns-in-Ok-clause-by_trace g c =
    λ words is.
    let before = g.F.Folder.state c.args.folder.now in
    let middle = g.F.Folder.state c.configured.new.folder in
    let at = subst (λ r. FindsConfig words (command_ordered c.args.order) before r middle) c.in-Ok.is (c.configured.ensures words is) in
    order_fits words c.in-Ok.config before _ _ (command_ordered c.args.order) at.found.is
    (fits_earlier c.in-Ok.config before middle _ _ (command_ordered c.args.order) c.command-command.result c.command-command.ensures at.found.looks.tree c.commanded-status.ensures.by_trace)

pub returns-in-Err-clause-by_trace : goal.returns-in-Err-clause-by_trace
returns-in-Err-clause-by_trace g c = λ words is. unspent_words words (g.F.Folder.state c.args.folder.now).holds _
