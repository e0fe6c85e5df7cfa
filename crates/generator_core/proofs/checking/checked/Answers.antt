use Rattle.std.proofs.Common.{refl, subst}
use Rattle.generator_core.specs.Checking.{FindsMapText, FindsMap}
use Rattle.generator_core.proofs.Checkings.{asks_checking, text_refused, map_refused, text_still, checks_behind}
use Rattle.generator_core.proofs.StepsByTrace.{fits_earlier, unspent_fits}
use Rattle.generator_core.proofs.checking.checked.Goals as goal

pub returns-in-Err-clause-checks : goal.returns-in-Err-clause-checks
returns-in-Err-clause-checks g c = λ command asks.
    let before = g.F.Folder.state c.args.folder.now in
    let after = g.F.Folder.state c.map_text.new.folder in
    text_refused c.args.config.now before after command (asks_checking command c.args.strictly asks) c.in-Err.stop (subst (λ r. FindsMapText before r after) c.in-Err.is c.map_text.ensures)

pub returns-in-Err-map_of-clause-checks : goal.returns-in-Err-map_of-clause-checks
returns-in-Err-map_of-clause-checks g c = λ command asks.
    let before = g.F.Folder.state c.args.folder.now in
    let after = g.F.Folder.state c.map_text.new.folder in
    map_refused c.args.config.now before after command (asks_checking command c.args.strictly asks) c.in-Ok.text c.in-Err-map_of.stop (subst (λ r. FindsMapText before r after) c.in-Ok.is c.map_text.ensures)
    (subst (λ r. FindsMap c.args.config.now c.in-Ok.text r) c.in-Err-map_of.is (subst (λ t. FindsMap c.args.config.now t c.map_of.result) c.as_slice.ensures c.map_of.ensures)).stopped

pub returns-clause-checks : goal.returns-clause-checks
returns-clause-checks g c = λ command asks.
    let before = g.F.Folder.state c.args.folder.now in
    let middle = g.F.Folder.state c.map_text.new.folder in
    let after = g.F.Folder.state c.checked_by-said.new.folder in
    let found = subst (λ r. FindsMapText before r middle) c.in-Ok.is c.map_text.ensures in
    let reads = (subst (λ r. FindsMap c.args.config.now c.in-Ok.text r) c.in-Ok-map_of.is (subst (λ t. FindsMap c.args.config.now t c.map_of.result) c.as_slice.ensures c.map_of.ensures)).reads in
    checks_behind command c.args.config.now before middle after (asks_checking command c.args.strictly asks) c.in-Ok.text
    c.in-Ok-map_of.parsed c.checked_by-said.result reads found
    (c.checked_by-said.ensures.checks (text_still c.args.config.now before middle c.in-Ok.text c.in-Ok-map_of.parsed found
    reads) command asks)

pub returns-in-Err-clause-by_trace : goal.returns-in-Err-clause-by_trace
returns-in-Err-clause-by_trace g c = λ command asking. unspent_fits command c.args.config.now (g.F.Folder.state c.args.folder.now).holds c.args.steps.now

pub returns-in-Err-map_of-clause-by_trace : goal.returns-in-Err-map_of-clause-by_trace
returns-in-Err-map_of-clause-by_trace g c = λ command asking. unspent_fits command c.args.config.now (g.F.Folder.state c.args.folder.now).holds c.args.steps.now

pub returns-clause-by_trace : goal.returns-clause-by_trace
returns-clause-by_trace g c = λ command asking.
    let before = g.F.Folder.state c.args.folder.now in
    let middle = g.F.Folder.state c.map_text.new.folder in
    let found = subst (λ r. FindsMapText before r middle) c.in-Ok.is c.map_text.ensures in
    let reads = (subst (λ r. FindsMap c.args.config.now c.in-Ok.text r) c.in-Ok-map_of.is (subst (λ t. FindsMap c.args.config.now t c.map_of.result) c.as_slice.ensures c.map_of.ensures)).reads in
    fits_earlier c.args.config.now before middle c.args.steps.now c.checked_by-said.new.steps command command refl
    found.found.looks.tree
    (c.checked_by-said.ensures.by_trace (text_still c.args.config.now before middle c.in-Ok.text c.in-Ok-map_of.parsed found reads) command asking)
