use Rattle.config_spec.specs.Words.{RefusesOptions, Sets}
use Rattle.words_parse.specs.Shown.{options_of}
use Rattle.command_words.specs.Faults.{RefusesAs}
use Rattle.command_words.proofs.Orders.{set_is_file}
use Rattle.command_words.proofs.Refusals.{base_refused, conditions_refused, handed_on, page_refused}
use Rattle.command_words.proofs.settings.settings_of.Goals as goal

pub returns-in_err-base : goal.returns-in_err-base
returns-in_err-base c =
    handed_on (Sets (options_of c.args.values)) (RefusesAs (RefusesOptions (options_of c.args.values)))
    c.from_residual.result c.in_err-base.field-0.0 c.from_residual.ensures.1
    (base_refused (options_of c.args.values) c.in_err-base.field-0.0 c.in_err-base.ensures)

pub returns-in_err-page : goal.returns-in_err-page
returns-in_err-page c =
    handed_on (Sets (options_of c.args.values)) (RefusesAs (RefusesOptions (options_of c.args.values)))
    c.from_residual-in_err-page.result c.in_err-page.field-0.0 c.from_residual-in_err-page.ensures.1
    (page_refused (options_of c.args.values) c.in_ok-base.base c.in_err-page.field-0.0 c.in_ok-base.ensures
    c.in_err-page.ensures)

pub returns-in_err-conditions : goal.returns-in_err-conditions
returns-in_err-conditions c =
    handed_on (Sets (options_of c.args.values)) (RefusesAs (RefusesOptions (options_of c.args.values)))
    c.from_residual-in_err-conditions.result c.in_err-conditions.field-0.0
    c.from_residual-in_err-conditions.ensures.1
    (conditions_refused (options_of c.args.values) c.in_ok-base.base c.in_ok-page.page c.in_err-conditions.field-0.0
    c.in_ok-base.ensures c.in_ok-page.ensures c.in_err-conditions.ensures)

pub invariant_of-result : goal.invariant_of-result
invariant_of-result c = set_is_file _ c.in_ok-page.page c.in_ok-page.ensures
