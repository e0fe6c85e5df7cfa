use Rattle.std.proofs.Common.{◌≤◌, ◌+◌, sym, subst}
use Rattle.generator_core.specs.Checking.{AsksGrammar}
use Rattle.generator_core.specs.Strictness.{module_steps}
use Rattle.generator_core.proofs.ReportLemmas.{reports_plainly, reports_strictly, reports_memory}
use Rattle.generator_core.proofs.checking.report_of.Goals as goal

pub returns-in-Err-clause-reports : goal.returns-in-Err-clause-reports
returns-in-Err-clause-reports g c = λ command asks. reports_memory c.args.parsed.now c.args.trace.now.gathered command

pub returns-then-strictly-clause-reports : goal.returns-then-strictly-clause-reports
returns-then-strictly-clause-reports g c = λ command asks.
    reports_strictly c.args.parsed.now c.args.trace.now.gathered c.in-Ok.lines c.reported_strictly.result c.in-Ok.ensures c.reported_strictly.ensures.reports command
    (subst (AsksGrammar command) c.if-strictly.true asks)

pub returns-else-strictly-clause-reports : goal.returns-else-strictly-clause-reports
returns-else-strictly-clause-reports g c = λ command asks.
    reports_plainly c.args.parsed.now c.args.trace.now.gathered c.in-Ok.lines c.reported.result c.in-Ok.ensures c.reported.ensures command
    (subst (AsksGrammar command) c.if-strictly.false asks)

pub returns-then-strictly-clause-counted : goal.returns-then-strictly-clause-counted
returns-then-strictly-clause-counted g c =
    subst (λ strictly. c.reported_strictly.new.steps ≤ c.args.steps.now + module_steps strictly c.args.trace.now.gathered) (sym c.if-strictly.true)
    c.reported_strictly.ensures.counted
