use Rattle.std.proofs.Common.{◌≡◌, ap, ◌∙◌}
use Rattle.std.specs.Prelude.{map as each}
use Rattle.std.proofs.lemmas.Result.{IfOk-weaker}
use Rattle.check_spec.specs.Differences.{differences}
use Rattle.map_check.specs.Shown.{shown}
use Rattle.generator_core.proofs.ReportLemmas.{lines_are}
use Rattle.generator_core.proofs.checking.differing.Goals as goal

pub returns : goal.returns
returns c =
    let found : each shown c.in_ok-differences.differences ≡ differences c.args.parsed.now c.args.trace.now.gathered.needs =
    c.in_ok-differences.ensures ∙ ap (differences c.args.parsed.now) c.needs.ensures.needs in
    IfOk-weaker c.difference_texts.result _ _
    (λ lines is. is ∙ lines_are c.args.parsed.now c.args.trace.now.gathered c.in_ok-differences.differences found)
    c.difference_texts.ensures
