use Rattle.std.proofs.Common.{◌≡◌, ◌++◌, length, refl, sym, ap, ◌∙◌}
use Rattle.std.specs.List.{concat}
use Rattle.std.proofs.lemmas.Bool.{eqb-false}
use Rattle.generator_spec.specs.Lines.{differences_line}
use Rattle.generator_core.proofs.ReportLemmas.{some_differences}
use Rattle.generator_core.proofs.checking.report_with.Goals as goal

pub returns : goal.returns
returns c =
    let lines = c.args.lines.now in
    let some = eqb-false (length lines) 0 (sym c.is_empty.ensures ∙ c.if-is_empty.false) in
    let text : c.extend_from_slice.new.self.items ≡ concat lines ++ differences_line (length lines) =
    (let all = c.in_ok-extend_from_slice.ensures.items in
    let slice = c.as_slice.ensures.value in
    let front = c.in_ok-text.ensures in
    let last = c.in_ok-last.ensures ∙ ap differences_line c.len.ensures in
    cc) in
    some_differences c.args.needs lines _ some refl text
