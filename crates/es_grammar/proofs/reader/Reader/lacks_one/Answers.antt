use Rattle.std.proofs.Common.{sym, ◌∙◌}
use Rattle.es_grammar.proofs.Absences.{on_not, lacks_quoted, lacks_one, lacks_guard}
use Rattle.es_grammar.proofs.reader.Reader.lacks_one.Goals as goal

pub returns-in-Quoted : goal.returns-in-Quoted
returns-in-Quoted c =
    on_not c.quoted.result (λ e. lacks_quoted c.in-Quoted.word c.in-Quoted.is (sym c.quoted.ensures.is ∙ e))

pub returns-in-One : goal.returns-in-One
returns-in-One c = on_not c.passes.result (λ e. lacks_one c.in-One.test c.in-One.is (sym c.passes.ensures.is ∙ e))

pub returns-in-Ahead : goal.returns-in-Ahead
returns-in-Ahead c = on_not c.holds.result (λ e. lacks_guard c.in-Ahead.guard c.in-Ahead.is (sym c.holds.ensures ∙ e))
