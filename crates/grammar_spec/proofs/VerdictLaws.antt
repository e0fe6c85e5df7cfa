-- A text that has tokens has a verdict, and only one.
use Rattle.std.proofs.Common.{◌≡◌, reverse, refl, sym, ◌∙◌, ap, subst}
use Rattle.module_spec.specs.Tokens.Next.{Ends}
use Rattle.module_spec.proofs.TokenLaws.{same_end, ends_last}
use Rattle.grammar_spec.specs.declared.names.Rule.TheVariants.{Module}
use Rattle.grammar_spec.specs.Sights.{sights}
use Rattle.grammar_spec.specs.Forms.{rule}
use Rattle.grammar_spec.specs.Readings.{ReadsModule, start, nothing_open}
use Rattle.grammar_spec.specs.Verdicts.{verdict}
use Rattle.grammar_spec.specs.Verdicts.ReadsGrammar.{reads}
use Rattle.grammar_spec.specs.Laws.{OneVerdict, SomeVerdict}
use Rattle.grammar_spec.proofs.ReadingLaws.{one_outcome}
use Rattle.grammar_spec.proofs.Existence.{some_reading}

pub one_verdict : OneVerdict
one_verdict text some other (reads {before} {rest} {out} x n r e) (reads {before = behind} {rest = back} {out = end} y m s f) =
    let same = (same_end text before behind rest back Ends Ends x n ends_last y m ends_last).lexemes in
    let r2 : ReadsModule (reverse (sights text behind)) out =
    subst (λ z. ReadsModule (reverse (sights text z)) out) same r in
    let outs : out ≡ end = one_outcome out end r2 s in
    e ∙ (ap (λ z. verdict text (reverse (sights text z)) out) same
    ∙ (ap (λ z. verdict text (reverse (sights text behind)) z) outs ∙ sym f))

pub some_verdict : SomeVerdict
some_verdict text before rest reached ended =
    let found = some_reading (reverse (sights text before)) nothing_open (rule Module) start in
    (verdict text (reverse (sights text before)) found.0, reads reached ended found.1 refl)
