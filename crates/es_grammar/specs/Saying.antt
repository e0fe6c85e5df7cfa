-- What is said of a text, beside its outline.
--     AreKept text spots      the spots stand in the text, between characters
--     AnswersTo text spots outline asked told answer      this is said of a text with these tokens, where the reader tells
--         of such an end, and of these tokens as requests
--     SaysOf text outline answer      this is what the grammar says of the text, and of the text beside its outline
use Rattle.std.specs.Prelude.{ℕ, List, All, map}
use Rattle.module_spec.specs.Outlines.{Outline}
use Rattle.grammar_spec.specs.declared.answer.Strict.{Strict}
use Rattle.grammar_spec.specs.Readings.{Outcome}
use Rattle.grammar_spec.specs.Verdicts.{Verdict, verdict, ReadsGrammar, IsStrict}
use Rattle.grammar_tokens.specs.declared.spot.Spot.{Spot}
use Rattle.grammar_tokens.specs.Spots.{sight_of, IsSpot}
use Rattle.grammar_spots.specs.Texts.{IsCut}
use Rattle.es_grammar.specs.declared.reader.End.{End}
use Rattle.es_grammar.specs.Unwinding.{Tells}

pub record AreKept (text : List ℕ) (spots : List Spot) : Type 0 where
  pub within : All (IsSpot text) spots
  pub cut : All (IsCut text) spots

abbrev pub AnswersTo : List ℕ → List Spot → Outline → List ℕ → End → Strict → Type 0
AnswersTo text spots outline asked told answer =
    (outcome : Outcome) → Tells told asked outcome
    → IsStrict outline (verdict text (map (sight_of text) spots) outcome) answer

pub record SaysOf (text : List ℕ) (outline : Outline) (answer : Strict) : Type 0 where
  pub verdict : Verdict
  pub reads : ReadsGrammar text verdict
  pub is : IsStrict outline verdict answer
