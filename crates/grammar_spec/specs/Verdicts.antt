-- What the grammar says of a whole text, and beside the text's outline.
--     ReadsGrammar text verdict           it matches the text, with the requests that are in it; or the first place
--                                         that can't be read, in bytes; or the text is nested too deep
--     IsStrict outline verdict answer     so a text with that verdict agrees with its outline, or differs from it
use Rattle.std.specs.Prelude.{◌≡◌, ℕ, ◌+◌, List, [], ◌∷◌, length, reverse, Option, Some, None}
use Rattle.std.specs.List.{slice_get}
use Rattle.module_spec.specs.declared.request.Request.{Request}
use Rattle.module_spec.specs.Tokens.{Lexeme, Reaches, IsNext}
use Rattle.module_spec.specs.Tokens.Next.{Ends}
use Rattle.module_spec.specs.StringValues.{string_value}
use Rattle.module_spec.specs.Outlines.{Outline}
use Rattle.grammar_spec.specs.declared.answer.Strict as stricts
use Rattle.grammar_spec.specs.declared.answer.Strict.TheVariants as strict
use Rattle.grammar_spec.specs.Sights.{Sight, sights, place_of}
use Rattle.grammar_spec.specs.Readings.{Outcome, stays, takes, misses, faults, too_deep, ReadsModule}

-- ---- requests

-- own: a string literal without a value is told with the empty text; the outline has no such request
abbrev pub or_nothing : Option (List ℕ) → List ℕ
or_nothing None = []
or_nothing (Some value) = value

-- the request of a token: where it stands, and the text that it has as its value
abbrev pub request_of : Sight → Request
request_of t = record { from = t.from; to = t.from + length t.text; text = or_nothing (string_value t.text) }

-- with the request of the token, where there is one
abbrev pub and_request : Option Sight → List Request → List Request
and_request None rest = rest
and_request (Some t) rest = request_of t ∷ rest

-- the requests of the tokens with these numbers
abbrev pub requests_at : List Sight → List ℕ → List Request
requests_at tokens [] = []
requests_at tokens (at ∷ asked) = and_request (slice_get tokens at) (requests_at tokens asked)

-- ---- the verdict

pub data Verdict : Type 0 where
  -- the grammar matches the whole text, which asks for these
  matches : List Request → Verdict
  -- it doesn't, and this is the place, in bytes
  syntax_at : ℕ → Verdict
  -- more forms would be open than may be
  nested_too_deep : Verdict

-- own: what the whole text misses at its first token is a fault there
abbrev pub verdict : List ℕ → List Sight → Outcome → Verdict
verdict text tokens stays = matches []
verdict text tokens (takes p) = matches (requests_at tokens p.asked)
verdict text tokens misses = syntax_at (place_of text tokens 0)
verdict text tokens (faults at) = syntax_at (place_of text tokens at)
verdict text tokens too_deep = nested_too_deep

-- own: what the grammar says of a text that has tokens
pub data ReadsGrammar (text : List ℕ) : Verdict → Type 0 where
  reads : {before : List Lexeme} {rest : List ℕ} {out : Outcome} {said : Verdict} → Reaches text before rest
      → IsNext before rest Ends → ReadsModule (reverse (sights text before)) out
      → said ≡ verdict text (reverse (sights text before)) out → ReadsGrammar text said

-- ---- beside the outline

-- own: a text that matches agrees with its outline exactly where it asks for what the outline has
pub data IsStrict (outline : Outline) : Verdict → stricts.Strict → Type 0 where
  agrees : {asked : List Request} → asked ≡ outline.requests → IsStrict outline (matches asked) strict.Agrees
  differs : {asked : List Request} → (asked ≡ outline.requests → ⊥)
      → IsStrict outline (matches asked) (strict.Differs asked outline.requests)
  refused : {at : ℕ} → IsStrict outline (syntax_at at) (strict.Syntax at)
  deep : IsStrict outline nested_too_deep strict.TooDeep
