-- The laws of this crate.
use Rattle.std.specs.Prelude.{◌≡◌, ℕ, suc, codes, List, ◌∷◌, ◌++◌, length, reverse, Result, Some}
use Rattle.module_spec.specs.declared.token.Bracket.TheVariants.{Curly}
use Rattle.module_spec.specs.declared.request.ModuleFault.{ModuleFault}
use Rattle.module_spec.specs.Sorts.{opens}
use Rattle.module_spec.specs.Tokens.{Lexeme, Reaches, depth}
use Rattle.module_spec.specs.Brackets.{ArePartners}
use Rattle.module_spec.specs.Places.{Placed, places}
use Rattle.module_spec.specs.Declarations.{Braces}
use Rattle.module_spec.specs.Outlines.{Outline, ReadsOutline}

-- each text has an outline or a first fault
abbrev pub SomeOutline : Type 0
SomeOutline = (text : List ℕ) → (out : Result Outline ModuleFault) × ReadsOutline text out

-- a token that is spelled `{` opens a curly bracket
abbrev pub CurlyOpens : Type 0
CurlyOpens = (text : List ℕ) (t : Lexeme) (before : List Lexeme) (rest : List ℕ)
    → Reaches text (t ∷ before) rest → t.text ≡ codes "{" → opens t.sort ≡ Some Curly

-- where the tokens `held` stand behind `inner`, with no bracket open before, and are braces of a declaration, the
-- last of them closes what the first opens; `to` is its number
abbrev pub BracesArePartners : Type 0
BracesArePartners = (text : List ℕ) (held inner : List Lexeme) (rest : List ℕ) (braces : List Placed) (to : ℕ)
    → Reaches text (held ++ inner) rest → depth inner ≡ 0 → Braces braces
    → places (length text) (held ++ inner) ≡ reverse braces ++ places (length text) inner
    → suc to ≡ length (held ++ inner)
    → ArePartners (held ++ inner) (length inner) to
