-- Brackets of a module text: how many are open, and which ones belong together. A list of lexemes is what was read so
-- far, the last one first.
--     openers before, closers before      how many of these tokens open a bracket, and how many close one
--     ArePartners before from to      the token with the one number opens a bracket that the token with the other
--                                     closes
--     StaysOpen between o inner      behind `o` and behind each token of `between`, more brackets are open than
--                                    before `o`
use Rattle.std.specs.Prelude.{◌≡◌, ℕ, ◌+◌, ◌<◌, List, [], ◌∷◌, ◌++◌, Some, length}
use Rattle.module_spec.specs.declared.token.Bracket.{Bracket}
use Rattle.module_spec.specs.Sorts.{opens, closes}
use Rattle.module_spec.specs.Tokens.{Lexeme, Balanced, count, depth}

abbrev pub openers : List Lexeme → ℕ
openers [] = 0
openers (t ∷ before) = openers before + count (opens t.sort)

abbrev pub closers : List Lexeme → ℕ
closers [] = 0
closers (t ∷ before) = closers before + count (closes t.sort)

-- ECMA-262, 12.8 and 12.9.6: an opening and a closing token of one kind of bracket, and between them each bracket
-- that is opened is closed. Tokens are counted from 0, in text order
pub record ArePartners (tokens : List Lexeme) (from to : ℕ) : Type 0 where
  pub opener : Lexeme
  pub closer : Lexeme
  pub inner : List Lexeme
  pub before : List Lexeme
  pub later : List Lexeme
  pub bracket : Bracket
  pub split : tokens ≡ later ++ closer ∷ before
  pub balanced : Balanced before (opener ∷ inner)
  pub opened : opens opener.sort ≡ Some bracket
  pub closed : closes closer.sort ≡ Some bracket
  pub starts : from ≡ length inner
  pub ends : to ≡ length before

abbrev pub StaysOpen : List Lexeme → Lexeme → List Lexeme → Type 0
StaysOpen between o inner =
    (later front : List Lexeme) → between ≡ later ++ front → depth inner < depth (front ++ o ∷ inner)
