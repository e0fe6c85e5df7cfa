-- What one call says.
--     GivesToken text before rest token after      behind these tokens, with this rest, comes a lexeme; the token
--         tells of it, and the text has it at the token's span
--     NameGoesOn bytes more      a name that goes on here ends where it ends behind these further bytes, which are fewer
--     NextIs text before rest answer after      behind these tokens, with this rest, comes the end, this token or
--         this fault, and then that is the rest
--     ReadsNext old new answer      so a reader goes on, seen as the text and what is left of it: the text stays, a
--         token that is given has its span there, some tokens stood before, and behind any that did comes the answer
use Rattle.std.specs.Prelude.{◌≡◌, ◌<◌, ℕ, List, Option, Some, None, Result, Ok, Err, IfOk, IfSome, length, slice_range}
use Rattle.module_spec.specs.declared.token.Token.{Token}
use Rattle.module_spec.specs.declared.token.LexFault.{LexFault}
use Rattle.module_spec.specs.Tokens.{Lexeme, IsNext, Reaches, token_of, fault_of}
use Rattle.module_spec.specs.Spans.{IsSpan}
use Rattle.module_spec.specs.Characters.{name_rest}
use Rattle.module_spec.specs.Tokens.Next.{Ends, Faults, Gives}

pub record GivesToken (text : List ℕ) (before : List Lexeme) (rest : List ℕ) (token : Token)
    (after : List ℕ) : Type 0 where
  pub lexeme : Lexeme
  pub next : IsNext before rest (Gives lexeme after)
  pub told : token ≡ token_of (length text) lexeme
  pub slice : slice_range text token.from token.to ≡ lexeme.text

abbrev pub NameGoesOn : List ℕ → List ℕ → Type 0
NameGoesOn bytes more = (name_rest bytes ≡ name_rest more) × (length more < length bytes)

abbrev pub NextIs : List ℕ → List Lexeme → List ℕ → Result (Option Token) LexFault → List ℕ → Type 0
NextIs text before rest (Ok None) after = IsNext before rest Ends × (after ≡ rest)
NextIs text before rest (Ok (Some token)) after = GivesToken text before rest token after
NextIs text before rest (Err fault) after =
    (left : ℕ) × IsNext before rest (Faults left fault.kind) × (fault ≡ fault_of (length text) left fault.kind)
    × (after ≡ rest)

pub record ReadsNext (old new : List ℕ × List ℕ) (answer : Result (Option Token) LexFault) : Type 0 where
  pub text : new.0 ≡ old.0
  pub span : IfOk answer (λ token. IfSome token (λ t. IsSpan old.0 t))
  pub reached : (before : List Lexeme) × Reaches old.0 before old.1
  pub next : (before : List Lexeme) → Reaches old.0 before old.1 → NextIs old.0 before old.1 answer new.1
