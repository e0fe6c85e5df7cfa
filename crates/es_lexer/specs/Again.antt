-- A reader that answered a fault answers it again.
use Rattle.std.specs.Prelude.{◌≡◌, ℕ, List, Option, Result, Err}
use Rattle.module_spec.specs.declared.token.Token.{Token}
use Rattle.module_spec.specs.declared.token.LexFault.{LexFault}
use Rattle.module_spec.specs.Tokens.{Lexeme}
use Rattle.es_lexer.specs.Steps.{NextIs}

-- own law: behind the same tokens, what a call answers once it answered a fault is that fault
abbrev pub SameFaultAgain : Type 0
SameFaultAgain =
    (text : List ℕ) (before : List Lexeme) (rest after later : List ℕ) (fault : LexFault)
    (answer : Result (Option Token) LexFault) → NextIs text before rest (Err fault) after
    → NextIs text before after answer later → answer ≡ Err fault
