-- Each text has an outcome.
use Rattle.std.specs.Prelude.{ℕ, List, Result}
use Rattle.module_spec.specs.declared.token.Token.{Token}
use Rattle.module_spec.specs.declared.token.LexFault.{LexFault}
use Rattle.module_spec.specs.Tokens.{ReadsTokens}

-- own law: each text has a list of tokens or a first fault
abbrev pub SomeTokens : Type 0
SomeTokens = (text : List ℕ) → (outcome : Result (List Token) LexFault) × ReadsTokens text outcome
