-- Where the tokens of a text stand in it.
--     IsSpan text token      the token has a byte at least, and begins and ends between characters
--     Stands text t      the lexeme is what the text has at the span of its token
use Rattle.std.specs.Prelude.{ℕ, ◌≡◌, ◌<◌, List, length, slice_range}
use Rattle.std.specs.Str.{IsCharBoundary}
use Rattle.module_spec.specs.declared.token.Token.{Token}
use Rattle.module_spec.specs.Tokens.{Lexeme, token_of}

-- own: the token has a byte at least, and none of its ends is inside a character
pub record IsSpan (text : List ℕ) (token : Token) : Type 0 where
  pub some : token.from < token.to
  pub begins : IsCharBoundary text token.from
  pub ends : IsCharBoundary text token.to

-- own: the lexeme is what stands in the text at the span of its token
pub record Stands (text : List ℕ) (t : Lexeme) : Type 0 where
  pub span : IsSpan text (token_of (length text) t)
  pub slice : slice_range text (token_of (length text) t).from (token_of (length text) t).to ≡ t.text
