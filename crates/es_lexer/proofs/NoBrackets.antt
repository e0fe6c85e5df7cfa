-- A token that opens and closes nothing is never refused, and changes no brackets.
use Rattle.std.proofs.Common.{◌≡◌, ℕ, Bool, true, false, List, Option, None, refl, if◌then◌else◌}
use Rattle.module_spec.specs.declared.token.Bracket.{Bracket}
use Rattle.module_spec.specs.declared.token.Sort.{Sort}
use Rattle.module_spec.specs.declared.token.Word.TheVariants.{Other}
use Rattle.module_spec.specs.Sorts.{opens, closes}
use Rattle.module_spec.specs.Tokens.{refusal}
use Rattle.es_lexer.specs.declared.state.Open.{Open}
use Rattle.es_lexer.specs.declared.state.Last.{Last}
use Rattle.es_lexer.specs.Open.{NoBracket, changed}

pub never_refused : (sort : Sort) (innermost : Option Bracket) (depth : ℕ) → NoBracket sort → None ≡ refusal (opens sort) (closes sort) innermost depth
never_refused sort innermost depth n = rw (n.no_open, n.no_close) refl

pub unchanged : (sort : Sort) (last : Last) (stack : List Open) → NoBracket sort → stack ≡ changed (opens sort) (closes sort) last stack
unchanged sort last stack n = rw (n.no_open, n.no_close) refl

-- what says nothing says nothing behind a `.` too
pub no_word : (property : Bool) → Other ≡ (if property then Other else Other)
no_word true = refl
no_word false = refl
