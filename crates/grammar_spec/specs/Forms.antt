-- Forms of which the grammar's rules are made.
use Rattle.std.specs.Prelude.{ℕ, List, codes}
use Rattle.grammar_spec.specs.declared.names.Test.{Test}
use Rattle.grammar_spec.specs.declared.names.Test.TheVariants.{Comma}
use Rattle.grammar_spec.specs.declared.names.Guard.{Guard}
use Rattle.grammar_spec.specs.declared.names.Guard.TheVariants.{BeforeCommaOrSquare}
use Rattle.grammar_spec.specs.declared.names.Rule.{Rule}

infixr 6 ◌▸◌
infixr 5 ◌∣◌
pub data Form : Type 0 where
  -- a name or a punctuator that is spelled so
  quoted : List ℕ → Form
  -- a token that passes the test
  one : Test → Form
  -- a test of what comes, which takes nothing
  ahead : Guard → Form
  -- one form and then the other
  ◌▸◌ : Form → Form → Form
  -- the first of the two that isn't a miss
  ◌∣◌ : Form → Form → Form
  -- the form or nothing
  maybe : Form → Form
  -- the form as often as it comes
  many : Form → Form
  -- what the rule says
  rule : Rule → Form
  -- the form; where it is one string literal, this is a request
  asks : Form → Form
  -- the form, which counts as open while it is read
  nested : Form → Form
  -- the form, in which `in` is no operator outside brackets
  headed : Form → Form

-- X, and further ones each after a comma; a comma may stand last
abbrev pub list : Form → Form
list x = maybe (x ▸ many (one Comma ▸ x) ▸ maybe (quoted (codes ",")))

-- X in places that commas divide, of which any may be empty
abbrev pub places : Form → Form
places x = many (quoted (codes ",") ∣ x ▸ ahead BeforeCommaOrSquare)
