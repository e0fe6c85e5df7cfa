-- What is kept of the tokens so far, and how it agrees with them.
--     no_last      what is kept where no token stands before
--     Follows last next top sort text      next is kept behind one more token, where last was, and top is the innermost
--         bracket that is open before it
--     Facts open before      what is kept of an open bracket agrees with the tokens before it
--     IsStack before stack      these brackets are open behind the tokens
--     State before last stack      what is kept agrees with the tokens
--     IsLexer text rest last stack room      what a reader keeps, which stands before the rest of a text
use Rattle.std.specs.Prelude.{◌≡◌, ℕ, ◌≤◌, ◌||◌, ◌&&◌, false, if◌then◌else◌, List, [], ◌∷◌, ◌++◌}
use Rattle.std.specs.Prelude.{Option, Some, length}
use Rattle.std.specs.Str.{IsUtf8}
use Rattle.module_spec.specs.declared.token.Sort.{Sort}
use Rattle.module_spec.specs.declared.token.Sort.TheVariants.{Punctuator}
use Rattle.module_spec.specs.declared.token.Mark.TheVariants.{Stop}
use Rattle.module_spec.specs.declared.token.Word.TheVariants.{Other}
use Rattle.module_spec.specs.Sorts.{opens, is_for, is_await}
use Rattle.module_spec.specs.Tokens.{Lexeme, Balanced, Outside, Slash, Reaches, depth, plain_word, name_word}
use Rattle.module_spec.specs.Tokens.{is_property, after_for, after_control, before_value, most_brackets}
use Rattle.es_lexer.specs.declared.state.Open.{Open}
use Rattle.es_lexer.specs.declared.state.Open.TheVariants.{Round, Square, Curly, Template}
use Rattle.es_lexer.specs.declared.state.Last.{Last}
use Rattle.es_lexer.specs.Open.{bracket_of, names_property, brace_is_value, slash_is_regex, sort_around}

abbrev pub no_last : Last
no_last = record { sort = Punctuator Stop; word = Other; for_head = false; around = false }

pub record Follows (last next : Last) (top : Option Open) (sort : Sort) (text : List ℕ) : Type 0 where
  pub same : next.sort ≡ sort
  pub word : next.word ≡ (if names_property last then Other else name_word sort text)
  pub for_head : next.for_head ≡ (is_for next.word || is_await next.word && is_for last.word)
  pub around : next.around ≡ sort_around sort next.word top

-- what is kept of an open bracket, by the tokens before it
abbrev pub Facts : Open → List Lexeme → Type 0
Facts (Round control head) before = (control ≡ after_control before) × (head ≡ after_for before)
Facts Square before = Unit {0}
Facts (Curly value) before = value ≡ before_value before
Facts Template before = Unit {0}

-- the open brackets, the innermost one last
pub data IsStack : List Lexeme → List Open → Type 0 where
  empty : {before : List Lexeme} → Balanced before [] → IsStack before []
  inside : {o : Lexeme} {before inner outer : List Lexeme} {stack : List Open} (x : Open) (front : List Open)
      → Balanced before (o ∷ inner) → opens o.sort ≡ Some (bracket_of x) → Facts x inner → Outside o inner outer
      → IsStack outer front → stack ≡ front ++ x ∷ [] → IsStack before stack

pub record State (before : List Lexeme) (last : Last) (stack : List Open) : Type 0 where
  pub word : last.word ≡ plain_word before
  pub property : names_property last ≡ is_property before
  pub for_head : last.for_head ≡ after_for before
  pub value : brace_is_value last ≡ before_value before
  pub slash : Slash before (slash_is_regex last)
  pub brackets : IsStack before stack
  pub deep : length stack ≡ depth before

-- some tokens stand in the text up to the rest, and this is kept of them
pub record IsLexer (text rest : List ℕ) (last : Last) (stack : List Open) (room : ℕ) : Type 0 where
  pub utf8 : IsUtf8 text
  pub before : List Lexeme
  pub reached : Reaches text before rest
  pub state : State before last stack
  pub reserved : most_brackets ≤ room
  pub few : length stack ≤ most_brackets
  pub within : length rest ≤ length text
