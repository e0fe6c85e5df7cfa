-- What is kept of the tokens so far: of the last one, and of each open bracket.
use Rattle.std.specs.Prelude.{◌≡◌, ◌-◌, Bool, true, false, not, ◌||◌, List, [], ◌∷◌, ◌++◌, Option, Some, None, length, take}
use Rattle.module_spec.specs.declared.token.Mark.{Mark}
use Rattle.module_spec.specs.declared.token.Mark.TheVariants.{OpenRound, OpenSquare, OpenCurly, CloseRound}
use Rattle.module_spec.specs.declared.token.Mark.TheVariants.{CloseSquare, CloseCurly, Dot, Step, Stop, Operator}
use Rattle.module_spec.specs.declared.token.Sort.{Sort}
use Rattle.module_spec.specs.declared.token.Sort.TheVariants.{Name, Private, Number, Text, TemplateWhole, TemplateHead}
use Rattle.module_spec.specs.declared.token.Sort.TheVariants.{TemplateMiddle, TemplateTail, Regex, Punctuator}
use Rattle.module_spec.specs.declared.token.Bracket as brackets
use Rattle.module_spec.specs.declared.token.Bracket.TheVariants as bracket
use Rattle.module_spec.specs.declared.token.Word.{Word}
use Rattle.module_spec.specs.declared.token.Word.TheVariants.{Condition, For, Await, Of, Value, Statement, Other}
use Rattle.module_spec.specs.Sorts.{opens, closes, is_condition, is_dot, sort_before_value}
use Rattle.es_lexer.specs.declared.state.Open.{Open}
use Rattle.es_lexer.specs.declared.state.Open.TheVariants.{Round, Square, Curly, Template}
use Rattle.es_lexer.specs.declared.state.Last.{Last}

abbrev pub bracket_of : Open → brackets.Bracket
bracket_of (Round control head) = bracket.Round
bracket_of Square = bracket.Square
bracket_of (Curly value) = bracket.Curly
bracket_of Template = bracket.Template

abbrev pub top_of : List Open → Option Open
top_of [] = None
top_of (x ∷ []) = Some x
top_of (x ∷ y ∷ stack) = top_of (y ∷ stack)

abbrev pub top_bracket : Option Open → Option brackets.Bracket
top_bracket None = None
top_bracket (Some x) = Some (bracket_of x)

-- a token that opens and closes nothing
pub record NoBracket (sort : Sort) : Type 0 where
  pub no_open : opens sort ≡ None
  pub no_close : closes sort ≡ None

-- ECMA-262, 13.3: a name that comes next is the name of a property
abbrev pub names_property : Last → Bool
names_property last = is_dot last.sort

-- a `{` that comes next belongs to an expression
abbrev pub brace_is_value : Last → Bool
brace_is_value last = sort_before_value last.sort last.word

-- what a new bracket keeps of what stands before it
abbrev pub opened : brackets.Bracket → Last → Open
opened bracket.Round last = Round (is_condition last.word || last.for_head) last.for_head
opened bracket.Square last = Square
opened bracket.Curly last = Curly (brace_is_value last)
opened bracket.Template last = Template

abbrev pub changed : Option brackets.Bracket → Option brackets.Bracket → Last → List Open → List Open
changed (Some k) (Some l) last stack = stack
changed (Some k) None last stack = stack ++ opened k last ∷ []
changed None (Some l) last stack = take (length stack - 1) stack
changed None None last stack = stack

-- whether a `/` begins a regular expression behind a bracket that is closed, or behind `of`, by the innermost bracket
abbrev pub is_control : Option Open → Bool
is_control None = false
is_control (Some (Round control head)) = control
is_control (Some Square) = false
is_control (Some (Curly value)) = false
is_control (Some Template) = false

abbrev pub is_block : Option Open → Bool
is_block None = false
is_block (Some (Round control head)) = false
is_block (Some Square) = false
is_block (Some (Curly value)) = not value
is_block (Some Template) = false

abbrev pub is_for_head : Option Open → Bool
is_for_head None = false
is_for_head (Some (Round control head)) = head
is_for_head (Some Square) = false
is_for_head (Some (Curly value)) = false
is_for_head (Some Template) = false

-- what it says behind a token
abbrev pub word_around : Word → Option Open → Bool
word_around Condition top = false
word_around For top = false
word_around Await top = false
word_around Of top = is_for_head top
word_around Value top = false
word_around Statement top = false
word_around Other top = false

abbrev pub mark_around : Mark → Option Open → Bool
mark_around OpenRound top = false
mark_around OpenSquare top = false
mark_around OpenCurly top = false
mark_around CloseRound top = is_control top
mark_around CloseSquare top = false
mark_around CloseCurly top = is_block top
mark_around Dot top = false
mark_around Step top = false
mark_around Stop top = false
mark_around Operator top = false

abbrev pub sort_around : Sort → Word → Option Open → Bool
sort_around Name w top = word_around w top
sort_around Private w top = false
sort_around Number w top = false
sort_around Text w top = false
sort_around TemplateWhole w top = false
sort_around TemplateHead w top = false
sort_around TemplateMiddle w top = false
sort_around TemplateTail w top = false
sort_around Regex w top = false
sort_around (Punctuator mark) w top = mark_around mark top

-- whether a `/` begins a regular expression, by what the innermost bracket says
abbrev pub slash_behind_word : Word → Bool → Bool
slash_behind_word Condition around = false
slash_behind_word For around = false
slash_behind_word Await around = true
slash_behind_word Of around = around
slash_behind_word Value around = true
slash_behind_word Statement around = true
slash_behind_word Other around = false

abbrev pub slash_behind_mark : Mark → Bool → Bool
slash_behind_mark OpenRound around = true
slash_behind_mark OpenSquare around = true
slash_behind_mark OpenCurly around = true
slash_behind_mark CloseRound around = around
slash_behind_mark CloseSquare around = false
slash_behind_mark CloseCurly around = around
slash_behind_mark Dot around = true
slash_behind_mark Step around = false
slash_behind_mark Stop around = true
slash_behind_mark Operator around = true

abbrev pub slash_behind : Sort → Word → Bool → Bool
slash_behind Name w around = slash_behind_word w around
slash_behind Private w around = false
slash_behind Number w around = false
slash_behind Text w around = false
slash_behind TemplateWhole w around = false
slash_behind TemplateHead w around = true
slash_behind TemplateMiddle w around = true
slash_behind TemplateTail w around = false
slash_behind Regex w around = false
slash_behind (Punctuator mark) w around = slash_behind_mark mark around

-- a `/` that comes next begins a regular expression
abbrev pub slash_is_regex : Last → Bool
slash_is_regex last = slash_behind last.sort last.word last.around
