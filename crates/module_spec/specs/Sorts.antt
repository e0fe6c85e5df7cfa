-- What the kinds of tokens do to brackets, and what a name says of what stands behind it. ECMA-262, 12.7.2, 12.8 and
-- 12.9.
--     kind_of sort      the kind that a caller is told
--     opens sort, closes sort      the bracket that a token opens or closes
--     mark_opens mark, mark_closes mark      the same of a punctuator
--     same_bracket a b      they are brackets of one form
--     word text      what a name says of what may stand behind it
--     is_condition_word, is_value_word, is_statement_word      the words that say so
--     is_condition, is_for, is_await      the word is of that kind
--     is_dot sort      behind the token a name is the name of a property
--     sort_before_value sort word      behind the token a `{` opens an object literal
use Rattle.std.specs.Prelude.{ℕ, Bool, true, false, List, bytes_eq, codes, ◌||◌, if◌then◌else◌, Option, Some, None}
use Rattle.module_spec.specs.declared.token.Mark.{Mark}
use Rattle.module_spec.specs.declared.token.Mark.TheVariants.{OpenRound, OpenSquare, OpenCurly, CloseRound, CloseSquare}
use Rattle.module_spec.specs.declared.token.Mark.TheVariants.{CloseCurly, Dot, Step, Stop, Operator}
use Rattle.module_spec.specs.declared.token.Kind as kinds
use Rattle.module_spec.specs.declared.token.Kind.TheVariants as kind
use Rattle.module_spec.specs.declared.token.Sort.{Sort}
use Rattle.module_spec.specs.declared.token.Sort.TheVariants.{Name, Private, Number, Text, TemplateWhole, TemplateHead}
use Rattle.module_spec.specs.declared.token.Sort.TheVariants.{TemplateMiddle, TemplateTail, Regex, Punctuator}
use Rattle.module_spec.specs.declared.token.Bracket.{Bracket}
use Rattle.module_spec.specs.declared.token.Bracket.TheVariants.{Round, Square, Curly, Template}
use Rattle.module_spec.specs.declared.token.Word.{Word}
use Rattle.module_spec.specs.declared.token.Word.TheVariants.{Condition, For, Await, Of, Value, Statement, Other}

abbrev pub kind_of : Sort → kinds.Kind
kind_of Name = kind.Name
kind_of Private = kind.Private
kind_of Number = kind.Number
kind_of Text = kind.Text
kind_of TemplateWhole = kind.TemplateWhole
kind_of TemplateHead = kind.TemplateHead
kind_of TemplateMiddle = kind.TemplateMiddle
kind_of TemplateTail = kind.TemplateTail
kind_of Regex = kind.Regex
kind_of (Punctuator mark) = kind.Punctuator

abbrev pub mark_opens : Mark → Option Bracket
mark_opens OpenRound = Some Round
mark_opens OpenSquare = Some Square
mark_opens OpenCurly = Some Curly
mark_opens CloseRound = None
mark_opens CloseSquare = None
mark_opens CloseCurly = None
mark_opens Dot = None
mark_opens Step = None
mark_opens Stop = None
mark_opens Operator = None

abbrev pub mark_closes : Mark → Option Bracket
mark_closes OpenRound = None
mark_closes OpenSquare = None
mark_closes OpenCurly = None
mark_closes CloseRound = Some Round
mark_closes CloseSquare = Some Square
mark_closes CloseCurly = Some Curly
mark_closes Dot = None
mark_closes Step = None
mark_closes Stop = None
mark_closes Operator = None

-- ECMA-262, 12.8 and 12.9.6: the bracket that a token opens
abbrev pub opens : Sort → Option Bracket
opens Name = None
opens Private = None
opens Number = None
opens Text = None
opens TemplateWhole = None
opens TemplateHead = Some Template
opens TemplateMiddle = Some Template
opens TemplateTail = None
opens Regex = None
opens (Punctuator mark) = mark_opens mark

-- ECMA-262, 12.8 and 12.9.6: the bracket that a token closes
abbrev pub closes : Sort → Option Bracket
closes Name = None
closes Private = None
closes Number = None
closes Text = None
closes TemplateWhole = None
closes TemplateHead = None
closes TemplateMiddle = Some Template
closes TemplateTail = Some Template
closes Regex = None
closes (Punctuator mark) = mark_closes mark

abbrev pub same_bracket : Bracket → Bracket → Bool
same_bracket Round Round = true
same_bracket Square Square = true
same_bracket Curly Curly = true
same_bracket Template Template = true
same_bracket Round Square = false
same_bracket Round Curly = false
same_bracket Round Template = false
same_bracket Square Round = false
same_bracket Square Curly = false
same_bracket Square Template = false
same_bracket Curly Round = false
same_bracket Curly Square = false
same_bracket Curly Template = false
same_bracket Template Round = false
same_bracket Template Square = false
same_bracket Template Curly = false

-- ECMA-262, 14.6, 14.7 and 14.11: the statements with a condition or an object in round brackets
abbrev pub is_condition_word : List ℕ → Bool
is_condition_word text = bytes_eq text (codes "if")
    || bytes_eq text (codes "while")
    || bytes_eq text (codes "with")

-- own: of ECMA-262, 12.7.2, the words behind which a value stands
abbrev pub is_value_word : List ℕ → Bool
is_value_word text =
    bytes_eq text (codes "case")
    || bytes_eq text (codes "default")
    || bytes_eq text (codes "delete")
    || bytes_eq text (codes "extends")
    || bytes_eq text (codes "in")
    || bytes_eq text (codes "instanceof")
    || bytes_eq text (codes "new")
    || bytes_eq text (codes "return")
    || bytes_eq text (codes "throw")
    || bytes_eq text (codes "typeof")
    || bytes_eq text (codes "void")
    || bytes_eq text (codes "yield")

-- own: of ECMA-262, 12.7.2, words that are no operand and behind which none goes on: a `/` behind them begins a
-- regular expression, and a `{` a block
abbrev pub is_statement_word : List ℕ → Bool
is_statement_word text =
    bytes_eq text (codes "break")
    || bytes_eq text (codes "continue")
    || bytes_eq text (codes "debugger")
    || bytes_eq text (codes "do")
    || bytes_eq text (codes "else")

-- own: the words of ECMA-262, 12.7.2, by what may stand behind them
unfoldable pub word : List ℕ → Word
word text =
    if is_condition_word text then Condition
    else if bytes_eq text (codes "for") then For
    else if bytes_eq text (codes "await") then Await
    else if bytes_eq text (codes "of") then Of
    else if is_value_word text then Value
    else if is_statement_word text then Statement
    else Other

-- the punctuator is `.` or `?.`
abbrev pub is_dot_mark : Mark → Bool
is_dot_mark OpenRound = false
is_dot_mark OpenSquare = false
is_dot_mark OpenCurly = false
is_dot_mark CloseRound = false
is_dot_mark CloseSquare = false
is_dot_mark CloseCurly = false
is_dot_mark Dot = true
is_dot_mark Step = false
is_dot_mark Stop = false
is_dot_mark Operator = false

-- ECMA-262, 13.3: behind `.` and `?.` a name is the name of a property
abbrev pub is_dot : Sort → Bool
is_dot Name = false
is_dot Private = false
is_dot Number = false
is_dot Text = false
is_dot TemplateWhole = false
is_dot TemplateHead = false
is_dot TemplateMiddle = false
is_dot TemplateTail = false
is_dot Regex = false
is_dot (Punctuator mark) = is_dot_mark mark

-- own: behind what a `{` opens an object literal. What comes of a function's or a class's braces is taken as a
-- block's, also where they are expressions, and so is what comes of braces behind `:`
abbrev pub mark_before_value : Mark → Bool
mark_before_value OpenRound = true
mark_before_value OpenSquare = true
mark_before_value OpenCurly = false
mark_before_value CloseRound = false
mark_before_value CloseSquare = false
mark_before_value CloseCurly = false
mark_before_value Dot = true
mark_before_value Step = false
mark_before_value Stop = false
mark_before_value Operator = true

-- own: behind the word a `{` opens an object literal
abbrev pub word_before_value : Word → Bool
word_before_value Condition = false
word_before_value For = false
word_before_value Await = true
word_before_value Of = false
word_before_value Value = true
word_before_value Statement = false
word_before_value Other = false

abbrev pub sort_before_value : Sort → Word → Bool
sort_before_value Name w = word_before_value w
sort_before_value Private w = false
sort_before_value Number w = false
sort_before_value Text w = false
sort_before_value TemplateWhole w = false
sort_before_value TemplateHead w = true
sort_before_value TemplateMiddle w = true
sort_before_value TemplateTail w = false
sort_before_value Regex w = false
sort_before_value (Punctuator mark) w = mark_before_value mark

abbrev pub is_condition : Word → Bool
is_condition Condition = true
is_condition For = false
is_condition Await = false
is_condition Of = false
is_condition Value = false
is_condition Statement = false
is_condition Other = false

abbrev pub is_for : Word → Bool
is_for Condition = false
is_for For = true
is_for Await = false
is_for Of = false
is_for Value = false
is_for Statement = false
is_for Other = false

abbrev pub is_await : Word → Bool
is_await Condition = false
is_await For = false
is_await Await = true
is_await Of = false
is_await Value = false
is_await Statement = false
is_await Other = false
