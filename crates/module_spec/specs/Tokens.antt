-- The tokens of a module text. ECMA-262, 12.
--     ReadsTokens text (Ok tokens)      the tokens of the text, in their order
--     ReadsTokens text (Err fault)      its first fault
-- In between a list of lexemes is what was read so far, the last one first.
use Rattle.std.specs.Prelude.{◌≡◌, ℕ, ◌+◌, ◌-◌, Bool, true, false, not, ◌&&◌, ◌||◌, ◌==◌, List, [], ◌∷◌, if◌then◌else◌}
use Rattle.std.specs.Prelude.{Option, Some, None, Result, Ok, Err, length, take, drop, map, reverse}
use Rattle.tree_spec.specs.declared.LimitName.TheVariants.{Brackets}
use Rattle.tree_spec.specs.Limits.{limit_number}
use Rattle.module_spec.specs.declared.token.Mark.{Mark}
use Rattle.module_spec.specs.declared.token.Mark.TheVariants.{OpenRound, OpenSquare, OpenCurly, CloseRound, CloseSquare}
use Rattle.module_spec.specs.declared.token.Mark.TheVariants.{CloseCurly, Dot, Step, Stop, Operator}
use Rattle.module_spec.specs.declared.token.Sort.{Sort}
use Rattle.module_spec.specs.declared.token.Sort.TheVariants.{Name, Private, Number, Text, TemplateWhole, TemplateHead}
use Rattle.module_spec.specs.declared.token.Sort.TheVariants.{TemplateMiddle, TemplateTail, Regex, Punctuator}
use Rattle.module_spec.specs.declared.token.Bracket.{Bracket}
use Rattle.module_spec.specs.declared.token.Bracket.TheVariants.{Round, Square, Curly, Template}
use Rattle.module_spec.specs.declared.token.Word.{Word}
use Rattle.module_spec.specs.declared.token.Word.TheVariants.{Condition, For, Await, Of, Value, Statement, Other}
use Rattle.module_spec.specs.declared.token.LexKind.{LexKind}
use Rattle.module_spec.specs.declared.token.LexKind.TheVariants.{Unreadable, TooDeep}
use Rattle.module_spec.specs.declared.token.Token.{Token}
use Rattle.module_spec.specs.declared.token.LexFault.{LexFault}
use Rattle.module_spec.specs.Characters.{begins_name, name_rest}
use Rattle.module_spec.specs.Spellings.{blank_rest, hashbang_rest, number_rest, begins_number, text_rest, template_rest}
use Rattle.module_spec.specs.Spellings.{regex_body_rest, punctuator}
use Rattle.module_spec.specs.Sorts.{kind_of, opens, closes, same_bracket, word, is_dot, sort_before_value, is_condition}
use Rattle.module_spec.specs.Sorts.{is_for, is_await}

-- ---- one token

-- the sort of the token at the front and the bytes behind it, or none where no token can be read
abbrev pub Piece : Type 0
Piece = Option (Sort × List ℕ)

-- a token of this sort by the bytes behind it, or none where it has no end
abbrev pub as_piece : Sort → Option (List ℕ) → Piece
as_piece sort None = None
as_piece sort (Some rest) = Some (sort, rest)

-- ECMA-262, 12.9.6: a part of a template that begins with a backquote: the whole template or its first part
abbrev pub first_part : Option (Bool × List ℕ) → Piece
first_part None = None
first_part (Some part) = Some ((if part.0 then TemplateWhole else TemplateHead), part.1)

-- ECMA-262, 12.9.6: a part that begins with a brace: the last one or a middle one
abbrev pub later_part : Option (Bool × List ℕ) → Piece
later_part None = None
later_part (Some part) = Some ((if part.0 then TemplateTail else TemplateMiddle), part.1)

-- ECMA-262, 12.9.5: a regular expression with its flags
abbrev pub regex_piece : Option (List ℕ) → Piece
regex_piece None = None
regex_piece (Some rest) = Some (Regex, name_rest rest)

-- the punctuator that was found at the front of the bytes, by its mark and its length
abbrev pub punctuator_piece : List ℕ → Option (Mark × ℕ) → Piece
punctuator_piece bytes None = None
punctuator_piece bytes (Some found) = Some (Punctuator found.0, drop found.1 bytes)

-- what a `/` begins that begins no comment, by the bytes behind it: none where they are those of a comment without an
-- end
abbrev pub slash_piece : Bool → List ℕ → Piece
slash_piece regex [] = if regex then None else punctuator_piece (47 ∷ []) (punctuator (47 ∷ []))
slash_piece regex (b ∷ rest) =
    if b == 42 then None
    else if regex then regex_piece (regex_body_rest false false (b ∷ rest))
    else punctuator_piece (47 ∷ b ∷ rest) (punctuator (47 ∷ b ∷ rest))

-- ECMA-262, 12.7: a private name, by the bytes behind its `#`
abbrev pub private_piece : List ℕ → Piece
private_piece bytes = if begins_name bytes then Some (Private, name_rest bytes) else None

-- ECMA-262, 12: the token at the front and the bytes behind it, none where no token can be read. `regex` says that a
-- `/` begins a regular expression, and `part` that a `}` goes on with a template.
unfoldable pub piece : Bool → Bool → List ℕ → Piece
piece regex part [] = None
piece regex part (b ∷ rest) =
    if begins_number (b ∷ rest) then Some (Number, number_rest (b ∷ rest))
    else if begins_name (b ∷ rest) then Some (Name, name_rest (b ∷ rest))
    else if b == 35 then private_piece rest
    else if b == 34 || b == 39 then as_piece Text (text_rest b rest)
    else if b == 96 then first_part (template_rest rest)
    else if b == 125 && part then later_part (template_rest rest)
    else if b == 47 then slash_piece regex rest
    else punctuator_piece (b ∷ rest) (punctuator (b ∷ rest))

-- a token as it stands in the text: `left` counts the bytes from its start to the text's end
pub record Lexeme : Type 0 where
  pub sort : Sort
  pub text : List ℕ
  pub left : ℕ

-- ---- words

-- ECMA-262, 13.3: the last token is `.` or `?.`, so that a name behind it is the name of a property
abbrev pub is_property : List Lexeme → Bool
is_property [] = false
is_property (t ∷ before) = is_dot t.sort

-- what a name says as a word; a token of another sort says nothing
abbrev pub name_word : Sort → List ℕ → Word
name_word Name text = word text
name_word Private text = Other
name_word Number text = Other
name_word Text text = Other
name_word TemplateWhole text = Other
name_word TemplateHead text = Other
name_word TemplateMiddle text = Other
name_word TemplateTail text = Other
name_word Regex text = Other
name_word (Punctuator mark) text = Other

-- own: what the last token says as a word; the name of a property isn't one. ECMA-262, 12.7.2 and 13.3
abbrev pub plain_word : List Lexeme → Word
plain_word [] = Other
plain_word (t ∷ before) = if is_property before then Other else name_word t.sort t.text

-- ECMA-262, 14.7.5: `for` or `for await` stands before
abbrev pub after_for : List Lexeme → Bool
after_for [] = false
after_for (t ∷ before) =
    is_for (plain_word (t ∷ before)) || is_await (plain_word (t ∷ before)) && is_for (plain_word before)

-- ECMA-262, 14.6, 14.7 and 14.11: the word of a statement that goes on with round brackets and a statement stands
-- before
abbrev pub after_control : List Lexeme → Bool
after_control before = is_condition (plain_word before) || after_for before

-- own: a `{` behind these tokens belongs to an expression
abbrev pub before_value : List Lexeme → Bool
before_value [] = false
before_value (t ∷ before) = sort_before_value t.sort (plain_word (t ∷ before))

-- ---- brackets

mutual
  -- `Balanced before at`: `before` is `at` and then tokens in which each bracket is closed, and none is closed that
  -- was opened earlier
  pub data Balanced : List Lexeme → List Lexeme → Type 0 where
    same : {at : List Lexeme} → Balanced at at
    neither : {t : Lexeme} {before at : List Lexeme} → opens t.sort ≡ None → closes t.sort ≡ None → Balanced before at
        → Balanced (t ∷ before) at
    closed : {t o : Lexeme} {k : Bracket} {before inner outer at : List Lexeme} → opens t.sort ≡ None
        → closes t.sort ≡ Some k → Balanced before (o ∷ inner) → opens o.sort ≡ Some k → Outside o inner outer
        → Balanced outer at → Balanced (t ∷ before) at

  -- `Outside o inner outer`: what `o` opens after `inner` stands in what is open after `outer`. The later parts of a
  -- template stand where its first one does.
  pub data Outside : Lexeme → List Lexeme → List Lexeme → Type 0 where
    first : {o : Lexeme} {inner : List Lexeme} → closes o.sort ≡ None → Outside o inner inner
    later : {o p : Lexeme} {k : Bracket} {inner before outer : List Lexeme} → closes o.sort ≡ Some k
        → Balanced inner (p ∷ before) → opens p.sort ≡ Some k → Outside p before outer → Outside o inner outer

-- `Innermost before at`: the last token of `at` opened the innermost open bracket; or `at` is empty, and none is open
pub data Innermost : List Lexeme → List Lexeme → Type 0 where
  none : {before : List Lexeme} → Balanced before [] → Innermost before []
  bracket : {o : Lexeme} {k : Bracket} {before at : List Lexeme} → Balanced before (o ∷ at) → opens o.sort ≡ Some k
      → Innermost before (o ∷ at)

-- the bracket that the last token opens; none where it opens none, or there is no token
abbrev pub opener : List Lexeme → Option Bracket
opener [] = None
opener (o ∷ at) = opens o.sort

-- one for a bracket, and zero for none
abbrev pub count : Option Bracket → ℕ
count None = 0
count (Some k) = 1

-- the number of open brackets
abbrev pub depth : List Lexeme → ℕ
depth [] = 0
depth (t ∷ before) = (depth before + count (opens t.sort)) - count (closes t.sort)

-- own: how many brackets may be open at once
abbrev pub most_brackets : ℕ
most_brackets = limit_number Brackets

-- ---- the slash

-- own: whether a `/` behind a closing round bracket begins a regular expression, by what stands before the opening one:
-- the word of a statement that goes on with the brackets and a statement
abbrev pub closed_round : List Lexeme → Bool
closed_round [] = false
closed_round (o ∷ before) = after_control before

-- own: the same behind a closing curly bracket: the opening one doesn't belong to an expression
abbrev pub closed_curly : List Lexeme → Bool
closed_curly [] = false
closed_curly (o ∷ before) = not (before_value before)

-- the bracket is a round one
abbrev pub is_round : Option Bracket → Bool
is_round None = false
is_round (Some Round) = true
is_round (Some Square) = false
is_round (Some Curly) = false
is_round (Some Template) = false

-- ECMA-262, 14.7.5: the innermost open bracket is that of a `for`
abbrev pub in_for : List Lexeme → Bool
in_for [] = false
in_for (o ∷ before) = is_round (opens o.sort) && after_for before

-- a `/` behind a name begins a regular expression, by what the name says as a word; behind `of` it does in the brackets
-- of a `for`
abbrev pub slash_after_word : Word → List Lexeme → Bool
slash_after_word Condition at = false
slash_after_word For at = false
slash_after_word Await at = true
slash_after_word Of at = in_for at
slash_after_word Value at = true
slash_after_word Statement at = true
slash_after_word Other at = false

-- a `/` behind a punctuator begins a regular expression; behind a closing bracket by what `at` says of the opening one
abbrev pub slash_after_mark : Mark → List Lexeme → Bool
slash_after_mark OpenRound at = true
slash_after_mark OpenSquare at = true
slash_after_mark OpenCurly at = true
slash_after_mark CloseRound at = closed_round at
slash_after_mark CloseSquare at = false
slash_after_mark CloseCurly at = closed_curly at
slash_after_mark Dot at = true
slash_after_mark Step at = false
slash_after_mark Stop at = true
slash_after_mark Operator at = true

-- a `/` behind a token of this sort begins a regular expression; `at` are the tokens up to the one that opened the
-- bracket that the token closes or stands in
abbrev pub slash_after : Sort → Word → List Lexeme → Bool
slash_after Name w at = slash_after_word w at
slash_after Private w at = false
slash_after Number w at = false
slash_after Text w at = false
slash_after TemplateWhole w at = false
slash_after TemplateHead w at = true
slash_after TemplateMiddle w at = true
slash_after TemplateTail w at = false
slash_after Regex w at = false
slash_after (Punctuator mark) w at = slash_after_mark mark at

-- own: of the goals of ECMA-262, 12, whether a `/` behind these tokens begins a regular expression: by the last
-- token, and by the bracket that it closes or stands in
pub data Slash : List Lexeme → Bool → Type 0 where
  start : Slash [] true
  token : {t : Lexeme} {before at : List Lexeme} {slash : Bool} → Innermost before at
      → slash ≡ slash_after t.sort (plain_word (t ∷ before)) at → Slash (t ∷ before) slash

-- ---- one step

-- what comes behind some tokens: the end of the text; a fault, by how many bytes stand from its place to the text's
-- end; or a token and the bytes behind it
pub data Next : Type 0 where
  Ends : Next
  Faults : ℕ → LexKind → Next
  Gives : Lexeme → List ℕ → Next

-- the bracket is there, and a closing one of this form closes it
abbrev pub is_closed_by : Option Bracket → Bracket → Bool
is_closed_by None k = false
is_closed_by (Some opened) k = same_bracket opened k

-- own: a token that closes another bracket than the innermost one, and a token that would open one too many
abbrev pub refusal : Option Bracket → Option Bracket → Option Bracket → ℕ → Option LexKind
refusal opened (Some k) innermost depth = if is_closed_by innermost k then None else Some Unreadable
refusal (Some k) None innermost depth = if depth == most_brackets then Some TooDeep else None
refusal None None innermost depth = None

-- the token of this sort at the front of the bytes, behind which the rest is left
abbrev pub lexeme : Sort → List ℕ → List ℕ → Lexeme
lexeme sort bytes rest = record { sort = sort; text = take (length bytes - length rest) bytes; left = length bytes }

-- the token at the front, or its fault where it is refused
abbrev pub unless_refused : Option LexKind → Sort → List ℕ → List ℕ → Next
unless_refused (Some kind) sort bytes rest = Faults (length bytes) kind
unless_refused None sort bytes rest = Gives (lexeme sort bytes rest) rest

-- the token that was read at the front, or a fault where none was read or it is refused
abbrev pub next_from : Option Bracket → ℕ → List ℕ → Piece → Next
next_from innermost depth bytes None = Faults (length bytes) Unreadable
next_from innermost depth bytes (Some found) =
    unless_refused (refusal (opens found.0) (closes found.0) innermost depth) found.0 bytes found.1

-- the bracket is that of a template
abbrev pub is_template : Option Bracket → Bool
is_template None = false
is_template (Some Round) = false
is_template (Some Square) = false
is_template (Some Curly) = false
is_template (Some Template) = true

-- what comes at the front of bytes that begin with no white space and no comment
unfoldable pub next_at : Bool → Option Bracket → ℕ → List ℕ → Next
next_at slash innermost depth [] = if depth == 0 then Ends else Faults 0 Unreadable
next_at slash innermost depth (b ∷ rest) =
    next_from innermost depth (b ∷ rest) (piece slash (is_template innermost) (b ∷ rest))

-- ECMA-262, 12.2 to 12.4: all white space, line ends and comments at the front are passed over
pub data Skips : List ℕ → List ℕ → Type 0 where
  stop : {bytes : List ℕ} → blank_rest bytes ≡ None → Skips bytes bytes
  more : {bytes rest end : List ℕ} → blank_rest bytes ≡ Some rest → Skips rest end → Skips bytes end

-- what comes behind these tokens, where this is the rest of the text
pub data IsNext : List Lexeme → List ℕ → Next → Type 0 where
  next : {before at : List Lexeme} {rest bytes : List ℕ} {slash : Bool} {out : Next} → Slash before slash
      → Innermost before at → Skips rest bytes → out ≡ next_at slash (opener at) (depth before) bytes
      → IsNext before rest out

-- these tokens stand in the text from its start on, and this is the rest behind them
pub data Reaches (text : List ℕ) : List Lexeme → List ℕ → Type 0 where
  begin : {rest : List ℕ} → rest ≡ hashbang_rest text → Reaches text [] rest
  go : {t : Lexeme} {before : List Lexeme} {rest after : List ℕ} → Reaches text before rest
      → IsNext before rest (Gives t after) → Reaches text (t ∷ before) after

-- ---- the whole text

-- the token that a caller is told: its kind, and from where to where it stands in a text of so many bytes
abbrev pub token_of : ℕ → Lexeme → Token
token_of size t = record { kind = kind_of t.sort; from = size - t.left; to = (size - t.left) + length t.text }

-- the fault that a caller is told: its place in a text of so many bytes, by those that are left there, and its kind
abbrev pub fault_of : ℕ → ℕ → LexKind → LexFault
fault_of size left kind = record { at = size - left; kind = kind }

pub data ReadsTokens (text : List ℕ) : Result (List Token) LexFault → Type 0 where
  all : {before : List Lexeme} {rest : List ℕ} {out : Result (List Token) LexFault} → Reaches text before rest
      → IsNext before rest Ends → out ≡ Ok (reverse (map (token_of (length text)) before)) → ReadsTokens text out
  fault : {before : List Lexeme} {rest : List ℕ} {left : ℕ} {kind : LexKind} {out : Result (List Token) LexFault}
      → Reaches text before rest → IsNext before rest (Faults left kind)
      → out ≡ Err (fault_of (length text) left kind) → ReadsTokens text out
