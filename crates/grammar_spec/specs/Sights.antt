-- What the grammar sees of a text: its tokens, and what stands at a place among them. Places count tokens, from 0.
--     sights text before           the tokens that were read, the last one first, as the grammar sees them
--     passes test head tokens at   the token at the place is one that may be taken; `head` is the number of brackets
--                                  outside which `in` is no operator
--     is_quoted word tokens at     it is this name or punctuator
--     holds guard tokens at        what comes from the place on is so
--     place_of text tokens at      the byte at which the token begins, or the text's length
use Rattle.std.specs.Prelude.{ℕ, suc, Bool, true, false, not, ◌&&◌, ◌||◌, ◌==◌, bytes_eq, codes, List, [], ◌∷◌}
use Rattle.std.specs.Prelude.{◌-◌, Option, Some, None, drop, length, option_map, slice_range, if◌then◌else◌}
use Rattle.std.specs.List.{slice_get, list_any}
use Rattle.module_spec.specs.declared.token.Kind as kinds
use Rattle.module_spec.specs.declared.token.Kind.TheVariants as kind
use Rattle.module_spec.specs.Characters.{begins_line_end}
use Rattle.module_spec.specs.Sorts.{kind_of}
use Rattle.module_spec.specs.Tokens.{Lexeme, depth, token_of}
use Rattle.grammar_spec.specs.declared.names.Test as tests
use Rattle.grammar_spec.specs.declared.names.Test.TheVariants as test
use Rattle.grammar_spec.specs.declared.names.Guard as guards
use Rattle.grammar_spec.specs.declared.names.Guard.TheVariants as guard

-- a token: its kind and its text, the byte at which it begins, whether a line end stands between the token before and
-- it, and how many brackets are open before it and behind it
pub record Sight : Type 0 where
  pub kind : kinds.Kind
  pub text : List ℕ
  pub from : ℕ
  pub line : Bool
  pub depth : ℕ
  pub behind : ℕ

-- ---- the tokens of a text

-- ECMA-262, 12.3 and 12.4: a line end stands among these bytes; one inside of a comment counts
abbrev pub has_line_end : List ℕ → Bool
has_line_end [] = false
has_line_end (b ∷ rest) = begins_line_end (b ∷ rest) || has_line_end rest

-- where the last of these tokens ends; the text's start where there is none
abbrev pub end_of : ℕ → List Lexeme → ℕ
end_of size [] = 0
end_of size (t ∷ before) = (token_of size t).to

-- the bytes between these tokens and the next one
abbrev pub between : List ℕ → List Lexeme → Lexeme → List ℕ
between text before t = slice_range text (end_of (length text) before) (length text - t.left)

abbrev pub sight : List ℕ → List Lexeme → Lexeme → Sight
sight text before t =
    record {
      kind = kind_of t.sort;
      text = t.text;
      from = length text - t.left;
      line = has_line_end (between text before t);
      depth = depth before;
      behind = depth (t ∷ before);
    }

abbrev pub sights : List ℕ → List Lexeme → List Sight
sights text [] = []
sights text (t ∷ before) = sight text before t ∷ sights text before

-- ---- one token

-- a number for each kind, by which kinds are told apart
abbrev pub code_of : kinds.Kind → ℕ
code_of kind.Name = 0
code_of kind.Private = 1
code_of kind.Number = 2
code_of kind.Text = 3
code_of kind.TemplateWhole = 4
code_of kind.TemplateHead = 5
code_of kind.TemplateMiddle = 6
code_of kind.TemplateTail = 7
code_of kind.Regex = 8
code_of kind.Punctuator = 9

abbrev pub is_kind : kinds.Kind → Sight → Bool
is_kind k t = code_of t.kind == code_of k

-- own: a quoted word is a name or a punctuator that is spelled so. With an escape a name is no word; ECMA-262, 12.7.2
abbrev pub is_word : List ℕ → Sight → Bool
is_word word t = (is_kind kind.Name t || is_kind kind.Punctuator t) && bytes_eq t.text word

abbrev pub is_any_of : List (List ℕ) → Sight → Bool
is_any_of words t = list_any (λ word. is_word word t) words

-- ECMA-262, 12.7.2 and 13.1.1: the words that name nothing in the code of a module
abbrev pub reserved : List (List ℕ)
reserved =
    codes "await" ∷ codes "break" ∷ codes "case" ∷ codes "catch" ∷ codes "class" ∷ codes "const" ∷ codes "continue"
    ∷ codes "debugger" ∷ codes "default" ∷ codes "delete" ∷ codes "do" ∷ codes "else" ∷ codes "enum" ∷ codes "export"
    ∷ codes "extends" ∷ codes "false" ∷ codes "finally" ∷ codes "for" ∷ codes "function" ∷ codes "if"
    ∷ codes "implements" ∷ codes "import" ∷ codes "in" ∷ codes "instanceof" ∷ codes "interface" ∷ codes "let"
    ∷ codes "new" ∷ codes "null" ∷ codes "package" ∷ codes "private" ∷ codes "protected" ∷ codes "public"
    ∷ codes "return" ∷ codes "static" ∷ codes "super" ∷ codes "switch" ∷ codes "this" ∷ codes "throw" ∷ codes "true"
    ∷ codes "try" ∷ codes "typeof" ∷ codes "var" ∷ codes "void" ∷ codes "while" ∷ codes "with" ∷ codes "yield" ∷ []

-- ECMA-262, 13.15
abbrev pub assignment_operators : List (List ℕ)
assignment_operators =
    codes "=" ∷ codes "*=" ∷ codes "**=" ∷ codes "/=" ∷ codes "%=" ∷ codes "+=" ∷ codes "-=" ∷ codes "<<="
    ∷ codes ">>=" ∷ codes ">>>=" ∷ codes "&=" ∷ codes "^=" ∷ codes "|=" ∷ codes "&&=" ∷ codes "||=" ∷ codes "??="
    ∷ []

-- ECMA-262, 13.6 to 13.13, without `in`
abbrev pub operators : List (List ℕ)
operators =
    codes "**" ∷ codes "*" ∷ codes "/" ∷ codes "%" ∷ codes "+" ∷ codes "-" ∷ codes "<<" ∷ codes ">>" ∷ codes ">>>"
    ∷ codes "<" ∷ codes ">" ∷ codes "<=" ∷ codes ">=" ∷ codes "==" ∷ codes "!=" ∷ codes "===" ∷ codes "!=="
    ∷ codes "&" ∷ codes "^" ∷ codes "|" ∷ codes "&&" ∷ codes "||" ∷ codes "??" ∷ codes "instanceof" ∷ []

abbrev pub is_ident : Sight → Bool
is_ident t = is_kind kind.Name t && not (is_any_of reserved t)

abbrev pub is_closing : Sight → Bool
is_closing t = is_any_of (codes ")" ∷ codes "]" ∷ codes "}" ∷ []) t

-- a token that is so stands there
abbrev pub there : (Sight → Bool) → Option Sight → Bool
there is None = false
there is (Some t) = is t

abbrev pub at_place : (Sight → Bool) → List Sight → ℕ → Bool
at_place is tokens at = there is (slice_get tokens at)

abbrev pub is_quoted : List ℕ → List Sight → ℕ → Bool
is_quoted word tokens at = at_place (is_word word) tokens at

-- own: outside its brackets, the head of a `for` is read without the operator `in`
abbrev pub outside : Option ℕ → Sight → Bool
outside None t = false
outside (Some depth) t = t.depth == depth

abbrev pub is_operator : Option ℕ → Sight → Bool
is_operator head t = is_any_of operators t || (is_word (codes "in") t && not (outside head t))

-- ---- the token that is taken

-- the token at the place is one that the test takes
unfoldable pub passes : tests.Test → Option ℕ → List Sight → ℕ → Bool
passes test.Ident head tokens at = at_place is_ident tokens at
passes test.Name head tokens at = at_place (is_kind kind.Name) tokens at
passes test.Private head tokens at = at_place (is_kind kind.Private) tokens at
passes test.Number head tokens at = at_place (is_kind kind.Number) tokens at
passes test.Text head tokens at = at_place (is_kind kind.Text) tokens at
passes test.Regex head tokens at = at_place (is_kind kind.Regex) tokens at
passes test.TemplateWhole head tokens at = at_place (is_kind kind.TemplateWhole) tokens at
passes test.TemplateHead head tokens at = at_place (is_kind kind.TemplateHead) tokens at
passes test.TemplateMiddle head tokens at = at_place (is_kind kind.TemplateMiddle) tokens at
passes test.TemplateTail head tokens at = at_place (is_kind kind.TemplateTail) tokens at
passes test.AssignOp head tokens at = at_place (is_any_of assignment_operators) tokens at
passes test.BinOp head tokens at = at_place (is_operator head) tokens at
passes test.Comma head tokens at = is_quoted (codes ",") tokens at && not (at_place is_closing tokens (suc at))

-- ---- what comes

-- the token is so, and stands on the line of the one before
abbrev pub on_line : (Sight → Bool) → Sight → Bool
on_line is t = is t && not t.line

abbrev pub is_arrow_sign : Sight → Bool
is_arrow_sign = on_line (is_word (codes "=>"))

abbrev pub first : (Sight → Bool) → List Sight → Bool
first is [] = false
first is (t ∷ rest) = is t

-- the sign stands behind the first token behind which so many brackets are open: the partner of the bracket before
-- which so many are
abbrev pub sign_behind : ℕ → List Sight → Bool
sign_behind depth [] = false
sign_behind depth (t ∷ rest) = if t.behind == depth then first is_arrow_sign rest else sign_behind depth rest

abbrev pub sign_behind_round : List Sight → Option Sight → List Sight → Bool
sign_behind_round tokens None rest = false
sign_behind_round tokens (Some t) rest = is_word (codes "(") t && sign_behind t.depth rest

-- ECMA-262, 15.3: an Ident, or a `(` with all up to its partner, before `=>` on the same line
abbrev pub is_arrow : List Sight → ℕ → Bool
is_arrow tokens at =
    (at_place is_ident tokens at && at_place is_arrow_sign tokens (suc at))
    || sign_behind_round tokens (slice_get tokens at) (drop (suc at) tokens)

-- what comes from the place on is so
unfoldable pub holds : guards.Guard → List Sight → ℕ → Bool
holds guard.SameLine tokens at = not (at_place (λ t. t.line) tokens at)
holds guard.NewLine tokens at = at_place (λ t. t.line) tokens at
holds guard.EndOfText tokens at = not (at_place (λ t. true) tokens at)
holds guard.BeforeCurly tokens at = is_quoted (codes "}") tokens at
holds guard.BeforeCommaOrSquare tokens at = is_quoted (codes ",") tokens at || is_quoted (codes "]") tokens at
holds guard.ImportDeclaration tokens at =
    is_quoted (codes "import") tokens at && not (at_place (is_any_of (codes "(" ∷ codes "." ∷ [])) tokens (suc at))
holds guard.AsyncFunction tokens at =
    is_quoted (codes "async") tokens at && at_place (on_line (is_word (codes "function"))) tokens (suc at)
holds guard.StaticBlock tokens at = is_quoted (codes "static") tokens at && is_quoted (codes "{") tokens (suc at)
holds guard.Modifies tokens at =
    not (at_place (is_any_of (codes "(" ∷ codes "," ∷ codes ";" ∷ codes ":" ∷ codes "=" ∷ codes "}" ∷ [])) tokens (suc at))
    && not (is_quoted (codes "async") tokens at && at_place (λ t. t.line) tokens (suc at))
holds guard.Label tokens at = at_place is_ident tokens at && is_quoted (codes ":") tokens (suc at)
holds guard.Arrow tokens at = is_arrow tokens at
holds guard.AsyncArrow tokens at =
    is_quoted (codes "async") tokens at && not (at_place (λ t. t.line) tokens (suc at)) && is_arrow tokens (suc at)
holds guard.PrivateIn tokens at = at_place (is_kind kind.Private) tokens at && is_quoted (codes "in") tokens (suc at)
holds guard.NewOperator tokens at = is_quoted (codes "new") tokens at && not (is_quoted (codes ".") tokens (suc at))
holds guard.Shorthand tokens at =
    at_place (is_kind kind.Name) tokens at
    && at_place (is_any_of (codes "," ∷ codes "=" ∷ codes "}" ∷ [])) tokens (suc at)

-- ---- places

-- the number of brackets that are open before the token at the place
abbrev pub depth_at : List Sight → ℕ → Option ℕ
depth_at tokens at = option_map (λ (t : Sight). t.depth) (slice_get tokens at)

-- a place in bytes: where the token begins, or where the text ends
abbrev pub place_from : List ℕ → Option Sight → ℕ
place_from text None = length text
place_from text (Some t) = t.from

abbrev pub place_of : List ℕ → List Sight → ℕ → ℕ
place_of text tokens at = place_from text (slice_get tokens at)
