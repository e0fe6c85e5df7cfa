-- How far comments, literals and punctuators reach: the bytes behind them, or none where the text ends before they
-- do. ECMA-262, 12.4, 12.8 and 12.9.
--     blank_rest bytes      behind one character of white space, one line end or one comment
--     line_rest, comment_rest      before the line end that ends a comment, and behind its `*/`
--     slash_rest bytes      behind a comment, from behind its first `/`
--     hashbang_rest text      behind the first line of a text that begins with `#!`
--     number_rest bytes      behind a number
--     text_rest quote bytes      behind a string, from behind its opening quote
--     template_rest bytes      behind a part of a template, and whether a backquote ends it
--     regex_body_rest class escaped bytes      behind a regular expression's closing `/`
--     punctuator bytes      the punctuator at the front: its mark and its length
--     punctuators      the table of them
--     begins_with front bytes      the first text stands at the front of the second one
use Rattle.std.specs.Prelude.{ℕ, Bool, true, false, not, ◌&&◌, ◌||◌, ◌==◌, List, [], ◌∷◌, if◌then◌else◌, Option, Some}
use Rattle.std.specs.Prelude.{None, slice_index, drop, length, codes}
use Rattle.std.specs.Char.{is_ascii_digit}
use Rattle.module_spec.specs.declared.token.Mark.{Mark}
use Rattle.module_spec.specs.declared.token.Mark.TheVariants.{OpenRound, OpenSquare, OpenCurly, CloseRound, CloseSquare}
use Rattle.module_spec.specs.declared.token.Mark.TheVariants.{CloseCurly, Dot, Step, Stop, Operator}
use Rattle.module_spec.specs.Characters.{begins_line_end, space_size, begins_digit, name_size, passed}

-- the first text stands at the front of the second one
abbrev pub begins_with : List ℕ → List ℕ → Bool
begins_with [] bytes = true
begins_with (f ∷ front) [] = false
begins_with (f ∷ front) (b ∷ bytes) = f == b && begins_with front bytes

-- ECMA-262, 12.4: a comment to the end of its line, before the line end
abbrev pub line_rest : List ℕ → List ℕ
line_rest [] = []
line_rest (b ∷ rest) = if begins_line_end (b ∷ rest) then b ∷ rest else line_rest rest

-- ECMA-262, 12.4: to behind the next `*/`
abbrev pub comment_rest : List ℕ → Option (List ℕ)
comment_rest [] = None
comment_rest (b ∷ rest) = if b == 42 && begins_with (codes "/") rest then Some (drop 1 rest) else comment_rest rest

-- ECMA-262, 12.4: what stands behind the first `/`
abbrev pub slash_rest : List ℕ → Option (List ℕ)
slash_rest [] = None
slash_rest (b ∷ rest) = if b == 47 then Some (line_rest rest) else if b == 42 then comment_rest rest else None

-- ECMA-262, 12.2 to 12.4: behind one character of white space, one line end or one comment
unfoldable pub blank_rest : List ℕ → Option (List ℕ)
blank_rest [] = None
blank_rest (b ∷ rest) =
    if b == 47 then slash_rest rest
    else if space_size (b ∷ rest) == 0 then None
    else Some (drop (space_size (b ∷ rest)) (b ∷ rest))

-- ECMA-262, 12.5: a text that begins with `#!` has its first line as a comment
abbrev pub hashbang_rest : List ℕ → List ℕ
hashbang_rest [] = []
hashbang_rest (b ∷ []) = b ∷ []
hashbang_rest (b ∷ c ∷ rest) = if b == 35 && c == 33 then line_rest rest else b ∷ c ∷ rest

-- ---- numbers

-- ECMA-262, 12.9.3: `0` and the letter of another base
abbrev pub has_base_letter : List ℕ → Bool
has_base_letter [] = false
has_base_letter (b ∷ rest) =
    b == 48 && (let c = slice_index rest 0 in c == 120 || c == 88 || c == 98 || c == 66 || c == 111 || c == 79)

-- `+` or `-` stands at the front
abbrev pub begins_sign : List ℕ → Bool
begins_sign [] = false
begins_sign (b ∷ rest) = b == 43 || b == 45

-- own: of ECMA-262, 12.9.3, a number goes on over characters of names, points, and an `e` with a sign where it may
-- have an exponent
abbrev pub number_size : Bool → List ℕ → ℕ
number_size exponent [] = 0
number_size exponent (b ∷ rest) =
    if b == 46 then 1
    else if exponent && (b == 101 || b == 69) && begins_sign rest then 2
    else name_size (b ∷ rest)

abbrev pub number_rest : List ℕ → List ℕ
number_rest bytes = let exponent = not (has_base_letter bytes) in passed (λ more. number_size exponent more) 0 bytes

-- own: a digit, or a point and a digit
abbrev pub begins_number : List ℕ → Bool
begins_number [] = false
begins_number (b ∷ rest) = is_ascii_digit b || b == 46 && begins_digit rest

-- ---- literals between marks

-- ECMA-262, 12.9.4: how many bytes a string takes next: none at its quote, at CR and at LF. A `\` is taken with what
-- stands behind it, where CR LF counts as one.
abbrev pub text_size : ℕ → List ℕ → ℕ
text_size quote [] = 0
text_size quote (b ∷ rest) =
    if b == quote || b == 10 || b == 13 then 0
    else if b == 92 then (if begins_with (13 ∷ 10 ∷ []) rest then 3 else 2)
    else 1

-- behind the quote, where it stands at the front
abbrev pub closed_rest : ℕ → List ℕ → Option (List ℕ)
closed_rest quote [] = None
closed_rest quote (b ∷ rest) = if b == quote then Some rest else None

-- ECMA-262, 12.9.4: a string from behind its opening quote to behind the closing one
abbrev pub text_rest : ℕ → List ℕ → Option (List ℕ)
text_rest quote bytes = closed_rest quote (passed (λ more. text_size quote more) 0 bytes)

-- ECMA-262, 12.9.6: `${` stands at the front
abbrev pub begins_substitution : List ℕ → Bool
begins_substitution [] = false
begins_substitution (b ∷ rest) = b == 36 && begins_with (codes "{") rest

-- ECMA-262, 12.9.6: how many bytes a part of a template takes next: none at a backquote and at `${`. A `\` is taken
-- with what stands behind it.
abbrev pub template_size : List ℕ → ℕ
template_size [] = 0
template_size (b ∷ rest) = if b == 96 || begins_substitution (b ∷ rest) then 0 else if b == 92 then 2 else 1

-- behind the backquote or the `${` at the front, and whether it is a backquote
abbrev pub part_rest : List ℕ → Option (Bool × List ℕ)
part_rest [] = None
part_rest (b ∷ rest) =
    if b == 96 then Some (true, rest) else if begins_substitution (b ∷ rest) then Some (false, drop 1 rest) else None

-- ECMA-262, 12.9.6: a part of a template from behind what opens it to behind what ends it, and whether that is a
-- backquote
abbrev pub template_rest : List ℕ → Option (Bool × List ℕ)
template_rest bytes = part_rest (passed (λ more. template_size more) 0 bytes)

-- ECMA-262, 12.9.5, behind the opening `/` and to behind the closing one. `class` says that a `[` is open, `escaped`
-- that a `\` stands before.
abbrev pub regex_body_rest : Bool → Bool → List ℕ → Option (List ℕ)
regex_body_rest class escaped [] = None
regex_body_rest class escaped (b ∷ rest) =
    if begins_line_end (b ∷ rest) then None
    else if escaped then regex_body_rest class false rest
    else if b == 47 && not class then Some rest
    else regex_body_rest (b == 91 || class && not (b == 93)) (b == 92) rest

-- ---- punctuators

-- ECMA-262, 12.8: the punctuators, longer ones first
abbrev pub punctuators : List (List ℕ × Mark)
punctuators =
    (codes ">>>=", Operator) ∷ (codes "...", Operator) ∷ (codes "===", Operator) ∷ (codes "!==", Operator)
    ∷ (codes "**=", Operator)
    ∷ (codes "<<=", Operator) ∷ (codes ">>=", Operator) ∷ (codes ">>>", Operator) ∷ (codes "&&=", Operator)
    ∷ (codes "||=", Operator)
    ∷ (codes "??=", Operator) ∷ (codes "=>", Stop) ∷ (codes "==", Operator) ∷ (codes "!=", Operator)
    ∷ (codes "<=", Operator)
    ∷ (codes ">=", Operator) ∷ (codes "&&", Operator) ∷ (codes "||", Operator) ∷ (codes "??", Operator)
    ∷ (codes "?.", Dot)
    ∷ (codes "++", Step) ∷ (codes "--", Step) ∷ (codes "+=", Operator) ∷ (codes "-=", Operator) ∷ (codes "*=", Operator)
    ∷ (codes "/=", Operator) ∷ (codes "%=", Operator) ∷ (codes "&=", Operator) ∷ (codes "|=", Operator)
    ∷ (codes "^=", Operator)
    ∷ (codes "<<", Operator) ∷ (codes ">>", Operator) ∷ (codes "**", Operator)
    ∷ (codes "{", OpenCurly) ∷ (codes "}", CloseCurly) ∷ (codes "(", OpenRound) ∷ (codes ")", CloseRound)
    ∷ (codes "[", OpenSquare)
    ∷ (codes "]", CloseSquare) ∷ (codes ".", Dot) ∷ (codes ";", Stop) ∷ (codes ",", Operator) ∷ (codes "<", Operator)
    ∷ (codes ">", Operator) ∷ (codes "+", Operator) ∷ (codes "-", Operator) ∷ (codes "*", Operator)
    ∷ (codes "/", Operator)
    ∷ (codes "%", Operator) ∷ (codes "&", Operator) ∷ (codes "|", Operator) ∷ (codes "^", Operator)
    ∷ (codes "!", Operator)
    ∷ (codes "~", Operator) ∷ (codes "?", Operator) ∷ (codes ":", Stop) ∷ (codes "=", Operator) ∷ []

-- the first text of a table that begins the bytes: its mark and length
abbrev pub first_of : List (List ℕ × Mark) → List ℕ → Option (Mark × ℕ)
first_of [] bytes = None
first_of (row ∷ table) bytes = if begins_with row.0 bytes then Some (row.1, length row.0) else first_of table bytes

-- ECMA-262, 12.8: `?.` is no punctuator before a digit
abbrev pub is_question_before_number : List ℕ → Bool
is_question_before_number bytes = begins_with (codes "?.") bytes && begins_digit (drop 2 bytes)

abbrev pub punctuator : List ℕ → Option (Mark × ℕ)
punctuator bytes = if is_question_before_number bytes then Some (Operator, 1) else first_of punctuators bytes
