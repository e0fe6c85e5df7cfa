-- The outline of a text as a function of the text.
--     open_brackets before      the tokens up to each one that opened a bracket which is open, the innermost first
--     innermost unclosed            those up to the innermost one
--     next_of before rest       what comes behind these tokens, where this is the rest of the text
--     read_outline text         what `ReadsOutline` relates to the text
use Rattle.std.specs.Prelude.{ℕ, zero, suc, ◌-◌, Bool, true, List, [], ◌∷◌, Option, Some, None, Result, Err, length}
use Rattle.std.specs.Prelude.{drop, reverse}
use Rattle.module_spec.specs.declared.token.Bracket.{Bracket}
use Rattle.module_spec.specs.declared.request.ModuleFault.{ModuleFault}
use Rattle.module_spec.specs.declared.request.ModuleFault.TheVariants.{Unreadable}
use Rattle.module_spec.specs.Spellings.{blank_rest, hashbang_rest}
use Rattle.module_spec.specs.Sorts.{opens, closes}
use Rattle.module_spec.specs.Tokens.{Lexeme, opener, depth, plain_word, slash_after, Next, next_at}
use Rattle.module_spec.specs.Tokens.Next.{Ends, Faults, Gives}
use Rattle.module_spec.specs.Places.{places}
use Rattle.module_spec.specs.Outlines.{Outline, outlined, lexical_fault}

-- ---- the brackets that are open

-- those that are left where a token may close one
abbrev pub without_closed : Option Bracket → List (List Lexeme) → List (List Lexeme)
without_closed None unclosed = unclosed
without_closed (Some k) unclosed = drop 1 unclosed

-- those, and the one that a token may open
abbrev pub with_opened : Option Bracket → List Lexeme → List (List Lexeme) → List (List Lexeme)
with_opened None at unclosed = unclosed
with_opened (Some k) at unclosed = at ∷ unclosed

abbrev pub open_brackets : List Lexeme → List (List Lexeme)
open_brackets [] = []
open_brackets (t ∷ before) =
    with_opened (opens t.sort) (t ∷ before) (without_closed (closes t.sort) (open_brackets before))

abbrev pub innermost : List (List Lexeme) → List Lexeme
innermost [] = []
innermost (at ∷ unclosed) = at

-- ---- what comes next

-- a `/` behind these tokens begins a regular expression
abbrev pub begins_regex : List Lexeme → Bool
begins_regex [] = true
begins_regex (t ∷ before) = slash_after t.sort (plain_word (t ∷ before)) (innermost (open_brackets before))

-- what comes of the rest, or the bytes as they are where there is none
abbrev pub or_further : List ℕ → Option (List ℕ) → (List ℕ → List ℕ) → List ℕ
or_further bytes None next = bytes
or_further bytes (Some rest) next = next rest

-- behind all white space, line ends and comments, with room for so many of them
abbrev pub skipped : ℕ → List ℕ → List ℕ
skipped zero bytes = bytes
skipped (suc room) bytes = or_further bytes (blank_rest bytes) (λ rest. skipped room rest)

abbrev pub next_of : List Lexeme → List ℕ → Next
next_of before rest =
    next_at (begins_regex before) (opener (innermost (open_brackets before))) (depth before)
    (skipped (suc (length rest)) rest)

-- ---- the whole text

-- what the text comes to by what comes behind these tokens: the outline at its end, a fault by its place, and else what
-- `next` says behind one more token
abbrev pub read_on : ℕ → List Lexeme → Next → (List Lexeme → List ℕ → Result Outline ModuleFault)
    → Result Outline ModuleFault
read_on size before Ends next = outlined (reverse (places size before))
read_on size before (Faults left kind) next = Err (lexical_fault (size - left) kind)
read_on size before (Gives t after) next = next (t ∷ before) after

-- with room for so many tokens: each has a byte at least, so a text has room enough
abbrev pub read_from : ℕ → ℕ → List Lexeme → List ℕ → Result Outline ModuleFault
read_from zero size before rest = Err (Unreadable 0)
read_from (suc room) size before rest =
    read_on size before (next_of before rest) (λ more after. read_from room size more after)

unfoldable pub read_outline : List ℕ → Result Outline ModuleFault
read_outline text = read_from (suc (length (hashbang_rest text))) (length text) [] (hashbang_rest text)
