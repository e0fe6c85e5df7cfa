-- What stands at a place, by the tokens from it on.
use Rattle.std.proofs.Common.{◌≡◌, ◌≤◌, ◌+◌, ℕ, zero, suc, Bool, true, false, not, ◌&&◌, ◌||◌, codes, List, [], ◌∷◌, Option, Some, None, refl, drop, length, ap, arith}
use Rattle.std.specs.List.{slice_get}
use Rattle.std.specs.Prelude.{slice_index_or as get_or}
use Rattle.std.proofs.lemmas.Option.{slice_get_past}
use Rattle.grammar_spec.specs.Sights.{Sight, there, at_place, is_word, is_quoted, on_line, sign_behind_round}
use Rattle.grammar_spec.specs.Sights.{is_any_of, is_operator, operators, outside}
use Rattle.grammar_tokens.specs.Spots.{arrows_behind, arrow_at}

line_there : (is : Sight → Bool) (found : Option Sight) → (there is found && not (there (λ t. t.line) found)) ≡ there (on_line is) found
line_there is None = refl
line_there is (Some t) = refl

pub line_at : (word : List ℕ) (tokens : List Sight) (at : ℕ)
    → (is_quoted word tokens at && not (at_place (λ t. t.line) tokens at)) ≡ at_place (on_line (is_word word)) tokens at
line_at word tokens at = line_there (is_word word) (slice_get tokens at)

-- ---- the token behind

pub one_more : (at : ℕ) → at + 1 ≡ suc at
one_more at = omega arith

past_found : (is : Sight → Bool) (tokens : List Sight) (at : ℕ) → length tokens ≤ at → slice_get tokens (suc at) ≡ None
past_found is tokens at l = slice_get_past tokens (suc at) (omega (l, arith))

pub past : (is : Sight → Bool) (tokens : List Sight) (at : ℕ) → length tokens ≤ at → at_place is tokens (suc at) ≡ false
past is tokens at l = ap (there is) (past_found is tokens at l)

-- ---- tests of one token that are two

operator_there : (head : Option ℕ) (found : Option Sight)
    → (there (is_any_of operators) found || (there (is_word (codes "in")) found && not (there (outside head) found)))
    ≡ there (is_operator head) found
operator_there head None = refl
operator_there head (Some t) = refl

pub operator_at : (head : Option ℕ) (tokens : List Sight) (at : ℕ)
    → (at_place (is_any_of operators) tokens at || (is_quoted (codes "in") tokens at && not (at_place (outside head) tokens at)))
    ≡ at_place (is_operator head) tokens at
operator_at head tokens at = operator_there head (slice_get tokens at)

last_or : (b : Bool) → b ≡ (b || false)
last_or true = refl
last_or false = refl

either_there : (a b : List ℕ) (found : Option Sight)
    → (there (is_word a) found || there (is_word b) found) ≡ there (is_any_of (a ∷ b ∷ [])) found
either_there a b None = refl
either_there a b (Some t) = ap (λ x. is_word a t || x) (last_or (is_word b t))

pub either_at : (a b : List ℕ) (tokens : List Sight) (at : ℕ)
    → (is_quoted a tokens at || is_quoted b tokens at) ≡ at_place (is_any_of (a ∷ b ∷ [])) tokens at
either_at a b tokens at = either_there a b (slice_get tokens at)

-- ---- an arrow behind round brackets

round_from : (tokens rest : List Sight) (at : ℕ)
    → (there (is_word (codes "(")) (slice_get rest at) && get_or (arrows_behind rest) at false)
    ≡ sign_behind_round tokens (slice_get rest at) (drop (suc at) rest)
round_from tokens [] at = refl
round_from tokens (t ∷ rest) zero = refl
round_from tokens (t ∷ rest) (suc at) = round_from tokens rest at

pub round_at : (tokens : List Sight) (at : ℕ)
    → (is_quoted (codes "(") tokens at && arrow_at tokens at)
    ≡ sign_behind_round tokens (slice_get tokens at) (drop (suc at) tokens)
round_at tokens at = round_from tokens tokens at
