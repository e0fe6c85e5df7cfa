-- What is kept of a token agrees with it.
use Rattle.std.proofs.Common.{◌≡◌, ◌==◌, ◌≤◌, ◌^◌, ℕ, Bool, true, false, not, ◌&&◌, ◌||◌, bytes_eq, List, [], ◌∷◌, Result, Ok, Err, refl, sym, ◌∙◌, ap, arith}
use Rattle.std.specs.List.{list_any}
use Rattle.std.specs.Prelude.{IsErrAnd, MatchResult}
use Rattle.module_spec.specs.declared.token.Kind.TheVariants as kind
use Rattle.module_spec.specs.declared.token.Token.{Token}
use Rattle.grammar_spec.specs.Sights.{Sight, is_kind, is_word, is_any_of, is_ident, reserved}
use Rattle.grammar_spots.specs.Words.{is_one_of}
use Rattle.grammar_spots.specs.Making.{HasNoRoom}
use Rattle.grammar_spots.specs.Making.HasNoRoom.{far, deep_before, deep_behind}

any_by : (b : Bool) (text : List ℕ) (words : List (List ℕ))
    → list_any (λ word. b && bytes_eq text word) words ≡ (b && is_one_of text words)
any_by true text words = refl
any_by false text [] = refl
any_by false text (w ∷ words) = any_by false text words

pub any_word : (t : Sight) (words : List (List ℕ))
    → ((is_kind kind.Name t || is_kind kind.Punctuator t) && is_one_of t.text words) ≡ is_any_of words t
any_word t words = sym (any_by (is_kind kind.Name t || is_kind kind.Punctuator t) t.text words)

ident_by : (name mark one : Bool) → (name && not one) ≡ (name && not ((name || mark) && one))
ident_by true mark one = refl
ident_by false mark one = refl

pub ident_is : (t : Sight) → (is_kind kind.Name t && not (is_one_of t.text reserved)) ≡ is_ident t
ident_is t =
    ident_by (is_kind kind.Name t) (is_kind kind.Punctuator t) (is_one_of t.text reserved)
    ∙ ap (λ b. is_kind kind.Name t && not b) (any_word t reserved)

-- ---- no room

pub begins_far : (token : Token) (depth behind : ℕ) → token.from ≤ token.to → 2 ^ 32 ≤ token.from → HasNoRoom token depth behind
begins_far token depth behind l m = far (omega (l, m, arith))

pub ends_far : (token : Token) (depth behind : ℕ) → 2 ^ 32 ≤ token.to → HasNoRoom token depth behind
ends_far token depth behind l = far l

pub deep_there : (token : Token) (depth behind : ℕ) → 2 ^ 16 ≤ depth → HasNoRoom token depth behind
deep_there token depth behind l = deep_before l

pub deep_after : (token : Token) (depth behind : ℕ) → 2 ^ 16 ≤ behind → HasNoRoom token depth behind
deep_after token depth behind l = deep_behind l

pub handed_on : {X E : Type 0} (P : X → Type 0) (result : Result X E) (fault : E) (token : Token) (depth behind : ℕ)
    → IsErrAnd result (λ other. other ≡ fault) → HasNoRoom token depth behind
    → MatchResult result P (λ _. HasNoRoom token depth behind)
handed_on P (Ok x) fault token depth behind is h = absurd is
handed_on P (Err other) fault token depth behind is h = h

pub ruleset agreeing = (ident_is, any_word, begins_far, ends_far, deep_there, deep_after, handed_on)
