-- Appending one piece after another.
use Rattle.std.proofs.Common.{◌≡◌, ℕ, List, [], ◌++◌, sym, ap, ◌∙◌, append_assoc, append-nil}
use Rattle.ordered_json.specs.Appending.{Appends}

pub piece : {old new : List ℕ} (bytes : List ℕ) → new ≡ old ++ bytes → Appends old new (λ rest. bytes ++ rest)
piece {old} bytes e = record { whole = λ rest. ap (λ (xs : List ℕ). xs ++ rest) e ∙ append_assoc old bytes rest }

pub next : {old middle new : List ℕ} {f g : List ℕ → List ℕ} → Appends old middle f → Appends middle new g → Appends old new (λ rest. f (g rest))
next {g = g} a b = record { whole = λ rest. b.whole rest ∙ a.whole (g rest) }

-- appended to nothing, it is the whole
pub from_nothing : {old new : List ℕ} {text : List ℕ → List ℕ} → old ≡ [] → Appends old new text → new ≡ text []
from_nothing {new = new} {text = text} none a = sym (append-nil new) ∙ (a.whole [] ∙ ap (λ (xs : List ℕ). xs ++ text []) none)

-- the same bytes, written in another way
pub as_text : {old new : List ℕ} {f : List ℕ → List ℕ} (g : List ℕ → List ℕ) → Appends old new f → ((rest : List ℕ) → f rest ≡ g rest) → Appends old new g
as_text {old} g a e = record { whole = λ rest. a.whole rest ∙ ap (λ (xs : List ℕ). old ++ xs) (e rest) }

-- what is left to write after `now` completes the whole
pub record Completes (old now : List ℕ) (all left : List ℕ → List ℕ) : Type 0 where
  pub whole : (rest : List ℕ) → now ++ left rest ≡ old ++ all rest
