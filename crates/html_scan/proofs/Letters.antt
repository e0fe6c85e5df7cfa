-- Names that begin with different letters.
use Rattle.std.specs.Char.{to_ascii_lowercase}
use Rattle.std.proofs.Common.{◌≡◌, ℕ, ◌==◌, ◌&&◌, List, [], ◌∷◌, Bool, true, false, Option, Some, None, option_map, bytes_eq, if◌then◌else◌, refl, ◌∙◌, ap}
use Rattle.page_spec.specs.Pieces.{ends_name, tag_name, is_name}

other_letter : (w b : ℕ) (others rest : List ℕ) → (to_ascii_lowercase b == w) ≡ false → is_name (w ∷ others) (tag_name (b ∷ rest)) ≡ false
other_letter w b others rest e = by_end (ends_name b) (tag_name rest) where
  by_end : (c : Bool) (name : Option (List ℕ)) → is_name (w ∷ others) (if c then Some [] else option_map (λ n. to_ascii_lowercase b ∷ n) name) ≡ false
  by_end true name = refl
  by_end false None = refl
  by_end false (Some n) = ap (λ c. c && bytes_eq n others) e

pub other_name : (wanted bytes others rest : List ℕ) (w b : ℕ) → wanted ≡ w ∷ others → bytes ≡ b ∷ rest → (to_ascii_lowercase b == w) ≡ false → is_name wanted (tag_name bytes) ≡ false
other_name wanted bytes others rest w b e f d = ap (λ (n : List ℕ). is_name n (tag_name bytes)) e ∙ (ap (λ (bs : List ℕ). is_name (w ∷ others) (tag_name bs)) f ∙ other_letter w b others rest d)
