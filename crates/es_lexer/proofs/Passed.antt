-- Passing over pieces of given sizes.
use Rattle.std.proofs.Common.{◌≡◌, ◌≢◌, ◌<◌, ◌-◌, ◌==◌, ℕ, zero, suc, if◌then◌else◌, List, [], ◌∷◌, length, drop, refl, sym, ◌∙◌, ap, arith, length-drop}
use Rattle.std.proofs.Math.Dec.{eqb-suc-zero}
use Rattle.module_spec.specs.Characters.{passed}

passed_from : (size : List ℕ → ℕ) (k : ℕ) (bytes : List ℕ) → passed size k bytes ≡ passed size 0 (drop k bytes)
passed_from size zero bytes = refl
passed_from size (suc k) [] = refl
passed_from size (suc k) (b ∷ bytes) = passed_from size k bytes

pub passed_none : (size : List ℕ → ℕ) (bytes : List ℕ) → size bytes ≡ 0 → passed size 0 bytes ≡ bytes
passed_none size [] e = refl
passed_none size (b ∷ bytes) e = rw e refl

sized : (m n : ℕ) (stop : List ℕ) (go : ℕ → List ℕ) → m ≡ suc n → (if m == 0 then stop else go (m - 1)) ≡ go n
sized zero n stop go e = absurd (cc)
sized (suc m) n stop go e = let f : suc m - 1 ≡ n = omega arith in rw (eqb-suc-zero m, f) refl

passed_one : (size : List ℕ → ℕ) (bytes : List ℕ) (n : ℕ) → n ≡ size bytes → n ≢ 0 → passed size 0 bytes ≡ passed size 0 (drop n bytes)
passed_one size [] zero e d = refl
passed_one size [] (suc n) e d = refl
passed_one size (b ∷ bytes) zero e d = absurd (d refl)
passed_one size (b ∷ bytes) (suc n) e d = sized (size (b ∷ bytes)) n (b ∷ bytes) (λ k. passed size k bytes) (sym e) ∙ passed_from size n bytes

drop_shorter : (bytes : List ℕ) (n : ℕ) → n ≢ 0 → bytes ≢ [] → length (drop n bytes) < length bytes
drop_shorter [] n d e = absurd (e refl)
drop_shorter (b ∷ bytes) zero d e = absurd (d refl)
drop_shorter (b ∷ bytes) (suc n) d e = omega (arith, length-drop n bytes)

-- behind one piece
pub passed_more : (size : List ℕ → ℕ) (bytes rest : List ℕ) (n : ℕ) → size [] ≡ 0 → n ≡ size bytes → n ≢ 0 → rest ≡ drop n bytes → (passed size 0 bytes ≡ passed size 0 rest) × (length rest < length bytes)
passed_more size bytes rest n none e d f = (rw f (passed_one size bytes n e d), rw f (drop_shorter bytes n d (λ g. d (e ∙ (ap size g ∙ none)))))
