-- Numbers and lists of bytes: whether they are the same is decided, and whether a list is UTF-8.
use Rattle.std.specs.Prelude.{◌≡◌, ◌≢◌, ◌⊎◌, ◌==◌, ℕ, Bool, true, false, List, bytes_eq, IsUtf8, refl}
use Rattle.std.specs.Bool.{Decides}
use Rattle.std.specs.Str.{is_utf8}
use Rattle.std.proofs.Common.{inl, inr}
use Rattle.std.proofs.lemmas.Bool.Decides.{Decides-eqb}
use Rattle.std.proofs.lemmas.Str.{is_utf8-from_IsUtf8}
use Rattle.std.proofs.lemmas.Slice.Eq.{bytes_eq-Decides}
use Rattle.std.proofs.lemmas.Bool.{false_from_ne_true}

pub by_test : {P : Type 0} (b : Bool) → Decides b P → P ⊎ (P → ⊥)
by_test true d = inl (d.0 refl)
by_test false d = inr (λ p. let wrong : false ≡ true = d.1 p in cc)

pub number_same_or_not : (a b : ℕ) → (a ≡ b) ⊎ (a ≢ b)
number_same_or_not a b = by_test (a == b) (Decides-eqb a b)

pub text_same_or_not : (text other : List ℕ) → (text ≡ other) ⊎ (text ≢ other)
text_same_or_not text other = by_test (bytes_eq text other) (bytes_eq-Decides text other)

pub texts_differ : (some other : List ℕ) → bytes_eq some other ≡ false → some ≢ other
texts_differ some other f e = let t : bytes_eq some other ≡ true = (bytes_eq-Decides some other).1 e in cc

pub other_text : (some other : List ℕ) → some ≢ other → bytes_eq some other ≡ false
other_text some other n = false_from_ne_true _ (λ e. n ((bytes_eq-Decides some other).0 e))

pub no_utf8_text : (bytes : List ℕ) → is_utf8 bytes ≡ false → IsUtf8 bytes → ⊥
no_utf8_text bytes f u = let t : is_utf8 bytes ≡ true = is_utf8-from_IsUtf8 bytes u in cc
