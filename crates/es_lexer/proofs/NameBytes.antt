-- The table of the bytes of names, and passing over such bytes.
use Rattle.std.proofs.Common.{◌≡◌, ◌≢◌, ◌<◌, ℕ, zero, suc, Bool, true, false, if◌then◌else◌, List, [], ◌∷◌, length, slice_index_or, refl, ap, ◌∙◌, arith}
use Rattle.module_spec.specs.Characters.{is_name_byte, name_size, name_rest}
use Rattle.es_lexer.specs.declared.names.TheConstants.{NAME_BYTES}
use Rattle.es_lexer.proofs.Passed.{passed_none, passed_more}

-- what a test says of so many numbers from 0 on
tests : ℕ → (ℕ → Bool) → List Bool
tests zero f = []
tests (suc n) f = f 0 ∷ tests n (λ k. f (suc k))

at_tests : (n : ℕ) (f : ℕ → Bool) (k : ℕ) (d : Bool) → k < n → slice_index_or (tests n f) k d ≡ f k
unfolding tests
at_tests zero f k d l = absurd (omega arith)
at_tests (suc n) f zero d l = refl
at_tests (suc n) f (suc k) d l = at_tests n (λ m. f (suc m)) k d (omega arith)

table_is_test : NAME_BYTES ≡ tests 256 (λ b. is_name_byte b)
unfolding tests
table_is_test = refl

pub table_says : (b : ℕ) (d : Bool) → b < 256 → slice_index_or NAME_BYTES b d ≡ is_name_byte b
table_says b d l = ap (λ (table : List Bool). slice_index_or table b d) table_is_test ∙ at_tests 256 (λ c. is_name_byte c) b d l

one_is : (c : Bool) (x : ℕ) → c ≡ true → 1 ≡ (if c then 1 else x)
one_is true x e = refl
one_is false x e = absurd (cc)

not_none : suc zero ≢ zero
not_none e = absurd (cc)

pub byte_passed : {b : ℕ} {bytes rest : List ℕ} → bytes ≡ b ∷ rest → is_name_byte b ≡ true → (name_rest bytes ≡ name_rest rest) × (length rest < length bytes)
unfolding name_size
byte_passed {b} {bytes} {rest} e h = rw e (passed_more (λ more. name_size more) (b ∷ rest) rest 1 refl (one_is (is_name_byte b) _ h) not_none refl)

pub nothing_passed : {bytes : List ℕ} → name_size bytes ≡ 0 → name_rest bytes ≡ bytes
nothing_passed {bytes} e = passed_none (λ more. name_size more) bytes e
