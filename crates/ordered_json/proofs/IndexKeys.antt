-- The steps of the reader of an array index.
use Rattle.std.proofs.Common.{◌≡◌, ◌<◌, ◌≤◌, ◌+◌, ◌*◌, ◌-◌, ◌&&◌, ℕ, true, false, List, [], ◌∷◌, sym, ap, subst, ◌∙◌, arith}
use Rattle.std.specs.Prelude.{nat_le}
use Rattle.std.specs.List.{list_all}
use Rattle.std.specs.Char.{is_ascii_digit}
use Rattle.std.proofs.lemmas.Bool.Decides.{nat_tests}
use Rattle.json_spec.specs.PropertyOrder.{number_behind, number_of, has_no_leading_zero, is_array_index}

-- what is behind a place says what the whole key does
pub record StandsFor (key rest : List ℕ) (number : ℕ) : Type 0 where
  pub digits : list_all is_ascii_digit rest ≡ list_all is_ascii_digit key
  pub value : number_behind number rest ≡ number_behind 0 key
  pub small : number ≤ 4294967294

grows : (n : ℕ) (rest : List ℕ) → n ≤ number_behind n rest
grows n [] = omega arith
grows n (b ∷ rest) = omega (arith, grows (n * 10 + (b - 48)) rest)

pub no_index : (key : List ℕ) → has_no_leading_zero key ≡ false → is_array_index key ≡ false
unfolding is_array_index
no_index key e = grind (arith, e)

pub not_a_digit : (key rest : List ℕ) (b : ℕ) (more : List ℕ) (number : ℕ) → StandsFor key rest number → rest ≡ b ∷ more → is_ascii_digit b ≡ false → is_array_index key ≡ false
unfolding is_array_index
not_a_digit key rest b more number stands split other =
    let none : list_all is_ascii_digit key ≡ false = sym stands.digits ∙ (ap (list_all is_ascii_digit) split ∙ ap (λ t. t && list_all is_ascii_digit more) other) in
    ap (λ t. t && (has_no_leading_zero key && nat_le (number_behind 0 key) 4294967294)) none

pub too_great : (key rest : List ℕ) (b : ℕ) (more : List ℕ) (number : ℕ) → StandsFor key rest number → rest ≡ b ∷ more → 4294967294 < number * 10 + (b - 48) → is_array_index key ≡ false
unfolding is_array_index
too_great key rest b more number stands split large =
    let whole : number_behind (number * 10 + (b - 48)) more ≡ number_behind 0 key = ap (number_behind number) (sym split) ∙ stands.value in
    let past : 4294967294 < number_behind 0 key = omega (arith, whole, grows (number * 10 + (b - 48)) more) in
    let test : nat_le (number_behind 0 key) 4294967294 ≡ false = grind (arith, nat_tests) in
    grind (arith, test)

pub next_digit : (key rest : List ℕ) (b : ℕ) (more : List ℕ) (number : ℕ) → StandsFor key rest number → rest ≡ b ∷ more → is_ascii_digit b ≡ true → number * 10 + (b - 48) ≤ 4294967294 → StandsFor key more (number * 10 + (b - 48))
next_digit key rest b more number stands split digit small =
    record {
      digits = ap (λ t. t && list_all is_ascii_digit more) (sym digit) ∙ (ap (list_all is_ascii_digit) (sym split) ∙ stands.digits);
      value = ap (number_behind number) (sym split) ∙ stands.value;
      small = small;
    }

pub an_index : (key rest : List ℕ) (number : ℕ) → StandsFor key rest number → rest ≡ [] → has_no_leading_zero key ≡ true → (is_array_index key ≡ true) × (number ≡ number_of key)
unfolding is_array_index
an_index key rest number stands none first =
    let digits : list_all is_ascii_digit key ≡ true = sym stands.digits ∙ ap (list_all is_ascii_digit) none in
    let value : number ≡ number_behind 0 key = ap (number_behind number) (sym none) ∙ stands.value in
    let test : nat_le (number_behind 0 key) 4294967294 ≡ true = subst (λ n. nat_le n 4294967294 ≡ true) value (grind (arith, nat_tests, stands.small)) in
    (grind (arith, digits, first, test), value)
