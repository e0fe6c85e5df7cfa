-- A map of ASCII bytes without `<` is plain, which is seen by computation.
use Rattle.std.specs.Prelude.{IsUtf8, not, nat_lt}
use Rattle.std.proofs.Common.{rules, ◌≡◌, ℕ, ◌<◌, List, [], ◌∷◌, Bool, true, false, ◌==◌, ◌&&◌, subst, arith}
use Rattle.std.proofs.lemmas.Bool.{and_parts}
use Rattle.std.proofs.lemmas.Bool.Decides.{nat_tests}
use Rattle.std.proofs.lemmas.List.Elements.{All-nil, All-cons}
use Rattle.std.proofs.lemmas.Str.{IsUtf8-nil, IsUtf8-append, IsUtf8-encode, encode_ascii}
use Rattle.page_spec.specs.Laws.{IsPlainMap}

abbrev pub is_plain_byte : ℕ → Bool
is_plain_byte b = nat_lt b 128 && not (b == 60)

abbrev pub is_plain : List ℕ → Bool
is_plain [] = true
is_plain (b ∷ text) = is_plain_byte b && is_plain text

one_byte : (b : ℕ) → b < 128 → IsUtf8 (b ∷ [])
one_byte b l = subst IsUtf8 (encode_ascii b l) (IsUtf8-encode b (search (rules, arith, l)))

pub plain_map : (text : List ℕ) → is_plain text ≡ true → IsPlainMap text
plain_map [] e = record { utf8 = IsUtf8-nil; no_markup = All-nil (λ b. (b == 60) ≡ false) }
plain_map (b ∷ text) e =
    let p = and_parts (is_plain_byte b) (is_plain text) e in
    let q = and_parts (nat_lt b 128) (not (b == 60)) p.0 in
    let rest = plain_map text p.1 in
    record { utf8 = IsUtf8-append (b ∷ []) text (one_byte b (below b q.0)) rest.utf8; no_markup = All-cons (λ b. (b == 60) ≡ false) b text (other b q.1) rest.no_markup } where
      below : (b : ℕ) → nat_lt b 128 ≡ true → b < 128
      below b e = grind (arith, nat_tests)

      other : (b : ℕ) → not (b == 60) ≡ true → (b == 60) ≡ false
      other b e = grind (arith, nat_tests)
