-- Hexadecimal digits, four at a time.
use Rattle.std.specs.Prelude.{◌≡◌, ℕ, ◌+◌, ◌*◌, List}
use Rattle.std.proofs.Common.{ap, ◌∙◌, arith}
use Rattle.json_spec.specs.Taken.{taken, refused}
use Rattle.json_spec.specs.Strings.{four_digits}
use Rattle.ordered_json.specs.Scanned.{IsDigit, IsNoDigit}

pub no_first : (bytes : List ℕ) → IsNoDigit bytes → four_digits bytes ≡ refused tt
no_first bytes n = n.stops 3 0

module _ (bytes after1 : List ℕ) (a : ℕ) (first : IsDigit bytes a after1) where
  pub no_second : IsNoDigit after1 → four_digits bytes ≡ refused tt
  no_second n = first.next 3 0 ∙ n.stops 2 (0 * 16 + a)

  module _ (after2 : List ℕ) (b : ℕ) (second : IsDigit after1 b after2) where
    pub no_third : IsNoDigit after2 → four_digits bytes ≡ refused tt
    no_third n = first.next 3 0 ∙ (second.next 2 (0 * 16 + a) ∙ n.stops 1 ((0 * 16 + a) * 16 + b))

    module _ (after3 : List ℕ) (d : ℕ) (third : IsDigit after2 d after3) where
      pub no_fourth : IsNoDigit after3 → four_digits bytes ≡ refused tt
      no_fourth n = first.next 3 0 ∙ (second.next 2 (0 * 16 + a) ∙ (third.next 1 ((0 * 16 + a) * 16 + b) ∙ n.stops 0 (((0 * 16 + a) * 16 + b) * 16 + d)))

      pub all_four : (after4 : List ℕ) (e : ℕ) → IsDigit after3 e after4 → four_digits bytes ≡ taken (((a * 16 + b) * 16 + d) * 16 + e) after4
      all_four after4 e fourth =
          first.next 3 0 ∙ (second.next 2 (0 * 16 + a) ∙ (third.next 1 ((0 * 16 + a) * 16 + b) ∙ (fourth.next 0 (((0 * 16 + a) * 16 + b) * 16 + d)
          ∙ ap (λ n. taken n after4) (omega arith))))
