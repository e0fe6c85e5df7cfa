-- The places of a referrer are put on a list one after another.
use Rattle.std.proofs.Common.{◌≡◌, ℕ, zero, suc, ◌-◌, ◌<◌, ◌≤◌, List, [], ◌∷◌, ◌++◌, length, take, sym, ap, ◌∙◌, arith, append_assoc, append-nil}
use Rattle.std.specs.Prelude.{if◌then◌else◌}
use Rattle.std.proofs.lemmas.Bool.{cases_Bool, cond-true, cond-false}
use Rattle.std.proofs.lemmas.Option.{none-some}
use mathlib.Core.Logic.{inl, inr}
use Rattle.url_spec.proofs.NoUrls.{no_urls}
use Rattle.url_spec.specs.Parsing.{IsUrl}
use Rattle.layout_spec.specs.Places.{is_folder, folders, places}

one_front : (text : List ℕ) (before after : List (List ℕ)) (n : ℕ) → after ≡ (if is_folder (take (suc n) text) then before ++ take (suc n) text ∷ [] else before) → after ++ folders text n ≡ before ++ folders text (suc n)
one_front text before after n pushed =
    elim (cases_Bool (is_folder (take (suc n) text))) [
      | inl is ↦ ap (λ ps. ps ++ folders text n) (pushed ∙ cond-true _ _ _ is)
          ∙ (append_assoc before (take (suc n) text ∷ []) (folders text n) ∙ ap (λ ps. before ++ ps) (sym (cond-true _ _ _ is)))
      | inr other ↦ ap (λ ps. ps ++ folders text n) (pushed ∙ cond-false _ _ _ other) ∙ ap (λ ps. before ++ ps) (sym (cond-false _ _ _ other))
    ]

pub front_pushed : (text front : List ℕ) (before after all : List (List ℕ)) (n : ℕ) → 0 < n → front ≡ take (n - 0) text → after ≡ (if is_folder front then before ++ front ∷ [] else before) → before ++ folders text n ≡ all → after ++ folders text (n - 1) ≡ all
front_pushed text front before after all zero some is pushed left = absurd (omega arith)
front_pushed text front before after all (suc n) some is pushed left =
    let whole : suc n - 0 ≡ suc n = omega arith in
    let less : suc n - 1 ≡ n = omega arith in
    let here : front ≡ take (suc n) text = is ∙ ap (λ k. take k text) whole in
    ap (λ k. after ++ folders text k) less
    ∙ (one_front text before after n (pushed ∙ ap (λ f. if is_folder f then before ++ f ∷ [] else before) here) ∙ left)

pub all_pushed : (text : List ℕ) (before after : List (List ℕ)) (size : ℕ) → IsUrl text → size ≤ 0 → before ++ folders text size ≡ text ∷ folders text (length text - 1) → after ≡ before ++ [] ∷ [] → after ≡ places text
all_pushed [] before after size is none left pushed = absurd (none-some [] (sym no_urls.1 ∙ is))
all_pushed (b ∷ rest) before after size is none left pushed =
    let zero_size : size ≡ 0 = omega arith in
    let shorter : length (b ∷ rest) - 1 ≡ length rest = omega arith in
    let done : before ≡ (b ∷ rest) ∷ folders (b ∷ rest) (length rest) =
    sym (append-nil before) ∙ (ap (λ k. before ++ folders (b ∷ rest) k) (sym zero_size) ∙ (left ∙ ap (λ k. (b ∷ rest) ∷ folders (b ∷ rest) k) shorter)) in
    pushed ∙ ap (λ ps. ps ++ [] ∷ []) done
