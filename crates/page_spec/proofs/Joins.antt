-- Text and raw text end at the same place where other bytes stand behind it that end them as well.
use Rattle.std.specs.Char.{to_ascii_lowercase}
use Rattle.std.specs.Prelude.{◌&&◌, is_some, option_map}
use Rattle.std.proofs.Common.{◌≡◌, ℕ, List, [], ◌∷◌, ◌++◌, Bool, true, false, ◌==◌, Some, if◌then◌else◌, refl, ap}
use Rattle.std.proofs.lemmas.Option.{same_Some}
use Rattle.std.proofs.lemmas.List.{append_cancel_right}
use Rattle.page_spec.specs.declared.kinds.RawElement.{RawElement}
use Rattle.page_spec.specs.Pieces.{opening, ends_name, tag_name, is_name, name_of, closes, behind_raw, ends_text, behind_text}

-- text ends before either of the two
pub data Joins : List ℕ → List ℕ → Type 0 where
  page_ends : Joins [] []
  markup_comes : {x y : List ℕ} → ends_text (60 ∷ x) ≡ true → ends_text (60 ∷ y) ≡ true → Joins (60 ∷ x) (60 ∷ y)

opening_joined : (u r s : List ℕ) → Joins r s → opening (u ++ r) ≡ opening (u ++ s)
opening_joined u r s page_ends = refl
opening_joined [] r s (markup_comes a b) = refl
opening_joined (a ∷ []) r s (markup_comes m n) = refl
opening_joined (a ∷ c ∷ u) r s (markup_comes m n) = refl

pub ends_text_joined : (b : ℕ) (u r s : List ℕ) → Joins r s → ends_text (b ∷ (u ++ r)) ≡ ends_text (b ∷ (u ++ s))
ends_text_joined b u r s j = ap (λ o. b == 60 && is_some o) (opening_joined u r s j)

longer_differs : (b : ℕ) (u r : List ℕ) → b ∷ (u ++ r) ≡ r → ⊥
longer_differs b u r e = absurd (let p : b ∷ u ≡ [] = append_cancel_right (b ∷ u) [] r e in cc)

text_by : (c : Bool) (b : ℕ) (u r s : List ℕ) → (if c then b ∷ (u ++ r) else behind_text (u ++ r)) ≡ r → (behind_text (u ++ r) ≡ r → behind_text (u ++ s) ≡ s) → (if c then b ∷ (u ++ s) else behind_text (u ++ s)) ≡ s
text_by true b u r s e go = absurd (longer_differs b u r e)
text_by false b u r s e go = go e

text_stays : (r s : List ℕ) → Joins r s → behind_text s ≡ s
text_stays r s page_ends = refl
text_stays r s (markup_comes m n) = rw n refl

pub text_moved : (u r s : List ℕ) → Joins r s → behind_text (u ++ r) ≡ r → behind_text (u ++ s) ≡ s
text_moved [] r s j e = text_stays r s j
text_moved (b ∷ u) r s j e = text_by (ends_text (b ∷ (u ++ s))) b u r s (rw (← ends_text_joined b u r s j) e) (λ f. text_moved u r s j f)

-- raw text of the element ends before either of the two
pub data RawJoins (element : RawElement) : List ℕ → List ℕ → Type 0 where
  end_tags : {x y : List ℕ} → closes element (60 ∷ 47 ∷ x) ≡ true → closes element (60 ∷ 47 ∷ y) ≡ true → RawJoins element (60 ∷ 47 ∷ x) (60 ∷ 47 ∷ y)

name_joined : (v x y : List ℕ) → tag_name (v ++ 60 ∷ 47 ∷ x) ≡ tag_name (v ++ 60 ∷ 47 ∷ y)
name_joined [] x y = refl
name_joined (b ∷ v) x y = ap (λ n. if ends_name b then Some [] else option_map (λ name. to_ascii_lowercase b ∷ name) n) (name_joined v x y)

closes_joined : (element : RawElement) (b : ℕ) (u x y : List ℕ) → closes element (b ∷ (u ++ 60 ∷ 47 ∷ x)) ≡ closes element (b ∷ (u ++ 60 ∷ 47 ∷ y))
closes_joined element b [] x y = refl
closes_joined element b (c ∷ v) x y = ap (λ n. b == 60 && c == 47 && is_name (name_of element) n) (name_joined v x y)

raw_by : (element : RawElement) (c : Bool) (b : ℕ) (u r s : List ℕ) → (if c then Some (b ∷ (u ++ r)) else behind_raw element (u ++ r)) ≡ Some r → (behind_raw element (u ++ r) ≡ Some r → behind_raw element (u ++ s) ≡ Some s) → (if c then Some (b ∷ (u ++ s)) else behind_raw element (u ++ s)) ≡ Some s
raw_by element true b u r s e go = absurd (longer_differs b u r (same_Some _ _ e))
raw_by element false b u r s e go = go e

pub raw_moved : (element : RawElement) (u r s : List ℕ) → RawJoins element r s → behind_raw element (u ++ r) ≡ Some r → behind_raw element (u ++ s) ≡ Some s
raw_moved element [] r s (end_tags m n) e = rw n refl
raw_moved element (b ∷ u) r s (end_tags {x} {y} m n) e =
    raw_by element (closes element (b ∷ (u ++ 60 ∷ 47 ∷ y))) b u (60 ∷ 47 ∷ x) (60 ∷ 47 ∷ y) (rw (← closes_joined element b u x y) e) (λ f. raw_moved element u (60 ∷ 47 ∷ x) (60 ∷ 47 ∷ y) (end_tags m n) f)
