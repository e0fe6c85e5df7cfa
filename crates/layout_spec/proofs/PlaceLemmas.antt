-- What stands among the places of a referrer, and in which order.
use Rattle.std.proofs.Common.{refl, sym, ap, ◌∙◌, subst, arith}
use Rattle.std.proofs.lemmas.Bool.{cases_Bool, cond-true, cond-false, and_parts, and_from, cases_eq}
use Rattle.std.proofs.lemmas.List.{take-take, length-take-le}
use Rattle.std.proofs.lemmas.List.Elements.{Contains-append_left, Contains-append_right, Contains-append_cases}
use Rattle.std.proofs.lemmas.Slice.Eq.{bytes_eq-Decides}
use Rattle.std.specs.Prelude.{◌≡◌, ◌⊎◌, ℕ, zero, suc, ◌<◌, ◌≤◌, true, List, [], ◌∷◌, ◌++◌, length, take, Option, Some, Contains}
use mathlib.Core.Logic.{inl, inr}
use Rattle.url_spec.specs.Parsing.{IsUrl, is_text, parse_alone}
use Rattle.url_spec.proofs.KeptUrls.{text_by_test}
use Rattle.layout_spec.proofs.Contained.{contains_cases, contains_none, contains_here, contains_there}
use Rattle.layout_spec.specs.Laws.{PlacesByCases, PlacesShrink}
use Rattle.layout_spec.specs.Places.{is_folder, folders, above, places, IsShorterFront, IsFolder, IsPlace, is_referrer, is_above, is_top, AreShrinking}

-- ---- folders

url_test : (text : List ℕ) (found : Option (List ℕ)) → found ≡ Some text → is_text text found ≡ true
url_test text found e = subst (λ o. is_text text o ≡ true) (sym e) ((bytes_eq-Decides text text).1 refl)

pub folder_from_test : (text : List ℕ) → is_folder text ≡ true → IsFolder text
folder_from_test text e = let parts = and_parts _ _ e in record { slash = parts.0; url = text_by_test text (parse_alone text) parts.1 }

pub folder_test : (text : List ℕ) → IsFolder text → is_folder text ≡ true
folder_test text f = and_from _ _ f.slash (url_test text (parse_alone text) f.url)

-- ---- what stands above a text

-- the empty text is of size 0, and any other is a folder
pub record IsAbove (text place : List ℕ) : Type 0 where
  pub front : IsShorterFront text place
  pub folder : (front.size ≡ 0) ⊎ IsFolder place

among_folders : (text : List ℕ) (n : ℕ) (place : List ℕ) → n < length text → Contains (folders text n) place → (above : IsAbove text place) × (above.front.size ≤ n)
among_folders text zero place l c = absurd (contains_none place c)
among_folders text (suc n) place l c =
    elim (cases_Bool (is_folder (take (suc n) text))) [
      | inr other ↦ later (among_folders text n place (omega arith) (subst (λ ps. Contains ps place) (cond-false _ _ _ other) c))
      | inl is ↦ elim (contains_cases place (take (suc n) text) (folders text n) (subst (λ ps. Contains ps place) (cond-true _ _ _ is) c)) [
        | inl same ↦ (record { front = record { size = suc n; shorter = l; is_front = sym same }; folder = inr (subst IsFolder same (folder_from_test (take (suc n) text) is)) }, omega arith)
        | inr more ↦ later (among_folders text n place (omega arith) more)
      ]
    ]
  where
    later : (above : IsAbove text place) × (above.front.size ≤ n) → (above : IsAbove text place) × (above.front.size ≤ suc n)
    later found = (found.0, (let within = found.1 in omega arith))

-- the top level stands behind the folders
above_within : (text : List ℕ) (n : ℕ) (place : List ℕ) → n < length text → Contains (folders text n ++ [] ∷ []) place → (above : IsAbove text place) × (above.front.size ≤ n)
above_within text n place l c = elim (Contains-append_cases (folders text n) ([] ∷ []) place c) [
  | inl inside ↦ among_folders text n place l inside
  | inr last ↦ elim (contains_cases place [] [] last) [
    | inl same ↦ (record { front = record { size = 0; shorter = omega arith; is_front = sym same }; folder = inl refl }, omega arith)
    | inr none ↦ absurd (contains_none place none)
  ]
]

pub above_is : (text place : List ℕ) → Contains (above text) place → IsAbove text place
above_is [] place c = absurd (contains_none place c)
above_is (b ∷ rest) place c = (above_within (b ∷ rest) (length rest) place (omega arith) c).0

in_folders : (text : List ℕ) (n k : ℕ) → 0 < k → k ≤ n → IsFolder (take k text) → Contains (folders text n) (take k text)
in_folders text zero k p l f = absurd (omega arith)
in_folders text (suc n) k p l f =
    elim (cases_eq k (suc n)) [
      | inl same ↦ subst (λ j. Contains (folders text (suc n)) (take j text)) (sym same)
          (subst (λ ps. Contains ps (take (suc n) text)) (sym (cond-true _ _ _ (folder_test (take (suc n) text) (subst (λ j. IsFolder (take j text)) same f)))) (contains_here (take (suc n) text) (folders text n)))
      | inr other ↦ either (in_folders text n k p (omega arith) f)
    ]
  where
    either : Contains (folders text n) (take k text) → Contains (folders text (suc n)) (take k text)
    either c = elim (cases_Bool (is_folder (take (suc n) text))) [
      | inl is ↦ subst (λ ps. Contains ps (take k text)) (sym (cond-true _ _ _ is)) (contains_there (take k text) (take (suc n) text) (folders text n) c)
      | inr not_one ↦ subst (λ ps. Contains ps (take k text)) (sym (cond-false _ _ _ not_one)) c
    ]

top_above : (b : ℕ) (rest : List ℕ) → Contains (above (b ∷ rest)) []
top_above b rest = Contains-append_right (folders (b ∷ rest) (length rest)) ([] ∷ []) [] (contains_here [] [])

pub above_from : (text place : List ℕ) → IsAbove text place → Contains (above text) place
above_from [] place a = absurd (let l = a.front.shorter in omega arith)
above_from (b ∷ rest) place a =
    subst (Contains (above (b ∷ rest))) (sym a.front.is_front)
    (elim (cases_eq a.front.size 0) [
      | inl none ↦ subst (λ k. Contains (above (b ∷ rest)) (take k (b ∷ rest))) (sym none) (top_above b rest)
      | inr some ↦ Contains-append_left (folders (b ∷ rest) (length rest)) ([] ∷ []) (take a.front.size (b ∷ rest))
          (in_folders (b ∷ rest) (length rest) a.front.size (omega arith) (let l = a.front.shorter in omega arith) (elim a.folder [
            | inl none ↦ absurd (some none)
            | inr f ↦ subst IsFolder a.front.is_front f
          ]))
    ])

-- ---- places

from_above : (referrer place : List ℕ) → IsAbove referrer place → IsPlace referrer place
from_above referrer place a = elim a.folder [
  | inl none ↦ is_top (a.front.is_front ∙ ap (λ k. take k referrer) none)
  | inr f ↦ is_above a.front f
]

pub place_is : (referrer place : List ℕ) → Contains (places referrer) place → IsPlace referrer place
place_is referrer place c = elim (contains_cases place referrer (above referrer) c) [
  | inl same ↦ is_referrer (sym same)
  | inr higher ↦ from_above referrer place (above_is referrer place higher)
]

pub top_place : (referrer : List ℕ) → Contains (places referrer) []
top_place [] = contains_here [] (above [])
top_place (b ∷ rest) = contains_there [] (b ∷ rest) (above (b ∷ rest)) (top_above b rest)

place_from : (referrer place : List ℕ) → IsPlace referrer place → Contains (places referrer) place
place_from referrer place (is_referrer same) = subst (Contains (places referrer)) (sym same) (contains_here referrer (above referrer))
place_from referrer place (is_above front folder) = contains_there place referrer (above referrer) (above_from referrer place (record { front = front; folder = inr folder }))
place_from referrer place (is_top same) = subst (Contains (places referrer)) (sym same) (top_place referrer)

pub places_by_cases : PlacesByCases
places_by_cases referrer place = (place_is referrer place, place_from referrer place)

-- a place of a referrer is empty, or a URL as the referrer is
pub place_url : (referrer place : List ℕ) → IsUrl referrer → Contains (places referrer) place → IsUrl place ⊎ (place ≡ [])
place_url referrer place is c = by (place_is referrer place c)
  where
    by : IsPlace referrer place → IsUrl place ⊎ (place ≡ [])
    by (is_referrer same) = inl (subst IsUrl (sym same) is)
    by (is_above front folder) = inl folder.url
    by (is_top same) = inr same

-- ---- the order

shrinking_folders : (text : List ℕ) (n : ℕ) → n < length text → AreShrinking (folders text n ++ [] ∷ [])
shrinking_folders text zero l = ((λ front c. absurd (contains_none front c)), tt)
shrinking_folders text (suc n) l =
    elim (cases_Bool (is_folder (take (suc n) text))) [
      | inr other ↦ subst (λ ps. AreShrinking (ps ++ [] ∷ [])) (sym (cond-false _ _ _ other)) (shrinking_folders text n (omega arith))
      | inl is ↦ subst (λ ps. AreShrinking (ps ++ [] ∷ [])) (sym (cond-true _ _ _ is)) (shorter, shrinking_folders text n (omega arith))
    ]
  where
    shorter : (front : List ℕ) → Contains (folders text n ++ [] ∷ []) front → IsShorterFront (take (suc n) text) front
    shorter front c =
        let found = above_within text n front (omega arith) c in
        let within = found.1 in
        let long = length-take-le (suc n) text (omega arith) in
        record { size = found.0.front.size; shorter = omega arith; is_front = found.0.front.is_front ∙ sym (take-take found.0.front.size (suc n) text (omega arith)) }

shrinking_above : (text : List ℕ) → AreShrinking (above text)
shrinking_above [] = tt
shrinking_above (b ∷ rest) = shrinking_folders (b ∷ rest) (length rest) (omega arith)

pub places_shrink : PlacesShrink
places_shrink referrer = ((λ front c. (above_is referrer front c).front), shrinking_above referrer)
