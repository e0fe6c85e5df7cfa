-- The places of a referrer stand one above the other.
use Rattle.std.proofs.Common.{refl, sym, ap, ◌∙◌, subst, arith}
use Rattle.std.proofs.lemmas.Bool.{cases_Bool, cases_order, cond-true, cond-false}
use Rattle.std.proofs.lemmas.List.{take-take, length-take-le}
use Rattle.std.proofs.lemmas.Option.{same_Some, none-some}
use Rattle.std.specs.Prelude.{◌≡◌, ◌⊎◌, ℕ, zero, suc, ◌<◌, ◌≤◌, List, [], ◌∷◌, ◌++◌, length, take, Some, if◌then◌else◌, Contains, ⊤}
use mathlib.Core.Logic.{inl, inr}
use Rattle.layout_spec.proofs.Contained.{contains_here, contains_there, contains_cases, contains_none}
use Rattle.layout_spec.proofs.PlaceLemmas.{IsAbove, above_is, above_from}
use Rattle.layout_spec.specs.Laws.{PlacesNest}
use Rattle.layout_spec.specs.Places.{is_folder, folders, above, places, longest, place_above}

same_folders : (text : List ℕ) (m n : ℕ) → n ≤ m → folders (take m text) n ≡ folders text n
same_folders text m zero l = refl
same_folders text m (suc n) l =
    (λ i. if is_folder (take-take (suc n) m text l i) then take-take (suc n) m text l i ∷ folders (take m text) n else folders (take m text) n)
    ∙ ap (λ (ps : List (List ℕ)). if is_folder (take (suc n) text) then take (suc n) text ∷ ps else ps) (same_folders text m n (omega arith))

-- behind each place stand those above it
abbrev pub Nested : List (List ℕ) → Type 0
Nested [] = ⊤
Nested (place ∷ more) = (more ≡ above place) × Nested more

above_front : (b : ℕ) (rest : List ℕ) (n : ℕ) → n ≤ length rest → folders (b ∷ rest) n ++ [] ∷ [] ≡ above (take (suc n) (b ∷ rest))
above_front b rest n l = sym (ap (λ k. folders (b ∷ take n rest) k ++ [] ∷ []) (length-take-le n rest l) ∙ ap (λ ps. ps ++ [] ∷ []) (same_folders (b ∷ rest) (suc n) n (omega arith)))

nested_folders : (b : ℕ) (rest : List ℕ) (n : ℕ) → n ≤ length rest → Nested (folders (b ∷ rest) n ++ [] ∷ [])
nested_folders b rest zero l = (refl, tt)
nested_folders b rest (suc n) l =
    elim (cases_Bool (is_folder (take (suc n) (b ∷ rest)))) [
      | inl is ↦ subst (λ ps. Nested (ps ++ [] ∷ [])) (sym (cond-true _ _ _ is)) (above_front b rest n (omega arith), nested_folders b rest n (omega arith))
      | inr other ↦ subst (λ ps. Nested (ps ++ [] ∷ [])) (sym (cond-false _ _ _ other)) (nested_folders b rest n (omega arith))
    ]

pub nested_above : (text : List ℕ) → Nested (above text)
nested_above [] = tt
nested_above (b ∷ rest) = nested_folders b rest (length rest) (omega arith)

behind : (texts longer shorter : List (List ℕ)) (place : List ℕ) → Nested texts → texts ≡ longer ++ place ∷ shorter → shorter ≡ above place
behind [] [] shorter place nested e = absurd (cc)
behind [] (first ∷ longer) shorter place nested e = absurd (cc)
behind (text ∷ more) [] shorter place nested e =
    let head : text ≡ place = cc in
    let tail : more ≡ shorter = cc in
    sym tail ∙ (nested.0 ∙ ap above head)
behind (text ∷ more) (first ∷ longer) shorter place nested e =
    let tail : more ≡ longer ++ place ∷ shorter = cc in
    behind more longer shorter place nested.1 tail

pub places_nest : PlacesNest
places_nest referrer place longer shorter e = behind (places referrer) longer shorter place (refl, nested_above referrer) e

-- ---- what stands above what

above_above : (text place higher : List ℕ) → Contains (above text) place → Contains (above place) higher → Contains (above text) higher
above_above text place higher c d =
    let a = (above_is text place c).front in
    let b = above_is place higher d in
    let size : length place ≡ a.size = ap length a.is_front ∙ length-take-le a.size text (let l = a.shorter in omega arith) in
    above_from text higher (record {
      front = record {
        size = b.front.size;
        shorter = (let l = a.shorter in let m = b.front.shorter in omega arith);
        is_front = b.front.is_front ∙ (ap (take b.front.size) a.is_front ∙ take-take b.front.size a.size text (let m = b.front.shorter in omega arith));
      };
      folder = b.folder;
    })

-- what is above a place of a referrer is above the referrer
pub higher_above : (referrer place higher : List ℕ) → Contains (places referrer) place → Contains (above place) higher → Contains (above referrer) higher
higher_above referrer place higher c d = elim (contains_cases place referrer (above referrer) c) [
  | inl is ↦ subst (λ p. Contains (above p) higher) (sym is) d
  | inr a ↦ above_above referrer place higher a d
]

-- so it is a place of it too
pub higher_place : (referrer place higher : List ℕ) → Contains (places referrer) place → Contains (above place) higher → Contains (places referrer) higher
higher_place referrer place higher c d = contains_there higher referrer (above referrer) (higher_above referrer place higher c d)

-- the longest of them is the place above
longest_is : (texts : List (List ℕ)) (text : List ℕ) → longest texts ≡ Some text → Contains texts text
longest_is [] text e = absurd (none-some text e)
longest_is (first ∷ more) text e = subst (Contains (first ∷ more)) (same_Some first text e) (contains_here first more)

pub above_place : (place higher : List ℕ) → place_above place ≡ Some higher → Contains (above place) higher
above_place place higher e = longest_is (above place) higher e

-- a place that has one above it has a place above, which is that one or has it above
pub record IsNext (place higher : List ℕ) : Type 0 where
  pub next : List ℕ
  pub is_next : place_above place ≡ Some next
  pub reaches : (next ≡ higher) ⊎ Contains (above next) higher

pub next_above : (place higher : List ℕ) → Contains (above place) higher → IsNext place higher
next_above place higher c = by (above place) refl c
  where
    by : (texts : List (List ℕ)) → above place ≡ texts → Contains texts higher → IsNext place higher
    by [] e d = absurd (contains_none higher d)
    by (first ∷ more) e d = record {
      next = first;
      is_next = ap longest e;
      reaches = elim (contains_cases higher first more d) [
        | inl same ↦ inl same
        | inr later ↦ inr (subst (λ ps. Contains ps higher) (subst Nested e (nested_above place)).0 later)
      ];
    }

pub data Order (one other : List ℕ) : Type 0 where
  is_level : one ≡ other → Order one other
  is_higher : Contains (above other) one → Order one other
  is_lower : Contains (above one) other → Order one other

higher_of : (text one other : List ℕ) (a : IsAbove text one) (b : IsAbove text other) → a.front.size < b.front.size → Contains (above other) one
higher_of text one other a b l =
    let n : length other ≡ b.front.size = ap length b.front.is_front ∙ length-take-le b.front.size text (let m = b.front.shorter in omega arith) in
    above_from other one (record {
      front = record {
        size = a.front.size;
        shorter = omega arith;
        is_front = a.front.is_front ∙ (sym (take-take a.front.size b.front.size text (omega arith)) ∙ ap (take a.front.size) (sym b.front.is_front));
      };
      folder = a.folder;
    })

-- of two places of a referrer one is above the other, or they are one
pub order_of : (referrer one other : List ℕ) → Contains (places referrer) one → Contains (places referrer) other → Order one other
order_of referrer one other c d = elim (contains_cases one referrer (above referrer) c) [
  | inl is ↦ elim (contains_cases other referrer (above referrer) d) [
    | inl too ↦ is_level (sym is ∙ too)
    | inr b ↦ is_lower (subst (λ p. Contains (above p) other) is b)
  ]
  | inr a ↦ elim (contains_cases other referrer (above referrer) d) [
    | inl is ↦ is_higher (subst (λ p. Contains (above p) one) is a)
    | inr b ↦
        let x = above_is referrer one a in
        let y = above_is referrer other b in
        elim (cases_order x.front.size y.front.size) [
          | inl e ↦ is_level (x.front.is_front ∙ (ap (λ k. take k referrer) e ∙ sym y.front.is_front))
          | inr apart ↦ elim apart [
            | inl l ↦ is_higher (higher_of referrer one other x y l)
            | inr l ↦ is_lower (higher_of referrer other one y x l)
          ]
        ]
  ]
]
