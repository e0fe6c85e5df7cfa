-- What is put into a table of right answers leaves it right.
--     put_right            one answer more, or none
--     one_request          two requests that the test takes for one are one
--     one_more             one name more
--     name_differs, same_more      a name that differs, and one that is the same
use Rattle.std.proofs.Common.{◌≡◌, ◌+◌, ◌<◌, ℕ, length, Bool, true, false, List, [], ◌∷◌, ◌++◌, take, Option, Some, Result, Ok, Err, refl, sym, ap, ◌∙◌, subst}
use Rattle.std.specs.Prelude.{bytes_eq, ◌&&◌, if◌then◌else◌, OnOk, OnErr, slice_get, unwrap_or}
use Rattle.std.specs.Bool.{Decides}
use Rattle.std.proofs.lemmas.List.{take_more, take_more_same}
use Rattle.std.proofs.lemmas.Option.{slice_get_within, get_or_from_slice_get, unwrap_or-slice_get}
use Rattle.std.proofs.lemmas.Slice.Eq.{bytes_eq-Decides}
use Rattle.kept_answers.specs.Entries.{Request, is_request}

module _ {K V : Type 0} (P : K → V → Type 0) (test : K → K → Bool) where
  abbrev pub AreIn : (K → Option V) → Type 0
  AreIn table = (key : K) (kept : V) → table key ≡ Some kept → P key kept

  put_by : (key other : K) (value kept : V) (old : Option V) (same : Bool) → (same ≡ true → key ≡ other)
      → P key value → (old ≡ Some kept → P other kept) → (if same then Some value else old) ≡ Some kept
      → P other kept
  put_by key other value kept old true one is was e =
      (let here : value ≡ kept = cc in subst (P other) here (subst (λ k. P k value) (one refl) is))
  put_by key other value kept old false one is was e = was e

  put_one : (key : K) (value : V) (old new : K → Option V) → ((other : K) → test key other ≡ true → key ≡ other)
      → ((other : K) → new other ≡ (if test key other then Some value else old other)) → P key value → AreIn old
      → AreIn new
  put_one key value old new one set is are = λ other kept e.
      put_by key other value kept (old other) (test key other) (one other) is (are other kept) (sym (set other) ∙ e)

  pub put_right : {E : Type 0} (key : K) (value : V) (old new : K → Option V) (result : Result (Unit {0}) E)
      → ((other : K) → test key other ≡ true → key ≡ other)
      → OnOk result ((other : K) → new other ≡ (if test key other then Some value else old other))
      → OnErr result ((other : K) → new other ≡ old other) → P key value → AreIn old → AreIn new
  put_right key value old new (Ok unit) one set stays is are = put_one key value old new one set is are
  put_right key value old new (Err fault) one set stays is are = λ other kept e.
      are other kept (sym (stays other) ∙ e)

-- ---- the two tests

pub one_path : (path other : List ℕ) → bytes_eq path other ≡ true → path ≡ other
one_path path other same = (bytes_eq-Decides path other).0 same

both_by : (a b : Bool) → (a && b) ≡ true → (a ≡ true) × (b ≡ true)
both_by true true e = (refl, refl)
both_by true false e = absurd (cc)
both_by false b e = absurd (cc)

pub one_request : (request other : Request) → is_request request other ≡ true → request ≡ other
one_request request other same =
    let both = both_by (bytes_eq request.parent other.parent) (bytes_eq request.specifier other.specifier) same in
    (λ i. record {
      parent = one_path request.parent other.parent both.0 i;
      specifier = one_path request.specifier other.specifier both.1 i;
    })

-- ---- names, copied one after another

pub one_more : (names all next : List (List ℕ)) (i : ℕ) (copy name : List ℕ) → names ≡ take i all
    → slice_get all i ≡ Some name → copy ≡ name → next ≡ names ++ copy ∷ [] → next ≡ take (i + 1) all
one_more names all next i copy name so_far at same put =
    let step = take_more all i name (slice_get_within all i name at) in
    let here = get_or_from_slice_get all i name name at in
    cc

-- ---- two lists of names

pub name_differs : (names others : List (List ℕ)) (i : ℕ) (same : Bool)
    → Decides same (slice_get names i ≡ slice_get others i) → same ≡ false → Decides false (names ≡ others)
name_differs names others i same decides otherwise = (
  (λ e. absurd (cc)),
  (λ e. let yes = decides.1 (ap (λ ns. slice_get ns i) e) in cc),
)

pub same_more : (names others : List (List ℕ)) (i : ℕ) (same : Bool) → i < length names → i < length others
    → take i names ≡ take i others → Decides same (slice_get names i ≡ slice_get others i) → same ≡ true
    → take (i + 1) names ≡ take (i + 1) others
same_more names others i same short other so_far decides e =
    take_more_same names others i [] short other so_far
    (sym (unwrap_or-slice_get names i [])
    ∙ (ap (λ o. unwrap_or o []) (decides.0 e) ∙ unwrap_or-slice_get others i []))
