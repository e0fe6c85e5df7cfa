-- What is counted by what a look sees.
use Rattle.std.proofs.Common.{◌≡◌, ◌⊎◌, ◌+◌, ◌∷◌, [], ℕ, nat_lt, Bool, true, false, List, length, Option, Some, None, Result, Ok, Err, refl, sym, ap, ◌∙◌, subst, inl, inr}
use Rattle.std.specs.Prelude.{◌||◌, not, if◌then◌else◌, Contains}
use Rattle.std.proofs.lemmas.List.Elements.{Contains-append_cases}
use Rattle.tree_spec.proofs.Contained.{contains_cases, contains_none}
use Rattle.std.proofs.Common.{⊎_elim}
use Rattle.std.proofs.lemmas.Bool.{cond-true, cond-false, cases_Bool}
use Rattle.tree_spec.specs.LookAskings.{is_seen}
use Rattle.tree_spec.specs.LookLimits.{Trail, look_limits, size_at, seen_again, seen_first, counted}
use Rattle.tree_spec.specs.declared.Entry.{Entry}
use Rattle.tree_spec.specs.declared.Entry.TheVariants.{Stored, Directory}
use Rattle.tree_spec.specs.declared.LimitName.{LimitName}
use Rattle.tree_spec.specs.declared.LimitName.TheVariants.{File, Bytes, Looks}
use Rattle.tree_spec.specs.declared.Look.TheVariants as look
use Rattle.package_lookup.specs.declared.held.Seen.{Seen}
use Rattle.package_lookup.specs.declared.held.Seen.TheVariants as seen
use Rattle.package_lookup.specs.SeenLooks.{entry_of, look_seen, within_limit, IsWithin, seen_as}
use Rattle.package_lookup.specs.Responses.{Response, passes, fails, by_limit}
use Rattle.package_lookup.specs.Trails.{has_room}

abbrev passed : (X : Type 0) → LimitName → Response X
passed X which = fails (passes which)

abbrev is_large : Option Entry → Bool
is_large found = nat_lt look_limits.file (size_at found)

-- `counted`, by its tests
abbrev by_tests : Trail → List ℕ → Option Entry → Bool → Bool → Bool → Bool → Result Trail LimitName
by_tests trail path found seen few large heavy =
    if seen then (if large then Err File else Ok (seen_again trail path))
    else if not few then Err Looks else if large then Err File else if heavy then Err Bytes else Ok (seen_first trail path found)

-- ---- a file above the limit

large_by : (trail : Trail) (path : List ℕ) (found : Option Entry) (seen few large heavy : Bool) → large ≡ true
    → (few || seen) ≡ true → by_tests trail path found seen few large heavy ≡ Err File
large_by trail path found true few large heavy e room = cond-true _ _ _ e
large_by trail path found false true large heavy e room = cond-true _ _ _ e
large_by trail path found false false large heavy e room = absurd (cc)

pub counted_large : (trail : Trail) (path : List ℕ) (found : Option Entry) → has_room trail path ≡ true
    → is_large found ≡ true → counted look_limits trail path found ≡ Err File
counted_large trail path found room e =
    large_by trail path found (is_seen path trail.paths) (nat_lt (length trail.paths) look_limits.looks) (is_large found)
    (nat_lt look_limits.bytes (trail.size + size_at found)) e room

-- ---- a path too many

many_by : (trail : Trail) (path : List ℕ) (found : Option Entry) (seen few large heavy : Bool) → (few || seen) ≡ false
    → by_tests trail path found seen few large heavy ≡ Err Looks
many_by trail path found seen true large heavy room = absurd (cc)
many_by trail path found true false large heavy room = absurd (cc)
many_by trail path found false false large heavy room = refl

pub counted_many : (trail : Trail) (path : List ℕ) (found : Option Entry) → has_room trail path ≡ false
    → counted look_limits trail path found ≡ Err Looks
counted_many trail path found room =
    many_by trail path found (is_seen path trail.paths) (nat_lt (length trail.paths) look_limits.looks) (is_large found)
    (nat_lt look_limits.bytes (trail.size + size_at found)) room

room_by : (trail : Trail) (path : List ℕ) (found : Option Entry) (seen few large heavy : Bool) → (few || seen) ≡ true
    → by_tests trail path found seen few large heavy ≡ Err Looks → ⊥
room_by trail path found true few true heavy room e = cc
room_by trail path found true few false heavy room e = cc
room_by trail path found false true true heavy room e = cc
room_by trail path found false true false true room e = cc
room_by trail path found false true false false room e = cc
room_by trail path found false false large heavy room e = cc

pub counted_room : (trail : Trail) (path : List ℕ) (found : Option Entry) → has_room trail path ≡ true
    → counted look_limits trail path found ≡ Err Looks → ⊥
counted_room trail path found room e =
    room_by trail path found (is_seen path trail.paths) (nat_lt (length trail.paths) look_limits.looks) (is_large found)
    (nat_lt look_limits.bytes (trail.size + size_at found)) room e

-- ---- two files above the limit are counted alike

alike_by : (trail : Trail) (path : List ℕ) (found other : Option Entry) (seen few some large heavy loud : Bool)
    → some ≡ true → large ≡ true
    → by_tests trail path found seen few some heavy ≡ by_tests trail path other seen few large loud
alike_by trail path found other true few some large heavy loud e f = cond-true _ _ _ e ∙ sym (cond-true _ _ _ f)
alike_by trail path found other false false some large heavy loud e f = refl
alike_by trail path found other false true some large heavy loud e f = cond-true _ _ _ e ∙ sym (cond-true _ _ _ f)

large_alike : (trail : Trail) (path : List ℕ) (found other : Option Entry) → is_large found ≡ true
    → is_large other ≡ true → counted look_limits trail path found ≡ counted look_limits trail path other
large_alike trail path found other e f =
    alike_by trail path found other (is_seen path trail.paths) (nat_lt (length trail.paths) look_limits.looks)
    (is_large found) (is_large other) (nat_lt look_limits.bytes (trail.size + size_at found))
    (nat_lt look_limits.bytes (trail.size + size_at other)) e f

-- ---- what is counted is within the limit

within_by : (trail after : Trail) (path : List ℕ) (found : Option Entry) (seen few large heavy : Bool)
    → by_tests trail path found seen few large heavy ≡ Ok after → large ≡ false
within_by trail after path found seen few false heavy e = refl
within_by trail after path found true few true heavy e = absurd (cc)
within_by trail after path found false true true heavy e = absurd (cc)
within_by trail after path found false false true heavy e = absurd (cc)

pub counted_within : (trail after : Trail) (path : List ℕ) (found : Option Entry)
    → counted look_limits trail path found ≡ Ok after → is_large found ≡ false
counted_within trail after path found e =
    within_by trail after path found (is_seen path trail.paths) (nat_lt (length trail.paths) look_limits.looks)
    (is_large found) (nat_lt look_limits.bytes (trail.size + size_at found)) e

-- ---- the limits are three

named_by : {X : Type 0} (trail : Trail) (path : List ℕ) (found : Option Entry) (seen few large heavy : Bool)
    (deep : Response X) (which : LimitName) → by_tests trail path found seen few large heavy ≡ Err which
    → by_limit deep which ≡ fails (passes which)
named_by trail path found true few false heavy deep which e = absurd (cc)
named_by {X} trail path found true few true heavy deep which e =
    (let same : File ≡ which = cc in subst (λ w. by_limit deep w ≡ passed X w) same refl)
named_by {X} trail path found false false large heavy deep which e =
    (let same : Looks ≡ which = cc in subst (λ w. by_limit deep w ≡ passed X w) same refl)
named_by {X} trail path found false true true heavy deep which e =
    (let same : File ≡ which = cc in subst (λ w. by_limit deep w ≡ passed X w) same refl)
named_by {X} trail path found false true false true deep which e =
    (let same : Bytes ≡ which = cc in subst (λ w. by_limit deep w ≡ passed X w) same refl)
named_by trail path found false true false false deep which e = absurd (cc)

pub counted_named : {X : Type 0} (trail : Trail) (path : List ℕ) (found : Option Entry) (deep : Response X)
    (which : LimitName) → counted look_limits trail path found ≡ Err which → by_limit deep which ≡ fails (passes which)
counted_named trail path found deep which e =
    named_by trail path found (is_seen path trail.paths) (nat_lt (length trail.paths) look_limits.looks)
    (is_large found) (nat_lt look_limits.bytes (trail.size + size_at found)) deep which e

-- ---- what a look tells of what stands there

large_seen_by : (bytes : List ℕ) (large : Bool) → nat_lt look_limits.file (length bytes) ≡ large
    → (if large then look.TooLarge else look.File bytes) ≡ look.TooLarge → large ≡ true
large_seen_by bytes true e f = refl
large_seen_by bytes false e f = absurd (cc)

pub large_seen : (found : Option Entry) → seen_as found ≡ look.TooLarge → is_large found ≡ true
large_seen None e = absurd (cc)
large_seen (Some Directory) e = absurd (cc)
large_seen (Some (Stored bytes)) e =
    large_seen_by bytes (nat_lt look_limits.file (length bytes)) refl e

file_by : (bytes others : List ℕ) (large : Bool)
    → (if large then look.TooLarge else look.File bytes) ≡ look.File others → bytes ≡ others
file_by bytes others true e = absurd (cc)
file_by bytes others false e = cc

-- what a look saw stands there, where it is within the limit
pub stands : (found : Option Entry) (some : Seen) → seen_as found ≡ look_seen some → found ≡ entry_of some
stands None seen.Absent e = refl
stands None seen.Folder e = absurd (cc)
stands None (seen.File bytes) e = absurd (cc)
stands (Some Directory) seen.Absent e = absurd (cc)
stands (Some Directory) seen.Folder e = refl
stands (Some Directory) (seen.File bytes) e = absurd (cc)
stands (Some (Stored bytes)) seen.Absent e = absurd (never_absent bytes (nat_lt look_limits.file (length bytes)) e)
  where
    never_absent : (bytes : List ℕ) (large : Bool) → (if large then look.TooLarge else look.File bytes) ≡ look.Absent → ⊥
    never_absent bytes true e = cc
    never_absent bytes false e = cc
stands (Some (Stored bytes)) seen.Folder e = absurd (never_folder bytes (nat_lt look_limits.file (length bytes)) e)
  where
    never_folder : (bytes : List ℕ) (large : Bool) → (if large then look.TooLarge else look.File bytes) ≡ look.Folder → ⊥
    never_folder bytes true e = cc
    never_folder bytes false e = cc
stands (Some (Stored bytes)) (seen.File others) e =
    ap (λ bs. Some (Stored bs)) (file_by bytes others.value (nat_lt look_limits.file (length bytes)) e)

-- a look within the limit is told as it is
small_is : (some : Seen) → is_large (entry_of some) ≡ false → within_limit (look_seen some) ≡ look_seen some
small_is seen.Absent e = refl
small_is seen.Folder e = refl
small_is (seen.File bytes) e = cond-false _ _ _ e

large_is : (some : Seen) → is_large (entry_of some) ≡ true → within_limit (look_seen some) ≡ look.TooLarge
large_is seen.Absent e = absurd (cc)
large_is seen.Folder e = absurd (cc)
large_is (seen.File bytes) e = cond-true _ _ _ e

-- what stands at a path is counted as what was seen there
pub counted_alike : (trail : Trail) (path : List ℕ) (found : Option Entry) (some : Seen)
    → seen_as found ≡ within_limit (look_seen some)
    → counted look_limits trail path found ≡ counted look_limits trail path (entry_of some)
counted_alike trail path found some e =
    ⊎_elim
    (λ large. large_alike trail path found (entry_of some) (large_seen found (e ∙ large_is some large)) large)
    (λ small. ap (counted look_limits trail path) (stands found some (e ∙ small_is some small)))
    (cases_Bool (is_large (entry_of some)))

pub small_within : (some : Seen) → is_large (entry_of some) ≡ false → IsWithin (Some (look_seen some))
small_within seen.Absent e = tt
small_within seen.Folder e = tt
small_within (seen.File bytes) e = e

after_by : (trail after : Trail) (path : List ℕ) (found : Option Entry) (seen few large heavy : Bool)
    → by_tests trail path found seen few large heavy ≡ Ok after → (other : List ℕ) → Contains after.paths other
    → Contains trail.paths other ⊎ (other ≡ path)
after_by trail after path found true few false heavy e other held =
    let same : seen_again trail path ≡ after = cc in
    inl (subst (λ (t : Trail). Contains t.paths other) (sym same) held)
after_by trail after path found true few true heavy e other held = absurd (cc)
after_by trail after path found false false large heavy e other held = absurd (cc)
after_by trail after path found false true true heavy e other held = absurd (cc)
after_by trail after path found false true false true e other held = absurd (cc)
after_by trail after path found false true false false e other held =
    let same : seen_first trail path found ≡ after = cc in
    elim (Contains-append_cases trail.paths (path ∷ []) other
    (subst (λ (t : Trail). Contains t.paths other) (sym same) held)) [
      | inl before ↦ inl before
      | inr last ↦ elim (contains_cases other path [] last) [
        | inl this ↦ inr (sym this)
        | inr none ↦ absurd (contains_none other none)
      ]
    ]

-- one look more counts one path more, at most
pub counted_paths : (trail after : Trail) (path : List ℕ) (found : Option Entry)
    → counted look_limits trail path found ≡ Ok after → (other : List ℕ) → Contains after.paths other
    → Contains trail.paths other ⊎ (other ≡ path)
counted_paths trail after path found e other held =
    after_by trail after path found (is_seen path trail.paths) (nat_lt (length trail.paths) look_limits.looks)
    (is_large found) (nat_lt look_limits.bytes (trail.size + size_at found)) e other held

-- and stands there as it was seen, where it was counted
pub stands_counted : (trail after : Trail) (path : List ℕ) (found : Option Entry) (some : Seen)
    → seen_as found ≡ within_limit (look_seen some) → counted look_limits trail path (entry_of some) ≡ Ok after
    → found ≡ entry_of some
stands_counted trail after path found some e c =
    stands found some (e ∙ small_is some (counted_within trail after path (entry_of some) c))
