-- An asking that spares the folders that are left out comes to the same without them.
use Rattle.std.proofs.Common.{◌≡◌, ◌⊎◌, ◌++◌, [], ◌∷◌, ℕ, List, Option, Some, None, refl, sym, ap, ◌∙◌, subst, append_assoc, append-nil, inl, inr}
use Rattle.std.specs.Prelude.{Contains, Result, Ok, Err, nat_lt, not, length, ◌+◌, if◌then◌else◌}
use Rattle.asking_spec.specs.Askings.{answered, ask, outcome, and_then}
use Rattle.asking_spec.specs.Evaluation.{evaluated, then_ended}
use Rattle.asking_spec.proofs.AskingLemmas.{questions_then}
use Rattle.tree_spec.proofs.Contained.{contains_here, contains_there, footprint_contains}
use Rattle.tree_spec.specs.LookAskings.{Sights, LookAsking, looks, footprint, is_seen, with_seen, noted}
use Rattle.tree_spec.specs.Laws.{SparedSame}
use Rattle.tree_spec.specs.LeftOutFolders.{HasFileBelow, IsLeftOut, IsThinned, Spares, IgnoresFolders}
use Rattle.tree_spec.specs.LookLimits.{LookLimits, Trail, limited, counted, told, size_at, seen_again}
use Rattle.tree_spec.specs.declared.Entry.{Entry}
use Rattle.tree_spec.specs.declared.Entry.TheVariants.{Directory}
use Rattle.tree_spec.specs.declared.LimitName.{LimitName}
use Rattle.tree_spec.specs.declared.LimitName.TheVariants.{File, Looks, Bytes}

-- ---- more paths

abbrev pub AreAmong : List (List ℕ) → List (List ℕ) → Type 0
AreAmong some paths = (path : List ℕ) → Contains some path → Contains paths path

pub below_more : (sights : Sights) (some paths : List (List ℕ)) (folder : List ℕ) → AreAmong some paths
    → HasFileBelow sights some folder → HasFileBelow sights paths folder
below_more sights some paths folder all below = record {
  path = below.path;
  is_looked_at = all below.path below.is_looked_at;
  bytes = below.bytes;
  stored = below.stored;
  above = below.above;
}

-- ---- what spares

pub ignoring_spares : {X : Type 0} (sights : Sights) (later : List (List ℕ)) (asking : LookAsking X)
    → IgnoresFolders asking → Spares sights later asking
ignoring_spares sights later (answered value) ignores = tt
ignoring_spares sights later (ask path next) ignores =
    ((λ is. inl ignores.0), ignoring_spares sights later (next (sights path)) (ignores.1 (sights path)))

pub ignoring_then : {X Y : Type 0} (asking : LookAsking X) (next : X → LookAsking Y) → IgnoresFolders asking
    → ((value : X) → IgnoresFolders (next value)) → IgnoresFolders (and_then asking next)
ignoring_then (answered value) next ignores each = each value
ignoring_then (ask path more) next ignores each =
    (ap (λ a. and_then a next) ignores.0, (λ found. ignoring_then (more found) next (ignores.1 found) each))

-- what looks at nothing ignores folders
pub no_looks_ignoring : {X : Type 0} (sights : Sights) (asking : LookAsking X) → looks sights asking ≡ []
    → IgnoresFolders asking
no_looks_ignoring sights (answered value) none = tt
no_looks_ignoring sights (ask path next) none = absurd (cc)

pub spares_then : {X Y : Type 0} (sights : Sights) (later : List (List ℕ)) (asking : LookAsking X)
    (next : X → LookAsking Y)
    → Spares sights (looks sights (next (outcome sights asking)) ++ later) asking
    → Spares sights later (next (outcome sights asking)) → Spares sights later (and_then asking next)
spares_then sights later (answered value) next first rest = rest
spares_then sights later (ask path more) next first rest =
    let behind : List (List ℕ) = looks sights (next (outcome sights (more (sights path)))) in
    let paths : looks sights (more (sights path)) ++ (behind ++ later)
    ≡ looks sights (and_then (more (sights path)) next) ++ later =
    sym (append_assoc (looks sights (more (sights path))) behind later)
    ∙ ap (λ qs. qs ++ later) (sym (questions_then sights (more (sights path)) next)) in (
      (λ is. elim (first.0 is) [
        | inl same ↦ inl (ap (λ a. and_then a next) same)
        | inr below ↦ inr (subst (λ ps. HasFileBelow sights ps path) paths below)
      ]),
      spares_then sights later (more (sights path)) next first.1 rest,
    )

-- ---- what it comes to

-- how it goes on is the same
goes_alike : {X : Type 0} (one other : Sights) (paths rest : List (List ℕ)) (path : List ℕ)
    (next : Option Entry → LookAsking X) → AreAmong rest paths
    → (one path ≡ other path) ⊎ IsLeftOut one other paths path
    → (one path ≡ Some Directory → (next None ≡ next (Some Directory)) ⊎ HasFileBelow one rest path)
    → next (other path) ≡ next (one path)
goes_alike one other paths rest path next all (inl same) spares = ap next (sym same)
goes_alike one other paths rest path next all (inr left) spares =
    elim (spares left.was) [
      | inl same ↦ ap next left.is ∙ (same ∙ ap next (sym left.was))
      | inr below ↦ absurd (left.bare (below_more one rest paths path all below))
    ]

same_size : (one other : Sights) (paths : List (List ℕ)) (path : List ℕ)
    → (one path ≡ other path) ⊎ IsLeftOut one other paths path → size_at (other path) ≡ size_at (one path)
same_size one other paths path (inl same) = ap size_at (sym same)
same_size one other paths path (inr left) = ap size_at left.is ∙ ap size_at (sym left.was)

-- the limits see the size alone
same_count : (limits : LookLimits) (trail : Trail) (path : List ℕ) (found seen : Option Entry)
    → size_at found ≡ size_at seen → counted limits trail path found ≡ counted limits trail path seen
same_count limits trail path found seen e =
    ap (λ size.
    if is_seen path trail.paths
    then (if nat_lt limits.file size then Err File else Ok (seen_again trail path))
    else if not (nat_lt (length trail.paths) limits.looks) then Err Looks
    else if nat_lt limits.file size then Err File
    else if nat_lt limits.bytes (trail.size + size) then Err Bytes
    else Ok (record { paths = trail.paths ++ path ∷ []; size = trail.size + size; question = with_seen trail.question path }))
    e

goes_on : {X : Type 0} (one other : Sights) (limits : LookLimits) (trail : Trail) (next : Option Entry → LookAsking X)
    (found seen : Option Entry) (result : Result Trail LimitName) → next found ≡ next seen
    → ((after : Trail) → evaluated (limited limits other) after (next seen)
    ≡ evaluated (limited limits one) after (next seen))
    → then_ended (told found trail result) (λ answer after. evaluated (limited limits other) after (next answer))
    ≡ then_ended (told seen trail result) (λ answer after. evaluated (limited limits one) after (next answer))
goes_on one other limits trail next found seen (Ok after) same rest =
    ap (evaluated (limited limits other) after) same ∙ rest after
goes_on one other limits trail next found seen (Err name) same rest = refl

record IsSame {X : Type 0} (one other : Sights) (asking : LookAsking X) : Type 0 where
  outcome : outcome other asking ≡ outcome one asking
  looks : looks other asking ≡ looks one asking
  limited : (limits : LookLimits) (trail : Trail)
      → evaluated (limited limits other) trail asking ≡ evaluated (limited limits one) trail asking

same_behind : {X : Type 0} (one other : Sights) (paths later : List (List ℕ)) → IsThinned one other paths
    → (asking : LookAsking X) → AreAmong (looks one asking ++ later) paths → Spares one later asking
    → IsSame one other asking
same_behind one other paths later thinned (answered value) all spares =
    record { outcome = refl; looks = refl; limited = λ limits trail. refl }
same_behind one other paths later thinned (ask path next) all spares =
    let here : (one path ≡ other path) ⊎ IsLeftOut one other paths path =
    thinned.each path (all path (contains_here path _)) in
    let behind : AreAmong (looks one (next (one path)) ++ later) paths =
    λ p held. all p (contains_there p path _ held) in
    let alike : next (other path) ≡ next (one path) =
    goes_alike one other paths (looks one (next (one path)) ++ later) path next behind here spares.0 in
    let rest = same_behind one other paths later thinned (next (one path)) behind spares.1 in
    record {
      outcome = ap (outcome other) alike ∙ rest.outcome;
      looks = ap (λ qs. path ∷ qs) (ap (looks other) alike ∙ rest.looks);
      limited = λ limits trail.
          ap (λ r. then_ended (told (other path) trail r) (λ answer after. evaluated (limited limits other) after (next answer)))
          (same_count limits trail path (other path) (one path) (same_size one other paths path here))
          ∙ goes_on one other limits trail next (other path) (one path) (counted limits trail path (one path)) alike
          (λ after. rest.limited limits after);
    }

pub spared_same : {X : Type 0} → SparedSame X
spared_same one other asking thinned spares =
    let same =
    same_behind one other (footprint one asking) [] thinned asking
    (λ path held. footprint_contains one asking path (subst (λ ps. Contains ps path) (append-nil (looks one asking)) held))
    spares in
    record {
      same = record {
        outcome = sym same.outcome;
        looks = sym same.looks;
        footprint = ap (noted []) (sym same.looks);
      };
      limited = λ limits trail. sym (same.limited limits trail);
    }
