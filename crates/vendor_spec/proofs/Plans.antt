-- The files that a tree has at some paths, in byte order: one list, and there is one where each copy's path is one.
use Rattle.std.proofs.Common.{◌≡◌, ◌≢◌, ◌⊎◌, ◌<◌, ◌+◌, ◌++◌, ◌&&◌, [], ◌∷◌, ℕ, List, Bool, true, false, cond, length, map, Option, Some, None, refl, sym, ap, ◌∙◌, subst, inl, inr, arith, ◌≤◌}
use Rattle.std.proofs.lemmas.Bool.{and_parts, cases_lt}
use Rattle.std.proofs.lemmas.Cmp.{tied_itself}
use Rattle.std.proofs.lemmas.Map.Lookups.{exact_bytes}
use Rattle.std.proofs.lemmas.Map.Text.{is_eq-slice_cmp}
use Rattle.std.proofs.lemmas.Slice.Eq.{bytes_eq-Decides}
use Rattle.std.specs.Bool.{Decides}
use Rattle.std.specs.Cmp.Lexicographic.{slice_cmp, nat_list_cmp_total}
use Rattle.std.specs.FinMap.{entries, entries_sorted, find, get, get-entries, get-retain_keys, retain_keys}
use Rattle.std.specs.FinMap.Entries.{below_all, is_sorted}
use Rattle.std.specs.List.{AllByRecursion}
use Rattle.std.specs.List.Sorted.{IsStrictlySortedBy}
use Rattle.std.specs.Ordering.{is_lt, nat_cmp}
use Rattle.std.specs.Prelude.{bytes_eq, codes, Contains, T}
use Rattle.std.specs.declared.cmp.Ordering.{Ordering}
use Rattle.std.specs.declared.cmp.Ordering.TheVariants.{Less, Equal, Greater}
use Rattle.tree_spec.proofs.Contained.{contains_cases, contains_here, contains_none, contains_seen, contains_there, seen_contained}
use Rattle.tree_spec.proofs.ByteLists.{text_same_or_not}
use Rattle.tree_spec.specs.LookAskings.{is_seen}
use Rattle.tree_spec.specs.Paths.{IsPath, HasDepth}
use Rattle.tree_spec.specs.Trees.{Tree, IsTree}
use Rattle.tree_spec.specs.declared.Entry.{Entry}
use Rattle.tree_spec.specs.declared.Entry.TheVariants.{Stored, Directory}
use Rattle.url_spec.proofs.PathDecisions.{path_by_test, test_by_path}
use Rattle.url_spec.specs.PathTests.{is_path}
use Rattle.vendor_spec.proofs.GoalPaths.{goal_behind, goal_depth, one_depth, too_deep}
use Rattle.vendor_spec.specs.Goals.{most_path_bytes, HasLongCopy, HasDeepCopy}
use Rattle.vendor_spec.specs.Laws.{OnePlan, PlanFits, SomePlan}
use Rattle.vendor_spec.specs.Vendored.{Pair, IsPlan}

abbrev order : List ℕ → List ℕ → Ordering
order = slice_cmp nat_cmp

abbrev sources : List Pair → List (List ℕ)
sources pairs = map (λ (pair : Pair). pair.0) pairs

abbrev InOrder : List Pair → Type 0
InOrder pairs = IsStrictlySortedBy order (sources pairs)

less_differs : (one other : List ℕ) → order one other ≡ Less → one ≢ other
less_differs one other less same =
    let e : Less ≡ Equal = sym less ∙ (ap (order one) (sym same) ∙ tied_itself nat_list_cmp_total one) in
    absurd (cc)

one_way : (one other : List ℕ) → order one other ≡ Less → order other one ≡ Less → ⊥
one_way one other less more =
    less_differs one one (nat_list_cmp_total.trans one other one less more) refl

-- ---- one at most

first_below : (pair : Pair) (pairs : List Pair) → InOrder (pair ∷ pairs) → (other : Pair) → Contains pairs other → order pair.0 other.0 ≡ Less
unfolding IsStrictlySortedBy
first_below pair pairs sorted other held = by pairs sorted.0 held
  where
    by : (more : List Pair) → AllByRecursion (λ source. order pair.0 source ≡ Less) (sources more) → Contains more other
        → order pair.0 other.0 ≡ Less
    by [] all held = absurd (contains_none other held)
    by (first ∷ more) all held = elim (contains_cases other first more held) [
      | inl same ↦ ap (λ (p : Pair). order pair.0 p.0) (sym same) ∙ all.0
      | inr later ↦ by more all.1 later
    ]

rest_in_order : (pair : Pair) (pairs : List Pair) → InOrder (pair ∷ pairs) → InOrder pairs
unfolding IsStrictlySortedBy
rest_in_order pair pairs sorted = sorted.1

abbrev Holds : List Pair → List Pair → Type 0
Holds pairs others = (pair : Pair) → Contains others pair → Contains pairs pair

same_first : (one other : Pair) (ones others : List Pair) → InOrder (one ∷ ones) → InOrder (other ∷ others)
    → Holds (other ∷ others) (one ∷ ones) → Holds (one ∷ ones) (other ∷ others) → one ≡ other
same_first one other ones others sorted sorted_too holds holds_too =
    elim (contains_cases one other others (holds one (contains_here one ones))) [
      | inl same ↦ sym same
      | inr later ↦ elim (contains_cases other one ones (holds_too other (contains_here other others))) [
        | inl same ↦ same
        | inr behind ↦ absurd (one_way one.0 other.0 (first_below one ones sorted other behind) (first_below other others sorted_too one later))
      ]
    ]

-- what stands behind the first is behind the other's first too
holds_rest : (one other : Pair) (ones others : List Pair) → InOrder (other ∷ others) → one ≡ other
    → Holds (one ∷ ones) (other ∷ others) → Holds ones others
holds_rest one other ones others sorted same holds pair held =
    elim (contains_cases pair one ones (holds pair (contains_there pair other others held))) [
      | inl first ↦ absurd (less_differs other.0 pair.0 (first_below other others sorted pair held)
          (ap (λ (p : Pair). p.0) (sym same ∙ first)))
      | inr later ↦ later
    ]

same_pairs : (ones others : List Pair) → InOrder ones → InOrder others → Holds others ones → Holds ones others → ones ≡ others
same_pairs [] [] sorted sorted_too holds holds_too = refl
same_pairs [] (other ∷ others) sorted sorted_too holds holds_too =
    absurd (contains_none other (holds_too other (contains_here other others)))
same_pairs (one ∷ ones) [] sorted sorted_too holds holds_too =
    absurd (contains_none one (holds one (contains_here one ones)))
same_pairs (one ∷ ones) (other ∷ others) sorted sorted_too holds holds_too =
    let same = same_first one other ones others sorted sorted_too holds holds_too in
    let rest =
    same_pairs ones others (rest_in_order one ones sorted) (rest_in_order other others sorted_too)
    (holds_rest other one others ones sorted (sym same) holds) (holds_rest one other ones others sorted_too same holds_too)
    in
    λ i. same i ∷ rest i

pub one_plan : OnePlan
one_plan old to paths pairs others plan other =
    same_pairs pairs others plan.in_order other.in_order
    (λ pair held. other.whole pair.0 pair.1 (plan.looked_at pair held) (plan.files pair held))
    (λ pair held. plan.whole pair.0 pair.1 (other.looked_at pair held) (other.files pair held))

-- ---- some

-- one of a list is so
record HasOne (P : List ℕ → Type 0) (paths : List (List ℕ)) : Type 0 where
  path : List ℕ
  held : Contains paths path
  is : P path

one_or_none : (P : List ℕ → Type 0) → ((path : List ℕ) → P path ⊎ (P path → ⊥)) → (paths : List (List ℕ))
    → HasOne P paths ⊎ ((path : List ℕ) → Contains paths path → P path → ⊥)
one_or_none P so [] = inr (λ path held is. contains_none path held)
one_or_none P so (first ∷ more) = elim (so first) [
  | inl is ↦ inl (record { path = first; held = contains_here first more; is = is })
  | inr not ↦ elim (one_or_none P so more) [
    | inl one ↦ inl (record { path = one.path; held = contains_there one.path first more one.held; is = one.is })
    | inr none ↦ inr (λ path held is. elim (contains_cases path first more held) [
      | inl same ↦ not (subst P (sym same) is)
      | inr later ↦ none path later is
    ])
  ]
]

true_so : (b : Bool) → T b → b ≡ true
true_so true is = refl
true_so false is = absurd is

less_so : (o : Ordering) → is_lt o ≡ true → o ≡ Less
less_so Less e = refl
less_so Equal e = absurd (cc)
less_so Greater e = absurd (cc)

abbrev Entries : Type 0
Entries = List (List ℕ × Entry)

abbrev file_first : List ℕ → Entry → List Pair → List Pair
file_first path (Stored bytes) more = (path, bytes) ∷ more
file_first path Directory more = more

abbrev files_in : Entries → List Pair
files_in [] = []
files_in (e ∷ es) = file_first e.0 e.1 (files_in es)

files_behind : (path : List ℕ) (es : Entries) → below_all order path es ≡ true → AllByRecursion (λ source. order path source ≡ Less) (sources (files_in es))
files_behind path [] below = tt
files_behind path (e ∷ es) below =
    let parts = and_parts (is_lt (order path e.0)) (below_all order path es) below in
    by e.1 (less_so (order path e.0) parts.0) (files_behind path es parts.1)
  where
    by : (entry : Entry) → order path e.0 ≡ Less → AllByRecursion (λ source. order path source ≡ Less) (sources (files_in es))
        → AllByRecursion (λ source. order path source ≡ Less) (sources (file_first e.0 entry (files_in es)))
    by (Stored bytes) less rest = (less, rest)
    by Directory less rest = rest

file_in_order : (path : List ℕ) (entry : Entry) (es : Entries) → AllByRecursion (λ source. order path source ≡ Less) (sources (files_in es))
    → InOrder (files_in es) → InOrder (file_first path entry (files_in es))
unfolding IsStrictlySortedBy
file_in_order path (Stored bytes) es behind rest = (behind, rest)
file_in_order path Directory es behind rest = rest

files_in_order : (es : Entries) → is_sorted order es ≡ true → InOrder (files_in es)
unfolding IsStrictlySortedBy
files_in_order [] sorted = tt
files_in_order (e ∷ es) sorted =
    let parts = and_parts (below_all order e.0 es) (is_sorted order es) sorted in
    file_in_order e.0 e.1 es (files_behind e.0 es parts.0) (files_in_order es parts.1)

abbrev found : List ℕ → Entries → Option Entry
found path es = find order path es

abbrev found_by : Bool → Entry → Option Entry → Option Entry
found_by same entry rest = cond same (Some entry) rest

found_first : (path : List ℕ) (e : List ℕ × Entry) (es : Entries) → found path (e ∷ es) ≡ found_by (bytes_eq path e.0) e.1 (found path es)
found_first path e es = ap (λ same. found_by same e.1 (found path es)) (is_eq-slice_cmp path e.0)

-- a file that is found is listed
listed : (path bytes : List ℕ) (es : Entries) → found path es ≡ Some (Stored bytes) → Contains (files_in es) (path, bytes)
listed path bytes [] at = absurd (cc)
listed path bytes (e ∷ es) at =
    by e.1 (bytes_eq path e.0) (bytes_eq-Decides path e.0) (sym (found_first path e es) ∙ at) (listed path bytes es)
  where
    by : (entry : Entry) (same : Bool) → Decides same (path ≡ e.0) → found_by same entry (found path es) ≡ Some (Stored bytes)
        → (found path es ≡ Some (Stored bytes) → Contains (files_in es) (path, bytes))
        → Contains (file_first e.0 entry (files_in es)) (path, bytes)
    by (Stored others) true d at rest =
        let same : others ≡ bytes = cc in
        subst (λ (pair : Pair). Contains ((e.0, others) ∷ files_in es) pair) (λ i. (sym (d.0 refl) i, same i))
        (contains_here (e.0, others) (files_in es))
    by Directory true d at rest = absurd (cc)
    by (Stored others) false d at rest = contains_there (path, bytes) (e.0, others) (files_in es) (rest at)
    by Directory false d at rest = rest at

-- and a file that is listed is found
behind_first : (path : List ℕ) (es : Entries) → below_all order path es ≡ true → (pair : Pair) → Contains (files_in es) pair
    → order path pair.0 ≡ Less
behind_first path [] below pair held = absurd (contains_none pair held)
behind_first path (e ∷ es) below pair held =
    let parts = and_parts (is_lt (order path e.0)) (below_all order path es) below in
    by e.1 held (less_so (order path e.0) parts.0) (behind_first path es parts.1 pair)
  where
    by : (entry : Entry) → Contains (file_first e.0 entry (files_in es)) pair → order path e.0 ≡ Less
        → (Contains (files_in es) pair → order path pair.0 ≡ Less) → order path pair.0 ≡ Less
    by (Stored bytes) held less rest = elim (contains_cases pair (e.0, bytes) (files_in es) held) [
      | inl same ↦ ap (λ (p : Pair). order path p.0) (sym same) ∙ less
      | inr later ↦ rest later
    ]
    by Directory held less rest = rest held

not_same : (b : Bool) (one other : List ℕ) → Decides b (one ≡ other) → one ≢ other → b ≡ false
not_same true one other d different = absurd (different (d.0 refl))
not_same false one other d different = refl

stands : (pair : Pair) (es : Entries) → is_sorted order es ≡ true → Contains (files_in es) pair → found pair.0 es ≡ Some (Stored pair.1)
stands pair [] sorted held = absurd (contains_none pair held)
stands pair (e ∷ es) sorted held =
    let parts = and_parts (below_all order e.0 es) (is_sorted order es) sorted in
    found_first pair.0 e es ∙ by e.1 held (later_found parts.0 (stands pair es parts.1))
  where
    later_found : below_all order e.0 es ≡ true → (Contains (files_in es) pair → found pair.0 es ≡ Some (Stored pair.1))
        → (entry : Entry) → Contains (files_in es) pair → found_by (bytes_eq pair.0 e.0) entry (found pair.0 es) ≡ Some (Stored pair.1)
    later_found below rest entry later =
        ap (λ same. found_by same entry (found pair.0 es))
        (not_same (bytes_eq pair.0 e.0) pair.0 e.0 (bytes_eq-Decides pair.0 e.0)
        (λ same. less_differs e.0 pair.0 (behind_first e.0 es below pair later) (sym same)))
        ∙ rest later

    by : (entry : Entry) → Contains (file_first e.0 entry (files_in es)) pair
        → ((entry : Entry) → Contains (files_in es) pair → found_by (bytes_eq pair.0 e.0) entry (found pair.0 es) ≡ Some (Stored pair.1))
        → found_by (bytes_eq pair.0 e.0) entry (found pair.0 es) ≡ Some (Stored pair.1)
    by (Stored bytes) held rest = elim (contains_cases pair (e.0, bytes) (files_in es) held) [
      | inl same ↦ ap (λ b. found_by b (Stored bytes) (found pair.0 es))
          ((bytes_eq-Decides pair.0 e.0).1 (ap (λ (p : Pair). p.0) (sym same)))
          ∙ ap (λ (p : Pair). Some (Stored p.1)) same
      | inr later ↦ rest (Stored bytes) later
    ]
    by Directory held rest = rest Directory held

module _ (old : Tree) (paths : List (List ℕ)) where
  abbrev kept : Tree
  kept = retain_keys old (λ path. is_seen path paths)

  abbrev plan : List Pair
  plan = files_in (entries kept)

  get_kept : (path : List ℕ) → get kept path ≡ cond (is_seen path paths) (get old path) None
  get_kept path =
      get-retain_keys old (λ p. is_seen p paths) path (λ other e. ap (λ p. is_seen p paths) (sym (exact_bytes path other e)))

  kept_sorted : is_sorted order (entries kept) ≡ true
  kept_sorted = true_so (is_sorted order (entries kept)) (entries_sorted kept)

  by_seen : (seen : Bool) (found : Option Entry) (bytes : List ℕ) → cond seen found None ≡ Some (Stored bytes)
      → (seen ≡ true) × (found ≡ Some (Stored bytes))
  by_seen true found bytes e = (refl, e)
  by_seen false found bytes e = absurd (cc)

  planned : (pair : Pair) → Contains plan pair → (is_seen pair.0 paths ≡ true) × (get old pair.0 ≡ Some (Stored pair.1))
  planned pair held =
      by_seen (is_seen pair.0 paths) (get old pair.0) pair.1
      (sym (get_kept pair.0) ∙ (get-entries kept pair.0 ∙ stands pair (entries kept) kept_sorted held))

  whole : (path bytes : List ℕ) → Contains paths path → get old path ≡ Some (Stored bytes) → Contains plan (path, bytes)
  whole path bytes held e =
      listed path bytes (entries kept)
      (sym (get-entries kept path) ∙ (get_kept path
      ∙ (ap (λ seen. cond seen (get old path) None) (seen_contained path paths held) ∙ e)))

  module _ (to : List ℕ) (is_tree : IsTree old) (to_is : IsPath to) (to_deep : to ≢ codes "/") where
    abbrev IsLong : List ℕ → Type 0
    IsLong path = (bytes : List ℕ) × (get old path ≡ Some (Stored bytes)) × (most_path_bytes < length (to ++ path))

    abbrev IsBad : List ℕ → Type 0
    IsBad path = (bytes : List ℕ) × (get old path ≡ Some (Stored bytes)) × (IsPath (to ++ path) → ⊥)

    long_or_not : (path : List ℕ) → IsLong path ⊎ (IsLong path → ⊥)
    long_or_not path = by (get old path) refl (cases_lt most_path_bytes (length (to ++ path)))
      where
        by : (entry : Option Entry) → get old path ≡ entry
            → (most_path_bytes < length (to ++ path)) ⊎ (length (to ++ path) ≤ most_path_bytes) → IsLong path ⊎ (IsLong path → ⊥)
        by (Some (Stored bytes)) e (inl long) = inl (bytes, e, long)
        by (Some (Stored bytes)) e (inr short) = inr (λ is. let long = is.2 in omega (arith, long, short))
        by (Some Directory) e sizes = inr (λ is. let f : Some Directory ≡ Some (Stored is.0) = sym e ∙ is.1 in cc)
        by None e sizes = inr (λ is. let f : None ≡ Some (Stored is.0) = sym e ∙ is.1 in cc)

    bad_or_not : (path : List ℕ) → IsBad path ⊎ (IsBad path → ⊥)
    bad_or_not path = by (get old path) refl (is_path (to ++ path)) refl
      where
        by : (entry : Option Entry) → get old path ≡ entry → (test : Bool) → is_path (to ++ path) ≡ test
            → IsBad path ⊎ (IsBad path → ⊥)
        by (Some (Stored bytes)) e true t = inr (λ is. is.2 (path_by_test (to ++ path) t))
        by (Some (Stored bytes)) e false t =
            inl (bytes, e, (λ is. let f : true ≡ false = sym (test_by_path (to ++ path) is) ∙ t in cc))
        by (Some Directory) e test t = inr (λ is. let f : Some Directory ≡ Some (Stored is.0) = sym e ∙ is.1 in cc)
        by None e test t = inr (λ is. let f : None ≡ Some (Stored is.0) = sym e ∙ is.1 in cc)

    -- a copy whose path is none, where none has too many bytes, has too many segments
    deep_copy : (HasLongCopy old to paths → ⊥) → (path : List ℕ) → Contains paths path → IsBad path → HasDeepCopy old to paths
    deep_copy short path held bad =
        let own = is_tree.paths path (Stored bad.0) bad.1 in
        let top : path ≢ codes "/" =
        λ same. (let f : Some (Stored bad.0) ≡ Some Directory = sym bad.1 ∙ (ap (get old) same ∙ is_tree.root) in cc) in
        let segments : HasDepth (to_is.depth + own.depth) (to ++ path) =
        subst (HasDepth (to_is.depth + own.depth)) (goal_behind to path to_deep)
        (goal_depth to path to_is.depth own.depth to_is.segments own.segments top) in
        record {
          path = path;
          bytes = bad.0;
          looked_at = held;
          is_file = bad.1;
          depth = to_is.depth + own.depth;
          segments = segments;
          deep = too_deep (to ++ path) (to_is.depth + own.depth) segments bad.2
              (λ long. short (record { path = path; bytes = bad.0; looked_at = held; is_file = bad.1; long = long }));
        }

    is_goal : ((path : List ℕ) → Contains paths path → IsBad path → ⊥) → (path bytes : List ℕ) → Contains paths path
        → get old path ≡ Some (Stored bytes) → IsPath (to ++ path)
    is_goal none path bytes held e = by (is_path (to ++ path)) refl
      where
        by : (test : Bool) → is_path (to ++ path) ≡ test → IsPath (to ++ path)
        by true t = path_by_test (to ++ path) t
        by false t =
            absurd (none path held (bytes, e, (λ is. let f : true ≡ false = sym (test_by_path (to ++ path) is) ∙ t in cc)))

    is_plan : ((path : List ℕ) → Contains paths path → IsBad path → ⊥) → IsPlan old to paths plan
    is_plan none = record {
      files = λ pair held. (planned pair held).1;
      looked_at = λ pair held. contains_seen pair.0 paths (planned pair held).0;
      whole = whole;
      in_order = files_in_order (entries kept) kept_sorted;
      goals = λ pair held.
          is_goal none pair.0 pair.1 (contains_seen pair.0 paths (planned pair held).0) (planned pair held).1;
    }

    by_bad : (HasLongCopy old to paths → ⊥) → HasOne IsBad paths ⊎ ((path : List ℕ) → Contains paths path → IsBad path → ⊥)
        → HasLongCopy old to paths
        ⊎ (((HasLongCopy old to paths → ⊥) × HasDeepCopy old to paths) ⊎ ((pairs : List Pair) × IsPlan old to paths pairs))
    by_bad short (inl one) = inr (inl (short, deep_copy short one.path one.held one.is))
    by_bad short (inr none) = inr (inr (plan, is_plan none))

    by_long : HasOne IsLong paths ⊎ ((path : List ℕ) → Contains paths path → IsLong path → ⊥)
        → HasLongCopy old to paths
        ⊎ (((HasLongCopy old to paths → ⊥) × HasDeepCopy old to paths) ⊎ ((pairs : List Pair) × IsPlan old to paths pairs))
    by_long (inl one) =
        inl (record { path = one.path; bytes = one.is.0; looked_at = one.held; is_file = one.is.1; long = one.is.2 })
    by_long (inr none) =
        by_bad (λ has. none has.path has.looked_at (has.bytes, has.is_file, has.long)) (one_or_none IsBad bad_or_not paths)

    planned_or_not : HasLongCopy old to paths
        ⊎ (((HasLongCopy old to paths → ⊥) × HasDeepCopy old to paths) ⊎ ((pairs : List Pair) × IsPlan old to paths pairs))
    planned_or_not = by_long (one_or_none IsLong long_or_not paths)

pub some_plan : SomePlan
some_plan old to paths is_tree to_is to_deep = planned_or_not old paths to is_tree to_is to_deep

pub plan_fits : PlanFits
plan_fits old to paths pairs plan = (
  λ has.
      (let goal = plan.goals (has.path, has.bytes) (plan.whole has.path has.bytes has.looked_at has.is_file) in
      let short = goal.short in
      let long = has.long in
      omega (arith, short, long)),
  λ has.
      (let goal = plan.goals (has.path, has.bytes) (plan.whole has.path has.bytes has.looked_at has.is_file) in
      let same = one_depth goal.depth has.depth (to ++ has.path) goal.segments has.segments in
      let few = goal.few in
      let deep = has.deep in
      omega (arith, same, few, deep)),
)
