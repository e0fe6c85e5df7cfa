-- The writes of a copy, one after another: what stands below the folder, and what they leave alone.
use Rattle.std.proofs.Common.{◌≡◌, ◌≢◌, ◌⊎◌, ◌++◌, [], ◌∷◌, ◌==◌, ℕ, List, true, Option, Some, None, refl, sym, ap, ◌∙◌, subst, inl, inr, append_assoc, append-nil, length}
use Rattle.std.specs.FinMap.{get}
use Rattle.std.specs.Prelude.{codes, Contains, nat_le, drop}
use Rattle.std.proofs.lemmas.Bool.{and_parts, eqb-true}
use Rattle.std.proofs.lemmas.List.Elements.{Contains-append_left, Contains-append_right, Contains-append_cases}
use Rattle.std.proofs.Math.Seq.{drop-append_seam}
use Rattle.tree_spec.proofs.ByteLists.{text_same_or_not}
use Rattle.tree_spec.proofs.Contained.{contains_here, contains_there, contains_cases, contains_none}
use Rattle.tree_spec.proofs.Copies.{above_is_folder}
use Rattle.tree_spec.proofs.PathParts.{not_empty}
use Rattle.tree_spec.proofs.PathTexts.{more_than_root, below_by_text, child_longer, above_longer}
use Rattle.tree_spec.proofs.PathsAbove.{above_or_not, above_by_parent, nothing_above_root}
use Rattle.tree_spec.proofs.Placings.{placed_tree}
use Rattle.tree_spec.specs.Copies.{IsAboveFile}
use Rattle.tree_spec.specs.Paths.{IsPath, IsParent, IsAbove, parent_of, further}
use Rattle.tree_spec.specs.Trees.{Tree, IsTree, Places}
use Rattle.tree_spec.specs.declared.Entry.{Entry}
use Rattle.tree_spec.specs.declared.Entry.TheVariants.{Stored, Directory}
use Rattle.url_spec.proofs.PathDecisions.{test_by_path}
use Rattle.url_spec.specs.PathTests.{is_path}
use Rattle.vendor_spec.specs.Laws.{CopiedIsCopy, CopiedLeavesRest}
use Rattle.vendor_spec.specs.Vendored.{Pair, IsBelow, Written, goals, nothing, one_more, IsPlan, IsApart}

-- ---- texts of paths

record BeginsSo (path : List ℕ) : Type 0 where
  rest : List ℕ
  is : path ≡ 47 ∷ rest

begins_so : (path : List ℕ) → IsPath path → BeginsSo path
begins_so path is = by path (test_by_path path is)
  where
    by : (text : List ℕ) → is_path text ≡ true → BeginsSo text
    by [] e = absurd (cc)
    by (b ∷ rest) e =
        let first : b ≡ 47 = eqb-true b 47 (and_parts (b == 47) _ (and_parts _ (nat_le (length rest) 1023) e).0).0 in
        record { rest = rest; is = ap (λ c. c ∷ rest) first }

same_rest : (to one other : List ℕ) → to ++ one ≡ to ++ other → one ≡ other
same_rest to one other e = sym (drop-append_seam to one) ∙ (ap (drop (length to)) e ∙ drop-append_seam to other)

-- ---- the goals

pub goals_behind : (to : List ℕ) (file pair : Pair) (more rest : List Pair) → (file ∷ more) ≡ goals to (pair ∷ rest)
    → more ≡ goals to rest
goals_behind to file pair more rest e = cc

pub placed_at : (to : List ℕ) (tree middle : Tree) (file pair : Pair) (more rest : List Pair)
    → (file ∷ more) ≡ goals to (pair ∷ rest) → Places tree file.0 (Stored file.1) middle
    → Places tree (to ++ pair.0) (Stored pair.1) middle
placed_at to tree middle file pair more rest e placed =
    let same : file ≡ (to ++ pair.0, pair.1) = cc in
    subst (λ (f : Pair). Places tree f.0 (Stored f.1) middle) same placed

module _ (to : List ℕ) (to_is : IsPath to) (to_deep : to ≢ codes "/") where
  some_to : to ≢ []
  some_to = not_empty to_is.depth to to_is.segments

  -- below the folder paths stand above each other as without it
  pub above_behind : (folder path : List ℕ) → IsPath folder → IsPath path → IsAbove (to ++ folder) (to ++ path) → IsAbove folder path
  above_behind folder path is is_path above =
      let start = begins_so folder is in
      let top : to ++ folder ≢ codes "/" = λ e. more_than_root to start.rest some_to (ap (λ f. to ++ f) (sym start.is) ∙ e) in
      let longer = above_longer (to ++ folder) (to ++ path) top above in
      below_by_text folder longer.more path (not_empty is.depth folder is.segments) is_path
      (same_rest to path (folder ++ 47 ∷ longer.more) (longer.is ∙ append_assoc to folder (47 ∷ longer.more)))

  pub to_above : (path : List ℕ) → IsPath path → IsPath (to ++ path) → IsAbove to (to ++ path)
  to_above path is goal =
      let start = begins_so path is in
      below_by_text to start.rest (to ++ path) some_to goal (ap (λ p. to ++ p) start.is)

  module _ (old : Tree) (is_old : IsTree old) (free : get old to ≡ None) where
    pub record IsDone (tree : Tree) (done : List Pair) : Type 0 where
      pub is_tree : IsTree tree
      pub sources : (pair : Pair) → Contains done pair → get old pair.0 ≡ Some (Stored pair.1)
      pub files : (pair : Pair) → Contains done pair → get tree (to ++ pair.0) ≡ Some (Stored pair.1)
      pub stored : (path bytes : List ℕ) → IsPath path → get tree (to ++ path) ≡ Some (Stored bytes) → Contains done (path, bytes)
      pub folders :
          (path : List ℕ) → IsPath path → get tree (to ++ path) ≡ Some Directory
          → (pair : Pair) × Contains done pair × IsAbove path pair.0

    nothing_there : (path : List ℕ) (entry : Entry) → IsPath path → get old (to ++ path) ≡ Some entry → ⊥
    nothing_there path entry is e =
        let folder : get old to ≡ Some Directory =
        above_is_folder old is_old to (to ++ path) entry (to_above path is (is_old.paths (to ++ path) entry e)) e in
        let f : None ≡ Some Directory = sym free ∙ folder in
        absurd (cc)

    pub at_start : IsDone old []
    at_start = record {
      is_tree = is_old;
      sources = λ pair held. absurd (contains_none pair held);
      files = λ pair held. absurd (contains_none pair held);
      stored = λ path bytes is e. absurd (nothing_there path (Stored bytes) is e);
      folders = λ path is e. absurd (nothing_there path Directory is e);
    }

    module _ (tree middle : Tree) (done : List Pair) (pair : Pair) (source : get old pair.0 ≡ Some (Stored pair.1))
        (goal : IsPath (to ++ pair.0)) (placed : Places tree (to ++ pair.0) (Stored pair.1) middle)
        (is_done : IsDone tree done) where
      source_path : IsPath pair.0
      source_path = is_old.paths pair.0 (Stored pair.1) source

      no_folder : get tree (to ++ pair.0) ≢ Some Directory
      no_folder e =
          let found = is_done.folders pair.0 source_path e in
          let folder : get old pair.0 ≡ Some Directory =
          above_is_folder old is_old pair.0 found.0.0 (Stored found.0.1) found.2 (is_done.sources found.0 found.1) in
          let f : Some (Stored pair.1) ≡ Some Directory = sym source ∙ folder in
          absurd (cc)

      -- what stands at another path was there, or is a folder above the file
      pub record Was (path : List ℕ) (entry : Entry) : Type 0 where
        pub by : (get tree path ≡ Some entry) ⊎ (IsAbove path (to ++ pair.0) × (entry ≡ Directory))

      was_by : (path : List ℕ) (entry : Entry) → path ≢ to ++ pair.0 → get middle path ≡ Some entry
          → (IsAbove path (to ++ pair.0) → ⊥) → (found : Option Entry) → get tree path ≡ found → Was path entry
      was_by path entry other e not_above None f =
          let none : None ≡ Some entry = sym (placed.no_more path other not_above f) ∙ e in absurd (cc)
      was_by path entry other e not_above (Some before) f =
          let same : Some before ≡ Some entry = sym (placed.stays path before other f) ∙ e in
          record { by = inl (f ∙ same) }

      pub was : (path : List ℕ) (entry : Entry) → path ≢ to ++ pair.0 → get middle path ≡ Some entry → Was path entry
      was path entry other e =
          elim (above_or_not path (to ++ pair.0) goal) [
            | inl above ↦ (let same : Some Directory ≡ Some entry = sym (placed.above path above) ∙ e in
                record { by = inr (above, (let p : Directory ≡ entry = cc in sym p)) })
            | inr not_above ↦ was_by path entry other e not_above (get tree path) refl
          ]

      stored_by : (path bytes : List ℕ) → IsPath path → Was (to ++ path) (Stored bytes) → Contains done (path, bytes)
      stored_by path bytes is found =
          elim (found.by) [
            | inl before ↦ is_done.stored path bytes is before
            | inr folder ↦ absurd (let e : Stored bytes ≡ Directory = folder.1 in cc)
          ]

      folder_by : (path : List ℕ) → IsPath path → Was (to ++ path) Directory
          → (other : Pair) × Contains (done ++ pair ∷ []) other × IsAbove path other.0
      folder_by path is found =
          elim (found.by) [
            | inl before ↦ (let f = is_done.folders path is before in
                (f.0, Contains-append_left done (pair ∷ []) f.0 f.1, f.2))
            | inr folder ↦ (pair, Contains-append_right done (pair ∷ []) pair (contains_here pair []), above_behind path pair.0 is source_path folder.0)
          ]

      files_by : (other : Pair) → Contains done other → (to ++ other.0 ≡ to ++ pair.0) ⊎ (to ++ other.0 ≢ to ++ pair.0)
          → get middle (to ++ other.0) ≡ Some (Stored other.1)
      files_by other held (inl same) =
          let paths : other.0 ≡ pair.0 = same_rest to other.0 pair.0 same in
          let e : Some (Stored other.1) ≡ Some (Stored pair.1) = sym (is_done.sources other held) ∙ (ap (get old) paths ∙ source) in
          ap (get middle) same ∙ (placed.here ∙ sym e)
      files_by other held (inr apart_from) = placed.stays (to ++ other.0) (Stored other.1) apart_from (is_done.files other held)

      stored_at : (path bytes : List ℕ) → IsPath path → get middle (to ++ path) ≡ Some (Stored bytes)
          → (to ++ path ≡ to ++ pair.0) ⊎ (to ++ path ≢ to ++ pair.0) → Contains (done ++ pair ∷ []) (path, bytes)
      stored_at path bytes is e (inl same) =
          let paths : path ≡ pair.0 = same_rest to path pair.0 same in
          let f : Some (Stored bytes) ≡ Some (Stored pair.1) = sym e ∙ (ap (get middle) same ∙ placed.here) in
          let contents : bytes ≡ pair.1 = cc in
          subst (λ q. Contains (done ++ pair ∷ []) q) (λ i. (sym paths i, sym contents i))
          (Contains-append_right done (pair ∷ []) pair (contains_here pair []))
      stored_at path bytes is e (inr apart_from) =
          Contains-append_left done (pair ∷ []) (path, bytes) (stored_by path bytes is (was (to ++ path) (Stored bytes) apart_from e))

      folder_at : (path : List ℕ) → IsPath path → get middle (to ++ path) ≡ Some Directory
          → (to ++ path ≡ to ++ pair.0) ⊎ (to ++ path ≢ to ++ pair.0)
          → (other : Pair) × Contains (done ++ pair ∷ []) other × IsAbove path other.0
      folder_at path is e (inl same) =
          let f : Some Directory ≡ Some (Stored pair.1) = sym e ∙ (ap (get middle) same ∙ placed.here) in absurd (cc)
      folder_at path is e (inr apart_from) = folder_by path is (was (to ++ path) Directory apart_from e)

      pub next : IsDone middle (done ++ pair ∷ [])
      next = record {
        is_tree = placed_tree tree (to ++ pair.0) (Stored pair.1) middle is_done.is_tree goal no_folder placed;
        sources = λ other held. elim (Contains-append_cases done (pair ∷ []) other held) [
          | inl old_one ↦ is_done.sources other old_one
          | inr last ↦ elim (contains_cases other pair [] last) [
            | inl same ↦ subst (λ (q : Pair). get old q.0 ≡ Some (Stored q.1)) same source
            | inr none ↦ absurd (contains_none other none)
          ]
        ];
        files = λ other held. elim (Contains-append_cases done (pair ∷ []) other held) [
          | inl old_one ↦ files_by other old_one (text_same_or_not (to ++ other.0) (to ++ pair.0))
          | inr last ↦ elim (contains_cases other pair [] last) [
            | inl same ↦ subst (λ (q : Pair). get middle (to ++ q.0) ≡ Some (Stored q.1)) same placed.here
            | inr none ↦ absurd (contains_none other none)
          ]
        ];
        stored = λ path bytes is e. stored_at path bytes is e (text_same_or_not (to ++ path) (to ++ pair.0));
        folders = λ path is e. folder_at path is e (text_same_or_not (to ++ path) (to ++ pair.0));
      }

    copied : (paths : List (List ℕ)) (pairs : List Pair) → IsPlan old to paths pairs → (tree after : Tree)
        (done rest files : List Pair) → Written tree files after → files ≡ goals to rest → pairs ≡ done ++ rest
        → IsDone tree done → IsDone after pairs
    copied paths pairs plan _ _ done [] _ (nothing tree) same e is_done =
        subst (IsDone tree) (sym (append-nil done) ∙ sym e) is_done
    copied paths pairs plan _ _ done (pair ∷ rest) _ (nothing tree) same e is_done = absurd (cc)
    copied paths pairs plan _ _ done [] _ (one_more tree middle after file more placed later) same e is_done = absurd (cc)
    copied paths pairs plan _ _ done (pair ∷ rest) _ (one_more tree middle after file more placed later) same e is_done =
        let held : Contains pairs pair =
        subst (λ ps. Contains ps pair) (sym e) (Contains-append_right done (pair ∷ rest) pair (contains_here pair rest)) in
        copied paths pairs plan middle after (done ++ pair ∷ []) rest more later (goals_behind to file pair more rest same)
        (e ∙ sym (append_assoc done (pair ∷ []) rest))
        (next tree middle done pair (plan.files pair held) (plan.goals pair held)
        (placed_at to tree middle file pair more rest same placed) is_done)

-- ---- the tree below the folder

never_both : (bytes : List ℕ) → Some (Stored bytes) ≡ Some Directory → ⊥
never_both bytes e = cc

module _ (old after below : Tree) (to : List ℕ) (to_is : IsPath to) (to_deep : to ≢ codes "/") where
  not_nothing : (xs ys : List ℕ) → xs ≢ [] → xs ++ ys ≢ []
  not_nothing [] ys some e = some refl
  not_nothing (x ∷ xs) ys some e = cc

  parent_there : IsBelow after to below → IsTree after → (parent path : List ℕ) (entry : Entry) → parent ≢ codes "/"
      → get below path ≡ Some entry → IsParent parent path → get after (to ++ parent) ≡ Some Directory
  parent_there is_below is_after parent path entry deep e p =
      let low : path ≢ codes "/" = λ top. nothing_above_root parent path top (parent_of parent path p) in
      let there : get after (to ++ path) ≡ Some entry = sym (is_below.each path (is_below.paths path entry e) low) ∙ e in
      let longer = child_longer parent path p deep in
      let above : IsAbove (to ++ parent) (to ++ path) =
      below_by_text (to ++ parent) longer.more (to ++ path) (not_nothing to parent (some_to to to_is to_deep))
      (is_after.paths (to ++ path) entry there)
      (ap (λ q. to ++ q) longer.is ∙ sym (append_assoc to parent (47 ∷ longer.more))) in
      above_is_folder after is_after (to ++ parent) (to ++ path) entry above there

  -- the root of what stands below, or what stands behind the folder
  at : IsBelow after to below → (path : List ℕ) → IsPath path
      → (path ≡ codes "/") ⊎ ((path ≢ codes "/") × (get below path ≡ get after (to ++ path)))
  at is_below path is =
      elim (text_same_or_not path (codes "/")) [
        | inl top ↦ inl top
        | inr deep ↦ inr (deep, is_below.each path is deep)
      ]

  no_file_on_top : IsBelow after to below → (path bytes : List ℕ) → path ≡ codes "/" → get below path ≡ Some (Stored bytes) → ⊥
  no_file_on_top is_below path bytes top e = never_both bytes (sym e ∙ (ap (get below) top ∙ is_below.root))

  module _ (paths : List (List ℕ)) (pairs : List Pair) (is_old : IsTree old) (free : get old to ≡ None)
      (plan : IsPlan old to paths pairs) (is_below : IsBelow after to below)
      (done : IsDone to to_is to_deep old is_old free after pairs) where
    needed : (path : List ℕ) → (pair : Pair) × Contains pairs pair × IsAbove path pair.0 → IsAboveFile below path
    needed path found =
        let source : get old found.0.0 ≡ Some (Stored found.0.1) = plan.files found.0 found.1 in
        let is : IsPath found.0.0 = is_old.paths found.0.0 (Stored found.0.1) source in
        elim (at is_below found.0.0 is) [
          | inl top ↦ absurd (nothing_above_root path found.0.0 top found.2)
          | inr there ↦ record {
            path = found.0.0;
            bytes = found.0.1;
            stored = there.1 ∙ done.files found.0 found.1;
            above = found.2;
          }
        ]

    parents : (parent path : List ℕ) (entry : Entry) → get below path ≡ Some entry → IsParent parent path
        → get below parent ≡ Some Directory
    parents parent path entry e p =
        elim (at is_below parent p.is_path) [
          | inl top ↦ ap (get below) top ∙ is_below.root
          | inr there ↦ there.1 ∙ parent_there is_below done.is_tree parent path entry there.0 e p
        ]

    files : (path bytes : List ℕ) → Contains paths path → get old path ≡ Some (Stored bytes)
        → get below path ≡ Some (Stored bytes)
    files path bytes held e =
        elim (at is_below path (is_old.paths path (Stored bytes) e)) [
          | inl top ↦ absurd (never_both bytes (sym e ∙ (ap (get old) top ∙ is_old.root)))
          | inr there ↦ there.1 ∙ done.files (path, bytes) (plan.whole path bytes held e)
        ]

    looked_at : (path bytes : List ℕ) → get below path ≡ Some (Stored bytes) → Contains paths path
    looked_at path bytes e =
        elim (at is_below path (is_below.paths path (Stored bytes) e)) [
          | inl top ↦ absurd (no_file_on_top is_below path bytes top e)
          | inr there ↦ plan.looked_at (path, bytes)
              (done.stored path bytes (is_below.paths path (Stored bytes) e) (sym there.1 ∙ e))
        ]

    no_more : (path bytes : List ℕ) → get below path ≡ Some (Stored bytes) → get old path ≡ Some (Stored bytes)
    no_more path bytes e =
        elim (at is_below path (is_below.paths path (Stored bytes) e)) [
          | inl top ↦ absurd (no_file_on_top is_below path bytes top e)
          | inr there ↦ plan.files (path, bytes)
              (done.stored path bytes (is_below.paths path (Stored bytes) e) (sym there.1 ∙ e))
        ]

    folders : (path : List ℕ) → get below path ≡ Some Directory → (path ≡ codes "/") ⊎ IsAboveFile below path
    folders path e =
        elim (at is_below path (is_below.paths path Directory e)) [
          | inl top ↦ inl top
          | inr there ↦ inr (needed path (done.folders path (is_below.paths path Directory e) (sym there.1 ∙ e)))
        ]

pub copied_is_copy : CopiedIsCopy
copied_is_copy old after below to paths pairs is_old to_is to_deep free plan writes is_below =
    let done : IsDone to to_is to_deep old is_old free after pairs =
    copied to to_is to_deep old is_old free paths pairs plan old after [] pairs (goals to pairs) writes refl refl
    (at_start to to_is to_deep old is_old free) in
    record {
      is_tree = record {
        paths = is_below.paths;
        root = is_below.root;
        parents = parents old after below to to_is to_deep paths pairs is_old free plan is_below done;
      };
      files = files old after below to to_is to_deep paths pairs is_old free plan is_below done;
      looked_at = looked_at old after below to to_is to_deep paths pairs is_old free plan is_below done;
      no_more = no_more old after below to to_is to_deep paths pairs is_old free plan is_below done;
      folders = folders old after below to to_is to_deep paths pairs is_old free plan is_below done;
    }

-- ---- what isn't touched

-- of two that stand above one path, one is above the other
pub comparable : (some other path : List ℕ) → IsAbove some path → IsAbove other path
    → (some ≡ other) ⊎ (IsAbove some other ⊎ IsAbove other some)
comparable _ other _ (parent_of some path p) above =
    elim (above_by_parent other some path p above) [
      | inl same ↦ inl (sym same)
      | inr higher ↦ inr (inr higher)
    ]
comparable _ other _ (further some parent path a p) above =
    elim (above_by_parent other parent path p above) [
      | inl same ↦ inr (inl (subst (λ q. IsAbove some q) (sym same) a))
      | inr higher ↦ comparable some other parent a higher
    ]

apart_from_goal : (to path goal : List ℕ) → IsApart to path → IsAbove to goal → IsAbove path goal → ⊥
apart_from_goal to path goal apart_from above wrong =
    elim (comparable path to goal wrong above) [
      | inl same ↦ apart_from.other same
      | inr either ↦ elim (either) [
        | inl higher ↦ apart_from.not_above higher
        | inr lower ↦ apart_from.not_below lower
      ]
    ]

stays_by : (tree middle : Tree) (path : List ℕ) (entry : Option Entry) → get tree path ≡ entry
    → ((old : Entry) → entry ≡ Some old → get middle path ≡ Some old) → (entry ≡ None → get middle path ≡ None)
    → get middle path ≡ get tree path
stays_by tree middle path None e some none = none refl ∙ sym e
stays_by tree middle path (Some old) e some none = some old refl ∙ sym e

stays_once : (tree middle : Tree) (to path goal bytes : List ℕ) → IsApart to path → IsAbove to goal
    → Places tree goal (Stored bytes) middle → get middle path ≡ get tree path
stays_once tree middle to path goal bytes apart_from above placed =
    let other : path ≢ goal = λ same. apart_from.not_below (subst (λ q. IsAbove to q) (sym same) above) in
    stays_by tree middle path (get tree path) refl (λ old e. placed.stays path old other e)
    (λ e. placed.no_more path other (apart_from_goal to path goal apart_from above) e)

stays_through : (to path : List ℕ) → IsApart to path → (tree after : Tree) (rest files : List Pair)
    → Written tree files after → files ≡ goals to rest → ((pair : Pair) → Contains rest pair → IsAbove to (to ++ pair.0))
    → get after path ≡ get tree path
stays_through to path apart_from _ _ [] _ (nothing tree) same above = refl
stays_through to path apart_from _ _ (pair ∷ rest) _ (nothing tree) same above = absurd (cc)
stays_through to path apart_from _ _ [] _ (one_more tree middle after file more placed later) same above = absurd (cc)
stays_through to path apart_from _ _ (pair ∷ rest) _ (one_more tree middle after file more placed later) same above =
    stays_through to path apart_from middle after rest more later (goals_behind to file pair more rest same)
    (λ other held. above other (contains_there other pair rest held))
    ∙ stays_once tree middle to path (to ++ pair.0) pair.1 apart_from (above pair (contains_here pair rest))
    (placed_at to tree middle file pair more rest same placed)

pub copied_leaves_rest : CopiedLeavesRest
copied_leaves_rest old after to paths pairs is_old to_is to_deep free plan writes =
    let done : IsDone to to_is to_deep old is_old free after pairs =
    copied to to_is to_deep old is_old free paths pairs plan old after [] pairs (goals to pairs) writes refl refl
    (at_start to to_is to_deep old is_old free) in
    record {
      is_tree = done.is_tree;
      stays = λ path apart_from. stays_through to path apart_from old after pairs (goals to pairs) writes refl
          (λ pair held. to_above to to_is to_deep pair.0 (is_old.paths pair.0 (Stored pair.1) (plan.files pair held))
          (plan.goals pair held));
    }
