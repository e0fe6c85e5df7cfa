-- Copies can be written where nothing stands, and no file above.
use Rattle.std.proofs.Common.{◌≡◌, ◌≢◌, ◌⊎◌, ◌++◌, [], ◌∷◌, ℕ, List, Option, Some, None, refl, sym, ap, ◌∙◌, subst, inl, inr, append_assoc}
use Rattle.std.specs.FinMap.{get}
use Rattle.std.specs.Prelude.{codes, Contains}
use Rattle.std.proofs.lemmas.List.Elements.{Contains-append_left, Contains-append_right}
use Rattle.tree_spec.proofs.ByteLists.{text_same_or_not}
use Rattle.tree_spec.proofs.Contained.{contains_here}
use Rattle.tree_spec.proofs.Copies.{above_is_folder}
use Rattle.tree_spec.specs.Paths.{IsPath, IsAbove}
use Rattle.tree_spec.specs.Trees.{Tree, IsTree, Places}
use Rattle.tree_spec.specs.declared.Entry.{Entry}
use Rattle.tree_spec.specs.declared.Entry.TheVariants.{Stored, Directory}
use Rattle.workload_spec.proofs.PutFiles.{put_is_placed}
use Rattle.workload_spec.specs.Packages.{with_file}
use Rattle.vendor_spec.proofs.Writes.{IsDone, Was, above_behind, at_start, comparable, next, to_above, was}
use Rattle.vendor_spec.specs.Laws.{SomeCopied}
use Rattle.vendor_spec.specs.Vendored.{Pair, IsPlan, Copied, Written, goals, nothing, one_more}

module _ (old : Tree) (to : List ℕ) (to_is : IsPath to) (to_deep : to ≢ codes "/") (is_old : IsTree old)
    (free : get old to ≡ None) (clear : (file bytes : List ℕ) → get old file ≡ Some (Stored bytes) → IsAbove file to → ⊥) where
  -- each file that stands there was there, or is a copy
  record IsOneOf (done : List Pair) (path bytes : List ℕ) : Type 0 where
    by : (get old path ≡ Some (Stored bytes)) ⊎ ((pair : Pair) × Contains done pair × (path ≡ to ++ pair.0))

  abbrev Knows : Tree → List Pair → Type 0
  Knows tree done = (path bytes : List ℕ) → get tree path ≡ Some (Stored bytes) → IsOneOf done path bytes

  abbrev Done : Tree → List Pair → Type 0
  Done tree done = IsDone to to_is to_deep old is_old free tree done

  module _ (tree : Tree) (done : List Pair) (pair : Pair) (source : get old pair.0 ≡ Some (Stored pair.1))
      (goal : IsPath (to ++ pair.0)) (is_done : Done tree done) (knows : Knows tree done) where
    own_path : IsPath pair.0
    own_path = is_old.paths pair.0 (Stored pair.1) source

    no_old_file : (file bytes : List ℕ) → IsAbove file (to ++ pair.0) → get old file ≡ Some (Stored bytes) → ⊥
    no_old_file file bytes above e =
        elim (comparable file to (to ++ pair.0) above (to_above to to_is to_deep pair.0 own_path goal)) [
          | inl same ↦ (let f : None ≡ Some (Stored bytes) = sym free ∙ (ap (get old) (sym same) ∙ e) in absurd (cc))
          | inr either ↦ elim (either) [
            | inl higher ↦ clear file bytes e higher
            | inr lower ↦ (let f : None ≡ Some Directory =
                sym free ∙ above_is_folder old is_old to file (Stored bytes) lower e in absurd (cc))
          ]
        ]

    no_copy : (file : List ℕ) (other : Pair) → IsAbove file (to ++ pair.0) → Contains done other → file ≡ to ++ other.0 → ⊥
    no_copy file other above held same =
        let there = is_done.sources other held in
        let up : IsAbove other.0 pair.0 =
        above_behind to to_is to_deep other.0 pair.0 (is_old.paths other.0 (Stored other.1) there) own_path
        (subst (λ q. IsAbove q (to ++ pair.0)) same above) in
        let f : Some (Stored other.1) ≡ Some Directory =
        sym there ∙ above_is_folder old is_old other.0 pair.0 (Stored pair.1) up source in
        absurd (cc)

    no_file : (file bytes : List ℕ) → IsAbove file (to ++ pair.0) → get tree file ≡ Some (Stored bytes) → ⊥
    no_file file bytes above e =
        elim ((knows file bytes e).by) [
          | inl was ↦ no_old_file file bytes above was
          | inr copy ↦ no_copy file copy.0 above copy.1 copy.2
        ]

    only_folders : (folder : List ℕ) (entry : Entry) → IsAbove folder (to ++ pair.0) → get tree folder ≡ Some entry → entry ≡ Directory
    only_folders folder Directory above e = refl
    only_folders folder (Stored bytes) above e = absurd (no_file folder bytes above e)

    abbrev middle : Tree
    middle = with_file tree (to ++ pair.0) pair.1

    placed : Places tree (to ++ pair.0) (Stored pair.1) middle
    placed = put_is_placed tree (to ++ pair.0) pair.1 goal only_folders

    later : Done middle (done ++ pair ∷ [])
    later = next to to_is to_deep old is_old free tree middle done pair source goal placed is_done

    more : (path bytes : List ℕ) → IsOneOf done path bytes → IsOneOf (done ++ pair ∷ []) path bytes
    more path bytes one = elim (one.by) [
      | inl old_one ↦ record { by = inl old_one }
      | inr copy ↦ record { by = inr (copy.0, Contains-append_left done (pair ∷ []) copy.0 copy.1, copy.2) }
    ]

    knows_by : (path bytes : List ℕ) → get middle path ≡ Some (Stored bytes) → (path ≡ to ++ pair.0) ⊎ (path ≢ to ++ pair.0)
        → IsOneOf (done ++ pair ∷ []) path bytes
    knows_by path bytes e (inl same) =
        record { by = inr (pair, Contains-append_right done (pair ∷ []) pair (contains_here pair []), same) }
    knows_by path bytes e (inr other) =
        elim ((was to to_is to_deep old is_old free tree middle done pair source goal placed is_done path (Stored bytes) other e).by) [
          | inl before ↦ more path bytes (knows path bytes before)
          | inr folder ↦ absurd (let f : Stored bytes ≡ Directory = folder.1 in cc)
        ]

    knows_more : Knows middle (done ++ pair ∷ [])
    knows_more path bytes e = knows_by path bytes e (text_same_or_not path (to ++ pair.0))

  written : (paths : List (List ℕ)) (pairs : List Pair) → IsPlan old to paths pairs → (tree : Tree) (done rest : List Pair)
      → pairs ≡ done ++ rest → Done tree done → Knows tree done → (after : Tree) × Written tree (goals to rest) after
  written paths pairs plan tree done [] e is_done knows = (tree, nothing tree)
  written paths pairs plan tree done (pair ∷ rest) e is_done knows =
      let held : Contains pairs pair =
      subst (λ ps. Contains ps pair) (sym e) (Contains-append_right done (pair ∷ rest) pair (contains_here pair rest)) in
      let source = plan.files pair held in
      let goal = plan.goals pair held in
      let on =
      written paths pairs plan (middle tree done pair source goal is_done knows) (done ++ pair ∷ []) rest
      (e ∙ sym (append_assoc done (pair ∷ []) rest)) (later tree done pair source goal is_done knows)
      (knows_more tree done pair source goal is_done knows) in (
        on.0,
        one_more tree (middle tree done pair source goal is_done knows) on.0 (to ++ pair.0, pair.1) (goals to rest)
            (placed tree done pair source goal is_done knows) on.1,
      )

pub some_copied : SomeCopied
some_copied old to paths pairs is_old to_is to_deep free clear plan =
    written old to to_is to_deep is_old free clear paths pairs plan old [] pairs refl
    (at_start to to_is to_deep old is_old free) (λ path bytes e. record { by = inl e })
