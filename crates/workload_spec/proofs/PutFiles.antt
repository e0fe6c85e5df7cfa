-- A file that is placed is put, with the folders above it; and where no file stands above it, a file that is put is
-- placed.
use Rattle.std.proofs.Common.{◌≡◌, ◌≢◌, ◌⊎◌, ℕ, List, Some, None, refl, sym, ap, ◌∙◌, subst, inl, inr}
use Rattle.std.specs.FinMap.{get, insert}
use Rattle.std.specs.Prelude.{drop}
use Rattle.tree_spec.proofs.ByteLists.{text_same_or_not}
use Rattle.tree_spec.proofs.FolderLemmas.{folders_climb}
use Rattle.tree_spec.proofs.Insertion.{get_here, get_other, same_tree, found_or_not}
use Rattle.tree_spec.proofs.PathsAbove.{above_other, above_by_parent, above_or_not, nothing_above_root}
use Rattle.tree_spec.specs.FoldersAbove.{folders_from, Climbs, at_root, from_parent}
use Rattle.tree_spec.specs.Paths.{IsPath, IsParent, IsAbove, parent_of, further}
use Rattle.tree_spec.specs.Trees.{Tree, Places}
use Rattle.tree_spec.specs.declared.Entry.{Entry}
use Rattle.tree_spec.specs.declared.Entry.TheVariants.{Stored, Directory}
use Rattle.workload_spec.specs.Laws.{PlacedIsPut}
use Rattle.workload_spec.specs.Packages.{with_folders, with_file}

module _ (tree : Tree) where
  -- each of the folders is made
  made : (top other : List ℕ) (folders : List (List ℕ)) → Climbs top folders → (other ≡ top) ⊎ IsAbove other top → get (with_folders tree folders) other ≡ Some Directory
  made _ other _ (at_root top e) (inl same) = ap (get (insert tree top Directory)) same ∙ get_here tree top Directory
  made _ other _ (at_root top e) (inr up) = absurd (nothing_above_root other top e up)
  made _ other _ (from_parent parent top folders p climbs) (inl same) =
      ap (get (insert (with_folders tree folders) top Directory)) same ∙ get_here (with_folders tree folders) top Directory
  made _ other _ (from_parent parent top folders p climbs) (inr up) =
      get_other (with_folders tree folders) top Directory other (above_other other top up)
      ∙ made parent other folders climbs (above_by_parent other parent top p up)

  -- and nothing else
  kept : (top other : List ℕ) (folders : List (List ℕ)) → Climbs top folders → other ≢ top → (IsAbove other top → ⊥) → get (with_folders tree folders) other ≡ get tree other
  kept _ other _ (at_root top e) n m = get_other tree top Directory other n
  kept _ other _ (from_parent parent top folders p climbs) n m =
      get_other (with_folders tree folders) top Directory other n
      ∙ kept parent other folders climbs
      (λ same. let P : List ℕ → Type 0 = λ x. IsParent x top in m (parent_of other top (subst P (sym same) p)))
      (λ up. m (further other parent top up p))

  above_made : (path other : List ℕ) (folders : List (List ℕ)) → Climbs path folders → IsAbove other path → get (with_folders tree (drop 1 folders)) other ≡ Some Directory
  above_made _ other _ (at_root path e) up = absurd (nothing_above_root other path e up)
  above_made _ other _ (from_parent parent path folders p climbs) up = made parent other folders climbs (above_by_parent other parent path p up)

  others_kept : (path other : List ℕ) (folders : List (List ℕ)) → Climbs path folders → (IsAbove other path → ⊥) → get (with_folders tree (drop 1 folders)) other ≡ get tree other
  others_kept _ other _ (at_root path e) m = refl
  others_kept _ other _ (from_parent parent path folders p climbs) m =
      kept parent other folders climbs
      (λ same. let P : List ℕ → Type 0 = λ x. IsParent x path in m (parent_of other path (subst P (sym same) p)))
      (λ up. m (further other parent path up p))

  module _ (after : Tree) (path bytes : List ℕ) (is : IsPath path) (placed : Places tree path (Stored bytes) after) where
    abbrev folders : List (List ℕ)
    folders = drop 1 (folders_from path)

    same_at : (other : List ℕ) → (other ≡ path) ⊎ (other ≢ path) → IsAbove other path ⊎ (IsAbove other path → ⊥) → (get tree other ≡ None) ⊎ ((old : Entry) × (get tree other ≡ Some old)) → get after other ≡ get (with_file tree path bytes) other
    same_at other (inl e) r s =
        ap (get after) e ∙ (placed.here ∙ sym (ap (get (with_file tree path bytes)) e ∙ get_here (with_folders tree folders) path (Stored bytes)))
    same_at other (inr n) (inl up) s =
        placed.above other up
        ∙ sym (get_other (with_folders tree folders) path (Stored bytes) other n ∙ above_made path other (folders_from path) (folders_climb path is) up)
    same_at other (inr n) (inr m) (inl none) =
        placed.no_more other n m none
        ∙ sym (get_other (with_folders tree folders) path (Stored bytes) other n ∙ (others_kept path other (folders_from path) (folders_climb path is) m ∙ none))
    same_at other (inr n) (inr m) (inr (old, was)) =
        placed.stays other old n was
        ∙ sym (get_other (with_folders tree folders) path (Stored bytes) other n ∙ (others_kept path other (folders_from path) (folders_climb path is) m ∙ was))

pub placed_is_put : PlacedIsPut
placed_is_put tree after path bytes is placed =
    same_tree after (with_file tree path bytes)
    (λ other. same_at tree after path bytes is placed other (text_same_or_not other path) (above_or_not other path is) (found_or_not tree other))

-- no file stands above it
module _ (tree : Tree) (path bytes : List ℕ) (is : IsPath path)
    (clear : (folder : List ℕ) (old : Entry) → IsAbove folder path → get tree folder ≡ Some old → old ≡ Directory) where
  abbrev climbed : List (List ℕ)
  climbed = drop 1 (folders_from path)

  stays_by : (other : List ℕ) (old : Entry) → get tree other ≡ Some old → IsAbove other path ⊎ (IsAbove other path → ⊥)
      → get (with_folders tree climbed) other ≡ Some old
  stays_by other old was (inl up) =
      above_made tree path other (folders_from path) (folders_climb path is) up ∙ ap Some (sym (clear other old up was))
  stays_by other old was (inr m) = others_kept tree path other (folders_from path) (folders_climb path is) m ∙ was

  pub put_is_placed : Places tree path (Stored bytes) (with_file tree path bytes)
  put_is_placed = record {
    here = get_here (with_folders tree climbed) path (Stored bytes);
    above = λ folder up.
        get_other (with_folders tree climbed) path (Stored bytes) folder (above_other folder path up)
        ∙ above_made tree path folder (folders_from path) (folders_climb path is) up;
    stays = λ other old n was.
        get_other (with_folders tree climbed) path (Stored bytes) other n ∙ stays_by other old was (above_or_not other path is);
    no_more = λ other n m none.
        get_other (with_folders tree climbed) path (Stored bytes) other n
        ∙ (others_kept tree path other (folders_from path) (folders_climb path is) m ∙ none);
  }
