-- A file that is put is placed, with the folders above it.
use Rattle.std.proofs.Common.{◌≡◌, ◌≢◌, ◌⊎◌, ℕ, List, Bool, true, false, Option, Some, None, refl, sym, ap, ◌∙◌, subst, inl, inr}
use Rattle.std.specs.FinMap.{get, insert}
use Rattle.std.specs.List.{list_all}
use Rattle.std.specs.Prelude.{◌&&◌, not, drop}
use Rattle.tree_spec.proofs.FolderLemmas.{folders_climb}
use Rattle.tree_spec.proofs.Insertion.{get_here, get_other}
use Rattle.tree_spec.proofs.PathsAbove.{above_other, above_by_parent, above_or_not, nothing_above_root}
use Rattle.tree_spec.specs.FoldersAbove.{folders_from, Climbs, at_root, from_parent}
use Rattle.tree_spec.specs.Paths.{IsPath, IsParent, IsAbove, parent_of, further}
use Rattle.tree_spec.specs.Trees.{Tree, Places}
use Rattle.tree_spec.specs.declared.Entry.{Entry}
use Rattle.tree_spec.specs.declared.Entry.TheVariants.{Stored, Directory}
use Rattle.session_spec.specs.Edits.{is_folder, is_file, with_folders}
use Rattle.session_spec.specs.Laws.{PutPlaces}

pub both : (a b : Bool) → (a && b) ≡ true → (a ≡ true) × (b ≡ true)
both true b e = (refl, e)
both false b e = absurd (cc)

directory_by : (seen : Option Entry) (old : Entry) → seen ≡ Some old → not (is_file seen) ≡ true → old ≡ Directory
directory_by None old e f = absurd (cc)
directory_by (Some Directory) old e f = cc
directory_by (Some (Stored bytes)) old e f = absurd (cc)

module _ (tree : Tree) where
  made : (top other : List ℕ) (folders : List (List ℕ)) → Climbs top folders → (other ≡ top) ⊎ IsAbove other top → get (with_folders tree folders) other ≡ Some Directory
  made _ other _ (at_root top e) (inl same) = ap (get (insert tree top Directory)) same ∙ get_here tree top Directory
  made _ other _ (at_root top e) (inr up) = absurd (nothing_above_root other top e up)
  made _ other _ (from_parent parent top folders p climbs) (inl same) =
      ap (get (insert (with_folders tree folders) top Directory)) same ∙ get_here (with_folders tree folders) top Directory
  made _ other _ (from_parent parent top folders p climbs) (inr up) =
      get_other (with_folders tree folders) top Directory other (above_other other top up)
      ∙ made parent other folders climbs (above_by_parent other parent top p up)

  kept : (top other : List ℕ) (folders : List (List ℕ)) → Climbs top folders → other ≢ top → (IsAbove other top → ⊥) → get (with_folders tree folders) other ≡ get tree other
  kept _ other _ (at_root top e) n m = get_other tree top Directory other n
  kept _ other _ (from_parent parent top folders p climbs) n m =
      get_other (with_folders tree folders) top Directory other n
      ∙ kept parent other folders climbs
      (λ same. let P : List ℕ → Type 0 = λ x. IsParent x top in m (parent_of other top (subst P (sym same) p)))
      (λ up. m (further other parent top up p))

  no_file : (top other : List ℕ) (folders : List (List ℕ)) → Climbs top folders → list_all (λ folder. not (is_file (get tree folder))) folders ≡ true
      → (other ≡ top) ⊎ IsAbove other top → not (is_file (get tree other)) ≡ true
  no_file _ other _ (at_root top e) all (inl same) = ap (λ (x : List ℕ). not (is_file (get tree x))) same ∙ (both _ _ all).0
  no_file _ other _ (at_root top e) all (inr up) = absurd (nothing_above_root other top e up)
  no_file _ other _ (from_parent parent top folders p climbs) all (inl same) = ap (λ (x : List ℕ). not (is_file (get tree x))) same ∙ (both _ _ all).0
  no_file _ other _ (from_parent parent top folders p climbs) all (inr up) =
      no_file parent other folders climbs (both _ _ all).1 (above_by_parent other parent top p up)

  stays_by : (path parent other : List ℕ) (folders : List (List ℕ)) (old : Entry) → IsParent parent path → Climbs parent folders → list_all (λ folder. not (is_file (get tree folder))) folders ≡ true
      → get tree other ≡ Some old → IsAbove other path ⊎ (IsAbove other path → ⊥) → get (with_folders tree folders) other ≡ Some old
  stays_by path parent other folders old p climbs all was (inl up) =
      let where_is = above_by_parent other parent path p up in
      made parent other folders climbs where_is ∙ ap Some (sym (directory_by (get tree other) old was (no_file parent other folders climbs all where_is)))
  stays_by path parent other folders old p climbs all was (inr m) =
      kept parent other folders climbs
      (λ same. let P : List ℕ → Type 0 = λ x. IsParent x path in m (parent_of other path (subst P (sym same) p)))
      (λ up. m (further other parent path up p)) ∙ was

  placed : (path : List ℕ) (folders : List (List ℕ)) (entry : Entry) → IsPath path → Climbs path folders
      → list_all (λ folder. not (is_file (get tree folder))) (drop 1 folders) ≡ true → Places tree path entry (insert (with_folders tree (drop 1 folders)) path entry)
  placed _ _ entry is (at_root path e) all = record {
    here = get_here tree path entry;
    above = λ folder up. absurd (nothing_above_root folder path e up);
    stays = λ other old n was. get_other tree path entry other n ∙ was;
    no_more = λ other n m none. get_other tree path entry other n ∙ none;
  }
  placed _ _ entry is (from_parent parent path folders p climbs) all = record {
    here = get_here (with_folders tree folders) path entry;
    above = λ folder up. get_other (with_folders tree folders) path entry folder (above_other folder path up) ∙ made parent folder folders climbs (above_by_parent folder parent path p up);
    stays = λ other old n was. get_other (with_folders tree folders) path entry other n ∙ stays_by path parent other folders old p climbs all was (above_or_not other path is);
    no_more = λ other n m none. get_other (with_folders tree folders) path entry other n
        ∙ (kept parent other folders climbs
        (λ same. let P : List ℕ → Type 0 = λ x. IsParent x path in m (parent_of other path (subst P (sym same) p)))
        (λ up. m (further other parent path up p)) ∙ none);
  }

pub put_places : PutPlaces
put_places tree path bytes is can = placed tree path (folders_from path) (Stored bytes) is (folders_climb path is) (both (not (is_folder (get tree path))) _ can).1
