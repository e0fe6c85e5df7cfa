-- A copy of the files of a tree at some paths is, at these paths, that tree without the folders that have none of them.
use Rattle.std.proofs.Common.{◌≡◌, ◌⊎◌, ℕ, List, Option, Some, None, refl, sym, ap, ◌∙◌, inl, inr}
use Rattle.std.specs.FinMap.{get}
use Rattle.std.specs.Prelude.{Contains, codes}
use Rattle.tree_spec.specs.Copies.{IsAboveFile, IsCopy}
use Rattle.tree_spec.specs.Laws.{CopyIsThinned}
use Rattle.tree_spec.specs.LeftOutFolders.{HasFileBelow, IsLeftOut}
use Rattle.tree_spec.specs.Paths.{IsAbove, parent_of, further}
use Rattle.tree_spec.specs.Trees.{Tree, IsTree}
use Rattle.tree_spec.specs.declared.Entry.{Entry}
use Rattle.tree_spec.specs.declared.Entry.TheVariants.{Stored, Directory}

pub above_is_folder : (tree : Tree) → IsTree tree → (folder path : List ℕ) (entry : Entry) → IsAbove folder path
    → get tree path ≡ Some entry → get tree folder ≡ Some Directory
above_is_folder tree is _ _ entry (parent_of folder path p) e = is.parents folder path entry e p
above_is_folder tree is _ _ entry (further folder parent path a p) e =
    above_is_folder tree is folder parent Directory a (is.parents parent path entry e p)

module _ (old copy : Tree) (paths : List (List ℕ)) (is : IsTree old) (is_copy : IsCopy old paths copy) where
  abbrev AtPath : List ℕ → Type 0
  AtPath path = (get old path ≡ get copy path) ⊎ IsLeftOut (get old) (get copy) paths path

  -- no folder of the copy stands where the tree has none
  folder_was : (path : List ℕ) → (path ≡ codes "/") ⊎ IsAboveFile copy path → get old path ≡ Some Directory
  folder_was path (inl top) = ap (get old) top ∙ is.root
  folder_was path (inr needed) =
      above_is_folder old is path needed.path (Stored needed.bytes) needed.above
      (is_copy.no_more needed.path needed.bytes needed.stored)

  none_there : (path : List ℕ) (found : Option Entry) → get old path ≡ None → get copy path ≡ found → found ≡ None
  none_there path None was e = refl
  none_there path (Some Directory) was e =
      let f : None ≡ Some Directory = sym was ∙ folder_was path (is_copy.folders path e) in absurd (cc)
  none_there path (Some (Stored bytes)) was e =
      let f : None ≡ Some (Stored bytes) = sym was ∙ is_copy.no_more path bytes e in absurd (cc)

  no_file_below : (path : List ℕ) → get copy path ≡ None → HasFileBelow (get old) paths path → ⊥
  no_file_below path e has =
      let held : get copy has.path ≡ Some (Stored has.bytes) =
      is_copy.files has.path has.bytes has.is_looked_at has.stored in
      let f : None ≡ Some Directory =
      sym e ∙ above_is_folder copy is_copy.is_tree path has.path (Stored has.bytes) has.above held in
      absurd (cc)

  folder_or_none : (path : List ℕ) (found : Option Entry) → get old path ≡ Some Directory → get copy path ≡ found
      → AtPath path
  folder_or_none path None was e = inr (record { was = was; is = e; bare = no_file_below path e })
  folder_or_none path (Some Directory) was e = inl (was ∙ sym e)
  folder_or_none path (Some (Stored bytes)) was e =
      let f : Some Directory ≡ Some (Stored bytes) = sym was ∙ is_copy.no_more path bytes e in absurd (cc)

  at_path : (path : List ℕ) (found : Option Entry) → Contains paths path → get old path ≡ found → AtPath path
  at_path path None held e = inl (e ∙ sym (none_there path (get copy path) e refl))
  at_path path (Some Directory) held e = folder_or_none path (get copy path) e refl
  at_path path (Some (Stored bytes)) held e = inl (e ∙ sym (is_copy.files path bytes held e))

pub copy_is_thinned : CopyIsThinned
copy_is_thinned old paths copy is is_copy =
    record { each = λ path held. at_path old copy paths is is_copy path (get old path) held refl }
