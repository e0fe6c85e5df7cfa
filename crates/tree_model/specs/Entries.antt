-- The tree that a map in memory stands for, and what may be done to it.
--     tree_of entries                                 the tree of a map from paths to entries
--     IsSettled tree path                             the root is a folder, and so are the parents above the path
--     IsBelowFile tree path                           a file stands above the path
--     IsFree tree path                                nothing stands at the path, and no file above it
--     IsBarred tree path                              no write can make a file at the path
--     file_of found                                   the bytes of what stands there, where it is a file
--     entry_for file                                  the entry that is put for a file's bytes, or for none
--     IsPlaced before path entry result after         an entry is placed, or a file stands above its place
--     IsPutNew before path entry result after         an entry is placed where its place is free, or it isn't free
--     IsPutFile before path bytes result after        a file is made, also in the place of one that is there
use Rattle.std.specs.Prelude.{◌≡◌, ◌≢◌, ◌⊎◌, ℕ, List, codes, Bool, true, false, Option, Some, None, Result, Ok}
use Rattle.std.specs.HashMap.{HashMap}
use Rattle.std.specs.Borrow.{Bor}
use Rattle.std.specs.FinMap.{get, from_entries}
use Rattle.tree_spec.specs.declared.Entry.{Entry}
use Rattle.tree_spec.specs.declared.Entry.TheVariants.{Stored, Directory}
use Rattle.tree_spec.specs.Paths.{IsParent, IsAbove}
use Rattle.tree_spec.specs.Trees.{Tree, Places}

-- own: the tree of a map from paths to entries
abbrev pub tree_of : {S : Type 0} → HashMap (List ℕ) Entry S → Tree
tree_of entries = from_entries entries.entries

-- own: the root is a folder, and above a path so is the parent of each entry
pub record IsSettled (tree : Tree) (path : List ℕ) : Type 0 where
  pub root : get tree (codes "/") ≡ Some Directory
  pub parents : (parent above : List ℕ) (entry : Entry) → IsAbove above path → get tree above ≡ Some entry
      → IsParent parent above → get tree parent ≡ Some Directory

-- own: a file stands above a path
pub record IsBelowFile (tree : Tree) (path : List ℕ) : Type 0 where
  pub file : List ℕ
  pub bytes : List ℕ
  pub above : IsAbove file path
  pub stored : get tree file ≡ Some (Stored bytes)

-- own: nothing stands at a path, and no file above it
pub record IsFree (tree : Tree) (path : List ℕ) : Type 0 where
  pub absent : get tree path ≡ None
  pub no_file : IsBelowFile tree path → ⊥

-- own: a write can't make a file where a folder stands or below a file
abbrev pub IsBarred : Tree → List ℕ → Type 0
IsBarred tree path = (get tree path ≡ Some Directory) ⊎ IsBelowFile tree path

-- own: the bytes of an entry, where it is a file
abbrev pub file_of : Option Entry → Option (List ℕ)
file_of None = None
file_of (Some Directory) = None
file_of (Some (Stored bytes)) = Some bytes

-- own: the entry that is put for a file's bytes, or for none
abbrev pub entry_for : Option (Bor (List ℕ)) → Entry
entry_for None = Directory
entry_for (Some bytes) = Stored bytes.now

-- ---- what a placing answers, and what it leaves

-- own: the entry is placed, or a file stands above it; unless it is placed, the tree is as it was
pub record IsPlaced {E : Type 0} (before : Tree) (path : List ℕ) (entry : Entry) (result : Result Bool E)
    (after : Tree) : Type 0 where
  pub placed : result ≡ Ok true → Places before path entry after
  pub barred : result ≡ Ok false → IsBelowFile before path
  pub same : result ≢ Ok true → after ≡ before

-- own: the entry is placed where its place was free, or its place isn't; unless it is placed, the tree is as it was
pub record IsPutNew {E : Type 0} (before : Tree) (path : List ℕ) (entry : Entry) (result : Result Bool E)
    (after : Tree) : Type 0 where
  pub placed : result ≡ Ok true → Places before path entry after
  pub free : result ≡ Ok true → IsFree before path
  pub taken : result ≡ Ok false → IsFree before path → ⊥
  pub same : result ≢ Ok true → after ≡ before

-- own: the file is made where nothing barred it, or something does; unless it is made, the tree is as it was
pub record IsPutFile {E : Type 0} (before : Tree) (path bytes : List ℕ) (result : Result Bool E)
    (after : Tree) : Type 0 where
  pub placed : result ≡ Ok true → Places before path (Stored bytes) after
  pub free : result ≡ Ok true → IsBarred before path → ⊥
  pub barred : result ≡ Ok false → IsBarred before path
  pub same : result ≢ Ok true → after ≡ before
