-- Trees from which folders are left out, and askings that come to the same without them.
--     HasFileBelow sights paths folder   a file stands below the folder, at one of these paths
--     IsLeftOut one other paths folder   a folder of the one, with no file below it at these paths, is absent in the other
--     IsThinned one other paths          at each of these paths the same stands in both, or a folder is left out
--     Spares sights later asking         behind each folder that it looks at, an asking goes on as if nothing stood
--                                        there, or a file below the folder is looked at: by the asking, or later
--     IgnoresFolders asking              behind no look does an asking tell a folder from nothing
use Rattle.std.specs.Prelude.{◌≡◌, ◌⊎◌, ◌++◌, ℕ, List, Option, Some, None, Contains}
use Rattle.asking_spec.specs.Askings.{answered, ask}
use Rattle.tree_spec.specs.LookAskings.{Sights, LookAsking, looks}
use Rattle.tree_spec.specs.Paths.{IsAbove}
use Rattle.tree_spec.specs.declared.Entry.{Entry}
use Rattle.tree_spec.specs.declared.Entry.TheVariants.{Stored, Directory}

-- own: a file that is looked at stands below the folder
pub record HasFileBelow (sights : Sights) (paths : List (List ℕ)) (folder : List ℕ) : Type 0 where
  pub path : List ℕ
  pub is_looked_at : Contains paths path
  pub bytes : List ℕ
  pub stored : sights path ≡ Some (Stored bytes)
  pub above : IsAbove folder path

-- own: a folder of the one that none of these files needs, and that the other lacks
pub record IsLeftOut (one other : Sights) (paths : List (List ℕ)) (folder : List ℕ) : Type 0 where
  pub was : one folder ≡ Some Directory
  pub is : other folder ≡ None
  pub bare : HasFileBelow one paths folder → ⊥

-- own: at these paths the other differs from the one by folders that are left out, and by nothing else
pub record IsThinned (one other : Sights) (paths : List (List ℕ)) : Type 0 where
  pub each : (path : List ℕ) → Contains paths path → (one path ≡ other path) ⊎ IsLeftOut one other paths path

-- own: what an asking of looks must do so that a folder that is left out decides nothing; `later` are the paths at which
-- is looked behind it
abbrev pub Spares : {X : Type 0} → Sights → List (List ℕ) → LookAsking X → Type 0
Spares sights later (answered value) = Unit {0}
Spares sights later (ask path next) =
    (sights path ≡ Some Directory → (next None ≡ next (Some Directory))
    ⊎ HasFileBelow sights (looks sights (next (sights path)) ++ later) path)
    × Spares sights later (next (sights path))

-- own: the asking goes on behind each folder as if nothing stood there, whatever stands at the other paths
abbrev pub IgnoresFolders : {X : Type 0} → LookAsking X → Type 0
IgnoresFolders (answered value) = Unit {0}
IgnoresFolders (ask path next) =
    (next None ≡ next (Some Directory)) × ((found : Option Entry) → IgnoresFolders (next found))
