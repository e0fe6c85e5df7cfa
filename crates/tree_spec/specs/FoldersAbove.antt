-- The folders at and above a path.
--     folders_from path         the path and the folders above it, the deepest first
--     folder_of path            the folder in which the path stands; of the root, the root
--     Climbs path folders       the same as `folders_from`, said by parents
--     front_text path           the path's text; that of the root is empty
--     second_or path folders    the second of the folders, or the path where there is none
use Rattle.std.specs.Prelude.{◌≡◌, ◌==◌, ◌++◌, [], ◌∷◌, ℕ, List, codes, bytes_eq, map, if◌then◌else◌}
use Rattle.tree_spec.specs.Paths.{IsParent}

-- what stands before each `/` of a text, and the text, the longest first
abbrev pub fronts_behind : List (List ℕ) → List ℕ → List ℕ → List (List ℕ)
fronts_behind fronts front [] = front ∷ fronts
fronts_behind fronts front (b ∷ rest) =
    fronts_behind (if b == 47 then front ∷ fronts else fronts) (front ++ b ∷ []) rest

-- the folder whose path's text stands before a `/`: the root where there is none
abbrev pub folder_at : List ℕ → List ℕ
folder_at [] = codes "/"
folder_at (b ∷ rest) = b ∷ rest

abbrev pub front_text : List ℕ → List ℕ
front_text path = if bytes_eq path (codes "/") then [] else path

-- own: from the path itself up to the root
unfoldable pub folders_from : List ℕ → List (List ℕ)
folders_from path = map folder_at (fronts_behind [] [] (front_text path))

abbrev pub second_or : List ℕ → List (List ℕ) → List ℕ
second_or path [] = path
second_or path (first ∷ []) = path
second_or path (first ∷ (second ∷ more)) = second

abbrev pub folder_of : List ℕ → List ℕ
folder_of path = second_or path (folders_from path)

pub data Climbs : List ℕ → List (List ℕ) → Type 0 where
  at_root : (path : List ℕ) → path ≡ codes "/" → Climbs path (path ∷ [])
  from_parent :
      (parent path : List ℕ) (folders : List (List ℕ)) → IsParent parent path → Climbs parent folders
      → Climbs path (path ∷ folders)
