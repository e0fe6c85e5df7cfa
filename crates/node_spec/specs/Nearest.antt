-- The nearest folder at or above a folder at which something is found.
--     Search                            what is looked for, and where
--     nearest search from               the asking that finds it, from the deepest folder upwards
--     IsAtOrAbove above path            the one is the other, or stands above it
--     IsDeepest search tree from found  this folder is the deepest one with the property
--     IsNearest search tree from out    the same, or that no folder has it
--     is_accepted search folder         the asking whether what stands at the folder's place is looked for
--     nearest_in search folders         the asking for the first of these folders that is accepted, up to one that ends
--                                       the search
--     IsAccepted search tree folder     what stands at the folder's place in the tree is looked for
use Rattle.std.specs.Prelude.{◌≡◌, ◌⊎◌, ℕ, List, [], ◌∷◌, Option, Some, None, Bool, true, false, if◌then◌else◌}
use Rattle.std.specs.FinMap.{get}
use Rattle.asking_spec.specs.Askings.{answered, and_then}
use Rattle.tree_spec.specs.FoldersAbove.{folders_from}
use Rattle.tree_spec.specs.LookAskings.{LookAsking}
use Rattle.tree_spec.specs.Paths.{IsAbove}
use Rattle.tree_spec.specs.Trees.{Tree}
use Rattle.tree_spec.specs.declared.Entry.{Entry}
use Rattle.node_spec.specs.FileLooks.{look_at_text}

-- own: a folder is judged by what stands at a place that belongs to it, unless the folder ends the search
pub record Search : Type 0 where
  pub ends_at : List ℕ → Bool
  pub place : List ℕ → List ℕ
  pub accepts : Option Entry → Bool

abbrev pub is_accepted : Search → List ℕ → LookAsking Bool
is_accepted search folder = and_then (look_at_text (search.place folder)) (λ found. answered (search.accepts found))

abbrev pub nearest_in : Search → List (List ℕ) → LookAsking (Option (List ℕ))
nearest_in search [] = answered None
nearest_in search (folder ∷ above) =
    if search.ends_at folder then answered None
    else and_then (is_accepted search folder)
    (λ accepted. if accepted then answered (Some folder) else nearest_in search above)

abbrev pub nearest : Search → List ℕ → LookAsking (Option (List ℕ))
nearest search from = nearest_in search (folders_from from)

-- ---- what it is in a tree

abbrev pub IsAtOrAbove : List ℕ → List ℕ → Type 0
IsAtOrAbove above path = (above ≡ path) ⊎ IsAbove above path

abbrev pub IsAccepted : Search → Tree → List ℕ → Type 0
IsAccepted search tree folder = search.accepts (get tree (search.place folder)) ≡ true

-- own: the deepest folder at or above `from` that is accepted, where no folder from the one up to the other ends the
-- search
pub record IsDeepest (search : Search) (tree : Tree) (from found : List ℕ) : Type 0 where
  pub at_or_above : IsAtOrAbove found from
  pub accepted : IsAccepted search tree found
  pub within :
      (folder : List ℕ) → IsAtOrAbove found folder → IsAtOrAbove folder from → search.ends_at folder ≡ false
  pub deepest :
      (folder : List ℕ) → IsAbove found folder → IsAtOrAbove folder from → IsAccepted search tree folder → ⊥

pub data IsNearest (search : Search) (tree : Tree) (from : List ℕ) : Option (List ℕ) → Type 0 where
  one_is : (found : List ℕ) → IsDeepest search tree from found → IsNearest search tree from (Some found)
  none_is : ((found : List ℕ) → IsDeepest search tree from found → ⊥) → IsNearest search tree from None
