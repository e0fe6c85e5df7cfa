-- What is copied into a folder of its own, and why it isn't.
--     copied_files to pairs             the files that are written: each at the folder's path followed by its own
--     Vendors words tree to pairs       the words ask for copies at this path, where nothing stands, and these are the
--                                       files of the footprint of a generation
--     RefusesCopies tree to paths why   the files at these paths aren't copied there: the first reason in its order
--     IsCopyRefusal to why              they can be refused so, whatever the tree holds
--     CanCopy words                     the words ask for copies, and can have a config
--     IsBlocked words tree              they ask for copies, of which there are some, below a file
use Rattle.std.specs.FinMap.{get}
use Rattle.std.specs.Prelude.{◌≡◌, ◌++◌, ◌∷◌, ℕ, List, map, Some, None}
use Rattle.tree_spec.specs.declared.Entry.{Entry}
use Rattle.tree_spec.specs.declared.Entry.TheVariants.{Stored}
use Rattle.tree_spec.specs.Paths.{IsAbove}
use Rattle.tree_spec.specs.Trees.{Tree}
use Rattle.trace_spec.specs.Modules.{Config}
use Rattle.config_spec.specs.declared.Command.TheVariants.{Vendor}
use Rattle.config_spec.specs.Projects.{IsConfigOf, IsConfigFor}
use Rattle.config_spec.specs.Words.{VendorsTo}
use Rattle.vendor_spec.specs.Goals.{HasLongCopy, HasDeepCopy}
use Rattle.vendor_spec.specs.Vendored.{Pair, IsPlan}
use Rattle.generator_spec.specs.declared.Refusal.{Refusal}
use Rattle.generator_spec.specs.declared.Refusal.TheVariants.{Occupied, PathTooLong, TooManySegments}
use Rattle.generator_spec.specs.Commands.{NewFile, new_file}
use Rattle.generator_spec.specs.CopiedMaps.{generation_paths}
use Rattle.generator_spec.specs.Generation.{Generates}

abbrev pub copied_files : List ℕ → List Pair → List NewFile
copied_files to pairs = map (λ pair. new_file (to ++ pair.0) pair.1) pairs

-- own: exactly the files that the generation looks at, in byte order
pub record Vendors (words : List (List ℕ)) (tree : Tree) (to : List ℕ) (pairs : List Pair) : Type 0 where
  pub asks : VendorsTo words to
  pub config : Config
  pub is_config : IsConfigOf words tree Vendor config
  pub map : List ℕ
  pub generates : Generates tree config map
  pub free : get tree to ≡ None
  pub is_plan : IsPlan tree to (generation_paths tree config) pairs

-- own: something stands at the folder's path, or else some copy's path has too many bytes, or else too many segments
pub data RefusesCopies (tree : Tree) (to : List ℕ) (paths : List (List ℕ)) : Refusal → Type 0 where
  occupied : (entry : Entry) → get tree to ≡ Some entry → RefusesCopies tree to paths (Occupied to)
  long : get tree to ≡ None → HasLongCopy tree to paths → RefusesCopies tree to paths PathTooLong
  deep :
      get tree to ≡ None → (HasLongCopy tree to paths → ⊥) → HasDeepCopy tree to paths
      → RefusesCopies tree to paths TooManySegments

-- ---- whatever the tree holds

pub data IsCopyRefusal (to : List ℕ) : Refusal → Type 0 where
  occupied : IsCopyRefusal to (Occupied to)
  long : IsCopyRefusal to PathTooLong
  deep : IsCopyRefusal to TooManySegments

pub record CanCopy (words : List (List ℕ)) : Type 0 where
  pub to : List ℕ
  pub asks : VendorsTo words to
  pub config : Config
  pub is_config : IsConfigFor words Vendor config

-- own: some files are to be copied, and nothing can be written there
pub record IsBlocked (words : List (List ℕ)) (tree : Tree) : Type 0 where
  pub to : List ℕ
  pub pair : Pair
  pub more : List Pair
  pub vendors : Vendors words tree to (pair ∷ more)
  pub file : List ℕ
  pub bytes : List ℕ
  pub stands : get tree file ≡ Some (Stored bytes)
  pub above : IsAbove file to
