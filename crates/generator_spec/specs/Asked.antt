-- What a run asks its folder for, where the folder tells it. own: no public standard speaks of it.
--     own_file command config      the path of the file that the command needs before its trace
--     AsksOwn own old after      the folder was asked for these paths, or for nothing
--     AsksFew command config holds old after      for the command's own file or not, and then for further paths, for none
--                              of them twice, at which in a told tree its trace looks up to where it ends: where a
--                              limit ends it, up to the look that passes the limit; for none where the file refuses the
--                              command
--     IsConfigAt words command config state      a told tree gives the words this config; whatever is told, they can
--                              have it
--     HasMap config holds      a map is generated for the config, where the tree is told
--     AsksInOrder words before old after      what the folder is asked for in the whole run, at most
use Rattle.std.specs.Prelude.{◌≡◌, ◌⊎◌, ◌++◌, [], ◌∷◌, ℕ, List, bytes_eq, All, Option, Some, IfSome}
use Rattle.std.specs.Prelude.{option_map}
use Rattle.std.specs.FinMap.{get}
use Rattle.std.specs.List.{IsDistinct}
use Rattle.tree_spec.specs.States.{FolderState}
use Rattle.tree_spec.specs.Trees.{Tree}
use Rattle.trace_spec.specs.Laws.{IsLookedAt}
use Rattle.trace_spec.specs.Modules.{Config}
use Rattle.config_spec.specs.declared.Command.{Command}
use Rattle.config_spec.specs.declared.Command.TheVariants.{Link, Unlink, Refresh, Inject, Check, CheckStrictly, Why}
use Rattle.config_spec.specs.declared.Command.TheVariants.{Vendor}
use Rattle.config_spec.specs.declared.Command.TheVariants.{List as Lists}
use Rattle.config_spec.specs.Projects.{project_path, IsConfigOf, IsConfigFor}
use Rattle.config_spec.specs.Words.{VendorsTo}
use Rattle.generator_spec.specs.Commands.{map_path, Opens}
use Rattle.generator_spec.specs.Generation.{Generates}

abbrev pub own_file : Command → Config → List (List ℕ)
own_file Link config = []
own_file Unlink config = []
own_file Refresh config = []
own_file Inject config = config.page ∷ []
own_file Check config = map_path ∷ []
own_file CheckStrictly config = map_path ∷ []
own_file Lists config = []
own_file Why config = []
own_file Vendor config = []

pub record AsksOwn (own old : List (List ℕ)) (after : FolderState) : Type 0 where
  pub first : List (List ℕ)
  pub is_own : (first ≡ []) ⊎ (first ≡ own)
  pub asked : after.asked ≡ Some (old ++ first)

-- own: the command's own file may be among the further paths too
pub record AsksFew (command : Command) (config : Config) (holds : Option Tree) (old : List (List ℕ))
    (after : FolderState) : Type 0 where
  pub first : List (List ℕ)
  pub is_own : (first ≡ []) ⊎ (first ≡ own_file command config)
  pub more : List (List ℕ)
  pub asked : after.asked ≡ Some (old ++ (first ++ more))
  pub once : IsDistinct bytes_eq more
  pub of_footprint : IfSome holds (λ tree. All (IsLookedAt (get tree) config) more)
  pub opened : (more ≡ []) ⊎ IfSome holds (λ tree. Opens tree config command)

pub record IsConfigAt (words : List (List ℕ)) (command : Command) (config : Config) (state : FolderState) : Type 0 where
  pub told : IfSome state.holds (λ tree. IsConfigOf words tree command config)
  pub can : IsConfigFor words command config

-- own: a told tree has a map for the config
abbrev pub HasMap : Config → Option Tree → Type 0
HasMap config holds = IfSome holds (λ tree. (map : List ℕ) × Generates tree config map)

-- own: the folder is asked for the project's path, or for nothing; and where there is a config, behind that for what
-- its command and the generation need; and where copies are asked for and a map is generated, last for their folder
pub data AsksInOrder (words : List (List ℕ)) (before : FolderState) (old : List (List ℕ))
    (after : FolderState) : Type 0 where
  own : AsksOwn (project_path ∷ []) old after → AsksInOrder words before old after
  then :
      (first : List (List ℕ)) → (first ≡ []) ⊎ (first ≡ project_path ∷ []) → (command : Command) (config : Config)
      → IsConfigAt words command config before
      → AsksFew command config before.holds (old ++ first) after → AsksInOrder words before old after
  behind :
      (first : List (List ℕ)) → (first ≡ []) ⊎ (first ≡ project_path ∷ []) → (to : List ℕ) (config : Config)
      → VendorsTo words to → IsConfigAt words Vendor config before → HasMap config before.holds
      → (middle : FolderState) → AsksFew Vendor config before.holds (old ++ first) middle
      → after.asked ≡ option_map (λ paths. paths ++ to ∷ []) middle.asked → AsksInOrder words before old after
