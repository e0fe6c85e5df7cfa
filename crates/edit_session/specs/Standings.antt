-- What an edit asks of a path.
--     standing_at found               what stands there, as far as an edit asks
--     standing_seen look              the same, by a look; a file above the limit is a file
--     standing_by held                the same, by the look that is held there
--     Stands before known over path result after later left
--                                     what stands at a path, where these looks are laid over what is known
use Rattle.std.specs.Prelude.{◌≡◌, ℕ, List, Option, Some, None, Result, Ok, Err}
use Rattle.std.specs.FinMap.{get}
use Rattle.tree_spec.specs.Paths.{IsPath}
use Rattle.tree_spec.specs.States.{FolderState}
use Rattle.tree_spec.specs.Trees.{Tree}
use Rattle.tree_spec.specs.declared.Entry.{Entry}
use Rattle.tree_spec.specs.declared.Entry.TheVariants.{Stored, Directory}
use Rattle.tree_spec.specs.declared.Look.{Look}
use Rattle.tree_spec.specs.declared.Look.TheVariants as sees
use Rattle.tree_spec.specs.declared.LookFault.{LookFault}
use Rattle.tree_spec.specs.declared.LookFault.TheVariants as look
use Rattle.package_lookup.specs.declared.fault.LookupFault.{LookupFault}
use Rattle.package_lookup.specs.declared.fault.LookupFault.TheVariants.{ReadFault, Limit, InvalidConfig, Memory}
use Rattle.package_lookup.specs.declared.known.Known.{Known}
use Rattle.package_lookup.specs.declared.over.Over.{Over}
use Rattle.package_lookup.specs.LaidTrees.{StandsBehind, IsLaid}
use Rattle.package_lookup.specs.Looked.{over_at}
use Rattle.edit_session.specs.LooksOn.{LooksOn}
use Rattle.edit_session.specs.declared.standing.Standing.{Standing}
use Rattle.edit_session.specs.declared.standing.Standing.TheVariants.{Nothing, Folder, File}

abbrev pub standing_at : Option Entry → Standing
standing_at None = Nothing
standing_at (Some Directory) = Folder
standing_at (Some (Stored bytes)) = File

abbrev pub standing_seen : Look → Standing
standing_seen sees.Absent = Nothing
standing_seen sees.Folder = Folder
standing_seen (sees.File bytes) = File
standing_seen sees.TooLarge = File

-- no limit is passed by what counts under none, and nothing is read of a file
abbrev pub standing_by : Result Look LookupFault → Result Standing LookFault
standing_by (Ok held) = Ok (standing_seen held)
standing_by (Err ReadFault) = Err look.Failed
standing_by (Err Memory) = Err look.Memory
standing_by (Err InvalidConfig) = Err look.Memory
standing_by (Err (Limit which)) = Err look.Memory

pub record Stands (before : FolderState) (known : Known) (over : Over) (path : List ℕ)
    (result : Result Standing LookFault) (after : FolderState) (later : Known) (left : Over) : Type 0 where
  pub looks :
      LooksOn before known after later (result ≡ Err look.Failed) (result ≡ Err look.Memory)
      (λ tree other. other ≡ path)
  pub is_path : IsPath path
  pub same_over : (other : List ℕ) → over_at left other ≡ over_at over other
  pub seen :
      (tree seen : Tree) (standing : Standing) → before.holds ≡ Some tree → StandsBehind tree known
      → IsLaid tree over seen → result ≡ Ok standing → standing ≡ standing_at (get seen path)
