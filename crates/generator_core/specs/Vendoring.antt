-- How the files that a map needs come to be copied.
--     StopsCopies to stop                 it is told that something stands at the folder's path, or memory is wanting
--     StopsPlan fault stop                it is told why there is no plan
--     IsFree to before result after       nothing stands at the path, or it is told why not
--     IsReadyTo to config tree known steps      the told tree generates, nothing stands at the path, and these are its
--                                         files
--     AreReady to config before after copies    so it is where a tree is told; and each file is kept
--     EndsCopies to config before after stop    why nothing is copied
--     AsksCopies to config before old after     what the folder is asked for
--     PreparesCopies to config before result after      there is what is copied, or it is told why not
--     as_new file, new_files copies       the files that are written
--     EndsFiles files line before after out out_after result      the files are written or not, and what is said went out
--     RunsVendor to config before after out out_after result steps later      the run ends as words end that ask for
--                                         copies at this path, with this config
use Rattle.std.specs.Prelude.{◌≡◌, ◌≤◌, ◌⊎◌, ◌++◌, [], ◌∷◌, ℕ, List, map, Some, None, option_map}
use Rattle.std.specs.Prelude.{Result, Err, IfOk, IfErr, IfSome}
use Rattle.std.specs.FinMap.{get}
use Rattle.tree_spec.specs.States.{FolderState, SinkState, OnlyLooks}
use Rattle.tree_spec.specs.Trees.{Tree, IsTree}
use Rattle.tree_spec.specs.declared.Entry.{Entry}
use Rattle.trace_spec.specs.Copied.{AreBytes}
use Rattle.trace_spec.specs.Modules.{Config}
use Rattle.package_lookup.specs.declared.known.Known.{Known}
use Rattle.config_spec.specs.declared.Command.TheVariants.{Vendor}
use Rattle.config_spec.specs.Words.{VendorsTo}
use Rattle.vendor_spec.specs.Vendored.{Pair, IsPlan}
use Rattle.tree_vendor.specs.Copying.{Step, AreKept, copies as written_of}
use Rattle.tree_vendor.specs.Laws.{pairs}
use Rattle.tree_vendor.specs.declared.planning.VendorFault.{VendorFault}
use Rattle.tree_vendor.specs.declared.planning.VendorFault.TheVariants as fault
use Rattle.generator_spec.specs.declared.Refusal.{Refusal}
use Rattle.generator_spec.specs.declared.Refusal.TheVariants.{Occupied, PathTooLong, TooManySegments}
use Rattle.generator_spec.specs.Asked.{AsksFew, HasMap, IsConfigAt}
use Rattle.generator_spec.specs.Commands.{IsRefusalOf, NewFile, new_file, Refuses, SaysCounts}
use Rattle.generator_spec.specs.CopiedMaps.{generation_paths}
use Rattle.generator_spec.specs.Ending.{Ends, EndsAs}
use Rattle.generator_spec.specs.Generation.{Generates}
use Rattle.generator_spec.specs.Vendoring.{copied_files, IsCopyRefusal, RefusesCopies}
use Rattle.generation.specs.Generating.{IfRefused}
use Rattle.generation.specs.declared.stop.Stop.{Stop}
use Rattle.generation.specs.declared.stop.Stop.TheVariants.{Refused, ReadFault, Memory}
use Rattle.generator_core.specs.declared.vendoring.Copies.{Copies}
use Rattle.generator_core.specs.Spending.{CommandSpends, FitsTrace}
use Rattle.generator_core.specs.Writing.{SaysWrite}

-- ---- why nothing is copied

pub data StopsCopies (to : List ℕ) (stop : Stop) : Type 0 where
  occupied : stop ≡ Refused (Occupied to) → StopsCopies to stop
  memory : stop ≡ Memory → StopsCopies to stop

abbrev pub StopsPlan : VendorFault → Stop → Type 0
StopsPlan fault.PathTooLong stop = stop ≡ Refused PathTooLong
StopsPlan fault.TooManySegments stop = stop ≡ Refused TooManySegments
StopsPlan fault.Memory stop = stop ≡ Memory

pub record StandsAt (tree : Tree) (to : List ℕ) : Type 0 where
  pub entry : Entry
  pub stands : get tree to ≡ Some entry

-- the folder was asked for the path once, or for nothing
pub record IsFree (to : List ℕ) (before : FolderState) (result : Result (Unit {0}) Stop) (after : FolderState)
    : Type 0 where
  pub free : IfOk result (λ done. IfSome before.holds (λ tree. get tree to ≡ None))
  pub refused :
      IfErr result (IfRefused (λ why. (why ≡ Occupied to) × IfSome before.holds (λ tree. StandsAt tree to)))
  pub looks : OnlyLooks before after (result ≡ Err ReadFault)
  pub asked : (after.asked ≡ before.asked) ⊎ (after.asked ≡ option_map (λ paths. paths ++ to ∷ []) before.asked)

-- ---- what is copied

pub record IsReadyTo (to : List ℕ) (config : Config) (tree : Tree) (known : Known) (steps : List Step) : Type 0 where
  pub is_tree : IsTree tree
  pub map : List ℕ
  pub generates : Generates tree config map
  pub bytes : AreBytes (generation_paths tree config)
  pub free : get tree to ≡ None
  pub is_plan : IsPlan tree to (generation_paths tree config) (pairs known steps)

abbrev pub as_new : Pair → NewFile
as_new file = new_file file.0 file.1

abbrev pub new_files : Known → List Step → List NewFile
new_files known steps = map as_new (written_of known steps)

pub record AreReady (to : List ℕ) (config : Config) (before after : FolderState) (copies : Copies) : Type 0 where
  pub told : IfSome before.holds (λ tree. IsReadyTo to config tree copies.known copies.plan)
  pub files : new_files copies.known copies.plan ≡ copied_files to (pairs copies.known copies.plan)
  pub kept : AreKept copies.known copies.plan
  pub looks : OnlyLooks before after ⊥

-- a told tree refuses it so: the command, or the copies
pub data RefusesHere (to : List ℕ) (config : Config) (tree : Tree) (why : Refusal) : Type 0 where
  command : Refuses tree config Vendor why → RefusesHere to config tree why
  copies :
      (map : List ℕ) → Generates tree config map → RefusesCopies tree to (generation_paths tree config) why
      → RefusesHere to config tree why

pub record EndsCopies (to : List ℕ) (config : Config) (before after : FolderState) (stop : Stop) : Type 0 where
  pub refused : IfRefused (λ why. IfSome before.holds (λ tree. RefusesHere to config tree why)) stop
  pub kind : IfRefused (λ why. IsRefusalOf config Vendor why ⊎ IsCopyRefusal to why) stop
  pub looks : OnlyLooks before after (stop ≡ ReadFault)

-- for what the generation needs, and behind that for the folder of the copies, where there is a map
pub data AsksCopies (to : List ℕ) (config : Config) (before : FolderState) (old : List (List ℕ)) (after : FolderState)
    : Type 0 where
  early : AsksFew Vendor config before.holds old after → AsksCopies to config before old after
  late :
      HasMap config before.holds → (middle : FolderState) → AsksFew Vendor config before.holds old middle
      → after.asked ≡ option_map (λ paths. paths ++ to ∷ []) middle.asked → AsksCopies to config before old after

pub record PreparesCopies (to : List ℕ) (config : Config) (before : FolderState) (result : Result Copies Stop)
    (after : FolderState) : Type 0 where
  pub ready : IfOk result (AreReady to config before after)
  pub asked : IfSome before.asked (λ old. AsksCopies to config before old after)
  pub stopped : IfErr result (EndsCopies to config before after)

-- ---- the run

pub record EndsFiles (files : List NewFile) (line : List ℕ) (before after : FolderState) (out out_after : SinkState)
    (result : ℕ) : Type 0 where
  pub status : ℕ
  pub text : List ℕ
  pub says : SaysWrite before after files line status text
  pub ends : Ends status text out out_after result
  pub untold : before.holds ≡ None → after.holds ≡ None
  pub asked : after.asked ≡ before.asked
  pub looks : after.look_faults ≡ before.look_faults
  pub writes : before.write_faults ≤ after.write_faults
  pub output : out.faults ≤ out_after.faults

pub record RunsVendor (to : List ℕ) (config : Config) (before after : FolderState) (out out_after : SinkState)
    (result steps later : ℕ) : Type 0 where
  pub end :
      (words : List (List ℕ)) → VendorsTo words to → IsConfigAt words Vendor config before
      → EndsAs words before after out out_after result
  pub asked : IfSome before.asked (λ old. AsksCopies to config before old after)
  pub spends : CommandSpends (SaysCounts Vendor) out out_after result steps later
  pub by_trace : FitsTrace Vendor config before.holds steps later
