-- What a run answers that checks a map, as one statement.
--     IsCheckOf words before tree command config held all      the words ask a told tree for a check; its map's file is
--                                     read as a map, and it has a trace
--     IsShallow all command           where the modules are checked, none is nested too deep
--     strict_differences map all strict      the lines of the needs that aren't served, and then those of the modules
--     AnswersCheck tree command config held all after out out_after result      status, text and tree
use Rattle.std.specs.Prelude.{◌≡◌, ◌≢◌, ◌↔◌, ℕ, List, [], ◌∷◌, ◌++◌, length, Some, Ok, option_map}
use Rattle.std.specs.FinMap.{get}
use Rattle.std.specs.List.{concat}
use Rattle.tree_spec.specs.States.{FolderState, SinkState}
use Rattle.tree_spec.specs.Trees.{Tree}
use Rattle.grammar_spec.specs.declared.answer.Strict.{Strict}
use Rattle.import_map_spec.specs.ParsedMap.{ParsedMap}
use Rattle.check_spec.specs.Differences.{differences}
use Rattle.trace_spec.specs.Checks.{Gathered}
use Rattle.trace_spec.specs.Modules.{Config}
use Rattle.trace_spec.specs.Traces.{traced}
use Rattle.config_spec.specs.declared.Command.{Command}
use Rattle.config_spec.specs.declared.Command.TheVariants.{CheckStrictly}
use Rattle.config_spec.specs.Projects.{IsConfigOf}
use Rattle.generator_spec.specs.Checking.{difference_lines, SaysOfModules}
use Rattle.generator_spec.specs.Commands.{HoldsMap, IsChecking}
use Rattle.generator_spec.specs.Lines.{served_line, differences_line}
use Rattle.generator_spec.specs.Statuses.{done_status, differences_status}
use Rattle.generator_spec.specs.Strictness.{AreSaid, IsNested, ModulesAgree}

pub record IsCheckOf (words : List (List ℕ)) (before : FolderState) (tree : Tree) (command : Command)
    (config : Config) (held : ParsedMap) (all : Gathered) : Type 0 where
  pub told : before.holds ≡ Some tree
  pub is_config : IsConfigOf words tree command config
  pub checks : IsChecking command
  pub holds : HoldsMap tree config held
  pub is_traced : traced (get tree) config ≡ Ok all

abbrev pub IsShallow : Gathered → Command → Type 0
IsShallow all command =
    command ≡ CheckStrictly → (answers : List Strict) → AreSaid all.sources answers → IsNested answers → ⊥

abbrev pub strict_differences : ParsedMap → Gathered → List (List ℕ) → List (List ℕ)
strict_differences map all strict = difference_lines map all ++ strict

-- own: 0 exactly where the map serves each need and each module agrees that is checked, and then the number of needs is
-- said; else 6, with one line for each need that isn't served, then one for each module that doesn't agree, and last
-- their number. The tree is as it was
pub record AnswersCheck (tree : Tree) (command : Command) (config : Config) (held : ParsedMap) (all : Gathered)
    (after : FolderState) (out out_after : SinkState) (result : ℕ) : Type 0 where
  pub exactly : (result ≡ done_status) ↔ ((differences held all.needs ≡ []) × ModulesAgree tree config command)
  pub served :
      result ≡ done_status → out_after.got ≡ option_map (λ front. front ++ served_line (length all.needs)) out.got
  pub strict : List (List ℕ)
  pub of_modules : SaysOfModules all command strict
  pub differs : result ≢ done_status → result ≡ differences_status
  pub told :
      result ≢ done_status
      → out_after.got
      ≡ option_map
      (λ front. front
      ++ concat
      (strict_differences held all strict ++ differences_line (length (strict_differences held all strict)) ∷ []))
      out.got
  pub kept : after.holds ≡ Some tree
