-- The laws of generation, checks, outcomes and ends. Each is the contract of a function of this crate.
use Rattle.std.specs.Prelude.{◌≡◌, ◌≢◌, ◌≤◌, ◌⊎◌, ◌↔◌, ◌+◌, ◌++◌, ℕ, List, [], length, map, Some, Ok, Err}
use Rattle.std.specs.FinMap.{get}
use Rattle.tree_spec.specs.States.{FolderState, SinkState}
use Rattle.tree_spec.specs.Trees.{Tree, IsTree}
use Rattle.import_map_spec.specs.ParsedMap.{ParsedMap}
use Rattle.chain_spec.specs.Chains.{Asker, IsReached}
use Rattle.check_spec.specs.Differences.{differences}
use Rattle.layout_spec.specs.PrintedMap.{map_text}
use Rattle.fewest_spec.specs.Fewest.{IsFewestLayout}
use Rattle.trace_spec.specs.declared.TraceFault.{TraceFault}
use Rattle.trace_spec.specs.Modules.{Config, Module}
use Rattle.trace_spec.specs.Checks.{Gathered}
use Rattle.trace_spec.specs.Traces.{leads, specifiers, traced}
use Rattle.trace_spec.specs.Walking.{a_module}
use Rattle.config_spec.specs.declared.Command.{Command}
use Rattle.config_spec.specs.declared.Command.TheVariants.{CheckStrictly}
use Rattle.config_spec.specs.Projects.{IsConfigOf}
use Rattle.config_spec.specs.Words.{IsPlain, IsSession}
use Rattle.generator_spec.specs.declared.Refusal.{Refusal}
use Rattle.generator_spec.specs.CheckAnswers.{IsCheckOf, IsShallow, AnswersCheck}
use Rattle.generator_spec.specs.Checking.{difference_lines, SaysOfModules, check_status}
use Rattle.generator_spec.specs.Digests.{with_digests}
use Rattle.generator_spec.specs.Explaining.{asked_by, referrer_of}
use Rattle.generator_spec.specs.Generation.{Generates, IsTooWide, IsTooLarge, map_base}
use Rattle.generator_spec.specs.Outcome.{Outcome, RefusesRun}
use Rattle.generator_spec.specs.Serves.{Reachable}
use Rattle.generator_spec.specs.Statuses.{done_status, memory_status}
use Rattle.generator_spec.specs.Steps.{IsBeforeTrace, TraceSpends, further_steps}
use Rattle.generator_spec.specs.Strictness.{ModulesAgree, AgreesAt}
use Rattle.generator_spec.specs.Vendoring.{IsBlocked}
use Rattle.generator_spec.specs.Ending.{EndsAs}
use Rattle.generator_spec.specs.Promises.{Promises, Quiet}

-- ---- generation

-- a tree and a config have one text at most
abbrev pub OneGeneration : Type 0
OneGeneration =
    (tree : Tree) (config : Config) (some other : List ℕ) → Generates tree config some → Generates tree config other
    → some ≡ other

-- the text of the layout with the fewest mappings that serves a trace's needs, with the digests of its modules
pub record IsTextOf (config : Config) (all : Gathered) (bytes : List ℕ) : Type 0 where
  pub layout : ParsedMap
  pub is_fewest : IsFewestLayout all.needs layout
  pub text : bytes ≡ map_text (map_base config) (with_digests config all layout)

-- each trace has a text, which is generated unless some specifier has too many choices, or it is too large
abbrev pub SomeGeneration : Type 0
SomeGeneration =
    (tree : Tree) (config : Config) (all : Gathered) → traced (get tree) config ≡ Ok all
    → (bytes : List ℕ) × IsTextOf config all bytes
    × (Generates tree config bytes ⊎ IsTooWide tree config ⊎ IsTooLarge tree config)

-- where something is generated, nothing of the trace is refused, no specifier has too many choices, and the map isn't
-- too large
abbrev pub NothingRefused : Type 0
NothingRefused =
    (tree : Tree) (config : Config) (bytes : List ℕ) → Generates tree config bytes
    → ((fault : TraceFault) → traced (get tree) config ≡ Err fault → ⊥) × (IsTooWide tree config → ⊥)
    × (IsTooLarge tree config → ⊥)

-- ---- checks

-- a check of a trace is done exactly where the map serves each need, and each module agrees, where the modules are
-- checked too
abbrev pub ChecksAreExact : Type 0
ChecksAreExact =
    (tree : Tree) (config : Config) (command : Command) (held : ParsedMap) (all : Gathered) (strict : List (List ℕ))
    → traced (get tree) config ≡ Ok all → SaysOfModules all command strict
    → (check_status (difference_lines held all ++ strict) ≡ done_status)
    ↔ ((differences held all.needs ≡ []) × ModulesAgree tree config command)

-- where there is a trace, its modules agree exactly where the file of each module does that the page reaches
abbrev pub AgreesWhereReached : Type 0
AgreesWhereReached =
    (tree : Tree) (config : Config) (all : Gathered) → traced (get tree) config ≡ Ok all
    → ModulesAgree tree config CheckStrictly
    ↔ ((m : Module) → Reachable tree config (a_module m) → AgreesAt tree m)

-- where there is a map and a trace, and no module is nested too deep that is checked, a run that counted no fault and
-- had memory answers as a check does
abbrev pub ChecksAnswer : Type 0
ChecksAnswer =
    (words : List (List ℕ)) (before after : FolderState) (out out_after : SinkState) (result : ℕ)
    → EndsAs words before after out out_after result → Quiet before after out out_after → result ≢ memory_status
    → (tree : Tree) (command : Command) (config : Config) (held : ParsedMap) (all : Gathered)
    → IsCheckOf words before tree command config held all → IsShallow all command
    → AnswersCheck tree command config held all after out out_after result

-- ---- chains

-- where there is a trace, no request of an asker that the page reaches is left out: the one with a number leads to the
-- module with that number
abbrev pub RequestsAreNumbered : Type 0
RequestsAreNumbered =
    (tree : Tree) (config : Config) (all : Gathered) → traced (get tree) config ≡ Ok all → (asker : Asker Module)
    → IsReached (asked_by (get tree) config) asker
    → map Some (asked_by (get tree) config asker)
    ≡ map (leads (get tree) config (referrer_of asker)) (specifiers (get tree) config (referrer_of asker))

-- ---- steps

-- where there is a trace, a run takes at most one step for each of its modules and each of its requests, and those that
-- come behind it
abbrev pub StepsAreCounted : Type 0
StepsAreCounted =
    (words : List (List ℕ)) (tree : Tree) (before after : ℕ) → TraceSpends words tree before after
    → (command : Command) (config : Config) (all : Gathered) → IsConfigOf words tree command config
    → traced (get tree) config ≡ Ok all
    → after ≤ before + (length all.modules + length all.targets) + further_steps all command

-- a run that is refused before its trace takes no step
abbrev pub UntracedTakesNone : Type 0
UntracedTakesNone =
    (words : List (List ℕ)) (tree : Tree) (before after : ℕ) (why : Refusal) → TraceSpends words tree before after
    → RefusesRun words tree why → IsBeforeTrace why → after ≡ before

-- ---- outcomes

-- the two statuses are one, and so are the lines and the trees
pub record SameOutcome (status other : ℕ) (lines others : List (List ℕ)) (after last : Tree) : Type 0 where
  pub one_status : status ≡ other
  pub same_lines : lines ≡ others
  pub one_tree : after ≡ last

-- plain words over a tree have one outcome at most
abbrev pub OneOutcome : Type 0
OneOutcome =
    (words : List (List ℕ)) (tree : Tree) (status other : ℕ) (lines others : List (List ℕ)) (after last : Tree)
    → IsPlain words → Outcome words tree status lines after → Outcome words tree other others last
    → SameOutcome status other lines others after last

-- the words over this tree have an outcome
pub record HasOutcome (words : List (List ℕ)) (tree : Tree) : Type 0 where
  pub status : ℕ
  pub lines : List (List ℕ)
  pub after : Tree
  pub outcome : Outcome words tree status lines after

-- words over a tree have an outcome, unless they ask for a session, or for copies below a file
abbrev pub SomeOutcome : Type 0
SomeOutcome =
    (words : List (List ℕ)) (tree : Tree) → (IsSession words → ⊥) → (IsBlocked words tree → ⊥) → IsTree tree
    → HasOutcome words tree

-- ---- ends

-- a run that ends as it must keeps all promises
abbrev pub EndsKeepPromises : Type 0
EndsKeepPromises =
    (words : List (List ℕ)) (before after : FolderState) (out out_after : SinkState) (result : ℕ)
    → EndsAs words before after out out_after result → Promises words before after out out_after result
