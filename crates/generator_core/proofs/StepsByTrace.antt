-- How many steps a command takes, by the trace of a told tree.
use Rattle.std.proofs.Common.{◌≡◌, ◌≤◌, ◌+◌, ℕ, Bool, List, length, Option, Some, Ok, IfSome, refl, sym, subst, inl, inr, arith}
use Rattle.std.specs.FinMap.{get}
use Rattle.tree_spec.specs.States.{FolderState}
use Rattle.tree_spec.specs.Trees.{Tree}
use Rattle.tree_spec.proofs.ToldStates.{if_some, if_two, if_all}
use Rattle.page_spec.specs.Injection.{TakesMaps}
use Rattle.import_map_spec.specs.ParsedMap.{ParsedMap}
use Rattle.trace_spec.specs.Checks.{Gathered}
use Rattle.trace_spec.specs.Laws.{asked_by_end}
use Rattle.trace_spec.specs.Modules.{Config}
use Rattle.trace_spec.specs.Questions.{Question}
use Rattle.trace_spec.specs.Traces.{traced}
use Rattle.config_spec.proofs.WordsJudged.{words_are_judged}
use Rattle.config_spec.specs.declared.Command.{Command}
use Rattle.config_spec.specs.declared.Command.TheVariants.{Inject, Why, Vendor, List as Lists}
use Rattle.config_spec.specs.Words.{Measures}
use Rattle.generator_spec.proofs.Configs.{command_is, one_config}
use Rattle.generator_spec.specs.Asked.{IsConfigAt}
use Rattle.generator_spec.proofs.CountedQuestions.{always_asked, none_by_trace, none_by_words}
use Rattle.generator_spec.specs.Commands.{HoldsMap, IsChecking, IsMapping, IsMapping as mapping, IsPage, Opens as opens}
use Rattle.generator_spec.specs.Steps.{SpendsByTrace, further_steps, steps_behind}
use Rattle.generation.specs.Generating.{StepsToEnd, Tracing}
use Rattle.generator_core.specs.Checking.{AsksGrammar, AsksGrammar as asks}
use Rattle.generator_core.specs.Preparing.{KeepsProject, KeepsProject as keeps_project}
use Rattle.generator_core.specs.Spending.{FitsOpening, FitsTrace, FitsWords}
use Rattle.generator_core.specs.Strictness.{module_steps}
use Rattle.generator_core.proofs.Checkings.{asks_checking}

-- ---- where nothing is traced

pub unspent_to_end : (config : Config) (holds : Option Tree) (steps : ℕ) → StepsToEnd config holds steps steps
unspent_to_end config holds steps = if_all holds (λ tree. λ asked by_end. omega arith)

pub unspent_opening : (command : Command) (config : Config) (holds : Option Tree) (steps : ℕ) → FitsOpening command config holds steps steps
unspent_opening command config holds steps = if_all holds (λ tree. inl refl)

pub unspent_fits : (command : Command) (config : Config) (holds : Option Tree) (steps : ℕ) → FitsTrace command config holds steps steps
unspent_fits command config holds steps = if_all holds (λ tree. none_by_trace tree command config steps)

pub unspent_words : (words : List (List ℕ)) (holds : Option Tree) (steps : ℕ) → FitsWords words holds steps steps
unspent_words words holds steps = if_all holds (λ tree. none_by_words words tree steps)

-- words that ask for a measure ask for no command
pub measure_fits : (words : List (List ℕ)) (number : ℕ) (holds : Option Tree) (steps later : ℕ) → Measures words number → FitsWords words holds steps later
measure_fits words number holds steps later asks =
    if_all holds (λ tree. record {
      by_config = λ command config is. absurd ((words_are_judged words).no_command number command asks (command_is words tree command (Ok config) is));
      no_config = λ none no_measure. absurd (no_measure number asks);
    })

-- ---- what comes before a trace

is_mapping : (command : Command) (keeps : Bool) → KeepsProject command keeps → IsMapping command
is_mapping command keeps keeps_project.link = mapping.link
is_mapping command keeps keeps_project.unlink = mapping.unlink
is_mapping command keeps keeps_project.refresh = mapping.refresh

pub map_opening : (command : Command) (keeps : Bool) (config : Config) (holds : Option Tree) (steps later : ℕ) → KeepsProject command keeps → FitsOpening command config holds steps later
map_opening command keeps config holds steps later kept = if_all holds (λ tree. inr (opens.nothing command (is_mapping command keeps kept)))

pub page_opening : (page : List ℕ) (config : Config) (holds : Option Tree) (steps later : ℕ) → TakesMaps page → IfSome holds (λ tree. IsPage tree config page) → FitsOpening Inject config holds steps later
page_opening page config holds steps later takes stands = if_some holds (λ tree is. inr (opens.page page is takes)) stands

check_opening : (command : Command) (parsed : ParsedMap) (config : Config) (holds : Option Tree) (steps later : ℕ) → IsChecking command → IfSome holds (λ tree. HoldsMap tree config parsed) → FitsOpening command config holds steps later
check_opening command parsed config holds steps later checks stands = if_some holds (λ tree is. inr (opens.has_map command checks parsed is)) stands

pub list_opening : (config : Config) (holds : Option Tree) (steps later : ℕ) → FitsOpening Lists config holds steps later
list_opening config holds steps later = if_all holds (λ tree. inr opens.no_file)

pub why_opening : (config : Config) (holds : Option Tree) (steps later : ℕ) → FitsOpening Why config holds steps later
why_opening config holds steps later = if_all holds (λ tree. inr opens.no_other_file)

pub vendor_opening : (config : Config) (holds : Option Tree) (steps later : ℕ) → FitsOpening Vendor config holds steps later
vendor_opening config holds steps later = if_all holds (λ tree. inr opens.nothing_first)

-- ---- where something is

module _ (command : Command) (config : Config) (holds : Option Tree) (steps later : ℕ) where
  abbrev IsFew : Tree → Type 0
  IsFew tree =
      (asked : List Question) → asked_by_end (get tree) config ≡ Some asked
      → later ≤ steps + length asked + steps_behind (traced (get tree) config) command

  fits_both : IfSome holds IsFew → FitsOpening command config holds steps later → FitsTrace command config holds steps later
  fits_both few opened =
      if_two holds (λ tree each opened_so.
      let all = always_asked (get tree) config in
      record { asked = all.asked; are = all.are; few = each all.asked all.are; opened = opened_so }) few opened

  -- a command may do something behind the trace, or nothing
  pub fits_to_end : FitsOpening command config holds steps later → StepsToEnd config holds steps later → FitsTrace command config holds steps later
  fits_to_end opened few =
      fits_both (if_some holds (λ tree each. λ asked by_end. let few = each asked by_end in omega (arith, few)) few) opened

-- a check takes as many steps behind its trace as its command may
behind_check : (command : Command) (strictly : Bool) (all : Gathered) → AsksGrammar command strictly → module_steps strictly all ≡ further_steps all command
behind_check command strictly all asks.plainly = refl
behind_check command strictly all asks.strictly = refl

module _ (command : Command) (strictly : Bool) (asking : AsksGrammar command strictly) (config : Config) (before after : FolderState)
    (parsed : ParsedMap) (holds : IfSome before.holds (λ tree. HoldsMap tree config parsed)) (steps middle later : ℕ) where
  pub check_fits : StepsToEnd config before.holds steps later → FitsTrace command config before.holds steps later
  check_fits few =
      fits_to_end command config before.holds steps later
      (check_opening command parsed config before.holds steps later (asks_checking command strictly asking) holds) few

  pub checked_fits : (all : Gathered) → Tracing config before (Ok all) after → StepsToEnd config before.holds steps middle
      → later ≤ middle + module_steps strictly all → FitsTrace command config before.holds steps later
  checked_fits all is few more =
      fits_both command config before.holds steps later
      (if_two before.holds (λ tree traces each. λ asked by_end.
      let some = each asked by_end in
      let same = behind_check command strictly all asking in
      subst (λ trace. later ≤ steps + length asked + steps_behind trace command) (sym traces) (omega (arith, some, more, same))) is.traces few)
      (check_opening command parsed config before.holds steps later (asks_checking command strictly asking) holds)

-- a look before the command leaves the tree
pub held_earlier : (config : Config) (before middle : FolderState) (steps later : ℕ) → middle.holds ≡ before.holds → StepsToEnd config middle.holds steps later → StepsToEnd config before.holds steps later
held_earlier config before middle steps later held few = subst (λ told. StepsToEnd config told steps later) held few

pub fits_earlier :
    (config : Config) (before middle : FolderState) (steps later : ℕ) (command other : Command) → other ≡ command
    → middle.holds ≡ before.holds → FitsTrace other config middle.holds steps later
    → FitsTrace command config before.holds steps later
fits_earlier config before middle steps later command other same held fits =
    subst (λ one. FitsTrace one config before.holds steps later) same (subst (λ told. FitsTrace other config told steps later) held fits)

-- ---- of words

module _ (words : List (List ℕ)) (config : Config) (state : FolderState) (steps later : ℕ) where
  pub order_fits : (command : Command) → IsConfigAt words command config state → FitsTrace command config state.holds steps later → FitsWords words state.holds steps later
  order_fits command at fits =
      if_two state.holds (λ tree of each. record {
        by_config = λ other second is.
            let same = one_config words tree other command second config is of in
            subst (λ one. SpendsByTrace tree one second steps later) (sym same.one_command)
            (subst (λ one. SpendsByTrace tree command one steps later) (sym same.one_config) each);
        no_config = λ none no_measure. absurd (none command config of);
      }) at.told fits
