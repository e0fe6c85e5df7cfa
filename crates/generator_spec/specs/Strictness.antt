-- What the statement grammar says of the modules of a trace, each beside its outline.
--     IsSaid text answer          this is said of a module's text
--     AreSaid sources answers     these are said of the texts of the sources, in their order
--     is_nested answer            the module is nested too deep
--     IsNested answers            some module is
--     ModulesAgree tree config command      where the command checks strictly, each module agrees
--     AgreesAt tree m             the file at a module's path does
use Rattle.std.specs.Prelude.{◌≡◌, ℕ, Bool, true, false, List, [], ◌∷◌, All, Some, Ok}
use Rattle.std.specs.FinMap.{get}
use Rattle.std.specs.List.{list_any}
use Rattle.tree_spec.specs.declared.Entry.TheVariants.{Stored}
use Rattle.tree_spec.specs.Trees.{Tree}
use Rattle.module_spec.specs.Outlines.{Outline, ReadsOutline}
use Rattle.grammar_spec.specs.declared.answer.Strict.{Strict}
use Rattle.grammar_spec.specs.declared.answer.Strict.TheVariants.{Agrees, Syntax, Differs, TooDeep}
use Rattle.grammar_spec.specs.Verdicts.{Verdict, ReadsGrammar, IsStrict}
use Rattle.trace_spec.specs.Checks.{Gathered}
use Rattle.trace_spec.specs.Modules.{Config, Module}
use Rattle.trace_spec.specs.Questions.{Source}
use Rattle.trace_spec.specs.Traces.{traced}
use Rattle.config_spec.specs.declared.Command.{Command}
use Rattle.config_spec.specs.declared.Command.TheVariants.{Check, CheckStrictly}

pub record IsSaid (text : List ℕ) (answer : Strict) : Type 0 where
  pub outline : Outline
  pub is_outline : ReadsOutline text (Ok outline)
  pub verdict : Verdict
  pub reads : ReadsGrammar text verdict
  pub is : IsStrict outline verdict answer

-- one for each source
pub data AreSaid : List Source → List Strict → Type 0 where
  none : AreSaid [] []
  one_more :
      {source : Source} {sources : List Source} {answer : Strict} {answers : List Strict} → IsSaid source.bytes answer
      → AreSaid sources answers → AreSaid (source ∷ sources) (answer ∷ answers)

abbrev pub is_nested : Strict → Bool
is_nested Agrees = false
is_nested (Syntax at) = false
is_nested (Differs found outline) = false
is_nested TooDeep = true

abbrev pub IsNested : List Strict → Type 0
IsNested answers = list_any is_nested answers ≡ true

-- own: `check` asks the grammar nothing
pub data ModulesAgree (tree : Tree) (config : Config) : Command → Type 0 where
  unasked : ModulesAgree tree config Check
  agreeing :
      (all : Gathered) → traced (get tree) config ≡ Ok all
      → All (λ (source : Source). IsSaid source.bytes Agrees) all.sources → ModulesAgree tree config CheckStrictly

-- own: the statement grammar matches the file at its path, with the requests of its outline
pub record AgreesAt (tree : Tree) (m : Module) : Type 0 where
  pub bytes : List ℕ
  pub stands : get tree m.path ≡ Some (Stored bytes)
  pub said : IsSaid bytes Agrees
