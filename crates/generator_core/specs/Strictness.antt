-- How a check comes to what it says of the modules.
--     further_steps strictly           how many steps more the check takes, where it asks the grammar, at most
--     module_steps strictly all        how many it takes of this trace
--     own_lines name answer            the line of a module, if it has one
--     IsSaidAt all place answer        this is said of the module at a place
--     IsLineOf all place answer old new      the line of that module stands behind those that were there, if it has one
--     IsStrictStop all stop            some module is nested too deep, or memory is wanting
--     FindsAnswer all place result     the module's answer is found, or it is told why not
--     PushesModule all place old new result      the line of the module at a place stands behind those that were there, if
--                                      it has one, or it is told why not
--     StandBehind all old new          the lines of the modules stand behind those that were there
--     PushesStrict all old new result  so they do, or it is told why not
use Rattle.std.specs.Prelude.{◌≡◌, ◌++◌, ℕ, Bool, true, false, List, [], ◌∷◌, length, slice_get, Some, Result}
use Rattle.std.specs.Prelude.{IfOk, IfErr, OnOk}
use Rattle.tree_spec.specs.declared.LimitName.TheVariants.{Modules}
use Rattle.tree_spec.specs.Limits.{limit_number}
use Rattle.grammar_spec.specs.declared.answer.Strict.{Strict}
use Rattle.grammar_spec.specs.declared.answer.Strict.TheVariants.{Agrees, Syntax, Differs, TooDeep}
use Rattle.trace_spec.specs.Checks.{Gathered}
use Rattle.trace_spec.specs.Modules.{Module}
use Rattle.trace_spec.specs.Questions.{Source}
use Rattle.generator_spec.specs.Checking.{AreLined}
use Rattle.generator_spec.specs.Lines.{strict_syntax_line, strict_requests_line}
use Rattle.generator_spec.specs.Strictness.{IsSaid, AreSaid, is_nested}
use Rattle.generator_spec.specs.declared.Refusal.TheVariants.{NestedTooDeep}
use Rattle.generation.specs.declared.stop.Stop.{Stop}
use Rattle.generation.specs.declared.stop.Stop.TheVariants.{Refused, Memory}

abbrev pub further_steps : Bool → ℕ
further_steps true = limit_number Modules
further_steps false = 0

abbrev pub module_steps : Bool → Gathered → ℕ
module_steps true all = length all.modules
module_steps false all = 0

-- none, where it agrees; nor where it is nested too deep, but then the check is refused
abbrev pub own_lines : List ℕ → Strict → List (List ℕ)
own_lines name Agrees = []
own_lines name (Syntax at) = strict_syntax_line name at ∷ []
own_lines name (Differs found outline) = strict_requests_line name ∷ []
own_lines name TooDeep = []

abbrev pub IsSaidAt : Gathered → ℕ → Strict → Type 0
IsSaidAt all place answer = (source : Source) → slice_get all.sources place ≡ Some source → IsSaid source.bytes answer

abbrev pub IsLineOf : Gathered → ℕ → Strict → List (List ℕ) → List (List ℕ) → Type 0
IsLineOf all place answer old new =
    (m : Module) → slice_get all.modules place ≡ Some m → new ≡ old ++ own_lines (m.path ++ m.suffix) answer

pub data IsStrictStop (all : Gathered) : Stop → Type 0 where
  nested :
      (place : ℕ) (source : Source) → slice_get all.sources place ≡ Some source → IsSaid source.bytes TooDeep
      → IsStrictStop all (Refused NestedTooDeep)
  memory : IsStrictStop all Memory

-- what is said of the module at a place, which isn't nested too deep
pub record FindsAnswer (all : Gathered) (place : ℕ) (result : Result Strict Stop) : Type 0 where
  pub said : IfOk result (IsSaidAt all place)
  pub shallow : IfOk result (λ answer. is_nested answer ≡ false)
  pub stopped : IfErr result (IsStrictStop all)

-- its line stands behind those that were there, if it has one
pub record IsModuleLined (all : Gathered) (place : ℕ) (old new : List (List ℕ)) : Type 0 where
  pub answer : Strict
  pub said : IsSaidAt all place answer
  pub shallow : is_nested answer ≡ false
  pub line : IsLineOf all place answer old new

pub record PushesModule (all : Gathered) (place : ℕ) (old new : List (List ℕ)) (result : Result (Unit {0}) Stop)
    : Type 0 where
  pub pushed : OnOk result (IsModuleLined all place old new)
  pub stopped : IfErr result (IsStrictStop all)

-- each module is said something of
pub record StandBehind (all : Gathered) (old new : List (List ℕ)) : Type 0 where
  pub answers : List Strict
  pub said : AreSaid all.sources answers
  pub lines : List (List ℕ)
  pub lined : AreLined all.modules answers lines
  pub is : new ≡ old ++ lines

pub record PushesStrict (all : Gathered) (old new : List (List ℕ)) (result : Result (Unit {0}) Stop) : Type 0 where
  pub pushed : OnOk result (StandBehind all old new)
  pub stopped : IfErr result (IsStrictStop all)
