-- What a check of a map comes to, and of the modules beside it.
--     difference_line all difference      the line of a difference, with the first spelling of its need
--     difference_lines map all            one line for each need of a trace that the map doesn't serve, in their order
--     AreLined modules answers lines      what is said of the modules is told by these lines, in their order: one for
--                                         each that doesn't agree with the statement grammar
--     SaysOfModules all command lines     what the command says of the modules of a trace, where it checks the map
--     check_status, check_lines           status and lines, by all these lines and by the number of needs
--     no_need                             what stands for a need where there is none
--     spelling_at all number              how the need with a number is first spelled
use Rattle.std.specs.Prelude.{ℕ, List, [], ◌∷◌, ◌++◌, length, map as each, slice_get, unwrap_or}
use Rattle.module_spec.specs.declared.request.Request.{Request}
use Rattle.grammar_spec.specs.declared.answer.Strict.{Strict}
use Rattle.grammar_spec.specs.declared.answer.Strict.TheVariants.{Agrees, Syntax, Differs}
use Rattle.import_map_spec.specs.ParsedMap.{ParsedMap}
use Rattle.check_spec.specs.Differences.{Difference, differences}
use Rattle.layout_spec.specs.declared.Need.{Need}
use Rattle.trace_spec.specs.Checks.{Gathered, Spelling, no_spelling}
use Rattle.trace_spec.specs.Modules.{Module}
use Rattle.config_spec.specs.declared.Command.{Command}
use Rattle.config_spec.specs.declared.Command.TheVariants.{Check, CheckStrictly}
use Rattle.generator_spec.specs.Lines.{differs_line, strict_syntax_line, strict_requests_line, served_line}
use Rattle.generator_spec.specs.Lines.{differences_line}
use Rattle.generator_spec.specs.Statuses.{done_status, differences_status}
use Rattle.generator_spec.specs.Strictness.{AreSaid}

abbrev pub no_need : Need
no_need = record { referrer = []; asked = []; target = [] }

-- the need with a number, counted from 0
abbrev pub need_at : Gathered → ℕ → Need
need_at all number = unwrap_or (slice_get all.needs number) no_need

abbrev pub spelling_at : Gathered → ℕ → Spelling
spelling_at all number = unwrap_or (slice_get all.spellings number) no_spelling

abbrev pub difference_line : Gathered → Difference → List ℕ
difference_line all difference =
    differs_line (spelling_at all difference.need).referrer (spelling_at all difference.need).specifier
    (need_at all difference.need).target difference.got

abbrev pub difference_lines : ParsedMap → Gathered → List (List ℕ)
difference_lines map all = each (difference_line all) (differences map all.needs)

-- own: a module is named by its path and its suffix. One that agrees has no line; where one is nested too deep, there
-- are no lines
pub data AreLined : List Module → List Strict → List (List ℕ) → Type 0 where
  none : AreLined [] [] []
  agrees :
      {m : Module} {modules : List Module} {answers : List Strict} {lines : List (List ℕ)}
      → AreLined modules answers lines → AreLined (m ∷ modules) (Agrees ∷ answers) lines
  syntax :
      {m : Module} {modules : List Module} {answers : List Strict} {lines : List (List ℕ)} (at : ℕ)
      → AreLined modules answers lines
      → AreLined (m ∷ modules) (Syntax at ∷ answers) (strict_syntax_line (m.path ++ m.suffix) at ∷ lines)
  differs :
      {m : Module} {modules : List Module} {answers : List Strict} {lines : List (List ℕ)}
      (found outline : List Request) → AreLined modules answers lines
      → AreLined (m ∷ modules) (Differs found outline ∷ answers) (strict_requests_line (m.path ++ m.suffix) ∷ lines)

-- own: `check` says nothing of the modules, and `check --strict` what the statement grammar does
pub data SaysOfModules (all : Gathered) : Command → List (List ℕ) → Type 0 where
  unasked : SaysOfModules all Check []
  strictly :
      (answers : List Strict) (lines : List (List ℕ)) → AreSaid all.sources answers
      → AreLined all.modules answers lines → SaysOfModules all CheckStrictly lines

-- own: without a difference it is done
abbrev pub check_status : List (List ℕ) → ℕ
check_status [] = done_status
check_status (line ∷ more) = differences_status

-- own: the differences and then their number, or the number of the needs, which are all served
abbrev pub check_lines : ℕ → List (List ℕ) → List (List ℕ)
check_lines needs [] = served_line needs ∷ []
check_lines needs (line ∷ more) = (line ∷ more) ++ differences_line (length (line ∷ more)) ∷ []
