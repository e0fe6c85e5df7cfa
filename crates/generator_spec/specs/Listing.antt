-- What a list of modules comes to.
--     module_lines modules sources      one line for each module with its source, in their order
--     list_lines all                    the same of a trace
use Rattle.std.specs.Prelude.{ℕ, List, [], ◌∷◌, ◌++◌, length}
use Rattle.trace_spec.specs.Checks.{Gathered}
use Rattle.trace_spec.specs.Modules.{Module}
use Rattle.trace_spec.specs.Questions.{Source}
use Rattle.generator_spec.specs.Lines.{module_line}

abbrev pub module_lines : List Module → List Source → List (List ℕ)
module_lines [] sources = []
module_lines (m ∷ modules) [] = []
module_lines (m ∷ modules) (source ∷ sources) =
    module_line (m.path ++ m.suffix) (length source.specifiers) ∷ module_lines modules sources

-- own: in the order of the trace
abbrev pub list_lines : Gathered → List (List ℕ)
list_lines all = module_lines all.modules all.sources
