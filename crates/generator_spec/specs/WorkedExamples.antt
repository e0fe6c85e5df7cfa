-- Worked examples of what a strict check says of modules.
--     asked text          a request with this text, somewhere
--     module_at path suffix       a module
--     three_modules, two_lines, two_counted       some modules, their lines, and these with their number
--     StrictExamples      the lines of modules; what has no lines; and the lines of whole checks
use Rattle.std.specs.Prelude.{◌≡◌, ℕ, List, [], ◌∷◌, codes}
use Prim.Native.String.{String}
use Rattle.module_spec.specs.declared.request.Request.{Request}
use Rattle.grammar_spec.specs.declared.answer.Strict.TheVariants.{Agrees, Syntax, Differs, TooDeep}
use Rattle.trace_spec.specs.Modules.{Module}
use Rattle.generator_spec.specs.declared.Refusal.TheVariants.{NestedTooDeep}
use Rattle.generator_spec.specs.Checking.{AreLined, check_status, check_lines}
use Rattle.generator_spec.specs.Lines.{status_of, line_of}

abbrev pub asked : String → Request
asked text = record { from = 7; to = 14; text = codes text }

abbrev pub module_at : String → String → Module
module_at path suffix = record { path = codes path; suffix = codes suffix }

abbrev pub three_modules : List Module
three_modules = module_at "/a.mjs" "" ∷ module_at "/b.mjs" "" ∷ module_at "/c.mjs" "?x" ∷ []

-- what is said of the second and of the third, where the first agrees
abbrev pub two_lines : List (List ℕ)
two_lines =
    codes "strict: \"/b.mjs\" Syntax at 22\n" ∷ codes "strict: \"/c.mjs?x\" requests differ\n" ∷ []

abbrev pub two_counted : List (List ℕ)
two_counted =
    codes "strict: \"/b.mjs\" Syntax at 22\n" ∷ codes "strict: \"/c.mjs?x\" requests differ\n"
    ∷ codes "2 differences\n" ∷ []

pub record StrictExamples : Type 0 where
  pub lined : AreLined three_modules (Agrees ∷ Syntax 22 ∷ Differs [] (asked "./d.mjs" ∷ []) ∷ []) two_lines
  pub requests_differ :
      AreLined (module_at "/\"q\".mjs" "" ∷ []) (Differs (asked "./d.mjs" ∷ []) [] ∷ [])
      (codes "strict: \"/\\\"q\\\".mjs\" requests differ\n" ∷ [])
  pub nested :
      (lines : List (List ℕ))
      → AreLined (module_at "/a.mjs" "" ∷ module_at "/b.mjs" "" ∷ []) (Agrees ∷ TooDeep ∷ []) lines → ⊥
  pub unsaid : (lines : List (List ℕ)) → AreLined (module_at "/a.mjs" "" ∷ []) [] lines → ⊥
  pub too_deep_status : status_of NestedTooDeep ≡ 3
  pub too_deep_line : line_of NestedTooDeep ≡ codes "limit: nesting above 1000\n"
  pub counted_status : check_status two_lines ≡ 6
  pub counted : check_lines 4 two_lines ≡ two_counted
  pub none_status : check_status [] ≡ 0
  pub none : check_lines 4 [] ≡ codes "ok: 4 needs served\n" ∷ []
