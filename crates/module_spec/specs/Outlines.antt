-- What a module text asks for. ECMA-262, 16.2.2, 16.2.3, 13.3.10 and 13.3.12.
--     ReadsOutline text (Ok outline)      the requests of the text in their order, and whether it has declarations of
--                                         a module or `import.meta`
--     ReadsOutline text (Err fault)      its first fault
use Rattle.std.specs.Prelude.{◌≡◌, ℕ, zero, suc, ◌-◌, Bool, true, false, ◌||◌, ◌==◌, List, [], ◌∷◌, ◌++◌, if◌then◌else◌}
use Rattle.std.specs.Prelude.{Option, Some, None, Result, Ok, Err, length, reverse}
use Rattle.tree_spec.specs.declared.LimitName.TheVariants.{ModuleRequests}
use Rattle.tree_spec.specs.Limits.{limit_number}
use Rattle.module_spec.specs.declared.token.LexKind as lex_kinds
use Rattle.module_spec.specs.declared.token.LexKind.TheVariants as lex_kind
use Rattle.module_spec.specs.declared.request.Request.{Request}
use Rattle.module_spec.specs.declared.request.ModuleFault.{ModuleFault}
use Rattle.module_spec.specs.declared.request.ModuleFault.TheVariants.{Unreadable, TooDeep, TooManyRequests}
use Rattle.module_spec.specs.Tokens.{Lexeme, Reaches, IsNext}
use Rattle.module_spec.specs.Tokens.Next.{Ends, Faults}
use Rattle.module_spec.specs.Places.{Placed, places}
use Rattle.module_spec.specs.Forms.{Form, declaration, begins_declaration, is_import_meta, called}
use Rattle.module_spec.specs.Forms.Form.{wrong, none, alone, asks}
use Rattle.module_spec.specs.StringValues.{string_value}

-- the requests of a text in their order, and whether a declaration of a module or `import.meta` stands in it
pub record Outline : Type 0 where
  pub requests : List Request
  pub declares : Bool

-- ---- what is found, in text order

-- a word without a form, by its place; the module specifier of a declaration; or the string of an import call
pub data Finding : Type 0 where
  wrong_form : ℕ → Finding
  specifier : Placed → Finding
  import_call : Placed → Finding

-- what is found from a token on, by the form that begins at it and by the number of tokens before the module
-- specifier that is to come
abbrev pub found : Placed → Option ℕ → Form → (Option ℕ → List Finding) → List Finding
found t asked wrong next = wrong_form t.token.from ∷ []
found t asked alone next = next None
found t asked (asks count) next = next (Some count)
found t None none next = next None
found t (Some zero) none next = specifier t ∷ next None
found t (Some (suc count)) none next = next (Some count)

-- the string of an import call stands before the token that shows it to be one
abbrev pub with_call : Option Placed → List Finding → List Finding
with_call None more = more
with_call (Some s) more = import_call s ∷ more

-- what is found in the tokens, in their order, behind those before, the last one first; `asked` is the number of tokens
-- before the module specifier that is to come, or none where none is. An import call may stand between, in braces
abbrev pub findings : List Placed → Option ℕ → List Placed → List Finding
findings before asked [] = []
findings before asked (t ∷ rest) =
    with_call (called before t) (found t asked (declaration t rest) (λ next. findings (t ∷ before) next rest))

-- ---- declarations and import calls apart

-- what is found where no import call is looked for
abbrev pub declared : Option ℕ → List Placed → List Finding
declared asked [] = []
declared asked (t ∷ rest) = found t asked (declaration t rest) (λ next. declared next rest)

-- the strings of all import calls in the tokens, behind those before, the last one first
abbrev pub and_call : Option Placed → List Placed → List Placed
and_call None more = more
and_call (Some s) more = s ∷ more

abbrev pub calls : List Placed → List Placed → List Placed
calls before [] = []
calls before (t ∷ rest) = and_call (called before t) (calls (t ∷ before) rest)

-- what was found but the import calls; and these alone
abbrev pub without_calls : List Finding → List Finding
without_calls [] = []
without_calls (wrong_form at ∷ rest) = wrong_form at ∷ without_calls rest
without_calls (specifier t ∷ rest) = specifier t ∷ without_calls rest
without_calls (import_call s ∷ rest) = without_calls rest

abbrev pub only_calls : List Finding → List Placed
only_calls [] = []
only_calls (wrong_form at ∷ rest) = only_calls rest
only_calls (specifier t ∷ rest) = only_calls rest
only_calls (import_call s ∷ rest) = s ∷ only_calls rest

-- each word has a form
abbrev pub all_right : List Finding → Bool
all_right [] = true
all_right (wrong_form at ∷ rest) = false
all_right (specifier t ∷ rest) = all_right rest
all_right (import_call s ∷ rest) = all_right rest

-- ---- requests

-- own: how many requests a text may have
abbrev pub most_requests : ℕ
most_requests = limit_number ModuleRequests

-- the request of a string: from where to where it stands, and the text that it has as its value
abbrev pub asked_by : Placed → List ℕ → Request
asked_by t text = record { from = t.token.from; to = t.token.to; text = text }

-- own: a string without a value is refused at its place, and before the one that is too many
abbrev pub asked_for : Placed → Option (List ℕ) → List Request → (List Request → Result (List Request) ModuleFault)
    → Result (List Request) ModuleFault
asked_for t None so_far next = Err (Unreadable t.token.from)
asked_for t (Some text) so_far next =
    if length so_far == most_requests then Err TooManyRequests else next (so_far ++ asked_by t text ∷ [])

-- the requests behind those so far, or what is refused first
abbrev pub requests : List Request → List Finding → Result (List Request) ModuleFault
requests so_far [] = Ok so_far
requests so_far (wrong_form at ∷ rest) = Err (Unreadable at)
requests so_far (specifier t ∷ rest) = asked_for t (string_value t.text) so_far (λ more. requests more rest)
requests so_far (import_call t ∷ rest) = asked_for t (string_value t.text) so_far (λ more. requests more rest)

-- ---- the whole text

-- own: an import or export declaration, or `import.meta`, stands among the tokens. An import call shows nothing
abbrev pub declares : List Placed → Bool
declares [] = false
declares (t ∷ rest) = begins_declaration t rest || (is_import_meta t rest || declares rest)

-- the outline with these requests, or the fault that was there first
abbrev pub outline_of : Result (List Request) ModuleFault → Bool → Result Outline ModuleFault
outline_of (Ok asked) declared = Ok (record { requests = asked; declares = declared })
outline_of (Err fault) declared = Err fault

-- the outline of all tokens of a text, or the first fault of its forms and requests
abbrev pub outlined : List Placed → Result Outline ModuleFault
outlined tokens = outline_of (requests [] (findings [] None tokens)) (declares tokens)

-- a fault among the tokens as one of the text: that of too many open brackets is told without its place
abbrev pub lexical_fault : ℕ → lex_kinds.LexKind → ModuleFault
lexical_fault at lex_kind.Unreadable = Unreadable at
lexical_fault at lex_kind.TooDeep = TooDeep

-- own: a fault among the tokens, wherever it stands, goes before those of forms
pub data ReadsOutline (text : List ℕ) : Result Outline ModuleFault → Type 0 where
  all : {before : List Lexeme} {rest : List ℕ} {out : Result Outline ModuleFault} → Reaches text before rest
      → IsNext before rest Ends → out ≡ outlined (reverse (places (length text) before)) → ReadsOutline text out
  fault : {before : List Lexeme} {rest : List ℕ} {left : ℕ} {kind : lex_kinds.LexKind}
      {out : Result Outline ModuleFault} → Reaches text before rest → IsNext before rest (Faults left kind)
      → out ≡ Err (lexical_fault (length text - left) kind) → ReadsOutline text out
