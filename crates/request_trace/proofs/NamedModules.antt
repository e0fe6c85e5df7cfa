-- The modules of a trace with the texts of their names.
--     named_at_base          names of a config are names at its base
--     names_at               the names beside the modules
--     kept_url               the text of a module's name is its URL at the same base
--     counted                the modules of a whole trace, counted
use Rattle.std.proofs.Common.{◌≡◌, ◌≤◌, ℕ, List, [], ◌∷◌, length, map, Option, Some, None, Result, Ok, Err, refl, sym, ap, ◌∙◌, subst}
use Rattle.std.specs.Prelude.{slice_get, option_map, option_and_then, IfOk}
use Rattle.std.specs.Map.{keys_of}
use Rattle.std.proofs.lemmas.List.Elements.{All-head, All-tail, All-weaker}
use Rattle.std.proofs.lemmas.Option.{slice_get-map}
use Rattle.tree_spec.specs.declared.LimitName.TheVariants.{Modules}
use Rattle.tree_spec.specs.Limits.{limit_number}
use Rattle.trace_spec.proofs.Steps.{file_name_parts}
use Rattle.trace_spec.specs.Checks.{Gathered}
use Rattle.trace_spec.specs.Modules.{Config, Module}
use Rattle.url_spec.specs.WebNames.{web}
use Rattle.trace_walk.specs.declared.tables.Name.{Name}
use Rattle.trace_walk.specs.Walking.{AllNamed, IsNamed, IsWhole}
use Rattle.request_trace.specs.Naming.{AllNamedAt}
use Rattle.request_trace.specs.Tracing.{CountsModules}

abbrev IsNamedAt : List ℕ → Module × Name → Type 0
IsNamedAt base entry = web base entry.0.path entry.0.suffix ≡ Some entry.1.text

named_one : (config : Config) (entry : Module × Name) → IsNamed config entry.0 entry.1 → IsNamedAt config.base entry
named_one config entry is =
    (file_name_parts config entry.0 entry.1.url is.is).servable.name ∙ ap Some (sym is.text)

pub named_at_base : (config : Config) (base : List ℕ) (entries : List (Module × Name)) → base ≡ config.base
    → AllNamed config entries → AllNamedAt base entries
named_at_base config base entries same all =
    subst (λ b. AllNamedAt b entries) (sym same)
    (All-weaker (λ (entry : Module × Name). IsNamed config entry.0 entry.1) (IsNamedAt config.base) (named_one config)
    entries all)

abbrev pub name_of : List ℕ → Module → Option (List ℕ)
name_of base m = web base m.path m.suffix

pub names_at : (base : List ℕ) (entries : List (Module × Name)) → AllNamedAt base entries
    → map (name_of base) (keys_of entries) ≡ map (λ entry. Some entry.1.text) entries
names_at base [] all = refl
names_at base (entry ∷ entries) all =
    λ i. All-head (IsNamedAt base) entry entries all i
    ∷ names_at base entries (All-tail (IsNamedAt base) entry entries all) i

same_name : (name : Module → Option (List ℕ)) (m : Option Module) (text : Option (List ℕ))
    → option_map name m ≡ option_map Some text → text ≡ option_and_then name m
same_name name None None e = refl
same_name name None (Some text) e = absurd (cc)
same_name name (Some m) None e = absurd (cc)
same_name name (Some m) (Some text) e = let is : name m ≡ Some text = cc in sym is

pub kept_url : {E : Type 0} (base own : List ℕ) (modules : List Module) (names : List (List ℕ)) (place : ℕ) → base ≡ own
    → map (name_of own) modules ≡ map Some names
    → (result : Result (Option (List ℕ)) E) → IfOk result (λ found. found ≡ slice_get names place)
    → IfOk result (λ found. found ≡ option_and_then (name_of base) (slice_get modules place))
kept_url base own modules names place same named (Ok found) is =
    is
    ∙ (same_name (name_of own) (slice_get modules place) (slice_get names place)
    (sym (slice_get-map (name_of own) modules place)
    ∙ (ap (λ ns. slice_get ns place) named ∙ slice_get-map Some names place))
    ∙ ap (λ b. option_and_then (name_of b) (slice_get modules place)) (sym same))
kept_url base own modules names place same named (Err fault) is = tt

pub counted : (tables : Gathered) (count : ℕ) → count ≡ length tables.modules → IsWhole tables
    → CountsModules tables count
counted tables count is whole = record {
  modules = is;
  sources = is ∙ sym whole.visited;
  few = subst (λ n. n ≤ limit_number Modules) (sym is) whole.few;
  read = whole.read;
}
