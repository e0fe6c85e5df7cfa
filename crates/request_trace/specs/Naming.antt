-- Where the modules of a walk are named.
--     AllNamedAt base entries      each module stands with the text of its web name at this base
use Rattle.std.specs.Prelude.{◌≡◌, ℕ, List, All, Some}
use Rattle.trace_spec.specs.Modules.{Module}
use Rattle.url_spec.specs.WebNames.{web}
use Rattle.trace_walk.specs.declared.tables.Name.{Name}

abbrev pub AllNamedAt : List ℕ → List (Module × Name) → Type 0
AllNamedAt base entries = All (λ entry. web base entry.0.path entry.0.suffix ≡ Some entry.1.text) entries
