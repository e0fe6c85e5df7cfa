-- The outline as a caller is told it.
--     as_outline outline      what a caller is told, as an outline
--     EndsAs fault requests declares out      what is told where a text ends in this fault, or with these requests
use Rattle.std.specs.Prelude.{◌≡◌, Bool, List, Option, Some, None, Result, Ok, Err}
use Rattle.module_spec.specs.declared.request.Request.{Request}
use Rattle.module_spec.specs.declared.request.ModuleFault.{ModuleFault}
use Rattle.module_spec.specs.Outlines.{Outline}
use Rattle.es_module_parser.specs.declared.fault.OutlineFault.{OutlineFault}
use Rattle.es_module_parser.specs.declared.requests.Outline as told
use Rattle.es_module_parser.specs.Faults.{fault_of}

abbrev pub as_outline : told.Outline → Outline
as_outline outline = record { requests = outline.requests; declares = outline.declares }

abbrev pub EndsAs : Option ModuleFault → List Request → Bool → Result told.Outline OutlineFault → Type 0
EndsAs (Some fault) requests declares (Ok outline) = ⊥
EndsAs (Some fault) requests declares (Err other) = other ≡ fault_of fault
EndsAs None requests declares (Ok outline) = (outline.requests ≡ requests) × (outline.declares ≡ declares)
EndsAs None requests declares (Err other) = ⊥
