-- The modules of a walk, joined with their sources.
--     IsVertex m source v              v is this module with this source, as a graph takes it
--     AreJoined entries sources joined the modules with their sources, the last one first, and the texts of their names
use Rattle.std.specs.Prelude.{◌≡◌, List, All, map, reverse, Some}
use Rattle.std.specs.Map.{keys_of}
use Rattle.module_graph.specs.declared.module.Module as vertex
use Rattle.module_graph.specs.Modules.{IsModule}
use Rattle.module_sources.specs.declared.source.Source.{Source}
use Rattle.module_sources.specs.Shown as walk
use Rattle.trace_graph.specs.Links.{module_of, source_of}
use Rattle.trace_spec.specs.Modules.{Module}
use Rattle.trace_walk.specs.declared.tables.Name.{Name}
use Rattle.request_trace.specs.declared.vertices.Joined.{Joined}

pub record IsVertex (m : Module) (source : Source) (v : vertex.Module) : Type 0 where
  pub well_made : IsModule v
  pub module_is : module_of v ≡ m
  pub source_is : source_of v ≡ walk.source_of source

pub record AreJoined (entries : List (Module × Name)) (sources : List Source) (joined : Joined) : Type 0 where
  pub well_made : All IsModule joined.vertices.items
  pub modules_are : map module_of (reverse joined.vertices.items) ≡ keys_of entries
  pub sources_are : map source_of (reverse joined.vertices.items) ≡ map walk.source_of sources
  pub names_are : map Some joined.names.items ≡ map (λ entry. Some entry.1.text) entries
