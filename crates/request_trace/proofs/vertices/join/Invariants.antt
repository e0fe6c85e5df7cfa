use Rattle.std.proofs.Common.{◌≡◌, ◌≤◌, ◌+◌, ◌++◌, ℕ, List, length, map, reverse, Option, Some}
use Rattle.std.specs.Prelude.{All, vec_len, vec_capacity}
use Rattle.std.specs.Map.{keys_of}
use Rattle.module_graph.specs.Modules.{IsModule}
use Rattle.module_sources.specs.Shown as walk
use Rattle.trace_graph.specs.Links.{module_of, source_of}
use Rattle.trace_spec.specs.Modules.{Module}
use Rattle.trace_walk.specs.declared.tables.Name.{Name}
use Rattle.trace_walk.specs.Walking.{AllInside}
use Rattle.request_trace.proofs.vertices.join.Given as goal

abbrev pub text_in : Module × Name → Option (List ℕ)
text_in entry = Some entry.1.text

-- what waits and what is joined are the tables
abbrev pub invariant-loop-module : goal.invariant-loop-module
invariant-loop-module l = record {
  modules : keys_of l.waiting.entries ++ map module_of (reverse l.vertices.items) ≡ keys_of l.fn.modules.entries;
  sources : map walk.source_of l.unread.items ++ map source_of (reverse l.vertices.items) ≡ map walk.source_of l.fn.sources.items;
  names : map text_in l.waiting.entries ++ map Some (reverse l.names.items) ≡ map text_in l.fn.modules.entries;
  beside : length l.unread.items ≡ length l.waiting.entries;
  inside : AllInside l.unread.items;
  well_made : All IsModule l.vertices.items;
  vertices_room : vec_len l.vertices + length l.waiting.entries ≤ vec_capacity l.vertices;
  names_room : vec_len l.names + length l.waiting.entries ≤ vec_capacity l.names;
}

abbrev pub decreases-loop-module : goal.decreases-loop-module
decreases-loop-module l = length l.waiting.entries
