use Rattle.std.proofs.Common.{◌≡◌, ◌≤◌, ◌<◌, ◌+◌, ◌++◌, length, map}
use Rattle.std.specs.Prelude.{All, vec_len, vec_capacity}
use Rattle.module_graph.specs.Many.{slot_in}
use Rattle.trace_graph.proofs.building.slots_at.Given as goal

-- what was found, and what is left to find
abbrev pub invariant-loop-place : goal.invariant-loop-place
invariant-loop-place l = record {
  found : l.found.items ++ map (slot_in l.slots) l.rest ≡ map (slot_in l.slots) l.places;
  within : All (λ place. place < length l.slots) l.rest;
  room : vec_len l.found + length l.rest ≤ vec_capacity l.found;
}

abbrev pub decreases-loop-place : goal.decreases-loop-place
decreases-loop-place l = length l.rest
