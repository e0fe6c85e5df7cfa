use Rattle.std.proofs.Common.{◌≡◌, ℕ, ◌<◌, length, get_or, None}
use Rattle.slot_arena.proofs.chunk.Chunk.drop.Given as goal

-- the places before this one are empty
abbrev pub invariant-loop-place : goal.invariant-loop-place
invariant-loop-place g l = (length l.self ≡ 64) × ((i : ℕ) → i < l.place → get_or l.self i None ≡ None)
