-- Counts of faults, which end at the last number of their type.
--     Rose before now      the count rose
--     following number      the number after this one
use Rattle.std.specs.Prelude.{◌≤◌, ◌+◌, ◌-◌, ◌^◌, ℕ, min}

-- own: a count rose, or stands at the last number of its type, where it can't rise
abbrev pub Rose : ℕ → ℕ → Type 0
Rose before now = min (before + 1) (2 ^ 64 - 1) ≤ now

-- own: the number after one that counts, which stops at the last number of its type
abbrev pub following : ℕ → ℕ
following number = min (number + 1) (2 ^ 64 - 1)
