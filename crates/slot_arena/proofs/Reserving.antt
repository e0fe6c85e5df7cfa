-- How many places are made.
use Rattle.std.proofs.Common.{◌≡◌, ℕ, ◌+◌, ◌-◌, ◌^◌, ◌%◌, ◌<◌, ◌≤◌, arith}
use native.Mathlib.Nat.{div-add-mod', mod-lt}
use Rattle.slot_arena.specs.Counts.{wanted}

pub wanted_few : (have n : ℕ) → wanted have n ≤ n + 63
wanted_few have n =
    let r : (n - have + 63) % 64 < 64 = mod-lt (n - have + 63) (omega arith) in omega (arith, div-add-mod' (n - have + 63) 64, r)

pub wanted_fits : (have n made more : ℕ) → more ≡ wanted have n → made + n < 2 ^ 32 - 64 → made + more < 2 ^ 32
wanted_fits have n made more is small = omega (arith, wanted_few have n, is, small)
