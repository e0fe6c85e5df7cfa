-- How much more may be looked at.
--     HasSpace trail looks bytes      so many paths more, with so many bytes together, pass no limit
use Rattle.std.specs.Prelude.{◌≤◌, ◌+◌, ℕ, length}
use Rattle.tree_spec.specs.LookLimits.{Trail, look_limits}

abbrev pub HasSpace : Trail → ℕ → ℕ → Type 0
HasSpace trail looks bytes =
    (length trail.paths + looks ≤ look_limits.looks) × (trail.size + bytes ≤ look_limits.bytes)
