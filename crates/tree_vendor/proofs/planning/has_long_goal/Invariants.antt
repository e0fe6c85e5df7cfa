use Rattle.std.proofs.Common.{List, ℕ, take}
use Rattle.std.specs.Prelude.{Contains}
use Rattle.tree_vendor.specs.Planning.{IsOfBytes, IsTooLong}
use Rattle.tree_vendor.proofs.planning.has_long_goal.Given as goal

-- none of the first paths has a goal that is too long, and each is made of bytes
abbrev pub invariant-loop-path : goal.invariant-loop-path
invariant-loop-path l =
    ((path : List ℕ) → Contains (take l.path-index l.fn.footprint) path → IsTooLong l.fn.known l.fn.to path → ⊥)
    × ((path : List ℕ) → Contains (take l.path-index l.fn.footprint) path → IsOfBytes path)
