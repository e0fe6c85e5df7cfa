use Rattle.std.proofs.Common.{◌≡◌, ◌<◌, ℕ, Some}
use Rattle.std.specs.Prelude.{slice_get}
use Rattle.exports_patterns.specs.Found.{keys_of}
use Rattle.exports_patterns.proofs.few.place_of_few.Given as goal

abbrev pub invariant-loop-index : goal.invariant-loop-index
invariant-loop-index l = (place : ℕ) → place < l.index → slice_get (keys_of l.keys) place ≡ Some l.asked → ⊥
