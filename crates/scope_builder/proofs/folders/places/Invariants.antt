use Rattle.std.proofs.Common.{◌≡◌, ◌≤◌, ◌-◌, ◌++◌, ◌∷◌, length}
use Rattle.layout_spec.specs.Places.{folders}
use Rattle.scope_builder.proofs.folders.places.Given as goal

abbrev pub invariant-loop-size : goal.invariant-loop-size
invariant-loop-size l = record {
  within : l.size ≤ length l.text;
  left : l.all ++ folders l.text l.size ≡ l.text ∷ folders l.text (length l.text - 1);
}

abbrev pub decreases-loop-size : goal.decreases-loop-size
decreases-loop-size l = l.size
