-- One need after another.
use Rattle.std.proofs.Common.{◌≡◌, ℕ, ◌+◌, List, ◌∷◌, ◌++◌, Some, ap, ◌∙◌}
use Rattle.std.specs.Prelude.{map, drop, slice_get}
use Rattle.shared_types.proofs.ListSteps.{drop_at}
use Rattle.import_map_spec.specs.ParsedMap.{ParsedMap}
use Rattle.layout_spec.specs.declared.Need.{Need}
use Rattle.check_spec.specs.Differences.{differences, differences_from}
use Rattle.map_check.specs.declared.difference.Difference.{Difference}
use Rattle.map_check.specs.Shown.{shown}

-- a loop's step
pub next_need : (m : ParsedMap) (number : ℕ) (needs : List Need) (need : Need) (old new : List Difference) → differences m needs ≡ map shown old ++ differences_from m number (drop number needs) → slice_get needs number ≡ Some need
    → ((more : List Need) → map shown old ++ differences_from m number (need ∷ more) ≡ map shown new ++ differences_from m (number + 1) more) → differences m needs ≡ map shown new ++ differences_from m (number + 1) (drop (number + 1) needs)
next_need m number needs need old new invariant here step =
    let split = drop_at needs number need here in
    invariant ∙ (ap (λ xs. map shown old ++ differences_from m number xs) split ∙ step (drop (number + 1) needs))
