-- The number of brackets, as a number.
use Rattle.std.proofs.Common.{refl}
use Rattle.std.specs.Prelude.{◌≡◌}
use Rattle.json_spec.specs.Grammar.{most_depth}

pub most_depth_is : most_depth ≡ 128
unfolding most_depth
most_depth_is = refl
