use Rattle.std.proofs.Common.{◌≡◌, length}
use Rattle.std.specs.Prelude.{option_map}
use Rattle.std.specs.List.{list_any}
use Rattle.node_spec.specs.PackageTargets.{is_invalid_segment}
use Rattle.condition_match.specs.Segments.{segments_in}
use Rattle.condition_match.proofs.segments.any_invalid.Given as goal

abbrev pub invariant-loop-rest : goal.invariant-loop-rest
invariant-loop-rest l =
    list_any is_invalid_segment (segments_in (option_map (λ bytes. bytes.now) l.rest)) ≡ list_any is_invalid_segment (segments_in (option_map (λ bytes. bytes.now) l.fn.text))

abbrev pub decreases-loop-rest : goal.decreases-loop-rest
decreases-loop-rest l = length (segments_in (option_map (λ bytes. bytes.now) l.rest))
