use Rattle.std.proofs.Common.{ap, ◌∙◌}
use Rattle.node_spec.specs.PackageTargets.{is_invalid_segment}
use Rattle.condition_match.specs.Segments.{is_invalid_name}
use Rattle.condition_match.proofs.segments.is_invalid_segment.Goals as goal

pub returns : goal.returns
unfolding is_invalid_segment
returns c = c.is_invalid_name.ensures ∙ ap is_invalid_name (c.as_slice.ensures.value ∙ (c.in_ok-name.ensures.value ∙ c.percent_decode.ensures.bytes))
