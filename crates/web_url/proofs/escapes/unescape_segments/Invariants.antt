use Rattle.std.proofs.Common.{◌≡◌, flat_map, map}
use Rattle.url_spec.specs.ServedPaths.{read_segment}
use Rattle.web_url.proofs.escapes.unescape_segments.Given as goal

abbrev pub invariant-loop-segment : goal.invariant-loop-segment
invariant-loop-segment l = l.bytes.items ≡ flat_map read_segment (map (λ x. x.now) l.yielded)
