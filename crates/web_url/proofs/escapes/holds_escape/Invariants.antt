use Rattle.std.proofs.Common.{◌≡◌, length}
use Rattle.url_spec.specs.ServedPaths.{holds_escape}
use Rattle.web_url.proofs.escapes.holds_escape.Given as goal

abbrev pub invariant-loop-more : goal.invariant-loop-more
invariant-loop-more l = holds_escape l.escape l.fn.text ≡ holds_escape l.escape l.rest

abbrev pub decreases-loop-more : goal.decreases-loop-more
decreases-loop-more l = length l.rest
