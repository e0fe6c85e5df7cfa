-- What a target gives.
--     own_url folder nothing out      the URL by an outcome that is the target's own; `nothing` where it gives nothing
use Rattle.std.specs.Prelude.{ℕ, List, None}
use Rattle.node_spec.specs.NodeAnswers.{Url, Resolving}
use Rattle.node_spec.specs.PackageTargetResolve.{came, target_url}
use Rattle.node_spec.specs.declared.Cause.{Cause}
use Rattle.node_spec.specs.declared.Outcome.{Outcome}

abbrev pub own_url : List ℕ → Cause → Outcome → Resolving Url
own_url folder nothing out = target_url folder nothing (came out None)
