use Rattle.std.proofs.Common.{ap, ◌∙◌, List, ℕ, Option, Bor, option_map}
use Rattle.node_spec.specs.PackageTargets.{with_match}
use Rattle.condition_match.proofs.Replacing.{no_star}
use Rattle.condition_match.proofs.strings.replacing.Goals as goal

pub returns-in-None-cut_once : goal.returns-in-None-cut_once
returns-in-None-cut_once c =
    ap (λ (star : Option (Bor (List ℕ))). with_match (option_map (λ part. part.now) star) c.args.target.now) c.in-Some.is ∙ no_star c.in-Some.part.now c.args.target.now c.in-None-cut_once.ensures
