use Rattle.std.proofs.Common.{refl}
use Rattle.node_spec.specs.declared.Cause.TheVariants.{NotExported}
use Rattle.node_resolve.proofs.TargetLemmas.{export_comes}
use Rattle.node_resolve.proofs.package_target_resolve.export_target.Goals as goal

pub returns : goal.returns
returns c = λ given comes.
    export_comes _ given c.args.package_folder.now NotExported c.in_ok-outcome.ensures.chosen.asked
    c.in_ok-outcome.outcome c.own_url.result refl
    (comes _ c.in_ok-outcome.ensures.chosen.asked c.in_ok-outcome.outcome c.in_ok-outcome.ensures.chosen.resolves) c.own_url.ensures
