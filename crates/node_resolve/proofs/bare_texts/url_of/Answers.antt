use Rattle.node_resolve.proofs.TargetLemmas.{own_url_is}
use Rattle.node_spec.specs.declared.Cause.TheVariants.{ImportNotDefined}
use Rattle.node_resolve.proofs.bare_texts.url_of.Goals as goal

pub returns-in_default : goal.returns-in_default
returns-in_default c =
    own_url_is c.args.package_folder.now ImportNotDefined c.args.outcome _ c.own_url.result c.in_default.not-Bare
    c.in_default.not-Stopped
    c.own_url.ensures
