use Rattle.std.proofs.Common.{arith, rules, tests}
use Rattle.std.proofs.lemmas.Iterator.Search.{any_from_yields_List}
use Rattle.std.proofs.lemmas.Iterator.Splits.{YieldsList-from_str_split}
use Rattle.node_spec.specs.PackageResolve.{is_refused_part}
use Rattle.node_resolve.proofs.package_name.holds_refused_part.Goals as goal

pub returns : goal.returns
returns c =
    any_from_yields_List is_refused_part _ _ _ c.any.ensures.ran
    (YieldsList-from_str_split 47 c.args.name.now (omega arith) c.split.ensures.text c.split.ensures.has_more c.split.ensures.pattern)
    (λ x b q k. search (rules, tests))
