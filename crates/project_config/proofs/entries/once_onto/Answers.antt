use Rattle.std.proofs.Common.{map}
use Rattle.std.specs.Prelude.{string_bytes}
use Rattle.project_config.proofs.Once.{each_once, onto_old}
use Rattle.project_config.proofs.entries.once_onto.Goals as goal

pub returns-clause-entries : goal.returns-clause-entries
returns-clause-entries c =
    onto_old c.args.old (map string_bytes c.args.words.now) c.in_ok-all.all c.as_slice.result.now c.once.result
    c.requires c.in_ok-all.ensures c.as_slice.ensures c.once.ensures

pub returns-clause-distinct : goal.returns-clause-distinct
returns-clause-distinct c = each_once c.as_slice.result.now c.once.result c.once.ensures
