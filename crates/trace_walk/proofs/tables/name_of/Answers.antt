use Rattle.std.proofs.lemmas.Result.{err_from_is_err_and}
use Rattle.trace_spec.specs.Walking.{a_module}
use Rattle.trace_walk.proofs.FaultKinds.{unserved_kind}
use Rattle.trace_walk.proofs.tables.name_of.Goals as goal

pub returns-in_err-name-clause-named : goal.returns-in_err-name-clause-named
returns-in_err-name-clause-named g c =
    let p = err_from_is_err_and c.from_residual.result c.from_residual.ensures.1 in
    rw (p.1, p.2) (unserved_kind c.args.config.now (a_module c.args.target.now) c.in_err-name.field-0.0 c.in_err-name.ensures.unserved)
