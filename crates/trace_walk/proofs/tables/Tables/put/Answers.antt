use Rattle.trace_walk.specs.Shown.{before_of}
use Rattle.trace_walk.proofs.TableLemmas.{given_misnamed}
use Rattle.trace_walk.proofs.tables.Tables.put.Goals as goal

pub returns-in_err-name-in-None-clause-put : goal.returns-in_err-name-in-None-clause-put
returns-in_err-name-in-None-clause-put g c = λ r is all.
    given_misnamed c.args.config.now r c.args.referrer.now (before_of c.args.self.now) (record { referrer = c.args.referrer.now.name; asked = c.args.asked }) c.args.specifier.now c.args.target c.in_err-name-in-None.field-0.0 c.from_residual-in_err-name-in-None.result _ is c.from_residual-in_err-name-in-None.ensures.1 c.in_err-name-in-None.ensures.misnamed
