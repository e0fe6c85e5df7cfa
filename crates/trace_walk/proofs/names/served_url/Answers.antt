use Rattle.trace_walk.proofs.ServedNames.{served_is, unserved_is}
use Rattle.trace_walk.proofs.names.served_url.Goals as goal

pub returns-in-Ok-clause-served : goal.returns-in-Ok-clause-served
returns-in-Ok-clause-served c =
    let named = rw c.base.ensures at c.in-Ok.ensures.url in
    (named.0, served_is c.args.config.now.base c.args.path.now c.args.suffix.now c.in-Ok.url named.0 named.1)

pub returns-in_ok-unservable-in-Err-Unservable-clause-unserved : goal.returns-in_ok-unservable-in-Err-Unservable-clause-unserved
returns-in_ok-unservable-in-Err-Unservable-clause-unserved c = λ ne.
    unserved_is c.args.config.now c.base.result.now c.args.path.now c.args.suffix.now c.in-Err-Unservable.field-0 c.in-Err-Unservable.url c.in_ok-unservable-in-Err-Unservable.field-0 c.base.ensures c.in-Err-Unservable.field-0-is c.in-Err-Unservable.ensures.fault c.in_ok-unservable-in-Err-Unservable.ensures
