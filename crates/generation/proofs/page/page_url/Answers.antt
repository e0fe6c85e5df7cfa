use Rattle.std.proofs.Common.{subst}
use Rattle.web_url.specs.Serving.{IsUnservable}
use Rattle.generation.proofs.Generatings.{unserved_by}
use Rattle.generation.proofs.page.page_url.Goals as goal

pub returns-in-Err-Unservable-clause-stopped : goal.returns-in-Err-Unservable-clause-stopped
returns-in-Err-Unservable-clause-stopped c =
    unserved_by c.args.config.now c.base.result.now c.page.result.now c.none-suffix.result c.in-Err-Unservable.url c.unserved.result c.base.ensures c.page.ensures.page c.none-suffix.ensures
    (subst (IsUnservable c.base.result.now c.page.result.now c.none-suffix.result) c.in-Err-Unservable.field-0-is c.in-Err-Unservable.ensures.fault) c.unserved.ensures
