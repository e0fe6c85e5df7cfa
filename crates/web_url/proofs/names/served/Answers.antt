use Rattle.std.proofs.Common.{subst}
use Rattle.std.specs.Prelude.{IfOk}
use Rattle.web_url.proofs.NameLemmas.{none_served}
use Rattle.web_url.proofs.PathLemmas.{IsFound, served_found}
use Rattle.web_url.proofs.names.served.Goals as goal

pub returns-in-None : goal.returns-in-None
returns-in-None c =
    let never = rw c.in-None.is at c.in_ok-spelled_below.ensures in
    λ path. none_served c.args.base.now c.args.url.now path never

pub returns-in-Some : goal.returns-in-Some
returns-in-Some c =
    let spells = rw c.in-Some.is at c.in_ok-spelled_below.ensures in
    served_found c.args.base.now c.args.url.now c.in-Some.bytes.items c.path_of.result spells (subst (λ bytes. IfOk c.path_of.result (IsFound bytes)) c.as_slice.ensures.value c.path_of.ensures)
