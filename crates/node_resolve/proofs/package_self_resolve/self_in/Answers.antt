use Rattle.std.proofs.Common.{sym, ◌∙◌}
use Rattle.node_resolve.proofs.SelfLemmas.{self_no, self_yes, self_fails}
use Rattle.node_resolve.proofs.package_self_resolve.self_in.Goals as goal

pub returns-then-not-names_itself : goal.returns-then-not-names_itself
returns-then-not-names_itself c = self_no _ _ (sym c.names_itself.ensures ∙ c.if-not-names_itself.true)

pub returns-in-Err : goal.returns-in-Err
returns-in-Err c =
    self_fails _ _ c.in-Err.fault (sym c.names_itself.ensures ∙ c.if-not-names_itself.false)
    (rw (c.in-Err.is, c.as_str.ensures) at c.exported.ensures)

pub returns-in-Ok : goal.returns-in-Ok
returns-in-Ok c =
    self_yes _ _ c.in-Ok.url (sym c.names_itself.ensures ∙ c.if-not-names_itself.false)
    (rw (c.in-Ok.is, c.as_str.ensures) at c.exported.ensures)
