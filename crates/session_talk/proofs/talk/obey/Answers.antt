use Rattle.std.proofs.Common.{◌≡◌, Option, Some, None, sym, ◌∙◌, subst}
use Rattle.session_input.specs.Readers.{order_of}
use Rattle.session_spec.specs.declared.Change.{Change}
use Rattle.std.proofs.Common.{List}
use Rattle.session_talk.specs.Talking.{now_at, IsOrdered}
use Rattle.session_talk.proofs.talk.obey.Goals as goal

pub returns-in-None-clause-turns : goal.returns-in-None-clause-turns
returns-in-None-clause-turns g c first left source before is goes =
    let out = g.O.Sink.state c.args.out.now in
    let was : c.args.held.now ≡ None = sym c.take.ensures.value ∙ c.in-None.is in
    c.obey_alone.ensures.turns first left source before is
    (subst (λ (held : Option (List Change)). IsOrdered c.args.number (order_of c.args.order) first (now_at before left held source out)) was goes)

pub returns-in-Some-clause-turns : goal.returns-in-Some-clause-turns
returns-in-Some-clause-turns g c first left source before is goes =
    let out = g.O.Sink.state c.args.out.now in
    let was : c.args.held.now ≡ (Some c.in-Some.edit) = sym c.take.ensures.value ∙ c.in-Some.is in
    c.obey_within.ensures.turns first left source before is
    (subst (λ (held : Option (List Change)). IsOrdered c.args.number (order_of c.args.order) first (now_at before left held source out)) was goes)
