use Rattle.std.proofs.Common.{sym, ◌∙◌, refl, arith}
use Rattle.std.proofs.lemmas.List.{length-map}
use Rattle.module_spec.specs.declared.request.Request.{Request}
use Rattle.graph_repair.proofs.AskedAlike.{same_lists, asked_is, not_alike, texts}
use Rattle.graph_repair.proofs.likeness.ask_alike.Goals as goal

pub returns-then-not-asks_alike_at : goal.returns-then-not-asks_alike_at
returns-then-not-asks_alike_at c =
    not_alike c.args.own.now c.args.other.now c.loop-index.index c.asks_alike_at.result c.asks_alike_at.ensures c.if-not-asks_alike_at.true

pub returns : goal.returns
returns c = (
  λ yes. (let own = length-map c.args.own.now.requests.value (λ (r : Request). r.text) in
      let other = length-map c.args.other.now.requests.value (λ (r : Request). r.text) in
      same_lists (texts c.args.own.now) (texts c.args.other.now) (omega (arith, own, other, c.requests-count.ensures, c.requests.ensures, c.if-requests-count.false))
      (λ i lt. sym (asked_is c.args.own.now i) ∙ (c.loop-index.invariant i (omega (arith, own, lt, c.requests-count.ensures, c.loop-index-test.false)) ∙ asked_is c.args.other.now i))),
  λ same. refl,
)
