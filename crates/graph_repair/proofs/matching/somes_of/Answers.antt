use Rattle.std.proofs.Common.{◌++◌, ◌∷◌, [], sym, ap, ◌∙◌, append-nil, append_assoc}
use Rattle.graph_repair.specs.Matching.{somes}
use Rattle.graph_repair.proofs.Filling.{somes_front, no_somes_left}
use Rattle.graph_repair.proofs.matching.somes_of.Goals as goal

pub loop-slot-init : goal.loop-slot-init
loop-slot-init c = ap (λ front. front ++ somes c.args.left.now) c.new-gone.ensures.items

pub loop-slot-preserved : goal.loop-slot-preserved
loop-slot-preserved c =
    ap (λ front. front ++ somes c.in-Some.more.now) c.in_ok-push_some.ensures
    ∙ (append_assoc c.loop-slot.gone.items (somes (c.in-Some.slot.now ∷ [])) (somes c.in-Some.more.now)
    ∙ (ap (λ back. c.loop-slot.gone.items ++ back) (sym (somes_front c.in-Some.slot.now c.in-Some.more.now))
    ∙ (ap (λ rest. c.loop-slot.gone.items ++ somes rest) (sym c.in-Some.ensures.cases.0) ∙ c.loop-slot.invariant)))

pub returns : goal.returns
returns c =
    sym (append-nil c.loop-slot.gone.items)
    ∙ (ap (λ back. c.loop-slot.gone.items ++ back) (sym (no_somes_left c.loop-slot.rest.now c.in_default.ensures.cases)) ∙ c.loop-slot.invariant)
