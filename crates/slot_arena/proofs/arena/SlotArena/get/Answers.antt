use Rattle.std.proofs.Common.{IsSome, sym, ap, ◌∙◌, subst}
use Rattle.slot_arena.specs.Slots.{value_at}
use Rattle.slot_arena.proofs.Paired.{found}
use Rattle.slot_arena.proofs.arena.SlotArena.get.Goals as goal

pub at-requires : goal.at-requires
at-requires g c =
    let is_live = subst (λ a. IsSome (value_at a c.args.at)) (sym c.self.view_is) (c.is_live.ensures.0 c.if-not-is_live.false) in
    let f = found c.self.inside.places c.self.inside.next.items c.args.at c.self.invariant.0 is_live in (f.value, f.filled)

pub returns : goal.returns
returns g c =
    let is_live = subst (λ a. IsSome (value_at a c.args.at)) (sym c.self.view_is) (c.is_live.ensures.0 c.if-not-is_live.false) in
    let f = found c.self.inside.places c.self.inside.next.items c.args.at c.self.invariant.0 is_live in
    sym c.at.ensures ∙ f.filled ∙ sym f.is ∙ ap (λ a. value_at a c.args.at) c.self.view_is
