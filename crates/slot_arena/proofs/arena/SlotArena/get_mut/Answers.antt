use Rattle.std.proofs.Common.{Some, slice_set, sym, ap, ◌∙◌, inl, length-set}
use Rattle.slot_arena.specs.Slots.{place}
use Rattle.slot_arena.specs.Kept.{paired}
use Rattle.slot_arena.proofs.Paired.{found, paired-put}
use Rattle.slot_arena.proofs.Fields.{fields-written}
use Rattle.slot_arena.proofs.arena.SlotArena.get_mut.Goals as goal

pub at_mut-requires : goal.at_mut-requires
at_mut-requires g c =
    let f = found c.self.inside.places c.self.inside.next.items c.args.at c.self.invariant.0 (c.is_live.ensures.0 c.if-not-is_live.false) in (f.value, f.filled)

pub invariant_of-self-lent : goal.invariant_of-self-lent
invariant_of-self-lent g c = λ w.
    let vs = c.self.inside.places in let ns = c.self.inside.next.items in let i = c.args.at.index in let long = c.self.invariant.0 in
    let f = found vs ns c.args.at long (c.is_live.ensures.0 c.if-not-is_live.false) in
    (long ∙ sym (length-set vs i (Some w)), fields-written vs ns long c.self.inside.free.items i f.value w f.filled c.self.invariant.1)

pub returns : goal.returns
returns g c =
    let vs = c.self.inside.places in let ns = c.self.inside.next.items in let s = c.args.at in let i = s.index in
    let f = found vs ns s c.self.invariant.0 (c.is_live.ensures.0 c.if-not-is_live.false) in
    rw (← c.self.view_is) (
      (λ j. inl (c.at_mut.result.ghost_name, λ w. (paired-put vs ns i (Some w) ∙ ap (λ n. slice_set (paired vs ns) i (place (Some w) n)) f.next) j)),
      record { writes_back = tt; value = sym c.at_mut.ensures.value ∙ f.filled ∙ sym f.is },
    )
