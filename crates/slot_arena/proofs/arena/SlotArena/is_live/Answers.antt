use Rattle.std.proofs.Common.{◌≡◌, is_some, get_or, sym, ap, ◌∙◌, arith}
use Rattle.std.proofs.lemmas.List.{get_or_past}
use Rattle.slot_arena.proofs.PlaceLemmas.{get_or-any}
use Rattle.slot_arena.proofs.Paired.{value_at-last, value_at-other}
use Rattle.slot_arena.proofs.arena.SlotArena.is_live.Goals as goal

pub returns-then-place-len : goal.returns-then-place-len
returns-then-place-len g c =
    let vs = c.self.inside.places in let ns = c.self.inside.next.items in let i = c.args.at.index in
    let zero : get_or ns i 0 ≡ 0 = get_or_past ns i 0 (omega (arith, c.if-place-len.true, c.len.ensures, c.self.inside.next.ok.0)) in
    let none = value_at-other vs ns c.self.invariant.0 c.args.at (λ h. omega (arith, h, zero)) in
    rw (← c.self.view_is) (λ t. ap is_some none ∙ t, λ t. sym (ap is_some none) ∙ t)

pub returns-then-index-at : goal.returns-then-index-at
returns-then-index-at g c =
    let vs = c.self.inside.places in let ns = c.self.inside.next.items in let i = c.args.at.index in let n = c.index.result.now in
    let same : n ≡ get_or ns i 0 = c.index.ensures ∙ get_or-any ns i n 0 (omega (arith, c.if-place-len.false, c.len.ensures, c.self.inside.next.ok.0)) in
    let none = value_at-other vs ns c.self.invariant.0 c.args.at (λ h. c.if-index-at.true (same ∙ h)) in
    rw (← c.self.view_is) (λ t. ap is_some none ∙ t, λ t. sym (ap is_some none) ∙ t)

pub returns : goal.returns
returns g c =
    let vs = c.self.inside.places in let ns = c.self.inside.next.items in let i = c.args.at.index in let n = c.index.result.now in
    let same : n ≡ get_or ns i 0 = c.index.ensures ∙ get_or-any ns i n 0 (omega (arith, c.if-place-len.false, c.len.ensures, c.self.inside.next.ok.0)) in
    let held = c.holds.ensures ∙ ap is_some (sym (value_at-last vs ns c.self.invariant.0 c.args.at (sym same ∙ c.if-index-at.false))) in
    rw (← c.self.view_is) (λ t. sym held ∙ t, λ t. held ∙ t)
