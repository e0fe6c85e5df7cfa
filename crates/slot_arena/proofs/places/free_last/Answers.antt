use Rattle.std.proofs.Common.{◌≡◌, List, Option, None, length, replicate, sym, ap, ◌∙◌, append-nil, length-append, arith}
use Rattle.std.proofs.lemmas.List.{length-replicate}
use Rattle.slot_arena.specs.Rows.{with_chunks}
use Rattle.slot_arena.proofs.Joined.{chunks-last}
use Rattle.slot_arena.proofs.places.free_last.Goals as goal

pub loop-left-init : goal.loop-left-init
loop-left-init g c = (c.requires.0, c.requires.1, c.requires.1)

pub take_last-requires : goal.take_last-requires
take_last-requires g c =
    let v = c.loop-left.invariant in let left = c.loop-left.left in
    let empty : List (Option g.row.T.Denot) = replicate 64 None in
    omega (arith, ap length v.2, length-append v.0 (replicate left empty), length-replicate left empty, c.loop-left.chunks.ok.0, c.loop-left-test.true)

pub free-requires : goal.free-requires
free-requires g c =
    let v = c.loop-left.invariant in
    (chunks-last c.take_last.new.self.items v.0 c.take_last.result c.loop-left.left c.loop-left-test.true (sym c.take_last.ensures.items ∙ v.2)).1

pub loop-left-preserved : goal.loop-left-preserved
loop-left-preserved g c =
    let v = c.loop-left.invariant in
    let last = chunks-last c.take_last.new.self.items v.0 c.take_last.result c.loop-left.left c.loop-left-test.true (sym c.take_last.ensures.items ∙ v.2) in
    (v.0, v.1, last.0)

pub returns : goal.returns
returns g c =
    let v = c.loop-left.invariant in
    let none : c.loop-left.left ≡ 0 = omega (arith, c.loop-left-test.false) in
    v.1 ∙ ap (λ rows. with_chunks rows c.args.count) (sym (v.2 ∙ ap (with_chunks v.0) none ∙ append-nil v.0))
