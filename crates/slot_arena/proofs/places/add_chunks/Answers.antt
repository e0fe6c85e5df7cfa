use Rattle.std.proofs.Common.{◌≡◌, ◌++◌, ◌∷◌, [], sym, ap, ◌∙◌, append-nil, arith}
use Rattle.slot_arena.specs.Rows.{with_chunks}
use Rattle.slot_arena.proofs.Joined.{chunks-next, chunks-same}
use Rattle.slot_arena.proofs.places.add_chunks.Goals as goal

pub loop-made-init : goal.loop-made-init
loop-made-init g c =
    let rows = c.args.chunks.now.items in
    record {
      items = c.reserve.ensures.items ∙ sym (append-nil rows);
      room = omega (arith, c.in_ok-reserve.ensures.ok);
    }

pub free_last-requires : goal.free_last-requires
free_last-requires g c = (c.args.chunks.now.items, c.loop-made.invariant.items)

pub returns-in_default-clause-err : goal.returns-in_default-clause-err
returns-in_default-clause-err g c =
    chunks-same c.free_last.new.chunks.items c.args.chunks.now.items c.loop-made.made (sym c.free_last.ensures ∙ c.loop-made.invariant.items)

pub loop-made-preserved : goal.loop-made-preserved
loop-made-preserved g c =
    let v = c.loop-made.invariant in
    record {
      items = c.push_reserved.ensures.items ∙ (λ j. v.items j ++ c.in-Ok.ensures j ∷ []) ∙ chunks-next c.args.chunks.now.items c.loop-made.made;
      room = omega (arith, c.push_reserved.ensures.len, c.push_reserved.ensures.capacity, v.room);
    }

pub returns-clause-ok : goal.returns-clause-ok
returns-clause-ok g c =
    let all : c.loop-made.made ≡ c.args.count = omega (arith, c.loop-made-test.false, c.loop-made.auto.made-end) in
    c.loop-made.invariant.items ∙ ap (with_chunks c.args.chunks.now.items) all
