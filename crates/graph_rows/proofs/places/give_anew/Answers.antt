use Rattle.std.proofs.Common.{◌≡◌, Some, None, ap, ◌∙◌, ℕ}
use Rattle.slot_arena.specs.Slots.{value_at}
use Rattle.slot_arena.proofs.SlotLaws.{each_inserts}
use Rattle.graph_rows.proofs.Rows.{Used, taken_out, room_anew, seen_old}
use Rattle.graph_rows.proofs.places.give_anew.Goals as goal

pub insert_reserved-anew-requires : goal.insert_reserved-anew-requires
insert_reserved-anew-requires c =
    let used : Used c.reserve.new.self c.remove-taken.new.self c.insert_reserved-slot.result c.args.first c.remove-taken.result = record {
      empty = c.new-arena.result;
      filled = c.insert_reserved-slot.new.self;
      is_empty = c.new-arena.ensures;
      is_made = c.in_ok-reserve.ensures.ok;
      fresh = c.insert_reserved-slot.ensures.fresh;
      is_filled = c.insert_reserved-slot.ensures.placed;
      is_taken = c.remove-taken.ensures.value;
      is_left = c.remove-taken.ensures.left;
    } in
    room_anew c.reserve.new.self c.remove-taken.new.self c.insert_reserved-slot.result c.args.first c.remove-taken.result used

pub returns : goal.returns
returns c =
    let used : Used c.reserve.new.self c.remove-taken.new.self c.insert_reserved-slot.result c.args.first c.remove-taken.result = record {
      empty = c.new-arena.result;
      filled = c.insert_reserved-slot.new.self;
      is_empty = c.new-arena.ensures;
      is_made = c.in_ok-reserve.ensures.ok;
      fresh = c.insert_reserved-slot.ensures.fresh;
      is_filled = c.insert_reserved-slot.ensures.placed;
      is_taken = c.remove-taken.ensures.value;
      is_left = c.remove-taken.ensures.left;
    } in
    let taken = taken_out c.reserve.new.self c.remove-taken.new.self c.insert_reserved-slot.result c.args.first c.remove-taken.result used in
    let s = c.insert_reserved-slot.result in
    let t = c.insert_reserved-anew.result in
    let fresh = c.insert_reserved-anew.ensures.fresh in
    let old = seen_old c.reserve.new.self c.remove-taken.new.self s c.args.first c.remove-taken.result used t c.args.second fresh in
    let new = (each_inserts ℕ c.remove-taken.new.self t c.args.second fresh).here in
    let placed = c.insert_reserved-anew.ensures.placed in
    let before : c.copied-before.result ≡ None = c.copied-before.ensures ∙ (c.get.ensures ∙ (ap (λ a. value_at a s) placed ∙ old)) in
    let after : c.copied-after.result ≡ Some c.args.second = c.copied-after.ensures ∙ (c.get-2.ensures ∙ (ap (λ a. value_at a t) placed ∙ new)) in
    λ i. (taken i, before i, after i)
