use Rattle.std.proofs.Common.{◌≡◌, ℕ, ◌+◌, ◌*◌, ◌++◌, ◌^◌, ◌<◌, ◌≤◌, List, Option, None, replicate, length, ap, ◌∙◌, arith, vec_capacity, length-append}
use Rattle.std.proofs.lemmas.List.{length-replicate}
use Rattle.slot_arena.specs.Slots.{with_places}
use Rattle.slot_arena.specs.Counts.{spare, wanted}
use Rattle.slot_arena.specs.Kept.{down_to, paired}
use Rattle.slot_arena.proofs.Paired.{length-paired, paired-grown}
use Rattle.slot_arena.proofs.PlaceLemmas.{spare_live-le}
use Rattle.slot_arena.proofs.Fields.{fields-grown}
use Rattle.slot_arena.proofs.Reserving.{wanted_few, wanted_fits}
use Rattle.slot_arena.proofs.arena.SlotArena.reserve.Goals as goal

long_too : {X : Type 0} (vs : List (Option X)) (ns : List ℕ) (m : ℕ) → length ns ≡ length vs → length (ns ++ replicate m 0) ≡ length (vs ++ replicate m None)
long_too {X = X} vs ns m long =
    let none : Option X = None in let first : ℕ = 0 in
    omega (arith, long, length-append ns (replicate m first), length-append vs (replicate m none), length-replicate m first, length-replicate m none)

pub overflow_mul-more : goal.overflow_mul-more
overflow_mul-more g c = omega (arith, c.chunks_wanted-chunks.ensures, wanted_few c.len-spare.result c.args.n, c.requires)

pub make_room-requires-clause-small : goal.make_room-requires-clause-small
make_room-requires-clause-small g c =
    let vs = c.self.inside.places in let ns = c.self.inside.next.items in let long = c.self.invariant.0 in
    let fits = wanted_fits c.len-spare.result c.args.n (length ns) (c.chunks_wanted-chunks.result * 64) c.chunks_wanted-chunks.ensures
    (omega (arith, c.requires, ap length c.self.view_is, length-paired vs ns long, long)) in
    omega (arith, fits, c.self.inside.next.ok.0)

pub make_room-requires-clause-fewer : goal.make_room-requires-clause-fewer
make_room-requires-clause-fewer g c =
    let vs = c.self.inside.places in let ns = c.self.inside.next.items in let long = c.self.invariant.0 in let k = c.self.invariant.1 in
    omega (arith, k.all_spare, spare_live-le (paired vs ns), length-paired vs ns long, long, c.self.inside.next.ok.0, c.self.inside.free.ok.0)

pub overflow_cast-made : goal.overflow_cast-made
overflow_cast-made g c =
    let vs = c.self.inside.places in let ns = c.self.inside.next.items in let long = c.self.invariant.0 in let k = c.self.invariant.1 in
    omega (arith, c.len-made.ensures, k.is_small, length-paired vs ns long, long, c.self.inside.next.ok.0)

pub overflow_cast-more : goal.overflow_cast-more
overflow_cast-more g c = omega (arith, c.chunks_wanted-chunks.ensures, wanted_few c.len-spare.result c.args.n, c.requires)

pub add_places-requires-clause-free_room : goal.add_places-requires-clause-free_room
add_places-requires-clause-free_room g c =
    let vs = c.self.inside.places in let ns = c.self.inside.next.items in let long = c.self.invariant.0 in let k = c.self.invariant.1 in
    let m = c.in_ok-make_room.ensures in
    omega (arith, m.room.free, ap length m.same.0, ap length m.same.1, k.all_spare, spare_live-le (paired vs ns), length-paired vs ns long, long, c.make_room.new.next.ok.0, c.make_room.new.free.ok.0, c.self.inside.next.ok.0, c.self.inside.free.ok.0)

pub add_places-requires-clause-small : goal.add_places-requires-clause-small
add_places-requires-clause-small g c =
    let vs = c.self.inside.places in let ns = c.self.inside.next.items in let long = c.self.invariant.0 in
    let fits = wanted_fits c.len-spare.result c.args.n (length ns) (c.chunks_wanted-chunks.result * 64) c.chunks_wanted-chunks.ensures
    (omega (arith, c.requires, ap length c.self.view_is, length-paired vs ns long, long)) in
    omega (arith, fits, c.len-made.ensures, c.self.inside.next.ok.0)

pub invariant_of-self-2 : goal.invariant_of-self-2
invariant_of-self-2 g c =
    let vs = c.self.inside.places in let ns = c.self.inside.next.items in let long = c.self.invariant.0 in let k = c.self.invariant.1 in
    let m = c.in_ok-make_room.ensures in let free = c.self.inside.free.items in let more = c.chunks_wanted-chunks.result * 64 in let first : ℕ = 0 in
    let made : c.len-made.result ≡ length ns = omega (arith, c.len-made.ensures, c.self.inside.next.ok.0) in
    let next : c.add_places.new.next.items ≡ ns ++ replicate more first = c.add_places.ensures.next ∙ ap (λ l. l ++ replicate more first) m.same.0 in
    let frees : c.add_places.new.free.items ≡ free ++ down_to (length ns) more = c.add_places.ensures.free ∙ (λ j. m.same.1 j ++ down_to (made j) more) in
    let fits : length ns + more ≤ vec_capacity c.make_room.new.free = omega (arith, m.room.free, ap length m.same.0, c.make_room.new.next.ok.0) in
    let small : length ns + more < 2 ^ 32 = wanted_fits c.len-spare.result c.args.n (length ns) more c.chunks_wanted-chunks.ensures
    (omega (arith, c.requires, ap length c.self.view_is, length-paired vs ns long, long)) in
    rw c.in_ok-grow.ensures.ok (rw next (rw frees (rw c.add_places.ensures.capacity (
      long_too vs ns more long,
      fields-grown vs ns long free more 0 (vec_capacity c.make_room.new.free) (omega arith) fits small k,
    ))))

pub returns-clause-ok : goal.returns-clause-ok
returns-clause-ok g c =
    let vs = c.self.inside.places in let ns = c.self.inside.next.items in let long = c.self.invariant.0 in let k = c.self.invariant.1 in
    let more = c.chunks_wanted-chunks.result * 64 in let first : ℕ = 0 in
    let next = c.add_places.ensures.next ∙ ap (λ l. l ++ replicate more first) c.in_ok-make_room.ensures.same.0 in
    let spare_is : c.len-spare.result ≡ spare (paired vs ns) = omega (arith, c.len-spare.ensures, k.all_spare, c.self.inside.free.ok.0) in
    let count : more ≡ wanted (spare (paired vs ns)) c.args.n = c.chunks_wanted-chunks.ensures ∙ ap (λ have. wanted have c.args.n) spare_is in
    rw (← c.self.view_is) ((λ j. paired (c.in_ok-grow.ensures.ok j) (next j)) ∙ paired-grown vs ns more 0 long ∙ ap (with_places (paired vs ns)) count)
