use Rattle.std.proofs.Common.{◌≡◌, ◌≤◌, List, length, None, ap, ◌∙◌, refl, arith}
use Rattle.tree_spec.specs.declared.LimitName.TheVariants.{Modules}
use Rattle.tree_spec.specs.Limits.{limit_number}
use Rattle.slot_arena.specs.Counts.{live}
use Rattle.slot_arena.specs.declared.slot.Slot.{Slot}
use Rattle.graph_repair.specs.declared.parts.Plan.{Plan}
use Rattle.graph_repair.specs.Finding.{IsFound}
use Rattle.graph_repair.specs.Matching.{somes, missing}
use Rattle.graph_repair.specs.Plans.{IsBegun, IsPlanned, shown}
use Rattle.graph_repair.proofs.Filling.{missing_few}
use Rattle.graph_repair.proofs.PlannedParts.{going_on, planned_anew, grown_few, shows_grown, shows_itself, shows_same, if_ok}
use Rattle.graph_repair.proofs.planning.plan_of.Goals as goal
use Rattle.graph_repair.proofs.planning.plan_of.Goals.{After-missing_in-added}

pub missing_in-added-requires : goal.missing_in-added-requires
missing_in-added-requires c =
    let same = ap length c.deref.ensures.value in
    let each = c.requires.each in
    let few : length c.args.trace.now.slots ≤ 20000 = c.requires.few in omega (arith, same, each, few)

pub overflow_add-made : goal.overflow_add-made
overflow_add-made c =
    let same = ap length c.deref.ensures.value in
    let each = c.requires.each in
    let few : length c.args.trace.now.slots ≤ 20000 = c.requires.few in
    let count = c.missing_in-added.ensures in
    let most = missing_few c.deref.result.now in
    let made = c.made.type_inv in omega (arith, same, each, few, count, most, made)

pub reserve-requires : goal.reserve-requires
reserve-requires c = let few = c.if-made-added-ge-MOST_MADE.false in let made = c.made.ensures in omega (arith, few, made)

pub parts_of-requires : goal.parts_of-requires
parts_of-requires c = c.requires.each

pub returns-then-made-added-ge-MOST_MADE-clause-same : goal.returns-then-made-added-ge-MOST_MADE-clause-same
returns-then-made-added-ge-MOST_MADE-clause-same c = λ slots. shows_itself (shown c.args.graph.now slots)

pub returns-then-made-added-ge-MOST_MADE-clause-planned : goal.returns-then-made-added-ge-MOST_MADE-clause-planned
returns-then-made-added-ge-MOST_MADE-clause-planned c =
    let many = c.if-made-added-ge-MOST_MADE.true in
    let made = c.made.ensures in
    let count = c.missing_in-added.ensures ∙ ap missing c.deref.ensures.value in
    if_ok c.begun.result (IsBegun c.args.trace.now)
    (λ (plan : Plan). (slots : List Slot) → IsFound c.args.graph.now slots c.args.trace.now.graph c.args.trace.now.slots c.args.found.left.items c.args.found.keeps.items → live c.args.graph.now ≡ length slots → IsPlanned (length c.args.graph.now) (shown c.args.graph.now slots) c.args.trace.now plan)
    c.begun.ensures
    (λ plan begun slots found alone.
    planned_anew (length c.args.graph.now) c.args.graph.now slots c.args.trace.now c.args.found.left.items c.args.found.keeps.items plan found (λ below. omega (arith, many, made, count, below)) begun)

pub returns-in_err-reserve-clause-same : goal.returns-in_err-reserve-clause-same
returns-in_err-reserve-clause-same c = λ slots. shows_same c.args.graph.now c.reserve.new.self slots c.in_err-reserve.ensures.err

pub returns-in_err-gone-clause-same : goal.returns-in_err-gone-clause-same
returns-in_err-gone-clause-same c = λ slots. shows_grown c.args.graph.now c.reserve.new.self _ slots c.in_ok-reserve.ensures.ok

pub returns-in_err-parts_of-clause-same : goal.returns-in_err-parts_of-clause-same
returns-in_err-parts_of-clause-same c = λ slots. shows_grown c.args.graph.now c.reserve.new.self _ slots c.in_ok-reserve.ensures.ok

pub returns-clause-same : goal.returns-clause-same
returns-clause-same c = λ slots. shows_grown c.args.graph.now c.reserve.new.self _ slots c.in_ok-reserve.ensures.ok

pub returns-clause-planned : goal.returns-clause-planned
returns-clause-planned c = λ slots found alone.
    going_on c.args.graph.now c.reserve.new.self slots c.args.trace.now c.args.found.left.items c.in_ok-gone.gone.items c.args.found.keeps.items c.missing_in-added.result
    (record { begun = None; parts = c.in_ok-parts_of.field-0 }) c.in_ok-reserve.ensures.ok (c.missing_in-added.ensures ∙ ap missing c.deref.ensures.value)
    (let few = c.if-made-added-ge-MOST_MADE.false in let made = c.made.ensures in omega (arith, few, made)) refl c.in_ok-parts_of.ensures.keeps c.in_ok-parts_of.ensures.gone
    (c.in_ok-gone.ensures ∙ ap somes c.deref-2.ensures.value) c.requires.modules c.in_ok-parts_of.ensures.modules c.in_ok-parts_of.ensures.added c.in_ok-parts_of.ensures.leads c.in_ok-parts_of.ensures.room found alone

few_missing : (c : After-missing_in-added) → c.missing_in-added.result ≤ limit_number Modules
few_missing c =
    let same = ap length c.deref.ensures.value in
    let each = c.requires.each in
    let few = c.requires.few in
    let count = c.missing_in-added.ensures in
    let most = missing_few c.deref.result.now in
    omega (arith, same, each, few, count, most)

pub returns-then-made-added-ge-MOST_MADE-clause-few : goal.returns-then-made-added-ge-MOST_MADE-clause-few
returns-then-made-added-ge-MOST_MADE-clause-few c = omega arith

pub returns-in_err-reserve-clause-few : goal.returns-in_err-reserve-clause-few
returns-in_err-reserve-clause-few c = let same = ap length c.in_err-reserve.ensures.err in omega (arith, same)

pub returns-in_err-gone-clause-few : goal.returns-in_err-gone-clause-few
returns-in_err-gone-clause-few c =
    grown_few c.args.graph.now c.reserve.new.self _ (few_missing (goal.at.returns-in_err-gone-clause-few c).After-missing_in-added) c.in_ok-reserve.ensures.ok

pub returns-in_err-parts_of-clause-few : goal.returns-in_err-parts_of-clause-few
returns-in_err-parts_of-clause-few c =
    grown_few c.args.graph.now c.reserve.new.self _ (few_missing (goal.at.returns-in_err-parts_of-clause-few c).After-missing_in-added) c.in_ok-reserve.ensures.ok

pub returns-clause-few : goal.returns-clause-few
returns-clause-few c =
    grown_few c.args.graph.now c.reserve.new.self _ (few_missing (goal.at.returns-clause-few c).After-missing_in-added) c.in_ok-reserve.ensures.ok
