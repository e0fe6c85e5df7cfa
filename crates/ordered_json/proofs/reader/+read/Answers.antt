use Rattle.std.proofs.Common.{◌-◌, ℕ, List, map, length, ap, sym, ◌∙◌, arith}
use Rattle.std.proofs.lemmas.Result.{err_from_is_err_and}
use Rattle.json_spec.specs.Taken.{taken}
use Rattle.json_spec.specs.Value.{a_list, an_object, settled}
use Rattle.json_spec.proofs.Shorter.{space_at_most}
use Rattle.ordered_json.specs.declared.value.Value.{Value}
use Rattle.ordered_json.specs.Shown.{json_of, items_of, members_of}
use Rattle.ordered_json.proofs.PairsLemmas.{settled_pushed}
use Rattle.ordered_json.proofs.ShownLemmas.{json_of_text, json_of_list, json_of_object, shown_push}
use Rattle.ordered_json.proofs.GrammarLemmas.{no_value, text_value, bad_text, scalar_result, scalar_result_shorter, deep_list, deep_object, below_depth, list_value, list_fails, object_value, object_fails, no_items_read, awaits_first_item, awaits_next_item, last_item, no_more_items, no_members_read, awaits_first_member, names_fail, values_fail, awaits_next_member, last_member, no_more_members, shorter_by_close, shorter_by_turn, shorter_by_space}
use Rattle.ordered_json.proofs.reader.+read.Goals as goal

pub read_items-returns-in-Some-clause-reads : goal.read_items-returns-in-Some-clause-reads
read_items-returns-in-Some-clause-reads t c =
    no_items_read _ _ _ _ (ap (map json_of) c.new.ensures.items) (sym c.skip_space-rest.ensures ∙ c.in-Some.ensures)

pub read_items-returns-in-Some-clause-shorter : goal.read_items-returns-in-Some-clause-shorter
read_items-returns-in-Some-clause-shorter t c =
    shorter_by_close c.args.bytes.now _ _ 93 c.skip_space-rest.ensures c.in-Some.ensures

pub read_items-loop-values-init : goal.read_items-loop-values-init
read_items-loop-values-init t c =
    record { awaits = awaits_first_item c.args.depth c.args.bytes.now _ _ (ap (map json_of) c.in_ok-values.ensures.items) c.skip_space-rest.ensures c.in_default.ensures; shorter = omega (arith, space_at_most c.args.bytes.now, ap length c.skip_space-rest.ensures) }

pub read_items-returns-in-Some-after_byte-clause-reads : goal.read_items-returns-in-Some-after_byte-clause-reads
read_items-returns-in-Some-after_byte-clause-reads t c =
    last_item c.loop-values.invariant.awaits _ _ _ c.in_ok-value.ensures.reads c.skip_space-after.ensures _ _ (shown_push _ _ _ c.in_ok-push.ensures.items) c.in-Some-after_byte.ensures

pub read_items-returns-in-Some-after_byte-clause-shorter : goal.read_items-returns-in-Some-after_byte-clause-shorter
read_items-returns-in-Some-after_byte-clause-shorter t c =
    omega (arith, c.loop-values.invariant.shorter, shorter_by_turn c.loop-values.rest.now c.in_ok-value.after.now _ _ 93 c.in_ok-value.ensures.shorter c.skip_space-after.ensures c.in-Some-after_byte.ensures)

pub read_items-returns-in_default-after_byte-2-clause-reads : goal.read_items-returns-in_default-after_byte-2-clause-reads
read_items-returns-in_default-after_byte-2-clause-reads t c =
    no_more_items c.loop-values.invariant.awaits _ _ _ c.in_ok-value.ensures.reads c.skip_space-after.ensures c.in_default-after_byte.ensures c.in_default-after_byte-2.ensures

pub read_items-loop-values-smaller : goal.read_items-loop-values-smaller
read_items-loop-values-smaller t c =
    shorter_by_space c.loop-values.rest.now c.in-Some-after_byte-2.more.now _ (shorter_by_turn c.loop-values.rest.now c.in_ok-value.after.now _ _ 44 c.in_ok-value.ensures.shorter c.skip_space-after.ensures c.in-Some-after_byte-2.ensures) c.skip_space-rest-in-loop-values.ensures

pub read_items-loop-values-preserved : goal.read_items-loop-values-preserved
read_items-loop-values-preserved t c =
    record { awaits = awaits_next_item c.loop-values.invariant.awaits _ _ _ c.in_ok-value.ensures.reads c.skip_space-after.ensures _ _ _ (shown_push _ _ _ c.in_ok-push.ensures.items) c.in-Some-after_byte-2.ensures c.skip_space-rest-in-loop-values.ensures; shorter = omega (arith, c.loop-values.invariant.shorter, shorter_by_space c.loop-values.rest.now c.in-Some-after_byte-2.more.now _ (shorter_by_turn c.loop-values.rest.now c.in_ok-value.after.now _ _ 44 c.in_ok-value.ensures.shorter c.skip_space-after.ensures c.in-Some-after_byte-2.ensures) c.skip_space-rest-in-loop-values.ensures) }

pub read_members-returns-in-Some-clause-reads : goal.read_members-returns-in-Some-clause-reads
read_members-returns-in-Some-clause-reads t c =
    no_members_read _ _ _ _ (ap members_of c.new.ensures.items) (sym c.skip_space-rest.ensures ∙ c.in-Some.ensures)

pub read_members-returns-in-Some-clause-shorter : goal.read_members-returns-in-Some-clause-shorter
read_members-returns-in-Some-clause-shorter t c =
    shorter_by_close c.args.bytes.now _ _ 125 c.skip_space-rest.ensures c.in-Some.ensures

pub read_members-loop-written-init : goal.read_members-loop-written-init
read_members-loop-written-init t c =
    record { awaits = awaits_first_member _ c.args.bytes.now _ _ (ap (λ (ps : List (List ℕ × Value)). settled (members_of ps)) c.in_ok-written.ensures.items) c.skip_space-rest.ensures c.in_default.ensures; shorter = omega (arith, space_at_most c.args.bytes.now, ap length c.skip_space-rest.ensures) }

pub read_members-returns-in_err-key-clause-reads : goal.read_members-returns-in_err-key-clause-reads
read_members-returns-in_err-key-clause-reads t c =
    let p = err_from_is_err_and c.from_residual-in_err-key.result c.from_residual-in_err-key.ensures.1 in
    rw (p.1, p.2) (names_fail c.loop-written.invariant.awaits _ c.in_err-key.ensures.reads)

pub read_members-returns-in_err-value-clause-reads : goal.read_members-returns-in_err-value-clause-reads
read_members-returns-in_err-value-clause-reads t c =
    let p = err_from_is_err_and c.from_residual-in_err-value.result c.from_residual-in_err-value.ensures.1 in
    rw (p.1, p.2) (values_fail c.loop-written.invariant.awaits _ _ _ c.in_ok-key.ensures.reads c.skip_space.ensures _ c.in_err-value.ensures.reads)

pub read_members-returns-in-Some-after_byte-clause-reads : goal.read_members-returns-in-Some-after_byte-clause-reads
read_members-returns-in-Some-after_byte-clause-reads t c =
    last_member c.loop-written.invariant.awaits _ _ _ c.in_ok-key.ensures.reads c.skip_space.ensures _ _ _ c.in_ok-value.ensures.reads c.skip_space-after.ensures _ _ (c.in_ok-settle.ensures ∙ settled_pushed _ _ _ _ c.in_ok-push.ensures.items) c.in-Some-after_byte.ensures

pub read_members-returns-in-Some-after_byte-clause-shorter : goal.read_members-returns-in-Some-after_byte-clause-shorter
read_members-returns-in-Some-after_byte-clause-shorter t c =
    omega (arith, c.loop-written.invariant.shorter, shorter_by_turn c.loop-written.rest.now c.in_ok-value.after.now _ _ 125 (omega (arith, c.in_ok-key.ensures.shorter, c.in_ok-value.ensures.shorter, space_at_most c.in_ok-key.after.now, ap length c.skip_space.ensures)) c.skip_space-after.ensures c.in-Some-after_byte.ensures)

pub read_members-returns-in_default-after_byte-2-clause-reads : goal.read_members-returns-in_default-after_byte-2-clause-reads
read_members-returns-in_default-after_byte-2-clause-reads t c =
    no_more_members c.loop-written.invariant.awaits _ _ _ c.in_ok-key.ensures.reads c.skip_space.ensures _ _ _ c.in_ok-value.ensures.reads c.skip_space-after.ensures c.in_default-after_byte.ensures c.in_default-after_byte-2.ensures

pub read_members-loop-written-smaller : goal.read_members-loop-written-smaller
read_members-loop-written-smaller t c =
    shorter_by_space c.loop-written.rest.now c.in-Some-after_byte-2.more.now _ (shorter_by_turn c.loop-written.rest.now c.in_ok-value.after.now _ _ 44 (omega (arith, c.in_ok-key.ensures.shorter, c.in_ok-value.ensures.shorter, space_at_most c.in_ok-key.after.now, ap length c.skip_space.ensures)) c.skip_space-after.ensures c.in-Some-after_byte-2.ensures) c.skip_space-rest-in-loop-written.ensures

pub read_members-loop-written-preserved : goal.read_members-loop-written-preserved
read_members-loop-written-preserved t c =
    record { awaits = awaits_next_member c.loop-written.invariant.awaits _ _ _ c.in_ok-key.ensures.reads c.skip_space.ensures _ _ _ c.in_ok-value.ensures.reads c.skip_space-after.ensures _ _ _ (settled_pushed _ _ _ _ c.in_ok-push.ensures.items) c.in-Some-after_byte-2.ensures c.skip_space-rest-in-loop-written.ensures; shorter = omega (arith, c.loop-written.invariant.shorter, shorter_by_space c.loop-written.rest.now c.in-Some-after_byte-2.more.now _ (shorter_by_turn c.loop-written.rest.now c.in_ok-value.after.now _ _ 44 (omega (arith, c.in_ok-key.ensures.shorter, c.in_ok-value.ensures.shorter, space_at_most c.in_ok-key.after.now, ap length c.skip_space.ensures)) c.skip_space-after.ensures c.in-Some-after_byte-2.ensures) c.skip_space-rest-in-loop-written.ensures) }

pub read_value-returns-in_default-clause-reads : goal.read_value-returns-in_default-clause-reads
read_value-returns-in_default-clause-reads t c = no_value _ _ c.in_default.ensures

pub read_value-returns-in-Some-2-clause-reads : goal.read_value-returns-in-Some-2-clause-reads
read_value-returns-in-Some-2-clause-reads t c =
    let found = rw c.in-Some-2.is at c.in_ok-text.ensures in
    text_value _ _ _ _ _ _ _ c.in-Some.ensures c.if-first-eq34.true found.0 (json_of_text c.in-Some-2.text)

pub read_value-returns-in-None-clause-reads : goal.read_value-returns-in-None-clause-reads
read_value-returns-in-None-clause-reads t c =
    bad_text _ _ _ _ c.in-Some.ensures c.if-first-eq34.true (rw c.in-None.is at c.in_ok-text.ensures)

pub read_value-returns-then-depth-eq0-clause-reads : goal.read_value-returns-then-depth-eq0-clause-reads
read_value-returns-then-depth-eq0-clause-reads t c =
    deep_list _ _ _ _ c.if-depth-eq0.true c.in-Some.ensures c.if-first-eq91.true

pub read_value-returns-in_err-values-clause-reads : goal.read_value-returns-in_err-values-clause-reads
read_value-returns-in_err-values-clause-reads t c =
    let p = err_from_is_err_and c.from_residual-in_err-values.result c.from_residual-in_err-values.ensures.1 in
    rw (p.1, p.2) (list_fails (c.args.depth - 1) _ _ _ _ (below_depth c.args.depth c.if-depth-eq0.false) c.in-Some.ensures c.if-first-eq91.true _ c.in_err-values.ensures.reads)

pub read_value-returns-then-first-eq91-clause-reads : goal.read_value-returns-then-first-eq91-clause-reads
read_value-returns-then-first-eq91-clause-reads t c =
    list_value (c.args.depth - 1) _ _ _ _ _ _ _ (below_depth c.args.depth c.if-depth-eq0.false) c.in-Some.ensures c.if-first-eq91.true c.in_ok-values.ensures.reads (json_of_list c.from_vec.result ∙ ap (λ (vs : List Value). a_list (items_of vs)) c.from_vec.ensures)

pub read_value-returns-then-depth-eq0-2-clause-reads : goal.read_value-returns-then-depth-eq0-2-clause-reads
read_value-returns-then-depth-eq0-2-clause-reads t c =
    deep_object _ _ _ _ c.if-depth-eq0-2.true c.in-Some.ensures c.if-first-eq123.true

pub read_value-returns-in_err-pairs-clause-reads : goal.read_value-returns-in_err-pairs-clause-reads
read_value-returns-in_err-pairs-clause-reads t c =
    let p = err_from_is_err_and c.from_residual-in_err-pairs.result c.from_residual-in_err-pairs.ensures.1 in
    rw (p.1, p.2) (object_fails (c.args.depth - 1) _ _ _ _ (below_depth c.args.depth c.if-depth-eq0-2.false) c.in-Some.ensures c.if-first-eq123.true _ c.in_err-pairs.ensures.reads)

pub read_value-returns-then-first-eq123-clause-reads : goal.read_value-returns-then-first-eq123-clause-reads
read_value-returns-then-first-eq123-clause-reads t c =
    object_value (c.args.depth - 1) _ _ _ _ _ _ _ (below_depth c.args.depth c.if-depth-eq0-2.false) c.in-Some.ensures c.if-first-eq123.true c.in_ok-pairs.ensures.reads (json_of_object c.from_vec-then-first-eq123.result ∙ ap (λ (ps : List (List ℕ × Value)). an_object (members_of ps)) c.from_vec-then-first-eq123.ensures)

pub read_value-returns-clause-reads : goal.read_value-returns-clause-reads
read_value-returns-clause-reads t c =
    scalar_result c.args.depth _ _ _ c.read_scalar.result (λ x. taken (json_of x.0) x.1.now) c.in-Some.ensures c.if-first-eq34.false c.if-first-eq91.false c.if-first-eq123.false c.read_scalar.ensures

pub read_value-returns-clause-shorter : goal.read_value-returns-clause-shorter
read_value-returns-clause-shorter t c =
    scalar_result_shorter _ c.read_scalar.result (λ x. json_of x.0) (λ x. x.1.now) c.read_scalar.ensures
