use Rattle.std.proofs.Common.{◌<◌, ◌++◌, length, encode_utf8, arith}
use Rattle.ordered_json.proofs.StringsLemmas.{Completes, begins_plain, plain_at_most, turned, fails, ends_open, closes_turn, has_control, has_no_escape, escapes_turn}
use Rattle.ordered_json.proofs.strings.read_characters.Goals as goal

pub piece_before-front-requires : goal.piece_before-front-requires
piece_before-front-requires c = rw c.requires (plain_at_most c.args.bytes.now)

pub piece_before-requires : goal.piece_before-requires
piece_before-requires c = rw c.skip_plain-after.ensures (plain_at_most c.loop-text.rest.now)

pub returns-in_default : goal.returns-in_default
returns-in_default c =
    let t = turned _ _ _ _ _ _ c.loop-text.invariant.found c.loop-text.invariant.shorter c.skip_plain-after.ensures c.piece_before.ensures c.in_ok-extend_from_slice.ensures.items in
    fails _ _ _ t.whole (ends_open _ c.in_default.ensures)

pub returns-then-first-eq-QUOTE : goal.returns-then-first-eq-QUOTE
returns-then-first-eq-QUOTE c =
    let t = turned _ _ _ _ _ _ c.loop-text.invariant.found c.loop-text.invariant.shorter c.skip_plain-after.ensures c.piece_before.ensures c.in_ok-extend_from_slice.ensures.items in
    closes_turn _ _ t c.in-Some.ensures c.if-first-eq-QUOTE.true

pub returns-then-first-ne-BACKSLASH : goal.returns-then-first-ne-BACKSLASH
returns-then-first-ne-BACKSLASH c =
    let t = turned _ _ _ _ _ _ c.loop-text.invariant.found c.loop-text.invariant.shorter c.skip_plain-after.ensures c.piece_before.ensures c.in_ok-extend_from_slice.ensures.items in
    fails _ _ _ t.whole (has_control _ c.loop-text.rest.now _ _ t.skipped c.in-Some.ensures c.if-first-eq-QUOTE.false c.if-first-ne-BACKSLASH.true)

pub returns-in_default-read_escape : goal.returns-in_default-read_escape
returns-in_default-read_escape c =
    let t = turned _ _ _ _ _ _ c.loop-text.invariant.found c.loop-text.invariant.shorter c.skip_plain-after.ensures c.piece_before.ensures c.in_ok-extend_from_slice.ensures.items in
    fails _ _ _ t.whole (has_no_escape _ _ _ c.in-Some.ensures c.if-first-ne-BACKSLASH.false c.in_default-read_escape.ensures)

pub loop-text-smaller : goal.loop-text-smaller
loop-text-smaller c =
    let t = turned _ _ _ _ _ _ c.loop-text.invariant.found c.loop-text.invariant.shorter c.skip_plain-after.ensures c.piece_before.ensures c.in_ok-extend_from_slice.ensures.items in
    (escapes_turn _ _ _ _ t c.in-Some.ensures c.if-first-ne-BACKSLASH.false c.in-Some-read_escape.ensures).1

pub loop-text-init : goal.loop-text-init
loop-text-init c = record {
  found = begins_plain _ _ _ _ c.requires c.piece_before-front.ensures c.in_ok-text.ensures.items;
  shorter = rw c.requires (plain_at_most c.args.bytes.now);
}

pub loop-text-preserved : goal.loop-text-preserved
loop-text-preserved c =
    let t = turned _ _ _ _ _ _ c.loop-text.invariant.found c.loop-text.invariant.shorter c.skip_plain-after.ensures c.piece_before.ensures c.in_ok-extend_from_slice.ensures.items in
    let next : Completes c.args.bytes.now (c.extend_from_slice.new.self.items ++ encode_utf8 c.in-Some-read_escape.character) c.in-Some-read_escape.more.now × (length c.in-Some-read_escape.more.now < length c.loop-text.rest.now) = escapes_turn _ _ _ _ t c.in-Some.ensures c.if-first-ne-BACKSLASH.false c.in-Some-read_escape.ensures in
    record { found = rw c.in_ok-push_character.ensures next.0; shorter = omega (arith, next.1, c.loop-text.invariant.shorter) }
