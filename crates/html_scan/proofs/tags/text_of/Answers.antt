use Rattle.std.proofs.Common.{◌≡◌, ◌≤◌, ◌+◌, ◌-◌, length, take, drop, sym, ◌∙◌, ap, subst}
use Rattle.page_spec.proofs.Reading.{stands_within}
use Rattle.page_spec.specs.Places.{text_at}
use Rattle.html_scan.proofs.Spans.{text_length}
use Rattle.html_scan.proofs.tags.text_of.Goals as goal

pub part-requires : goal.part-requires
part-requires c =
    let w = stands_within c.args.text.now c.args.piece c.requires in
    record { order = w.order; most = subst (λ bytes. c.args.piece.to ≤ length bytes) (sym c.as_bytes.ensures.value) w.most }

pub returns-clause-length : goal.returns-clause-length
returns-clause-length c =
    let bytes : c.part.result.now ≡ text_at c.args.text.now c.args.piece = c.part.ensures ∙ ap (λ b. take (c.args.piece.to - c.args.piece.from) (drop c.args.piece.from b)) c.as_bytes.ensures.value in
    ap (λ b. c.args.piece.from + length b) bytes ∙ text_length c.args.text.now c.args.piece c.requires
