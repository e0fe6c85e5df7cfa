use Rattle.std.proofs.Common.{sym, ◌∙◌}
use Rattle.web_url.proofs.EscapeLemmas.{escape_here, escape_later, escape_end}
use Rattle.web_url.proofs.escapes.holds_escape.Goals as goal

pub returns-then-begins_with_escape : goal.returns-then-begins_with_escape
returns-then-begins_with_escape c =
    sym (c.loop-more.invariant ∙ escape_here c.args.escape.now c.loop-more.rest.now _ _ c.in-Some.ensures.cases.0 (sym c.begins_with_escape.ensures ∙ c.if-begins_with_escape.true))

pub loop-more-preserved : goal.loop-more-preserved
loop-more-preserved c =
    c.loop-more.invariant ∙ escape_later c.args.escape.now c.loop-more.rest.now _ _ c.in-Some.ensures.cases.0 (sym c.begins_with_escape.ensures ∙ c.if-begins_with_escape.false)

pub returns : goal.returns
returns c =
    sym (c.loop-more.invariant ∙ escape_end c.args.escape.now c.loop-more.rest.now c.in_default.ensures.cases)
