use Rattle.std.specs.Prelude.{IfOk}
use Rattle.std.proofs.Common.{rules, ◌≡◌, ◌++◌, ap, ◌∙◌, subst}
use Rattle.condition_match.proofs.Replacing.{star_taken, all_taken}
use Rattle.condition_match.proofs.strings.with_part.Goals as goal

pub loop-front-preserved : goal.loop-front-preserved
loop-front-preserved c =
    (search rules, star_taken c.args.part.now _ _ c.loop-front.rest.now _ _ _ c.loop-front.invariant.1 c.in-Some.ensures.0 c.in-Some.ensures.1 (c.in_ok-push_str-2.ensures.bytes ∙ ap (λ xs. xs ++ c.args.part.now) c.in_ok-push_str.ensures.bytes))

pub returns : goal.returns
returns c =
    let whole = c.in_ok-push_str-3.ensures.bytes ∙ all_taken c.args.part.now _ _ c.loop-front.rest.now c.loop-front.invariant.1 c.in_default.ensures in
    subst (λ bytes. IfOk c.from_string.result (λ kept. kept ≡ bytes)) whole c.from_string.ensures
