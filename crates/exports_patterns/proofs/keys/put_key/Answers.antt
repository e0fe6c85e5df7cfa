use Rattle.std.proofs.Common.{◌≡◌, ◌++◌, ◌∷◌, [], rules, ap, ◌∙◌}
use Rattle.exports_patterns.proofs.GatherLemmas.{key_gathered, none_gathered, pattern_gathered, then_done}
use Rattle.exports_patterns.proofs.keys.put_key.Goals as goal

pub returns-in_ok-push-in-None : goal.returns-in_ok-push-in-None
returns-in_ok-push-in-None c = λ done at held.
    let same : c.in_ok-of-in-None.field-0 ≡ c.args.name.now = search rules in
    let pushed : c.push.new.self ≡ c.args.gathered.now.exact ++ (c.in_ok-of-in-None.field-0, c.args.index) ∷ [] = search rules in
    key_gathered done c.args.name.now c.args.gathered.now.exact c.args.gathered.now.groups c.args.index at held c.push.new.self
    (pushed ∙ ap (λ b. c.args.gathered.now.exact ++ (b, c.args.index) ∷ []) same) c.in-None.ensures

pub returns-in-None-at_star : goal.returns-in-None-at_star
returns-in-None-at_star c = λ done at held.
    then_done c.put_pattern.result c.put_pattern.ensures
    (λ puts. pattern_gathered done c.args.name.now c.args.gathered.now.exact c.args.gathered.now.groups c.args.index at held
    c.in-Some.base.now c.in-Some.trailer.now c.put_pattern.new.groups c.in-Some.ensures.0 c.in-Some.ensures.1 c.in-None-at_star.ensures
    (search rules) (search rules) puts)

pub returns-in-Some-at_star : goal.returns-in-Some-at_star
returns-in-Some-at_star c = λ done at held.
    none_gathered done c.args.name.now c.args.gathered.now.exact c.args.gathered.now.groups c.args.index at held
    c.in-Some.base.now c.in-Some.trailer.now c.in-Some-at_star.field-0.0.now c.in-Some-at_star.field-0.1.now c.in-Some.ensures.0 c.in-Some.ensures.1
    c.in-Some-at_star.ensures.0
