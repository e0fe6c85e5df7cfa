use Rattle.std.proofs.Common.{◌≡◌, ◌++◌, ◌∷◌, [], rules, ap, subst, ◌∙◌}
use Rattle.std.specs.Prelude.{reverse}
use Rattle.exports_patterns.specs.Gathering.{PutsPattern}
use Rattle.exports_patterns.proofs.GatherLemmas.{puts_there, puts_new}
use Rattle.exports_patterns.proofs.keys.put_pattern.Goals as goal

pub returns-in_ok-push-in-Some : goal.returns-in_ok-push-in-Some
returns-in_ok-push-in-Some c =
    let pushed : c.push.new.self ≡ c.in-Some.group.now ++ (c.in_ok-back.back, c.args.index) ∷ [] = search rules in
    subst (λ b. PutsPattern b (reverse c.args.trailer.now, c.args.index) c.args.groups.now (c.get_mut.follows.lender c.push.new.self)) c.in_ok-base.ensures
    (puts_there c.args.groups.now (c.get_mut.follows.lender c.push.new.self) c.in_ok-base.base (reverse c.args.trailer.now, c.args.index) c.in-Some.group.now c.push.new.self
    (search rules) (pushed ∙ ap (λ b. c.in-Some.group.now ++ (b, c.args.index) ∷ []) c.in_ok-back.ensures) ((c.get_mut.follows.holds c.push.new.self).3 (search rules)))

pub returns-in_ok-insert-in-None : goal.returns-in_ok-insert-in-None
returns-in_ok-insert-in-None c =
    let pushed : c.push-in-None.new.self ≡ (c.in_ok-back.back, c.args.index) ∷ [] = search rules in
    subst (λ b. PutsPattern b (reverse c.args.trailer.now, c.args.index) c.args.groups.now c.insert.new.self) c.in_ok-base.ensures
    (puts_new c.args.groups.now c.insert.new.self c.in_ok-base.base (reverse c.args.trailer.now, c.args.index) c.push-in-None.new.self
    (search rules) (pushed ∙ ap (λ b. (b, c.args.index) ∷ []) c.in_ok-back.ensures) (search rules))
