use Rattle.std.proofs.Common.{◌≡◌, ◌++◌, ◌∷◌, [], rules, ap, ◌∙◌}
use Rattle.exports_patterns.proofs.GatherLemmas.{next_grouped}
use Rattle.exports_patterns.proofs.keys.in_order.Goals as goal

pub loop-base-preserved-in_ok-push : goal.loop-base-preserved-in_ok-push
loop-base-preserved-in_ok-push c =
    let same : c.in_ok-base.base ≡ c.in-Some.base = search rules in
    let pushed : c.push.new.self ≡ c.loop-base.made ++ (c.in_ok-base.base, c.in_ok-of.field-0) ∷ [] = search rules in
    record {
      can_next = tt;
      is_finite = tt;
      grouped = next_grouped c.args.groups.entries c.loop-base.base-iterator c.next.new.self c.loop-base.made c.push.new.self c.in-Some.base c.in-Some.group c.in_ok-of.field-0
          (search rules) (pushed ∙ ap (λ b. c.loop-base.made ++ (b, c.in_ok-of.field-0) ∷ []) same) c.in_ok-of.ensures c.loop-base.invariant.grouped;
    }

pub loop-base-preserved : goal.loop-base-preserved
loop-base-preserved c =
    let same : c.in_ok-base.base ≡ c.in-Some.base = search rules in
    let pushed : c.push.new.self ≡ c.loop-base.made ++ (c.in_ok-base.base, c.in_ok-of.field-0) ∷ [] = search rules in
    record {
      can_next = tt;
      is_finite = tt;
      grouped = next_grouped c.args.groups.entries c.loop-base.base-iterator c.next.new.self c.loop-base.made c.push.new.self c.in-Some.base c.in-Some.group c.in_ok-of.field-0
          (search rules) (pushed ∙ ap (λ b. c.loop-base.made ++ (b, c.in_ok-of.field-0) ∷ []) same) c.in_ok-of.ensures c.loop-base.invariant.grouped;
    }
