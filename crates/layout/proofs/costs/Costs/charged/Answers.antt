use Rattle.std.proofs.Common.{rules, sym, ap, ◌∙◌, subst, refl, length, Some, None}
use Rattle.layout.specs.Costs.{added}
use Rattle.layout.specs.Fits.{AtMost}
use Rattle.layout.proofs.Fits.{stands_kept, stands_is, charged_kept}
use Rattle.layout.proofs.costs.Costs.charged.Goals as goal

pub invariant_of-result : goal.invariant_of-result
invariant_of-result c =
    stands_kept c.self.inside.width c.self.inside.total c.in-Some-alone_of.own c.in-Some.sum c.self.inside.alone (Some c.in-Some-alone_of.own) c.self.inside.fits.items
    (sym (ap length c.as_slice.ensures.value) ∙ c.stays_alone.ensures.none (search rules)) refl (search rules)

pub returns-then-stays_alone : goal.returns-then-stays_alone
returns-then-stays_alone c =
    stands_is c.self.inside.width c.self.inside.total c.in-Some-alone_of.own c.in-Some.sum c.self.inside.alone (Some c.in-Some-alone_of.own) c.self.inside.fits.items
    (sym (ap length c.as_slice.ensures.value) ∙ c.stays_alone.ensures.none (search rules)) refl (search rules) c.args.row.now (c.stays_alone.ensures.same (search rules)) c.in-Some-alone_of.ensures
    ∙ ap (λ costs. added costs c.args.row.now) c.self.view_is

pub invariant_of-result-2 : goal.invariant_of-result-2
invariant_of-result-2 c =
    charged_kept c.self.inside.total c.in_ok-all.all.items c.args.row.now c.in_ok-more.more.items None c.len.result c.in-Some.sum
    (subst (AtMost c.self.inside.total) (sym c.in_ok-all.ensures) c.self.invariant.at_most) c.in_ok-more.ensures (search rules) (search rules) refl
