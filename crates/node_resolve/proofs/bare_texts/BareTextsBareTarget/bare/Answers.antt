use Rattle.std.proofs.Common.{refl, ap, ◌∙◌}
use Rattle.node_resolve.specs.BareTexts.{a_value, a_fault, found_shown, failing_of, split_shown}
use Rattle.node_resolve.proofs.BareLemmas.{answered_as}
use Rattle.node_resolve.proofs.bare_texts.BareTextsBareTarget.bare.Goals as goal

pub returns-in-Ok-clause-answers : goal.returns-in-Ok-clause-answers
returns-in-Ok-clause-answers g c = (
  record { lookup = refl; same = c.package_resolve-resolved.ensures.same; last = refl },
  refl,
  refl,
  a_value {found = found_shown c.in-Ok.found}
      (answered_as _ _ _ _ _ (c.found_of.ensures ∙ ap split_shown c.in-Ok.is) c.package_resolve-resolved.ensures.answered)
      c.judge_bare-answer.ensures refl refl,
)

pub returns-in-Err-clause-answers : goal.returns-in-Err-clause-answers
returns-in-Err-clause-answers g c = (
  record { lookup = refl; same = c.package_resolve-resolved.ensures.same; last = refl },
  refl,
  refl,
  a_fault {failing = failing_of c.in-Err.fault}
      (answered_as _ _ _ _ _ (c.found_of.ensures ∙ ap split_shown c.in-Err.is) c.package_resolve-resolved.ensures.answered)
      refl refl,
)
