use Rattle.std.proofs.Common.{subst, ◌∙◌}
use Rattle.std.specs.Map.{keys_of}
use Rattle.exports_patterns.specs.Fronts.{HasAllLinks}
use Rattle.exports_patterns.proofs.FrontLemmas.{next_top}
use Rattle.exports_patterns.proofs.fronts.Fronts.next.Goals as goal

pub returns : goal.returns
returns g c = λ most top.
    next_top c.args.text.now c.args.self.now c.as_slice.result.now c.as_slice-links.result.now c.self.inside.links.items c.args.at c.climb.result most
    (c.as_slice.ensures.value ∙ c.self.view_is) c.as_slice-links.ensures.value
    (subst (λ es. HasAllLinks (keys_of es) c.self.inside.links.items) c.self.view_is c.self.invariant.1)
    c.requires.some c.requires.within top c.climb.ensures
