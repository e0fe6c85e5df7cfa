use Rattle.std.proofs.Common.{◌≡◌, ◌-◌, arith, subst, sym, ◌∙◌}
use Rattle.std.proofs.lemmas.Bool.{true≢false}
use Rattle.std.specs.Map.{keys_of}
use Rattle.node_spec.specs.PatternKeys.{StartsWith}
use Rattle.exports_patterns.specs.Fronts.{Covers}
use Rattle.exports_patterns.proofs.FrontLemmas.{covered_on}
use Rattle.exports_patterns.proofs.fronts.climb.Goals as goal

pub returns-then-begins : goal.returns-then-begins
returns-then-begins g c = λ most le held. record {
  within = omega arith;
  begins = λ some. subst (StartsWith c.args.text.now) c.text_of.ensures (c.begins.ensures.0 c.if-begins.true);
  covers = c.loop-at.invariant.covers most held;
}

pub loop-at-preserved : goal.loop-at-preserved
loop-at-preserved g c =
    let link = c.requires.linked (c.loop-at.at - 1) (omega arith) in
    let least = link.before in
    record {
      within = omega arith;
      covers = λ most held.
          covered_on (keys_of c.args.entries.now) c.args.links.now c.args.text.now most c.loop-at.at c.loop-at-test.true
          (λ s. (let t = c.begins.ensures.1 (subst (StartsWith c.args.text.now) (sym c.text_of.ensures) s) in true≢false (sym t ∙ c.if-begins.false)))
          link (c.loop-at.invariant.covers most held);
    }

pub returns : goal.returns
returns g c = λ most le held.
    let none : c.loop-at.at ≡ 0 = omega arith in
    record {
      within = omega arith;
      begins = λ some. absurd (omega arith);
      covers = subst (Covers (keys_of c.args.entries.now) c.args.text.now most) none (c.loop-at.invariant.covers most held);
    }
