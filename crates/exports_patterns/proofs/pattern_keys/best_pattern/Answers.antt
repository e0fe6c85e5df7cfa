use Rattle.std.proofs.Common.{◌-◌, ◌<◌, length, arith, subst, sym}
use Rattle.std.specs.Map.{keys_of}
use Rattle.exports_patterns.specs.Fronts.{IsTop}
use Rattle.exports_patterns.proofs.FrontLemmas.{entry_at}
use Rattle.exports_patterns.proofs.ChoiceLemmas.{sought_first, sought_next, sought_found, sought_all, last_begins}
use Rattle.exports_patterns.proofs.pattern_keys.best_pattern.Goals as goal

pub loop-at-init : goal.loop-at-init
loop-at-init c =
    sought_first c.args.asked.now c.args.patterns.now c.top-at.result
    (subst (λ t. IsTop (keys_of c.args.patterns.now) t (length c.args.patterns.now) c.top-at.result) c.as_bytes.ensures.value c.top-at.ensures)

pub loop-at-smaller : goal.loop-at-smaller
loop-at-smaller c =
    let held = c.loop-at.invariant in
    let top = c.next-at.ensures held.most
    (subst (λ t. IsTop (keys_of c.args.patterns.now) t c.loop-at.invariant.most c.loop-at.at) (sym c.as_bytes-in-loop-at.ensures.value) held.top) in
    let within = top.within in
    let some = c.loop-at-test.true in
    omega arith

pub loop-at-preserved : goal.loop-at-preserved
loop-at-preserved c =
    let held = c.loop-at.invariant in
    let top = c.next-at.ensures held.most
    (subst (λ t. IsTop (keys_of c.args.patterns.now) t c.loop-at.invariant.most c.loop-at.at) (sym c.as_bytes-in-loop-at.ensures.value) held.top) in
    sought_next c.args.asked.now c.args.patterns.now c.loop-at.at c.next-at.result c.loop-at-test.true held c.in-None.ensures
    (subst (λ t. IsTop (keys_of c.args.patterns.now) t (c.loop-at.at - 1) c.next-at.result) c.as_bytes-in-loop-at.ensures.value top)

pub returns-in-Some : goal.returns-in-Some
returns-in-Some c =
    let held = c.loop-at.invariant in
    let most = held.within in
    let within = held.top.within in
    let some = c.loop-at-test.true in
    let last : c.loop-at.at - 1 < length c.args.patterns.now = omega arith in
    let e = entry_at c.args.patterns.now (c.loop-at.at - 1) last in
    sought_found c.args.asked.now c.args.patterns.now c.loop-at.at e.0.0 e.0.1 c.in-Some.found some held e.1
    (c.in-Some.ensures e.0.0 e.0.1 e.1 (last_begins c.args.asked.now c.args.patterns.now c.loop-at.at e.0.0 e.0.1 some held e.1))

pub returns : goal.returns
returns c = sought_all c.args.asked.now c.args.patterns.now c.loop-at.at c.loop-at-test.false c.loop-at.invariant
