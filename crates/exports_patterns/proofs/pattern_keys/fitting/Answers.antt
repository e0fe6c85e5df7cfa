use Rattle.std.proofs.Common.{◌-◌, length, refl, arith}
use Rattle.exports_patterns.proofs.ChoiceLemmas.{fits_none, fits_found}
use Rattle.exports_patterns.proofs.pattern_keys.fitting.Goals as goal

pub returns-then-at-eq0 : goal.returns-then-at-eq0
returns-then-at-eq0 c = λ starts.
    fits_none c.args.asked.now c.args.base.now c.args.group.now (length c.args.asked.now - length c.args.base.now - 1) c.top-at.result
    c.args.back.now c.front.result.now starts (omega arith) c.requires refl c.front.ensures c.top-at.ensures c.if-at-eq0.true

pub returns-in-Some : goal.returns-in-Some
returns-in-Some c = λ starts.
    fits_found c.args.asked.now c.args.base.now c.args.group.now (length c.args.asked.now - length c.args.base.now - 1) c.top-at.result
    c.args.back.now c.front.result.now starts (omega arith) c.requires refl c.front.ensures c.top-at.ensures c.in-Some.trailer.now c.in-Some.place.now
    (omega arith) c.in-Some.ensures
