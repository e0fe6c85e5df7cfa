use Rattle.std.proofs.Common.{length, arith, subst}
use Rattle.std.specs.Map.{keys_of}
use Rattle.exports_patterns.specs.Fronts.{IsTop}
use Rattle.exports_patterns.proofs.ChoiceLemmas.{no_key_before, no_key_there, key_there}
use Rattle.exports_patterns.proofs.pattern_keys.place_in.Goals as goal

pub returns-then-at-eq0 : goal.returns-then-at-eq0
returns-then-at-eq0 c = λ names index.
    no_key_before names c.args.keys.now.exact c.args.keys.now.patterns index c.args.asked.now c.top-at.result
    (subst (λ t. IsTop (keys_of c.args.keys.now.exact) t (length c.args.keys.now.exact) c.top-at.result) c.as_bytes.ensures.value c.top-at.ensures)
    c.if-at-eq0.true

pub returns-then-key-asked : goal.returns-then-key-asked
returns-then-key-asked c = λ names index.
    key_there names c.args.keys.now.exact c.args.keys.now.patterns index c.args.asked.now c.top-at.result c.in-Some.place.now c.in-Some.key.now (omega arith)
    (subst (λ t. IsTop (keys_of c.args.keys.now.exact) t (length c.args.keys.now.exact) c.top-at.result) c.as_bytes.ensures.value c.top-at.ensures)
    c.in-Some.ensures c.if-key-asked.true

pub returns-else-key-asked : goal.returns-else-key-asked
returns-else-key-asked c = λ names index.
    no_key_there names c.args.keys.now.exact c.args.keys.now.patterns index c.args.asked.now c.top-at.result c.in-Some.place.now c.in-Some.key.now (omega arith)
    (subst (λ t. IsTop (keys_of c.args.keys.now.exact) t (length c.args.keys.now.exact) c.top-at.result) c.as_bytes.ensures.value c.top-at.ensures)
    c.in-Some.ensures c.if-key-asked.false
