use Rattle.exports_patterns.proofs.ChoiceLemmas.{exact_found, chosen, spanned}
use Rattle.exports_patterns.proofs.KeyLemmas.{span_of_key}
use Rattle.exports_patterns.proofs.pattern_keys.best_indexed.Goals as goal

pub returns-in-Some-clause-choice : goal.returns-in-Some-clause-choice
returns-in-Some-clause-choice c = λ names index.
    let is = c.in-Some.ensures names index in
    exact_found names c.args.keys.now.exact c.args.keys.now.patterns index c.args.asked.now c.in-Some.index is.0 is.1

pub returns-in-Some-clause-span : goal.returns-in-Some-clause-span
returns-in-Some-clause-span c = λ names index. span_of_key c.args.asked.now c.in-Some.index c.utf8.asked

pub returns-clause-choice : goal.returns-clause-choice
returns-clause-choice c = λ names index.
    chosen names c.args.keys.now.exact c.args.keys.now.patterns index c.args.asked.now (c.in_default.ensures names index)
    c.best_pattern.result c.best_pattern.ensures

pub returns-clause-span : goal.returns-clause-span
returns-clause-span c = λ names index.
    spanned names c.args.keys.now.exact c.args.keys.now.patterns index c.args.asked.now (c.in_default.ensures names index) c.utf8.asked
    c.best_pattern.result c.best_pattern.ensures
