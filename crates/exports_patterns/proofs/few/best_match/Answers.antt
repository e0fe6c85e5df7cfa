use Rattle.std.proofs.Common.{take, sym, subst, arith}
use Rattle.ordered_json.specs.Lists.{pairs_of}
use Rattle.exports_patterns.specs.Found.{keys_of, Finds}
use Rattle.exports_patterns.proofs.FewLemmas.{all_found}
use Rattle.exports_patterns.proofs.KeyLemmas.{next_key, length_before}
use Rattle.exports_patterns.proofs.few.best_match.Goals as goal

pub loop-index-preserved : goal.loop-index-preserved
loop-index-preserved c =
    let keys = keys_of c.args.keys.now in
    let index = c.loop-index.index in
    let name = c.in-Some.name.now in
    record {
      found = subst (λ done. Finds done c.args.key.now c.with_key-best.result) (sym (next_key keys index name c.in-Some.ensures))
          (c.with_key-best.ensures.found (take index keys) (length_before keys index name c.in-Some.ensures) c.loop-index.invariant.found);
      span = c.with_key-best.ensures.span c.loop-index.invariant.span;
    }

pub returns-after-loop-index-clause-choice : goal.returns-after-loop-index-clause-choice
returns-after-loop-index-clause-choice c =
    all_found (pairs_of c.args.keys.now) c.loop-index.index c.args.key.now c.loop-index.best
    (omega (arith, c.len-index-end.ensures, c.loop-index-test.false)) c.loop-index.invariant.found
