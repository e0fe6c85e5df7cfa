use Rattle.std.proofs.Common.{take, arith, subst, sym}
use Rattle.std.proofs.lemmas.List.{take_all}
use Rattle.ordered_json.specs.Lists.{pairs_of}
use Rattle.exports_patterns.specs.Found.{keys_of}
use Rattle.exports_patterns.specs.Gathering.{IsGathered}
use Rattle.exports_patterns.proofs.KeyLemmas.{all_names, next_key, length_before}
use Rattle.exports_patterns.proofs.keys.gather.Goals as goal
use Rattle.exports_patterns.proofs.keys.gather.Goals.{else-loop-index-test, then-loop-index-test+in_default}

pub loop-index-preserved : goal.loop-index-preserved
loop-index-preserved c =
    subst (λ names. IsGathered names c.put_key.new.gathered.exact c.put_key.new.gathered.groups)
    (sym (next_key (keys_of c.args.members.now) c.loop-index.index c.in-Some.name.now c.in-Some.ensures))
    (c.in_ok-put_key.ensures (take c.loop-index.index (keys_of c.args.members.now))
    (length_before (keys_of c.args.members.now) c.loop-index.index c.in-Some.name.now c.in-Some.ensures) c.loop-index.invariant)

pub returns : goal.returns
returns c =
    elim c.loop-index-test.branch [
      | else-loop-index-test w ↦ subst (λ names. IsGathered names c.loop-index.gathered.exact c.loop-index.gathered.groups)
          (all_names (pairs_of c.args.members.now) c.loop-index.index (omega (arith, c.len-index-end.ensures, w.loop-index-test.false))) c.loop-index.invariant
      | then-loop-index-test+in_default w ↦ subst (λ names. IsGathered names c.loop-index.gathered.exact c.loop-index.gathered.groups)
          (take_all c.loop-index.index (keys_of c.args.members.now) w.in_default.ensures) c.loop-index.invariant
    ]
