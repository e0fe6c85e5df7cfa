use Rattle.generation.proofs.Pairings.{all_digested, of_named}
use Rattle.generation.proofs.kept_pairs.KeptPairs.of.Goals as goal

pub invariant_of-result : goal.invariant_of-result
invariant_of-result c =
    of_named c.args.config.now c.args.trace.now.gathered.modules c.args.trace.now.gathered.sources c.in_ok-modules.modules.items c.in_ok-pairs.pairs c.in_ok-pairs.ensures c.in_ok-modules.ensures

pub returns : goal.returns
returns c = all_digested c.args.config.now c.args.trace.now.gathered.modules c.args.trace.now.gathered.sources c.in_ok-modules.modules.items c.in_ok-modules.ensures
