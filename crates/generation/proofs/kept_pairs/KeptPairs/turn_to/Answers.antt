use Rattle.std.proofs.Common.{rules}
use Rattle.generation.proofs.Pairings.{followed}
use Rattle.generation.proofs.kept_pairs.KeptPairs.turn_to.Goals as goal

pub returns : goal.returns
returns c =
    followed c.args.config.now c.args.trace.now.gathered.modules c.args.trace.now.gathered.sources c.args.self.now.modules c.follow.new.self.modules c.follow.result
    (search rules) (search rules) (c.in_ok-has_urls.ensures (search rules)) c.follow.ensures
