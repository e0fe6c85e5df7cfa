use Rattle.std.proofs.Common.{refl}
use Rattle.condition_match.proofs.ReduceLemmas.{puts_front}
use Rattle.condition_match.proofs.reducing.put_front.Goals as goal

pub returns : goal.returns
returns c = puts_front c.args.made c.args.left _ c.requires refl c.in_ok-back.ensures
