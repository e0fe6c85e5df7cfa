use Rattle.std.proofs.Common.{rules}
use Rattle.generation.proofs.Digestings.{kept_inserted}
use Rattle.generation.proofs.digests.put_digest.Goals as goal

pub returns : goal.returns
returns g c =
    kept_inserted c.args.kept.now c.insert.new.self c.args.url c.in_ok-digest.digest _ c.in_ok-digest.ensures (search rules)
