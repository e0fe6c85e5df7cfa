use Rattle.std.proofs.Common.{ap, length}
use Rattle.ordered_json.proofs.PairsLemmas.{indexed_pushed, put_pushed}
use Rattle.ordered_json.proofs.settling.Settling.push.Goals as goal

pub returns-clause-indexed : goal.returns-clause-indexed
returns-clause-indexed c =
    indexed_pushed c.args.self.now.places c.insert.new.self c.args.self.now.kept.items _ c.args.name _ c.args.value _ c.requires.indexed c.requires.new c.in-Ok.ensures.updates c.in_ok-copy.ensures (ap length c.as_slice-place.ensures.value) c.in_ok-push.ensures.items

pub returns-clause-put : goal.returns-clause-put
returns-clause-put c = rw c.in_ok-push.ensures.items (put_pushed c.args.name c.args.value c.args.self.now.kept.items c.requires.new)
