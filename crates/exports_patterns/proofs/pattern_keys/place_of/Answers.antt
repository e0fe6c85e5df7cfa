use Rattle.exports_patterns.specs.Found.{keys_of}
use Rattle.exports_patterns.proofs.ChoiceLemmas.{place_few, place_there}
use Rattle.exports_patterns.proofs.pattern_keys.place_of.Goals as goal

pub returns-in-None : goal.returns-in-None
returns-in-None c = place_few (keys_of c.args.members.now) c.args.asked.now c.place_of_few.result c.place_of_few.ensures

pub returns-in-Some : goal.returns-in-Some
returns-in-Some c =
    place_there (keys_of c.args.members.now) c.args.asked.now c.place_in.result
    (c.place_in.ensures (keys_of c.args.members.now) (rw c.in-Some.is at c.requires))
