use Rattle.package_lookup.proofs.PathSets.{appended}
use Rattle.package_lookup.proofs.Questions.{lengthens_by_one}
use Rattle.package_lookup.proofs.trail.Trail.add.Goals as goal

pub returns-clause-added : goal.returns-clause-added
returns-clause-added c =
    appended c.self.inside.paths.keys c.self.inside.size c.self.inside.question c.insert.new.self.keys c.args.path
    c.args.self.now c.self.view_is c.requires c.in_ok-insert.ensures.keys

pub returns-clause-grows : goal.returns-clause-grows
returns-clause-grows c = lengthens_by_one c.args.self.now _ c.args.path (returns-clause-added c)
