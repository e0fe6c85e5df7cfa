use Rattle.kept_answers.proofs.ModuleLemmas.{put_copy, set_copy, unset_copy}
use Rattle.kept_answers.proofs.modules.KeptModules.put.Goals as goal

pub returns-clause-set : goal.returns-clause-set
returns-clause-set c =
    set_copy c.args.path.now c.in_ok-path.path c.args.kept c.args.self.now (record { entries = c.insert.new.entries })
    c.insert.result c.in_ok-path.ensures.same c.insert.ensures.set

pub returns-clause-same : goal.returns-clause-same
returns-clause-same c =
    unset_copy c.args.path.now c.args.kept c.args.self.now (record { entries = c.insert.new.entries }) c.insert.result
    c.insert.ensures.same

pub returns-clause-right : goal.returns-clause-right
returns-clause-right c =
    put_copy c.args.path.now c.in_ok-path.path c.args.kept c.args.self.now (record { entries = c.insert.new.entries })
    c.insert.result c.in_ok-path.ensures.same c.insert.ensures.set c.insert.ensures.same
