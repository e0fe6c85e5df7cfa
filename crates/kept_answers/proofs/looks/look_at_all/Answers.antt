use Rattle.package_lookup.specs.Lookups.{state_of}
use Rattle.package_lookup.specs.declared.fault.LookupFault.TheVariants.{Memory}
use Rattle.kept_answers.proofs.CountingAll.{seen_all, lost}
use Rattle.kept_answers.proofs.LookingAgain.{again_err}
use Rattle.kept_answers.proofs.looks.look_at_all.Goals as goal

pub returns-in_err-count_all-clause-again : goal.returns-in_err-count_all-clause-again
returns-in_err-count_all-clause-again g c =
    again_err (state_of g.F.Folder.state c.args.lookup.now) c.args.looks.now c.from_residual.result Memory
    _ c.from_residual.ensures.1
    (lost (state_of g.F.Folder.state c.args.lookup.now) c.args.looks.now c.count_all.new.trail
    c.in_err-count_all.ensures.some c.in_err-count_all.ensures.grows)

pub returns-clause-again : goal.returns-clause-again
returns-clause-again g c =
    seen_all (state_of g.F.Folder.state c.args.lookup.now) c.args.looks.now c.args.paths.value c.count_all.new.trail
    c.ask_again.new.self c.requires c.in_ok-count_all.ensures.counted c.ask_again.ensures
