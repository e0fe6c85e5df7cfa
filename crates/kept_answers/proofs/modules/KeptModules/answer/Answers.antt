use Rattle.std.proofs.Common.{subst}
use Rattle.std.specs.Prelude.{IfSome, option_copied}
use Rattle.module_sources.specs.Shown.{source_in}
use Rattle.package_lookup.specs.Lookups.{begun_of, state_of}
use Rattle.package_lookup.specs.Responses.{looked}
use Rattle.trace_spec.specs.Questions.{module_source}
use Rattle.kept_answers.specs.Tables.{IsModuleOf, AreModules}
use Rattle.kept_answers.proofs.RightAnswers.{if_whatever, if_when}
use Rattle.kept_answers.proofs.modules.KeptModules.answer.Goals as goal

pub returns-in-None-clause-answered : goal.returns-in-None-clause-answered
returns-in-None-clause-answered g c =
    if_whatever (begun_of g.F.Folder.state c.args.lookup.now) (state_of g.F.Folder.state c.module_anew.new.lookup)
    (module_source c.args.path.now) (looked source_in c.module_anew.result) (AreModules c.args.self.now)
    c.module_anew.ensures.answered

pub returns-in-Some-clause-answered : goal.returns-in-Some-clause-answered
returns-in-Some-clause-answered g c =
    if_when (begun_of g.F.Folder.state c.args.lookup.now) (state_of g.F.Folder.state c.module_again.new.lookup)
    (module_source c.args.path.now) (looked source_in c.module_again.result) (IsModuleOf c.args.path.now c.in-Some.found.now)
    (AreModules c.args.self.now)
    (λ are. rw c.in-Some.is at (c.get.ensures.right are))
    c.module_again.ensures.answered
