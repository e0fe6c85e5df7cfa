use Rattle.node_spec.specs.EsmResolve.{node}
use Rattle.node_resolve.specs.declared.fault.NodeFault.TheVariants.{Memory}
use Rattle.kept_answers.proofs.SharedFootprints.{no_footprint}
use Rattle.kept_answers.proofs.Certifying.{no_memory_begun}
use Rattle.package_lookup.specs.Answered.{state}
use Rattle.package_lookup.specs.Lookups.{begun_of, state_of}
use Rattle.package_lookup.specs.Responses.{fails, no_memory}
use Rattle.node_resolve.specs.Places.{module_of}
use Rattle.node_resolve.specs.Responses.{responded}
use Rattle.kept_answers.specs.Tables.{IsRequestOf, AreRequests}
use Rattle.kept_answers.proofs.RequestLemmas.{right_as}
use Rattle.kept_answers.proofs.RightAnswers.{if_whatever, if_when}
use Rattle.kept_answers.proofs.requests.KeptRequests.answer.Goals as goal

pub returns-in-Err-clause-answered : goal.returns-in-Err-clause-answered
returns-in-Err-clause-answered g c =
    if_whatever (begun_of g.F.Folder.state c.args.lookup.now) (state (g.F.Folder.state c.args.lookup.now.folder.now) c.args.lookup.now.known.now c.begin.new.self)
    (node c.args.request.now.conditions.now c.args.request.now.parent.now c.args.request.now.specifier.now) (fails no_memory) (AreRequests c.args.self.now)
    (no_memory_begun (g.F.Folder.state c.args.lookup.now.folder.now) c.args.lookup.now.known.now c.args.lookup.now.trail.now c.begin.new.self
    (node c.args.request.now.conditions.now c.args.request.now.parent.now c.args.request.now.specifier.now) c.begin.ensures)

pub returns-in-Err-clause-footprint : goal.returns-in-Err-clause-footprint
returns-in-Err-clause-footprint g c = λ right.
    no_footprint (g.F.Folder.state c.args.lookup.now.folder.now) c.args.lookup.now.known.now
    (node c.args.request.now.conditions.now c.args.request.now.parent.now c.args.request.now.specifier.now) Memory

pub returns-in-None-clause-answered : goal.returns-in-None-clause-answered
returns-in-None-clause-answered g c =
    if_whatever (begun_of g.F.Folder.state c.args.lookup.now) (state_of g.F.Folder.state c.request_anew.new.lookup)
    (node c.args.request.now.conditions.now c.args.request.now.parent.now c.args.request.now.specifier.now)
    (responded (λ found. module_of found.value) c.request_anew.result) (AreRequests c.args.self.now)
    c.request_anew.ensures.answered

pub returns-in-Some-clause-answered : goal.returns-in-Some-clause-answered
returns-in-Some-clause-answered g c =
    if_when (begun_of g.F.Folder.state c.args.lookup.now) (state_of g.F.Folder.state c.request_again.new.lookup)
    (node c.args.request.now.conditions.now c.args.request.now.parent.now c.args.request.now.specifier.now)
    (responded (λ found. module_of found.value) c.request_again.result)
    (IsRequestOf c.args.request.now.conditions.now c.in-Ok.key c.in-Some.found.now) (AreRequests c.args.self.now)
    (right_as c.args.request.now.conditions.now c.in-Ok.key c.in-Some.found.now c.args.self.now c.requires.names
    (rw c.in-Some.is at c.get.ensures.right))
    c.request_again.ensures.answered
