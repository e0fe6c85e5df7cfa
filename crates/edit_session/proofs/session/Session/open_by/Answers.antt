use Rattle.std.proofs.Common.{length, ap, ◌∙◌, refl, sym}
use Rattle.std.proofs.lemmas.Bool.{true≢false}
use Rattle.std.specs.Prelude.{IfSome}
use Rattle.generation.specs.Generating.{IfSeen}
use Rattle.trace_graph.specs.Links.{Links}
use Rattle.kept_trace.specs.Ready.{AreAllRight}
use Rattle.edit_session.specs.Mapping.{IfKnown}
use Rattle.edit_session.proofs.ShownTraces.{has_plan, plans_as}
use Rattle.kept_trace.specs.Ready.{is_anew}
use Rattle.edit_session.proofs.FrugalEdits.{opens_to_end}
use Rattle.edit_session.proofs.MapsAgain.{right_empty}
use Rattle.edit_session.proofs.SessionCalls.{opened, not_opened, opened_answers}
use Rattle.edit_session.proofs.session.Session.open_by.Goals as goal

pub returns-in-Err-clause-opens : goal.returns-in-Err-clause-opens
returns-in-Err-clause-opens g c =
    not_opened c.args.config (g.F.Folder.state c.args.folder.now) (g.F.Folder.state c.map_again.new.folder) c.new-known.result
    c.map_again.new.known c.new-known.ensures.kept c.new-known.ensures.laid (g.met.F.Folder.told c.args.folder.now) c.in-Err.stop
    (rw c.in-Err.is at (c.map_again.ensures.generates.is (right_empty c.args.config.conditions c.args.answers.kept c.requires)))

pub returns-in-Ok-clause-opens : goal.returns-in-Ok-clause-opens
returns-in-Ok-clause-opens g c =
    let right = right_empty c.args.config.conditions c.args.answers.kept c.requires in
    opened c.args.config (g.F.Folder.state c.args.folder.now) (g.F.Folder.state c.map_again.new.folder) c.new-known.result
    c.map_again.new.known c.new-known.ensures.kept c.new-known.ensures.laid (g.met.F.Folder.told c.args.folder.now) _ c.in-Ok.generated
    refl refl refl
    (opened_answers (g.F.Folder.state c.args.folder.now) c.new-known.result c.args.config c.args.answers.kept
    c.map_again.new.answers.next c.exchange.new.self.kept c.exchange.ensures.kept c.requires.names
    ((rw c.in-Ok.is at c.map_again.ensures.keeps) right))
    c.new-shown.result.links (ap (λ (l : Links). length l.graph) c.new-shown.ensures) c.map_again.new.shown c.map_again.ensures.shown
    (plans_as (IfKnown (AreAllRight c.args.answers.kept) (g.F.Folder.state c.args.folder.now) c.new-known.result)
    (λ P. IfSome (g.F.Folder.state c.args.folder.now).holds (λ tree. IfSeen tree c.new-known.result P)) c.args.config c.map_again.new.shown
    (λ l so. so right) (rw c.in-Ok.is at c.map_again.ensures.plans))
    c.commit.ensures.shown c.commit.ensures.places
    refl c.in-Ok.ensures.page (rw c.in-Ok.is at (c.map_again.ensures.generates.is right))

pub returns-in-Err-clause-by_trace : goal.returns-in-Err-clause-by_trace
returns-in-Err-clause-by_trace g c =
    opens_to_end (is_anew c.args.answers.kept) c.args.config (g.F.Folder.state c.args.folder.now) c.new-known.result
    c.new-known.ensures.kept c.new-known.ensures.laid c.args.steps.now c.map_again.new.steps
    (c.map_again.ensures.fresh (right_empty c.args.config.conditions c.args.answers.kept c.requires))

pub returns-in-Ok-clause-by_trace : goal.returns-in-Ok-clause-by_trace
returns-in-Ok-clause-by_trace g c =
    opens_to_end (is_anew c.args.answers.kept) c.args.config (g.F.Folder.state c.args.folder.now) c.new-known.result
    c.new-known.ensures.kept c.new-known.ensures.laid c.args.steps.now c.map_again.new.steps
    (c.map_again.ensures.fresh (right_empty c.args.config.conditions c.args.answers.kept c.requires))

pub commit-requires : goal.commit-requires
commit-requires g c =
    has_plan (IfKnown (AreAllRight c.args.answers.kept) (g.F.Folder.state c.args.folder.now) c.new-known.result) c.args.config
    c.map_again.new.shown (rw c.in-Ok.is at c.map_again.ensures.plans)

pub invariant_of-result-clause-planned : goal.invariant_of-result-clause-planned
invariant_of-result-clause-planned g c = λ e. absurd (true≢false (sym e))

pub invariant_of-result-clause-agree : goal.invariant_of-result-clause-agree
invariant_of-result-clause-agree g c = λ path out.
    c.new-spare.ensures path ∙ sym (c.map_again.ensures.generates.always.learns.known.laid path ∙ c.new-known.ensures.laid path)
