use Rattle.std.proofs.Common.{◌∙◌, subst}
use Rattle.std.specs.Prelude.{OnOk}
use Rattle.trace_spec.specs.Modules.{Config}
use Rattle.kept_trace.specs.Ready.{AreAllRight, is_anew}
use Rattle.request_trace.specs.Tracing.{TakesFreshSteps}
use Rattle.edit_session.specs.Mapping.{GeneratesIf, IfKnown, LeavesAnswers}
use Rattle.edit_session.specs.Shown.{PlansFor}
use Rattle.edit_session.proofs.MapsAgain.{keeps_ok}
use Rattle.edit_session.proofs.MapsTried.{tries, fresh_so, keeps_so, plans_laid}
use Rattle.edit_session.proofs.trying.try_map.Goals as goal

pub returns-clause-tries : goal.returns-clause-tries
returns-clause-tries g c =
    tries (AreAllRight c.args.answers.now.kept) (g.F.Folder.state c.args.folder.now) (g.F.Folder.state c.map_again-made.new.folder) c.args.known.now c.lay.new.self
    c.map_again-made.new.known c.lay-2.new.self c.args.config.now c.args.over.now c.lay-2.new.over c.args.entries.now
    c.lay.ensures.laid c.lay.ensures.kept c.lay-2.ensures.kept (c.lay-2.ensures.laid ∙ c.lay.ensures.over) c.lay-2.ensures.over
    c.map_again-made.result
    (subst
    (λ (config : Config). GeneratesIf (AreAllRight c.args.answers.now.kept) config (g.F.Folder.state c.args.folder.now) c.lay.new.self c.map_again-made.result
    (g.F.Folder.state c.map_again-made.new.folder) c.map_again-made.new.known)
    c.exchange.ensures.config c.map_again-made.ensures.generates)

pub returns-clause-fresh : goal.returns-clause-fresh
returns-clause-fresh g c =
    fresh_so (AreAllRight c.args.answers.now.kept) (g.F.Folder.state c.args.folder.now) (g.F.Folder.state c.map_again-made.new.folder) c.args.known.now c.lay.new.self
    c.map_again-made.new.known c.lay-2.new.self c.args.config.now c.args.over.now c.lay-2.new.over c.args.entries.now
    c.lay.ensures.laid c.lay.ensures.kept c.lay-2.ensures.kept (c.lay-2.ensures.laid ∙ c.lay.ensures.over) c.lay-2.ensures.over
    (is_anew c.args.answers.now.kept) _ _
    (subst
    (λ (config : Config). AreAllRight c.args.answers.now.kept → TakesFreshSteps (is_anew c.args.answers.now.kept) config
    (g.F.Folder.state c.args.folder.now) c.lay.new.self c.args.steps.now c.map_again-made.new.steps)
    c.exchange.ensures.config c.map_again-made.ensures.fresh)

pub returns-clause-keeps : goal.returns-clause-keeps
returns-clause-keeps g c =
    keeps_ok c.map_again-made.result
    (keeps_so (AreAllRight c.args.answers.now.kept) (g.F.Folder.state c.args.folder.now) (g.F.Folder.state c.map_again-made.new.folder) c.args.known.now c.lay.new.self
    c.map_again-made.new.known c.lay-2.new.self c.args.config.now c.args.over.now c.lay-2.new.over c.args.entries.now
    c.lay.ensures.laid c.lay.ensures.kept c.lay-2.ensures.kept (c.lay-2.ensures.laid ∙ c.lay.ensures.over) c.lay-2.ensures.over
    c.args.answers.now.kept c.map_again-made.new.answers.next)
    (subst
    (λ (config : Config). OnOk c.map_again-made.result (LeavesAnswers c.args.answers.now.kept config
    (g.F.Folder.state c.args.folder.now) c.lay.new.self c.map_again-made.new.answers.next))
    c.exchange.ensures.config c.map_again-made.ensures.keeps)

pub returns-clause-plans : goal.returns-clause-plans
returns-clause-plans g c =
    plans_laid (AreAllRight c.args.answers.now.kept) (g.F.Folder.state c.args.folder.now) (g.F.Folder.state c.map_again-made.new.folder) c.args.known.now c.lay.new.self
    c.map_again-made.new.known c.lay-2.new.self c.args.config.now c.args.over.now c.lay-2.new.over c.args.entries.now
    c.lay.ensures.laid c.lay.ensures.kept c.lay-2.ensures.kept (c.lay-2.ensures.laid ∙ c.lay.ensures.over) c.lay-2.ensures.over
    c.map_again-made.new.shown c.map_again-made.result
    (subst
    (λ (config : Config). OnOk c.map_again-made.result (PlansFor (IfKnown (AreAllRight c.args.answers.now.kept)
    (g.F.Folder.state c.args.folder.now) c.lay.new.self) config c.map_again-made.new.shown))
    c.exchange.ensures.config c.map_again-made.ensures.plans)
