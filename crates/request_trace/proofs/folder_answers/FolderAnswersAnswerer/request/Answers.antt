use Rattle.std.proofs.Common.{rules}
use Rattle.node_resolve.specs.Places.{module_of}
use Rattle.node_resolve.specs.Responses.{responded}
use Rattle.package_lookup.specs.Lookups.{state_of}
use Rattle.trace_spec.specs.Questions.{of_request}
use Rattle.trace_walk.specs.Shown.{resolutions}
use Rattle.request_trace.specs.Answering.{all_fresh, all_kept, stays_of}
use Rattle.request_trace.proofs.AnswerLemmas.{always_ready, step_for_each, nothing_to_keep, none_to_keep, met_by, referring}
use Rattle.request_trace.proofs.folder_answers.FolderAnswersAnswerer.request.Goals as goal

pub returns-clause-met : goal.returns-clause-met
returns-clause-met g c =
    met_by all_fresh all_kept (stays_of c.args.self.now.lookup c.args.self.now.steps.ghost_name) c.args.self.now.steps.now
    c.resolve-found.new.steps (state_of g.F.Folder.state c.args.self.now.lookup) (state_of g.F.Folder.state c.resolve-found.new.lookup)
    (of_request c.args.conditions.now c.args.parent.now c.args.specifier.now) (responded module_of c.resolve-found.result) (resolutions c.node_answer.result)
    (stays_of c.resolve-found.new.lookup c.args.self.now.steps.ghost_name) all_kept
    (referring c.args.self.now.lookup c.resolve-found.new.lookup c.args.self.now.steps.ghost_name c.resolve-found.ensures.same)
    (step_for_each (state_of g.F.Folder.state c.args.self.now.lookup) (of_request c.args.conditions.now c.args.parent.now c.args.specifier.now) c.args.self.now.steps.now
    c.resolve-found.new.steps (search rules))
    (nothing_to_keep (state_of g.F.Folder.state c.args.self.now.lookup))
    (none_to_keep (state_of g.F.Folder.state c.args.self.now.lookup) (of_request c.args.conditions.now c.args.parent.now c.args.specifier.now) (resolutions c.node_answer.result)) c.node_answer.ensures.is c.resolve-found.ensures.answered

pub returns-clause-answered : goal.returns-clause-answered
returns-clause-answered g c = record {
  steps = search rules;
  ready = always_ready c.node_answer.result;
  kind = c.node_answer.ensures.kind;
}
