use Rattle.std.proofs.Common.{rules}
use Rattle.module_sources.specs.Shown.{source_in}
use Rattle.package_lookup.specs.Responses.{looked}
use Rattle.package_lookup.specs.Lookups.{state_of}
use Rattle.trace_spec.specs.Questions.{of_module}
use Rattle.trace_walk.specs.Shown.{sources}
use Rattle.request_trace.specs.Answering.{all_fresh, all_kept, stays_of}
use Rattle.request_trace.proofs.AnswerLemmas.{always_ready, step_for_each, nothing_to_keep, none_to_keep, met_by, referring, kind_of, found_of}
use Rattle.request_trace.proofs.folder_answers.FolderAnswersAnswerer.module.Goals as goal

pub returns-clause-met : goal.returns-clause-met
returns-clause-met g c =
    met_by all_fresh all_kept (stays_of c.args.self.now.lookup c.args.self.now.steps.ghost_name) c.args.self.now.steps.now
    c.module_source-found.new.steps (state_of g.F.Folder.state c.args.self.now.lookup) (state_of g.F.Folder.state c.module_source-found.new.lookup)
    (of_module c.args.path.now) (looked source_in c.module_source-found.result) (sources c.source_answer.result)
    (stays_of c.module_source-found.new.lookup c.args.self.now.steps.ghost_name) all_kept
    (referring c.args.self.now.lookup c.module_source-found.new.lookup c.args.self.now.steps.ghost_name c.module_source-found.ensures.same)
    (step_for_each (state_of g.F.Folder.state c.args.self.now.lookup) (of_module c.args.path.now) c.args.self.now.steps.now
    c.module_source-found.new.steps (search rules))
    (nothing_to_keep (state_of g.F.Folder.state c.args.self.now.lookup))
    (none_to_keep (state_of g.F.Folder.state c.args.self.now.lookup) (of_module c.args.path.now) (sources c.source_answer.result)) c.source_answer.ensures.is c.module_source-found.ensures.answered

pub returns-clause-answered : goal.returns-clause-answered
returns-clause-answered g c = record {
  answered = record {
    steps = search rules;
    ready = always_ready c.source_answer.result;
    kind = kind_of c.source_answer.result _ c.source_answer.ensures.kind;
  };
  is = found_of c.source_answer.result _ c.source_answer.ensures.kind c.module_source-found.ensures.is;
}
