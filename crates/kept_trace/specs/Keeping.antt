-- Answers that are kept for the next trace.
--     stays_of lookup steps place next     what an answerer by kept answers leaves as it is
--     answers_if right answers      the answers are those that are told where what is kept is right
--     IsUnder kept question         answers are kept under the question's conditions, where it has some
--     IsGivenBy question answer     there is a source, or a module
--     keeps kept sights question    where it comes to that, an answer to it is kept whose looks see what stands there
--     KeepsTraced config before known kept      so it is of each question that a trace asks
use Rattle.std.specs.Prelude.{◌≡◌, ⊤, ℕ, false, List, [], ◌∷◌, Ok, IfSome}
use Rattle.asking_spec.specs.Askings.{questions}
use Rattle.tree_spec.specs.LookAskings.{Sights}
use Rattle.tree_spec.specs.States.{FolderState}
use Rattle.node_spec.specs.NodeAnswers.{Module}
use Rattle.trace_spec.specs.Modules.{Config}
use Rattle.trace_spec.specs.Questions.{Question, Answer, Source, of_module, of_request, always}
use Rattle.trace_spec.specs.Traces.{trace}
use Rattle.package_lookup.specs.Looked.{Sees}
use Rattle.package_lookup.specs.declared.known.Known.{Known}
use Rattle.package_lookup.specs.declared.lookup.Lookup.{Lookup}
use Rattle.trace_walk.specs.Meeting.{AnswererState}
use Rattle.request_trace.specs.Answering.{Keeping, Stays}
use Rattle.kept_trace.specs.Ready.{is_anew}
use Rattle.kept_trace.specs.Tracing.{KeepsAsked}
use Rattle.kept_trace.specs.declared.kept.Kept.{Kept}

abbrev pub stays_of : {F : Type 0} → Lookup F → ℕ → ℕ → Kept → Stays
stays_of lookup steps place next =
    record {
      references = lookup.folder.ghost_name ∷ lookup.known.ghost_name ∷ steps ∷ lookup.trail.ghost_name ∷ place ∷ [];
      names = next.requests.names;
    }

abbrev pub answers_if : Type 0 → AnswererState → AnswererState
answers_if right answers =
    record {
      told = λ told. answers.told told × right;
      state = answers.state;
      faults = answers.faults;
      steps = answers.steps;
      keeps = answers.keeps;
      looks = answers.looks;
      is_kept = answers.is_kept;
    }

abbrev pub IsUnder : Kept → Question → Type 0
IsUnder kept (of_module path) = ⊤
IsUnder kept (of_request conditions parent specifier) = kept.requests.names ≡ conditions

abbrev pub IsGivenBy : (question : Question) → Answer question → Type 0
IsGivenBy (of_module path) answer = (source : Source) × (answer ≡ Ok source)
IsGivenBy (of_request conditions parent specifier) answer = (target : Module) × (answer ≡ Ok target)

-- own: what ends a walk isn't kept
abbrev pub keeps : Kept → Keeping
keeps kept sights question =
    IsUnder kept question → IsGivenBy question (always sights question) → is_anew kept sights question ≡ false

-- own: where a tree is told, whatever stands at each path as far as looks tell
pub record KeepsTraced (config : Config) (before : FolderState) (known : Known) (kept : Kept) : Type 0 where
  pub asked :
      IfSome before.holds
      (λ tree. (sights : Sights) → Sees tree known sights → kept.requests.names ≡ config.conditions
      → KeepsAsked sights (questions (always sights) (trace config)) kept)
