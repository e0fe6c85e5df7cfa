-- The questions of a walk, and its steps.
--     asked_listed       the list beside a state grows by the questions until the end
--     all_asked          the questions until a trace ends
--     takes_fresh        the steps of a walk, beside another name for them
--     takes_to_end       the same where each question is fresh
--     takes_nothing      a walk that doesn't begin
use Rattle.std.proofs.Common.{◌≡◌, ◌≤◌, ◌+◌, ◌++◌, [], ◌∷◌, ℕ, List, length, Option, Some, None, Result, IfSome, refl, sym, ap, ◌∙◌, arith, append_assoc}
use Rattle.std.specs.Prelude.{filter, true}
use Rattle.asking_spec.proofs.EvaluationLemmas.{asked_none}
use Rattle.asking_spec.specs.Askings.{Asking, answered, ask}
use Rattle.asking_spec.specs.Evaluation.{Ended, ends, stopped, then_ended, Answers, evaluated, Asked, with_asked}
use Rattle.asking_spec.specs.Evaluation.{keep_asked, listed}
use Rattle.package_lookup.specs.Answered.{State}
use Rattle.package_lookup.specs.Looked.{Sees}
use Rattle.package_lookup.specs.declared.known.Known.{Known}
use Rattle.trace_spec.specs.Checks.{Gathered}
use Rattle.trace_spec.specs.Laws.{none_asked, asked_by_end}
use Rattle.trace_spec.specs.Modules.{Config}
use Rattle.trace_spec.specs.Questions.{Question, answers}
use Rattle.trace_spec.specs.Traces.{state_of, trace}
use Rattle.trace_spec.specs.declared.TraceFault.{TraceFault}
use Rattle.trace_walk.specs.Meeting.{asked_then, asked_to_end, Met}
use Rattle.tree_spec.specs.LookAskings.{Sights}
use Rattle.tree_spec.specs.LookLimits.{no_trail}
use Rattle.tree_spec.specs.Trees.{Tree}
use Rattle.tree_spec.specs.declared.LimitName.{LimitName}
use Rattle.tree_spec.proofs.ToldStates.{if_all, if_some}
use Rattle.request_trace.specs.Answering.{Freshness, Keeping, Stays, all_fresh, all_kept, told_by, answers_of}
use Rattle.request_trace.specs.Tracing.{StepsByQuestions, TakesStepsToEnd, StepsByFresh, TakesFreshSteps}

asked_twice : {Q : Type 0} (asked : Option (List Q)) (some more : List Q)
    → with_asked (with_asked asked some) more ≡ with_asked asked (some ++ more)
asked_twice None some more = refl
asked_twice (Some questions) some more = ap Some (append_assoc questions some more)

then_listed : {X Y T Q : Type 0} (first : Ended X T LimitName) (asked : Option (List Q)) (question : Q)
    (goes : X → Asked T Q → Ended Y (Asked T Q) LimitName) (rest : X → T → List Q)
    → ((answer : X) (middle : Asked T Q)
    → (state_of (goes answer middle)).asked ≡ with_asked middle.asked (rest answer middle.state))
    → (state_of (then_ended (keep_asked (with_asked asked (question ∷ [])) first) goes)).asked
    ≡ with_asked asked (question ∷ asked_then first rest)
then_listed (ends answer state) asked question goes rest same =
    same answer (record { state = state; asked = with_asked asked (question ∷ []) })
    ∙ asked_twice asked (question ∷ []) (rest answer state)
then_listed (stopped stop state) asked question goes rest same = refl

asked_listed : {T Q : Type 0} {A : Q → Type 0} {X : Type 0} (answers : Answers T LimitName Q A) (before : Asked T Q)
    (asking : Asking Q A X) → (state_of (evaluated (listed answers) before asking)).asked
    ≡ with_asked before.asked (asked_to_end answers before.state asking)
asked_listed answers before (answered value) = sym (asked_none before.asked)
asked_listed answers before (ask question next) =
    then_listed (answers before.state question) before.asked question
    (λ answer middle. evaluated (listed answers) middle (next answer))
    (λ answer after. asked_to_end answers after (next answer))
    (λ answer middle. asked_listed answers middle (next answer))

all_asked : (sights : Sights) (config : Config)
    → asked_by_end sights config ≡ Some (asked_to_end (answers sights) no_trail (trace config))
all_asked sights config = asked_listed (answers sights) none_asked (trace config)

each_fresh : {Q : Type 0} (asked : List Q) → length (filter (λ question. true) asked) ≡ length asked
each_fresh [] = refl
each_fresh (question ∷ asked) = (let e = each_fresh asked in omega (arith, e))

steps_told : (is_fresh later_fresh : Freshness) (keeping later_keeping : Keeping) (told : Option Tree) (stays others : Stays) (taken spent later : ℕ)
    (config : Config) (before after : State) (result : Result Gathered TraceFault) → before.folder.holds ≡ told
    → spent ≡ later → before.trail ≡ no_trail
    → Met (answers_of is_fresh keeping stays taken before) (trace config) result (answers_of later_fresh later_keeping others spent after)
    → IfSome told
    (λ tree. (sights : Sights) → Sees tree before.known sights → StepsByFresh is_fresh sights config taken later)
steps_told is_fresh later_fresh keeping later_keeping None stays others taken spent later config before after result holds same first met = tt
steps_told is_fresh later_fresh keeping later_keeping (Some tree) stays others taken spent later config before after result holds same first met = λ sights sees.
    record {
      asked = asked_to_end (answers sights) no_trail (trace config);
      are = all_asked sights config;
      steps = (let some : spent ≤ taken + length (filter (is_fresh sights) (asked_to_end (answers sights) before.trail (trace config))) =
          met.steps (told_by is_fresh sights)
          (record { tree = tree; sights = sights; holds = holds; sees = sees; are = refl }) in
          let here = ap (λ trail. length (filter (is_fresh sights) (asked_to_end (answers sights) trail (trace config)))) first in
          omega (arith, some, here, same));
    }

-- no more steps than fresh questions
pub takes_fresh : (is_fresh later_fresh : Freshness) (keeping later_keeping : Keeping) (stays others : Stays) (taken spent later : ℕ) (config : Config)
    (before after : State) (result : Result Gathered TraceFault) → spent ≡ later → before.trail ≡ no_trail
    → Met (answers_of is_fresh keeping stays taken before) (trace config) result (answers_of later_fresh later_keeping others spent after)
    → TakesFreshSteps is_fresh config before.folder before.known taken later
takes_fresh is_fresh later_fresh keeping later_keeping stays others taken spent later config before after result same first met =
    steps_told is_fresh later_fresh keeping later_keeping before.folder.holds stays others taken spent later config before after result refl same first met

by_questions : (sights : Sights) (config : Config) (taken spent : ℕ) → StepsByFresh all_fresh sights config taken spent
    → StepsByQuestions sights config taken spent
by_questions sights config taken spent by = record {
  asked = by.asked;
  are = by.are;
  steps = (let all = each_fresh by.asked in let some = by.steps in omega (arith, some, all));
}

pub takes_to_end : (stays others : Stays) (taken spent later : ℕ) (config : Config) (before after : State)
    (result : Result Gathered TraceFault) → spent ≡ later → before.trail ≡ no_trail
    → Met (answers_of all_fresh all_kept stays taken before) (trace config) result (answers_of all_fresh all_kept others spent after)
    → TakesStepsToEnd config before.folder before.known taken later
takes_to_end stays others taken spent later config before after result same first met =
    if_some
    {P = λ tree. (sights : Sights) → Sees tree before.known sights → StepsByFresh all_fresh sights config taken later}
    {Q = λ tree. (sights : Sights) → Sees tree before.known sights → StepsByQuestions sights config taken later}
    before.folder.holds (λ tree each sights sees. by_questions sights config taken later (each sights sees))
    (takes_fresh all_fresh all_fresh all_kept all_kept stays others taken spent later config before after result same first met)

pub takes_nothing : (told : Option Tree) (known : Known) (config : Config) (taken : ℕ) → IfSome told
    (λ tree. (sights : Sights) → Sees tree known sights → StepsByQuestions sights config taken taken)
takes_nothing told known config taken =
    if_all told
    (λ tree sights sees. record {
      asked = asked_to_end (answers sights) no_trail (trace config);
      are = all_asked sights config;
      steps = omega arith;
    })
