-- A target's calls, one after another, each answered by the asking for its text.
--     Followed answers bares now last asked end      these calls lead from a state to this end; `last` is the answer so
--         far
--     brings out end            the target's outcome, where the calls end so
--     Answerer T S X            what an object that answers bare texts keeps
--     GivesBare answers bares before text answer after      one call of it
--     Calls gives before asked after      these calls of an object, one after another
--     IsTargetAnswer answers bares rules target before out after      what a target comes to as an asking, by what the
--         object keeps behind the calls
use Rattle.std.specs.Prelude.{◌≡◌, ℕ, Bool, true, false, List, [], ◌∷◌, Option, Some, None}
use Rattle.asking_spec.specs.Evaluation.{Ended, ends, stopped, then_ended, Answers, evaluated}
use Rattle.json_spec.specs.Value.{Json}
use Rattle.tree_spec.specs.declared.Entry.{Entry}
use Rattle.node_spec.specs.PackageTargetResolve.{Bares, Came, came, target_comes}
use Rattle.node_spec.specs.PackageTargets.{Rules, Call}
use Rattle.node_spec.specs.declared.BareAnswer.{BareAnswer}
use Rattle.node_spec.specs.declared.BareAnswer.TheVariants as bare_answer
use Rattle.node_spec.specs.declared.Outcome.{Outcome}

-- answers to looks, which see a state and change it
abbrev pub LookAnswers : Type 0 → Type 0 → Type 0
LookAnswers T S = Answers T S (List ℕ) (λ path. Option Entry)

-- own: what stops the asking for a text stops the calls
pub data Followed {T S X : Type 0} (answers : LookAnswers T S) (bares : Bares X)
    : T → Option X → List Call → Ended (Option X) T S → Type 0 where
  no_call : {now : T} {last : Option X} → Followed answers bares now last [] (ends last now)
  a_call :
      {now later : T} {last : Option X} {text : List ℕ} {answer : BareAnswer} {value : X} {more : List Call}
      {end : Ended (Option X) T S}
      → evaluated answers now (bares.ask text) ≡ ends value later → answer ≡ bares.judge value
      → Followed answers bares later (Some value) more end → Followed answers bares now last ((text, answer) ∷ more) end
  a_stop :
      {now after : T} {last : Option X} {text : List ℕ} {answer : BareAnswer} {more : List Call} {stop : S}
      → evaluated answers now (bares.ask text) ≡ stopped stop after → more ≡ []
      → Followed answers bares now last ((text, answer) ∷ more) (stopped stop after)

abbrev pub brings : {T S X : Type 0} → Outcome → Ended (Option X) T S → Ended (Came X) T S
brings out end = then_ended end (λ last after. ends (came out last) after)

-- ---- an object that answers the calls

-- own: what it keeps: the state, the full answer to the text that was asked last, what stopped it, and whether an
-- answer was lost, as where something outside failed
pub record Answerer (T S X : Type 0) : Type 0 where
  pub state : T
  pub last : Option X
  pub stop : Option S
  pub lost : Bool

-- one call
pub data GivesBare {T S X : Type 0} (answers : LookAnswers T S) (bares : Bares X) (before : Answerer T S X)
    (text : List ℕ) : BareAnswer → Answerer T S X → Type 0 where
  a_value :
      {value : X} {answer : BareAnswer} {after : Answerer T S X}
      → evaluated answers before.state (bares.ask text) ≡ ends value after.state → answer ≡ bares.judge value
      → after.last ≡ Some value → after.stop ≡ before.stop → after.lost ≡ before.lost
      → GivesBare answers bares before text answer after
  a_limit :
      {stop : S} {at : T} {answer : BareAnswer} {after : Answerer T S X}
      → evaluated answers before.state (bares.ask text) ≡ stopped stop at → answer ≡ bare_answer.Stop
      → after.stop ≡ Some stop → GivesBare answers bares before text answer after
  a_loss :
      {answer : BareAnswer} {after : Answerer T S X} → answer ≡ bare_answer.Stop → after.lost ≡ true
      → GivesBare answers bares before text answer after

-- these calls, one after another
abbrev pub Calls : {B : Type 0} → (B → List ℕ → BareAnswer → B → Type 0) → B → List Call → B → Type 0
Calls gives before [] after = after ≡ before
Calls {B} gives before (call ∷ more) after =
    (middle : B) × gives before call.0 call.1 middle × Calls gives middle more after

-- the target as an asking, by what the object keeps behind the calls
pub record IsTargetAnswer {T S X : Type 0} (answers : LookAnswers T S) (bares : Bares X) (rules : Rules) (target : Json)
    (before : Answerer T S X) (out : Outcome) (after : Answerer T S X) : Type 0 where
  pub value :
      after.lost ≡ false → after.stop ≡ None
      → evaluated answers before.state (target_comes bares rules target before.last)
      ≡ ends (came out after.last) after.state
  pub limit :
      (stop : S) → after.lost ≡ false → after.stop ≡ Some stop
      → (at : T) × (evaluated answers before.state (target_comes bares rules target before.last) ≡ stopped stop at)
