-- What is known of answers from outside, and what a call that asks for them comes to.
--     Told T Q A                       answers, at which paths each question looks in each state until it ends or is
--                                      stopped, and whether it is fresh: the answer to another one is kept; and what
--                                      stands at each path
--     Outside T Q A                    which answers are those that are told; the state that they see; how many looks
--                                      failed; how many steps were taken; what stays as it is; what was looked at, and
--                                      is known; and of which questions an answer is kept
--     Kept                             what looks leave as it is
--     fine asking                      an asking whose value is `Ok`
--     IsTold result                    no failed look and no want of memory ended the call
--     Comes answers before asking result after     by these answers the asking comes to this, and leaves that state
--     asked_to_end answers state asking    the questions that an evaluation asks until it ends or is stopped, in order
--     fresh_to_end told state asking       the fresh ones among them
--     Met before asking result after   the call comes to what the asking comes to, unless a look fails or memory is
--                                      wanting; it takes at most one step for each fresh question; what it learns of
--                                      the folder; what is kept stays so, and where it ends well, an answer is kept of
--                                      each question that it asked
--     looks_to_end told state asking   the paths at which those questions look
--     IsAskedBy before asking path     the questions that the asking asks until it ends or is stopped look at the path, by
--                                      all answers that are told
--     AnswererState                    the answers to the questions of a walk, which see a trail of looks
use Rattle.std.specs.Prelude.{◌≡◌, ◌≢◌, ◌≤◌, ◌+◌, ℕ, Bool, List, [], ◌∷◌, length, filter, ◌++◌, All, Contains, Option}
use Rattle.std.specs.Prelude.{Result, Ok, Err}
use Rattle.asking_spec.specs.Askings.{Asking, answered, ask, and_then}
use Rattle.asking_spec.specs.Evaluation.{Ended, ends, stopped, Answers, evaluated}
use Rattle.tree_spec.specs.declared.LimitName.{LimitName}
use Rattle.tree_spec.specs.Counts.{Rose}
use Rattle.tree_spec.specs.LookAskings.{Sights}
use Rattle.tree_spec.specs.LookLimits.{Trail}
use Rattle.tree_spec.specs.Trees.{Tree}
use Rattle.trace_spec.specs.declared.TraceFault.{TraceFault}
use Rattle.trace_spec.specs.declared.TraceFault.TheVariants.{ReadFault, Memory}
use Rattle.trace_spec.specs.Questions.{Question, Answer}
use Rattle.trace_spec.specs.Traces.{result_of, state_of}
use Rattle.package_lookup.specs.Answered.{State, IsCovered}
use Rattle.package_lookup.specs.Learning.{Learns}

-- the references to what is outside, and names; what that holds where it is told, and how many writes failed
pub record Kept : Type 0 where
  pub references : List ℕ
  pub names : List (List ℕ)
  pub holds : Option Tree
  pub writes : ℕ

pub record Told (T Q : Type 0) (A : Q → Type 0) : Type 0 where
  pub answers : Answers T LimitName Q A
  pub looks : T → Q → List (List ℕ)
  pub fresh : Q → Bool
  pub stands : Sights

-- own: more than one answer can be told where what is known leaves more than one open
pub record Outside (T Q : Type 0) (A : Q → Type 0) : Type 1 where
  pub told : Told T Q A → Type 0
  pub state : T
  pub faults : ℕ
  pub steps : ℕ
  pub keeps : Kept
  pub looks : State
  pub is_kept : Sights → Q → Type 0

abbrev pub fine : {Q : Type 0} {A : Q → Type 0} {X : Type 0} → Asking Q A X → Asking Q A (Result X TraceFault)
fine asking = and_then asking (λ value. answered (Ok value))

-- goes on behind an answer
abbrev pub asked_then : {X T S Q : Type 0} → Ended X T S → (X → T → List Q) → List Q
asked_then (ends answer state) next = next answer state
asked_then (stopped stop state) next = []

abbrev pub asked_to_end : {T S Q : Type 0} {A : Q → Type 0} {X : Type 0} → Answers T S Q A → T → Asking Q A X → List Q
asked_to_end answers state (answered value) = []
asked_to_end answers state (ask question next) =
    question ∷ asked_then (answers state question) (λ answer after. asked_to_end answers after (next answer))

abbrev pub looks_to_end : {T Q : Type 0} {A : Q → Type 0} {X : Type 0} → Told T Q A → T → Asking Q A X
    → List (List ℕ)
looks_to_end told state (answered value) = []
looks_to_end told state (ask question next) =
    told.looks state question
    ++ asked_then (told.answers state question) (λ answer after. looks_to_end told after (next answer))

-- own: behind a question that is stopped nothing is asked
abbrev pub IsAskedBy : {T Q X : Type 0} {A : Q → Type 0} → Outside T Q A → Asking Q A X → List ℕ → Type 0
IsAskedBy {T} {Q} {X} {A} before asking path =
    (told : Told T Q A) → before.told told → Contains (looks_to_end told before.state asking) path

abbrev pub fresh_to_end : {T Q : Type 0} {A : Q → Type 0} {X : Type 0} → Told T Q A → T → Asking Q A X → List Q
fresh_to_end told state asking = filter told.fresh (asked_to_end told.answers state asking)

-- the call wasn't ended by a look that failed, nor by want of memory
abbrev pub IsTold : {X : Type 0} → Result X TraceFault → Type 0
IsTold result = (result ≢ Err ReadFault) × (result ≢ Err Memory)

pub record Comes {T Q X : Type 0} {A : Q → Type 0} (answers : Answers T LimitName Q A) (before : T)
    (asking : Asking Q A (Result X TraceFault)) (result : Result X TraceFault) (after : T) : Type 0 where
  pub is : result_of (evaluated answers before asking) ≡ result
  pub leaves : state_of (evaluated answers before asking) ≡ after

pub record Met {T Q X : Type 0} {A : Q → Type 0} (before : Outside T Q A) (asking : Asking Q A (Result X TraceFault))
    (result : Result X TraceFault) (after : Outside T Q A) : Type 0 where
  pub comes :
      (told : Told T Q A) → before.told told → IsTold result
      → Comes told.answers before.state asking result after.state
  pub told : (told : Told T Q A) → before.told told → after.told told
  pub keeps : after.keeps ≡ before.keeps
  pub later : before.faults ≤ after.faults
  pub cause : result ≡ Err ReadFault → Rose before.faults after.faults
  pub quiet : result ≢ Err ReadFault → after.faults ≡ before.faults
  pub steps :
      (told : Told T Q A) → before.told told
      → after.steps ≤ before.steps + length (fresh_to_end told before.state asking)
  pub learns : Learns before.looks after.looks (result ≡ Err Memory) (IsAskedBy before asking)
  pub covered : result ≢ Err Memory → IsCovered before.looks → IsCovered after.looks
  pub still_kept :
      (told : Told T Q A) → before.told told → (question : Q) → before.is_kept told.stands question
      → after.is_kept told.stands question
  pub asked_kept :
      (told : Told T Q A) → before.told told → (value : X) → result ≡ Ok value
      → All (after.is_kept told.stands) (asked_to_end told.answers before.state asking)

abbrev pub AnswererState : Type 1
AnswererState = Outside Trail Question Answer
