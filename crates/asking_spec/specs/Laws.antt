-- The laws of askings, for all types of questions and values, and all families of types of answers, one for each
-- question.
use Rattle.std.specs.Prelude.{◌≡◌, ◌++◌, List, Option, All}
use Rattle.asking_spec.specs.Askings.{Asking, outcome, questions, and_then, through}
use Rattle.asking_spec.specs.Evaluation.{ends, then_ended, Answers, evaluated, Asked, with_asked, listed, unlisted}
use Rattle.asking_spec.specs.Evaluation.{AreAlways}

-- what an asking and the next come to is what the next comes to
abbrev pub OutcomeThen : (Q : Type 0) (A : Q → Type 0) (X Y : Type 0) → Type 0
OutcomeThen Q A X Y =
    (answers : (question : Q) → A question) (asking : Asking Q A X) (next : X → Asking Q A Y)
    → outcome answers (and_then asking next) ≡ outcome answers (next (outcome answers asking))

-- they ask the questions of the one and then those of the next
abbrev pub QuestionsThen : (Q : Type 0) (A : Q → Type 0) (X Y : Type 0) → Type 0
QuestionsThen Q A X Y =
    (answers : (question : Q) → A question) (asking : Asking Q A X) (next : X → Asking Q A Y)
    → questions answers (and_then asking next)
    ≡ questions answers asking ++ questions answers (next (outcome answers asking))

-- two askings one after another are evaluated one after another
abbrev pub EvaluatedThen : (T S Q : Type 0) (A : Q → Type 0) (X Y : Type 0) → Type 0
EvaluatedThen T S Q A X Y =
    (answers : Answers T S Q A) (state : T) (asking : Asking Q A X) (next : X → Asking Q A Y)
    → evaluated answers state (and_then asking next)
    ≡ then_ended (evaluated answers state asking) (λ value after. evaluated answers after (next value))

-- where each question is put as an asking, it is answered by the evaluation of that asking
abbrev pub EvaluatedThrough : (T S P : Type 0) (B : P → Type 0) (Q : Type 0) (A : Q → Type 0) (X : Type 0) → Type 0
EvaluatedThrough T S P B Q A X =
    (answers : Answers T S P B) (of : (question : Q) → Asking P B (A question)) (state : T) (asking : Asking Q A X)
    → evaluated answers state (through of asking)
    ≡ evaluated (λ before question. evaluated answers before (of question)) state asking

-- the two answer each question of the list alike
pub record AgreesOn {Q : Type 0} {A : Q → Type 0} (one other : (question : Q) → A question)
    (asked : List Q) : Type 0 where
  pub each : All (λ question. one question ≡ other question) asked

-- answers that agree on the questions that are asked under the first give one outcome and the same questions
abbrev pub SameByQuestions : (Q : Type 0) (A : Q → Type 0) (X : Type 0) → Type 0
SameByQuestions Q A X =
    (one other : (question : Q) → A question) (asking : Asking Q A X) → AgreesOn one other (questions one asking)
    → (outcome one asking ≡ outcome other asking) × (questions one asking ≡ questions other asking)

-- the value is the outcome under these answers, and the list is the one before with the questions asked at its end
pub record IsOutcome {Q : Type 0} {A : Q → Type 0} {X : Type 0} (always : (question : Q) → A question)
    (before : Option (List Q)) (asking : Asking Q A X) (value : X) (after : Option (List Q)) : Type 0 where
  pub is : value ≡ outcome always asking
  pub asked : after ≡ with_asked before (questions always asking)

-- where nothing stops it, an asking comes to the outcome of the answers that are always given, and puts its questions
-- to the list, each at its place
abbrev pub EvaluatedComes : (T S Q : Type 0) (A : Q → Type 0) (X : Type 0) → Type 0
EvaluatedComes T S Q A X =
    (answers : Answers T S Q A) (always : (question : Q) → A question) → AreAlways answers always
    → (before : Asked T Q) (asking : Asking Q A X) (value : X) (after : Asked T Q)
    → evaluated (listed answers) before asking ≡ ends value after
    → IsOutcome always before.asked asking value after.asked

-- to list the questions changes neither what an asking comes to nor the state
abbrev pub EvaluatedListed : (T S Q : Type 0) (A : Q → Type 0) (X : Type 0) → Type 0
EvaluatedListed T S Q A X =
    (answers : Answers T S Q A) (before : Asked T Q) (asking : Asking Q A X)
    → unlisted (evaluated (listed answers) before asking) ≡ evaluated answers before.state asking
