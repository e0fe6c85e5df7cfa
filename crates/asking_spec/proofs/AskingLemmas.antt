-- What askings come to and ask, by their structure.
use Rattle.std.specs.Prelude.{◌≡◌, ◌++◌, ◌∷◌, Result, Ok, Err, refl}
use Rattle.std.proofs.Common.{ap, ◌∙◌, sym}
use Rattle.std.proofs.lemmas.List.Elements.{All-head, All-tail}
use Rattle.asking_spec.specs.Askings.{Asking, answered, ask, outcome, questions, and_then, on_ok, and_ok}
use Rattle.asking_spec.specs.Laws.{AgreesOn}

pub outcome_then : {Q : Type 0} {A : Q → Type 0} {X Y : Type 0} (answers : (question : Q) → A question)
    (asking : Asking Q A X) (next : X → Asking Q A Y)
    → outcome answers (and_then asking next) ≡ outcome answers (next (outcome answers asking))
outcome_then answers (answered value) next = refl
outcome_then answers (ask question more) next = outcome_then answers (more (answers question)) next

pub questions_then : {Q : Type 0} {A : Q → Type 0} {X Y : Type 0} (answers : (question : Q) → A question)
    (asking : Asking Q A X) (next : X → Asking Q A Y)
    → questions answers (and_then asking next)
    ≡ questions answers asking ++ questions answers (next (outcome answers asking))
questions_then answers (answered value) next = refl
questions_then answers (ask question more) next =
    ap (λ qs. question ∷ qs) (questions_then answers (more (answers question)) next)

pub same_by_questions : {Q : Type 0} {A : Q → Type 0} {X : Type 0} (one other : (question : Q) → A question)
    (asking : Asking Q A X) → AgreesOn one other (questions one asking)
    → (outcome one asking ≡ outcome other asking) × (questions one asking ≡ questions other asking)
same_by_questions one other (answered value) agrees = (refl, refl)
same_by_questions {Q} {A} {X} one other (ask question next) agrees =
    let Same : Q → Type 0 = λ q. one q ≡ other q in
    let first : one question ≡ other question =
    All-head Same question (questions one (next (one question))) agrees.each in
    let rest =
    same_by_questions one other (next (one question))
    (record { each = All-tail Same question (questions one (next (one question))) agrees.each }) in (
      rest.0 ∙ ap (λ a. outcome other (next a)) first,
      ap (λ qs. question ∷ qs) (rest.1 ∙ ap (λ a. questions other (next a)) first),
    )

-- ---- what goes on behind an `Ok`

pub record OkParts {X Y R : Type 0} (first : Result X R) (next : X → Result Y R) (last : Y) : Type 0 where
  pub value : X
  pub first_is : first ≡ Ok value
  pub next_is : next value ≡ Ok last

ok_by : {Q : Type 0} {A : Q → Type 0} {X Y R : Type 0} (answers : (question : Q) → A question)
    (next : X → Asking Q A (Result Y R)) (last : Y) (first : Result X R) → outcome answers (on_ok next first) ≡ Ok last
    → OkParts first (λ x. outcome answers (next x)) last
ok_by answers next last (Ok value) e = record { value = value; first_is = refl; next_is = e }
ok_by answers next last (Err refusal) e = absurd (cc)

pub ok_parts : {Q : Type 0} {A : Q → Type 0} {X Y R : Type 0} (answers : (question : Q) → A question)
    (asking : Asking Q A (Result X R)) (next : X → Asking Q A (Result Y R)) (last : Y)
    → outcome answers (and_ok asking next) ≡ Ok last
    → OkParts (outcome answers asking) (λ x. outcome answers (next x)) last
ok_parts answers asking next last e =
    ok_by answers next last (outcome answers asking) (sym (outcome_then answers asking (on_ok next)) ∙ e)

pub ok_then : {Q : Type 0} {A : Q → Type 0} {X Y R : Type 0} (answers : (question : Q) → A question)
    (asking : Asking Q A (Result X R)) (next : X → Asking Q A (Result Y R)) (value : X)
    → outcome answers asking ≡ Ok value → outcome answers (and_ok asking next) ≡ outcome answers (next value)
ok_then answers asking next value e =
    outcome_then answers asking (on_ok next) ∙ ap (λ first. outcome answers (on_ok next first)) e

pub questions_ok : {Q : Type 0} {A : Q → Type 0} {X Y R : Type 0} (answers : (question : Q) → A question)
    (asking : Asking Q A (Result X R)) (next : X → Asking Q A (Result Y R)) (value : X)
    → outcome answers asking ≡ Ok value
    → questions answers (and_ok asking next) ≡ questions answers asking ++ questions answers (next value)
questions_ok answers asking next value e =
    questions_then answers asking (on_ok next)
    ∙ ap (λ r. questions answers asking ++ questions answers (on_ok next r)) e
