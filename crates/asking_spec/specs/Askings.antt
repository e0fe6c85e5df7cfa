-- What asks questions one after another, and goes on by their answers.
--     Asking Q A X                an asking of questions `Q` that comes to an `X`; the type of an answer goes by its
--                                 question
--     answered value              nothing is left to ask
--     ask question next           the question, and how the asking goes on by its answer
--     outcome answers asking      what it comes to, where `answers` has the answer to each question
--     questions answers asking    what it asks on the way, in order
--     and_then asking next        the one and then the next, by what the first came to
--     and_ok asking next          the same where the first came to `Ok`; an `Err` is handed on
--     through of asking           each question is put as an asking of other questions
use Rattle.std.specs.Prelude.{List, [], ◌∷◌, Result, Ok, Err}

pub data Asking (Q : Type 0) (A : Q → Type 0) (X : Type 0) : Type 0 where
  answered : X → Asking Q A X
  ask : (question : Q) → (A question → Asking Q A X) → Asking Q A X

abbrev pub outcome : {Q : Type 0} {A : Q → Type 0} {X : Type 0} → ((question : Q) → A question) → Asking Q A X → X
outcome answers (answered value) = value
outcome answers (ask question next) = outcome answers (next (answers question))

abbrev pub questions : {Q : Type 0} {A : Q → Type 0} {X : Type 0} → ((question : Q) → A question) → Asking Q A X
    → List Q
questions answers (answered value) = []
questions answers (ask question next) = question ∷ questions answers (next (answers question))

abbrev pub and_then : {Q : Type 0} {A : Q → Type 0} {X Y : Type 0} → Asking Q A X → (X → Asking Q A Y) → Asking Q A Y
and_then (answered value) next = next value
and_then (ask question more) next = ask question (λ answer. and_then (more answer) next)

-- what comes after an `Ok`
abbrev pub on_ok : {Q : Type 0} {A : Q → Type 0} {X Y R : Type 0} → (X → Asking Q A (Result Y R)) → Result X R
    → Asking Q A (Result Y R)
on_ok next (Ok value) = next value
on_ok next (Err refusal) = answered (Err refusal)

abbrev pub and_ok : {Q : Type 0} {A : Q → Type 0} {X Y R : Type 0} → Asking Q A (Result X R)
    → (X → Asking Q A (Result Y R)) → Asking Q A (Result Y R)
and_ok asking next = and_then asking (on_ok next)

abbrev pub through : {P : Type 0} {B : P → Type 0} {Q : Type 0} {A : Q → Type 0} {X : Type 0}
    → ((question : Q) → Asking P B (A question)) → Asking Q A X → Asking P B X
through of (answered value) = answered value
through of (ask question next) = and_then (of question) (λ answer. through of (next answer))
