-- Askings whose answers see a state and change it, as looks change what was looked at, and may stop the asking, as a
-- limit does.
--     Ended X T S                       a value `X` or a stop `S`, with the state `T` behind it
--     Answers T S Q A                   the answer to each question, or what stops it, in each state
--     evaluated answers state asking    what the asking comes to, begun in a state
--     Asked T Q                         a state, and the list of the questions so far, where it is told
--     listed answers                    the same answers, with each question put at the end of the list
--     AreAlways answers always          in each state the answer to a question is this one, unless it stops
use Rattle.std.specs.Prelude.{◌≡◌, ◌++◌, ◌∷◌, [], List, Option, option_map}
use Rattle.asking_spec.specs.Askings.{Asking, answered, ask}

pub data Ended (X T S : Type 0) : Type 0 where
  ends : X → T → Ended X T S
  stopped : S → T → Ended X T S

abbrev pub Answers : (T S Q : Type 0) → (Q → Type 0) → Type 0
Answers T S Q A = T → (question : Q) → Ended (A question) T S

-- goes on behind a value
abbrev pub then_ended : {X Y T S : Type 0} → Ended X T S → (X → T → Ended Y T S) → Ended Y T S
then_ended (ends value state) next = next value state
then_ended (stopped stop state) next = stopped stop state

abbrev pub evaluated : {T S Q : Type 0} {A : Q → Type 0} {X : Type 0} → Answers T S Q A → T → Asking Q A X
    → Ended X T S
evaluated answers state (answered value) = ends value state
evaluated answers state (ask question next) =
    then_ended (answers state question) (λ answer after. evaluated answers after (next answer))

abbrev pub AreAlways : {T S Q : Type 0} {A : Q → Type 0} → Answers T S Q A → ((question : Q) → A question) → Type 0
AreAlways {T} {S} {Q} {A} answers always =
    (state after : T) (question : Q) (answer : A question) → answers state question ≡ ends answer after
    → answer ≡ always question

-- ---- the list of questions

pub record Asked (T Q : Type 0) : Type 0 where
  pub state : T
  pub asked : Option (List Q)

-- the list with more questions at its end, where it is told
abbrev pub with_asked : {Q : Type 0} → Option (List Q) → List Q → Option (List Q)
with_asked asked more = option_map (λ questions. questions ++ more) asked

-- the same end, with the list beside its state
abbrev pub keep_asked : {X T S Q : Type 0} → Option (List Q) → Ended X T S → Ended X (Asked T Q) S
keep_asked asked (ends value state) = ends value (record { state = state; asked = asked })
keep_asked asked (stopped stop state) = stopped stop (record { state = state; asked = asked })

abbrev pub listed : {T S Q : Type 0} {A : Q → Type 0} → Answers T S Q A → Answers (Asked T Q) S Q A
listed answers before question = keep_asked (with_asked before.asked (question ∷ [])) (answers before.state question)

-- the same end without the list
abbrev pub unlisted : {X T S Q : Type 0} → Ended X (Asked T Q) S → Ended X T S
unlisted (ends value after) = ends value after.state
unlisted (stopped stop after) = stopped stop after.state
