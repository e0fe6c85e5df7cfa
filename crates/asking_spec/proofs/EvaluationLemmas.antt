-- What evaluations come to.
use Rattle.std.specs.Prelude.{◌≡◌, ◌++◌, ◌∷◌, [], List, Option, Some, None, Result, Ok, Err, refl}
use Rattle.std.proofs.Common.{sym, ap, ◌∙◌, subst, append_assoc, append-nil}
use Rattle.asking_spec.specs.Askings.{Asking, answered, ask, outcome, questions, and_then, on_ok, and_ok, through}
use Rattle.asking_spec.specs.Evaluation.{Ended, ends, stopped, then_ended, Answers, evaluated, Asked, with_asked}
use Rattle.asking_spec.specs.Evaluation.{keep_asked, listed, unlisted, AreAlways}
use Rattle.asking_spec.specs.Laws.{IsOutcome}

then_same : {X Y T S : Type 0} (first : Ended X T S) (one other : X → T → Ended Y T S)
    → ((x : X) (t : T) → one x t ≡ other x t) → then_ended first one ≡ then_ended first other
then_same (ends value state) one other same = same value state
then_same (stopped stop state) one other same = refl

then_twice : {X Y Z T S : Type 0} (first : Ended X T S) (next : X → T → Ended Y T S) (last : Y → T → Ended Z T S)
    → then_ended (then_ended first next) last ≡ then_ended first (λ x t. then_ended (next x t) last)
then_twice (ends value state) next last = refl
then_twice (stopped stop state) next last = refl

pub evaluated_then : {T S Q : Type 0} {A : Q → Type 0} {X Y : Type 0} (answers : Answers T S Q A) (state : T)
    (asking : Asking Q A X) (next : X → Asking Q A Y)
    → evaluated answers state (and_then asking next)
    ≡ then_ended (evaluated answers state asking) (λ value after. evaluated answers after (next value))
evaluated_then answers state (answered value) next = refl
evaluated_then answers state (ask question more) next =
    then_same (answers state question) _ _ (λ answer after. evaluated_then answers after (more answer) next)
    ∙ sym (then_twice (answers state question) (λ answer after. evaluated answers after (more answer))
    (λ value after. evaluated answers after (next value)))

pub evaluated_through : {T S P : Type 0} {B : P → Type 0} {Q : Type 0} {A : Q → Type 0} {X : Type 0}
    (answers : Answers T S P B) (of : (question : Q) → Asking P B (A question)) (state : T) (asking : Asking Q A X)
    → evaluated answers state (through of asking)
    ≡ evaluated (λ before question. evaluated answers before (of question)) state asking
evaluated_through answers of state (answered value) = refl
evaluated_through answers of state (ask question next) =
    evaluated_then answers state (of question) (λ answer. through of (next answer))
    ∙ then_same (evaluated answers state (of question)) _ _
    (λ answer after. evaluated_through answers of after (next answer))

-- ---- what goes on behind an `Ok`

pub ends_then : {T S Q : Type 0} {A : Q → Type 0} {X Y R : Type 0} (answers : Answers T S Q A) (state after : T)
    (asking : Asking Q A (Result X R)) (next : X → Asking Q A (Result Y R)) (value : X)
    → evaluated answers state asking ≡ ends (Ok value) after
    → evaluated answers state (and_ok asking next) ≡ evaluated answers after (next value)
ends_then answers state after asking next value e =
    evaluated_then answers state asking (on_ok next)
    ∙ ap (λ first. then_ended first (λ r t. evaluated answers t (on_ok next r))) e

pub refused_then : {T S Q : Type 0} {A : Q → Type 0} {X Y R : Type 0} (answers : Answers T S Q A) (state after : T)
    (asking : Asking Q A (Result X R)) (next : X → Asking Q A (Result Y R)) (refusal : R)
    → evaluated answers state asking ≡ ends (Err refusal) after
    → evaluated answers state (and_ok asking next) ≡ ends (Err refusal) after
refused_then answers state after asking next refusal e =
    evaluated_then answers state asking (on_ok next)
    ∙ ap (λ first. then_ended first (λ r t. evaluated answers t (on_ok next r))) e

pub stopped_then : {T S Q : Type 0} {A : Q → Type 0} {X Y R : Type 0} (answers : Answers T S Q A) (state after : T)
    (asking : Asking Q A (Result X R)) (next : X → Asking Q A (Result Y R)) (stop : S)
    → evaluated answers state asking ≡ stopped stop after
    → evaluated answers state (and_ok asking next) ≡ stopped stop after
stopped_then answers state after asking next stop e =
    evaluated_then answers state asking (on_ok next)
    ∙ ap (λ first. then_ended first (λ r t. evaluated answers t (on_ok next r))) e

-- ---- the list of questions

asked_twice : {Q : Type 0} (asked : Option (List Q)) (some more : List Q)
    → with_asked (with_asked asked some) more ≡ with_asked asked (some ++ more)
asked_twice None some more = refl
asked_twice (Some questions) some more = ap Some (append_assoc questions some more)

pub asked_none : {Q : Type 0} (asked : Option (List Q)) → with_asked asked [] ≡ asked
asked_none None = refl
asked_none (Some questions) = ap Some (append-nil questions)

comes_by : {T S Q : Type 0} {A : Q → Type 0} {X : Type 0} (answers : Answers T S Q A)
    (always : (question : Q) → A question) (before : Asked T Q) (question : Q) (next : A question → Asking Q A X)
    (value : X) (after : Asked T Q)
    → (first : Ended (A question) T S) → ((answer : A question) (state : T) → first ≡ ends answer state
    → answer ≡ always question)
    → ((answer : A question) (middle : Asked T Q) → evaluated (listed answers) middle (next answer) ≡ ends value after
    → IsOutcome always middle.asked (next answer) value after.asked)
    → then_ended (keep_asked (with_asked before.asked (question ∷ [])) first)
    (λ answer middle. evaluated (listed answers) middle (next answer)) ≡ ends value after
    → IsOutcome always before.asked (ask question next) value after.asked
comes_by answers always before question next value after (stopped stop state) are rest e = absurd (cc)
comes_by answers always before question next value after (ends answer state) are rest e =
    let found = rest answer (record { state = state; asked = with_asked before.asked (question ∷ []) }) e in
    let is : answer ≡ always question = are answer state refl in
    record {
      is = found.is ∙ ap (λ a. outcome always (next a)) is;
      asked = found.asked ∙ (asked_twice before.asked (question ∷ []) (questions always (next answer))
          ∙ ap (λ a. with_asked before.asked (question ∷ questions always (next a))) is);
    }

pub evaluated_comes : {T S Q : Type 0} {A : Q → Type 0} {X : Type 0} (answers : Answers T S Q A)
    (always : (question : Q) → A question) → AreAlways answers always
    → (before : Asked T Q) (asking : Asking Q A X) (value : X) (after : Asked T Q)
    → evaluated (listed answers) before asking ≡ ends value after
    → IsOutcome always before.asked asking value after.asked
evaluated_comes answers always are before (answered value) other after e =
    let is : value ≡ other = cc in
    let same : before ≡ after = cc in
    record { is = sym is; asked = sym (ap (λ a. a.asked) same) ∙ sym (asked_none before.asked) }
evaluated_comes answers always are before (ask question next) value after e =
    comes_by answers always before question next value after (answers before.state question)
    (λ answer state is. are before.state state question answer is)
    (λ answer middle later. evaluated_comes answers always are middle (next answer) value after later) e

listed_by : {T S Q : Type 0} {A : Q → Type 0} {X : Type 0} (answers : Answers T S Q A) (asked : Option (List Q))
    (question : Q) (next : A question → Asking Q A X)
    → ((answer : A question) (before : Asked T Q)
    → unlisted (evaluated (listed answers) before (next answer)) ≡ evaluated answers before.state (next answer))
    → (first : Ended (A question) T S)
    → unlisted (then_ended (keep_asked asked first) (λ answer middle. evaluated (listed answers) middle (next answer)))
    ≡ then_ended first (λ answer after. evaluated answers after (next answer))
listed_by answers asked question next rest (ends answer state) = rest answer (record { state = state; asked = asked })
listed_by answers asked question next rest (stopped stop state) = refl

pub evaluated_listed : {T S Q : Type 0} {A : Q → Type 0} {X : Type 0} (answers : Answers T S Q A) (before : Asked T Q)
    (asking : Asking Q A X) → unlisted (evaluated (listed answers) before asking)
    ≡ evaluated answers before.state asking
evaluated_listed answers before (answered value) = refl
evaluated_listed answers before (ask question next) =
    listed_by answers (with_asked before.asked (question ∷ [])) question next
    (λ answer middle. evaluated_listed answers middle (next answer)) (answers before.state question)

-- ---- stops

-- what holds of each stop of an answer holds of each stop of an evaluation
stops_by : {T S Q : Type 0} {A : Q → Type 0} {X : Type 0} (Is : S → Type 0) (answers : Answers T S Q A)
    (question : Q) (next : A question → Asking Q A X) (stop : S) (after : T)
    → ((answer : A question) (middle : T) → evaluated answers middle (next answer) ≡ stopped stop after → Is stop)
    → (first : Ended (A question) T S) → ((other : S) (middle : T) → first ≡ stopped other middle → Is other)
    → then_ended first (λ answer middle. evaluated answers middle (next answer)) ≡ stopped stop after → Is stop
stops_by Is answers question next stop after rest (ends answer middle) are e = rest answer middle e
stops_by Is answers question next stop after rest (stopped other middle) are e =
    let same : other ≡ stop = cc in
    subst Is same (are other middle refl)

pub evaluated_stops : {T S Q : Type 0} {A : Q → Type 0} {X : Type 0} (Is : S → Type 0) (answers : Answers T S Q A)
    → ((state after : T) (question : Q) (stop : S) → answers state question ≡ stopped stop after → Is stop)
    → (state after : T) (asking : Asking Q A X) (stop : S) → evaluated answers state asking ≡ stopped stop after
    → Is stop
evaluated_stops Is answers are state after (answered value) stop e = absurd (cc)
evaluated_stops Is answers are state after (ask question next) stop e =
    stops_by Is answers question next stop after
    (λ answer middle f. evaluated_stops Is answers are middle after (next answer) stop f)
    (answers state question) (λ other middle f. are state middle question other f) e

-- ---- outcomes

-- where an evaluation ends, it comes to the outcome of the answers that are always given
ends_by : {T S Q : Type 0} {A : Q → Type 0} {X : Type 0} (answers : Answers T S Q A)
    (always : (question : Q) → A question) (question : Q) (next : A question → Asking Q A X) (value : X) (after : T)
    → (first : Ended (A question) T S) → ((answer : A question) (state : T) → first ≡ ends answer state
    → answer ≡ always question) → ((answer : A question) (middle : T)
    → evaluated answers middle (next answer) ≡ ends value after → value ≡ outcome always (next answer))
    → then_ended first (λ answer middle. evaluated answers middle (next answer)) ≡ ends value after
    → value ≡ outcome always (next (always question))
ends_by answers always question next value after (stopped stop state) are rest e = absurd (cc)
ends_by answers always question next value after (ends answer state) are rest e =
    rest answer state e ∙ ap (λ a. outcome always (next a)) (are answer state refl)

pub ends_outcome : {T S Q : Type 0} {A : Q → Type 0} {X : Type 0} (answers : Answers T S Q A)
    (always : (question : Q) → A question) → AreAlways answers always
    → (state after : T) (asking : Asking Q A X) (value : X) → evaluated answers state asking ≡ ends value after
    → value ≡ outcome always asking
ends_outcome answers always are state after (answered other) value e = let is : other ≡ value = cc in sym is
ends_outcome answers always are state after (ask question next) value e =
    ends_by answers always question next value after (answers state question)
    (λ answer later is. are state later question answer is)
    (λ answer middle later. ends_outcome answers always are middle after (next answer) value later) e
