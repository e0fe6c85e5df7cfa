-- A walk ends with the tables of all its visits, or fails as the first visit that fails.
use Rattle.std.specs.Prelude.{◌≡◌, ◌≤◌, ◌+◌, ◌-◌, ◌↔◌, ℕ, zero, suc, List, [], ◌∷◌, ◌++◌, slice_get, length, Option}
use Rattle.std.specs.Prelude.{Some, None, Result, Ok, Err}
use Rattle.std.proofs.Common.{refl, sym, ap, ◌∙◌, subst, arith}
use Rattle.std.proofs.lemmas.Option.{slice_get_within}
use Rattle.asking_spec.specs.Askings.{Asking, answered, on_ok, and_ok}
use Rattle.asking_spec.specs.Evaluation.{Ended, ends, stopped, then_ended, Answers, evaluated}
use Rattle.asking_spec.proofs.EvaluationLemmas.{evaluated_then, ends_then, refused_then, stopped_then}
use Rattle.trace_spec.specs.Walking.{Referrer, the_page, a_module, Opened, Rules, followed, visited, where_some}
use Rattle.trace_spec.specs.Walking.{walked, walk}
use Rattle.trace_spec.specs.FirstRefusals.{Failure, refused, halted, failed, Passed, page_passes, next_passes, Comes}
use Rattle.trace_spec.specs.FirstRefusals.{page_first, module_next, AllPassed, FailsIn, by_opening, by_request}
use Rattle.trace_spec.specs.FirstRefusals.{FirstFailure}

-- ---- one asking behind another

-- an evaluation that ends with a value
abbrev pub value_end : {X R T S : Type 0} → X → T → Ended (Result X R) T S
value_end value state = ends (Ok value) state

-- a value behind a value
pub record Values {X Y R T S : Type 0} (first : Ended (Result X R) T S) (next : X → T → Ended (Result Y R) T S)
    (last : Y) (after : T) : Type 0 where
  pub value : X
  pub middle : T
  pub first_is : first ≡ ends (Ok value) middle
  pub next_is : next value middle ≡ ends (Ok last) after

-- what fails at once, or behind a value
pub data Fails {X Y R T S : Type 0} (first : Ended (Result X R) T S) (next : X → T → Ended (Result Y R) T S)
    (why : Failure R S) (after : T) : Type 0 where
  at_once : first ≡ failed why after → Fails first next why after
  later : (value : X) (middle : T) → first ≡ ends (Ok value) middle → next value middle ≡ failed why after
      → Fails first next why after

module _ {T S Q : Type 0} {A : Q → Type 0} (answers : Answers T S Q A) where
  values_by : {X Y R : Type 0} (next : X → Asking Q A (Result Y R)) (last : Y) (after : T)
      (first : Ended (Result X R) T S) → then_ended first (λ r t. evaluated answers t (on_ok next r))
      ≡ ends (Ok last) after → Values first (λ x t. evaluated answers t (next x)) last after
  values_by next last after (ends (Ok value) middle) e =
      record { value = value; middle = middle; first_is = refl; next_is = e }
  values_by next last after (ends (Err refusal) middle) e = absurd (cc)
  values_by next last after (stopped stop middle) e = absurd (cc)

  pub values_of : {X Y R : Type 0} (state : T) (asking : Asking Q A (Result X R)) (next : X → Asking Q A (Result Y R))
      (last : Y) (after : T) → evaluated answers state (and_ok asking next) ≡ ends (Ok last) after
      → Values (evaluated answers state asking) (λ x t. evaluated answers t (next x)) last after
  values_of state asking next last after e =
      values_by next last after (evaluated answers state asking)
      (sym (evaluated_then answers state asking (on_ok next)) ∙ e)

  refused_after : {X Y R : Type 0} (next : X → T → Ended (Result Y R) T S) (refusal : R) (middle : T) (why : Failure R S)
      (after : T) → failed {X = Y} (refused refusal) middle ≡ failed why after
      → Fails (failed {X = X} (refused refusal) middle) next why after
  refused_after next refusal middle (refused other) after e =
      let p : refusal ≡ other = cc in let q : middle ≡ after = cc in at_once (λ i. ends (Err (p i)) (q i))
  refused_after next refusal middle (halted stop) after e = absurd (cc)

  stopped_by : {X Y R : Type 0} (next : X → T → Ended (Result Y R) T S) (stop : S) (middle : T) (why : Failure R S)
      (after : T) → failed {X = Y} (halted stop) middle ≡ failed why after
      → Fails (failed {X = X} (halted stop) middle) next why after
  stopped_by next stop middle (refused other) after e = absurd (cc)
  stopped_by next stop middle (halted other) after e =
      let p : stop ≡ other = cc in let q : middle ≡ after = cc in at_once (λ i. stopped (p i) (q i))

  fails_by : {X Y R : Type 0} (next : X → Asking Q A (Result Y R)) (why : Failure R S) (after : T)
      (first : Ended (Result X R) T S) → then_ended first (λ r t. evaluated answers t (on_ok next r))
      ≡ failed why after → Fails first (λ x t. evaluated answers t (next x)) why after
  fails_by next why after (ends (Ok value) middle) e = later value middle refl e
  fails_by next why after (ends (Err refusal) middle) e = refused_after _ refusal middle why after e
  fails_by next why after (stopped stop middle) e = stopped_by _ stop middle why after e

  pub fails_of : {X Y R : Type 0} (state : T) (asking : Asking Q A (Result X R)) (next : X → Asking Q A (Result Y R))
      (why : Failure R S) (after : T) → evaluated answers state (and_ok asking next) ≡ failed why after
      → Fails (evaluated answers state asking) (λ x t. evaluated answers t (next x)) why after
  fails_of state asking next why after e =
      fails_by next why after (evaluated answers state asking)
      (sym (evaluated_then answers state asking (on_ok next)) ∙ e)

  pub failed_then : {X Y R : Type 0} (state : T) (asking : Asking Q A (Result X R))
      (next : X → Asking Q A (Result Y R)) (why : Failure R S) (after : T)
      → evaluated answers state asking ≡ failed why after
      → evaluated answers state (and_ok asking next) ≡ failed why after
  failed_then state asking next (refused refusal) after e = refused_then answers state after asking next refusal e
  failed_then state asking next (halted stop) after e = stopped_then answers state after asking next stop e

-- ---- one visit

module _ {M B R Q T S : Type 0} {A : Q → Type 0} (answers : Answers T S Q A) (rules : Rules M B R Q A)
    (begun : T) where
  -- the first request that fails
  record FailsAt (before : B) (state : T) (referrer : Referrer M) (some : List (List ℕ)) (why : Failure R S)
      (after : T) : Type 0 where
    front : List (List ℕ)
    specifier : List ℕ
    behind : List (List ℕ)
    tables : B
    later_state : T
    split : some ≡ front ++ specifier ∷ behind
    pass : evaluated answers state (followed rules before referrer front) ≡ ends (Ok tables) later_state
    fails : evaluated answers later_state (rules.follows tables referrer specifier) ≡ failed why after

  none_fails : {X : Type 0} (value : X) (state : T) (why : Failure R S) (after : T)
      → value_end {X = X} {R = R} {T = T} {S = S} value state ≡ failed why after → ⊥
  none_fails value state (refused refusal) after e = cc
  none_fails value state (halted stop) after e = cc

  fails_later : (referrer : Referrer M) (specifier : List ℕ) (more : List (List ℕ)) (before : B) (state : T)
      (why : Failure R S) (after : T) → ((value : B) (middle : T)
      → evaluated answers middle (followed rules value referrer more) ≡ failed why after
      → FailsAt value middle referrer more why after)
      → Fails (evaluated answers state (rules.follows before referrer specifier))
      (λ next t. evaluated answers t (followed rules next referrer more)) why after
      → FailsAt before state referrer (specifier ∷ more) why after
  fails_later referrer specifier more before state why after behind (at_once f) =
      record {
        front = [];
        specifier = specifier;
        behind = more;
        tables = before;
        later_state = state;
        split = refl;
        pass = refl;
        fails = f;
      }
  fails_later referrer specifier more before state why after behind (later value middle f g) =
      let rest = behind value middle g in
      record {
        front = specifier ∷ rest.front;
        specifier = rest.specifier;
        behind = rest.behind;
        tables = rest.tables;
        later_state = rest.later_state;
        split = ap (λ s. specifier ∷ s) rest.split;
        pass = ends_then answers state middle (rules.follows before referrer specifier)
            (λ next. followed rules next referrer rest.front) value f ∙ rest.pass;
        fails = rest.fails;
      }

  request_fails : (referrer : Referrer M) (some : List (List ℕ)) (before : B) (state : T) (why : Failure R S)
      (after : T) → evaluated answers state (followed rules before referrer some) ≡ failed why after
      → FailsAt before state referrer some why after
  request_fails referrer [] before state why after e = absurd (none_fails before state why after e)
  request_fails referrer (specifier ∷ more) before state why after e =
      fails_later referrer specifier more before state why after
      (λ value middle g. request_fails referrer more value middle why after g)
      (fails_of answers state (rules.follows before referrer specifier)
      (λ next. followed rules next referrer more) why after e)

  request_failed : (referrer : Referrer M) (front : List (List ℕ)) (specifier : List ℕ) (behind : List (List ℕ))
      (before : B) (state : T) (tables : B) (later_state : T) (why : Failure R S) (after : T)
      → evaluated answers state (followed rules before referrer front) ≡ ends (Ok tables) later_state
      → evaluated answers later_state (rules.follows tables referrer specifier) ≡ failed why after
      → evaluated answers state (followed rules before referrer (front ++ specifier ∷ behind)) ≡ failed why after
  request_failed referrer [] specifier behind before state tables later_state why after pass fails =
      let tables_are : before ≡ tables = cc in
      let state_is : state ≡ later_state = cc in
      failed_then answers state (rules.follows before referrer specifier)
      (λ next. followed rules next referrer behind) why after
      ((λ i. evaluated answers (state_is i) (rules.follows (tables_are i) referrer specifier)) ∙ fails)
  request_failed referrer (first ∷ front) specifier behind before state tables later_state why after pass fails =
      let parts =
      values_of answers state (rules.follows before referrer first)
      (λ next. followed rules next referrer front) tables later_state pass in
      ends_then answers state parts.middle (rules.follows before referrer first)
      (λ next. followed rules next referrer (front ++ specifier ∷ behind)) parts.value parts.first_is
      ∙ request_failed referrer front specifier behind parts.value parts.middle tables later_state why after
      parts.next_is fails

  visit_fails : (before : B) (state : T) (referrer : Referrer M) (why : Failure R S) (after : T)
      → evaluated answers state (visited rules before referrer) ≡ failed why after
      → FailsIn answers rules begun before state referrer why after
  visit_fails before state referrer why after e =
      by (fails_of answers state (rules.opens before referrer)
      (λ opened. followed rules opened.after referrer opened.specifiers) why after e)
    where
      by : Fails (evaluated answers state (rules.opens before referrer))
          (λ opened t. evaluated answers t (followed rules opened.after referrer opened.specifiers)) why after
          → FailsIn answers rules begun before state referrer why after
      by (at_once f) = by_opening f
      by (later opened middle f g) =
          let at = request_fails referrer opened.specifiers opened.after middle why after g in
          by_request opened middle at.front at.specifier at.behind at.tables at.later_state f at.split at.pass at.fails

  visit_failed : (before : B) (state : T) (referrer : Referrer M) (why : Failure R S) (after : T)
      → FailsIn answers rules begun before state referrer why after
      → evaluated answers state (visited rules before referrer) ≡ failed why after
  visit_failed before state referrer why after (by_opening f) =
      failed_then answers state (rules.opens before referrer)
      (λ opened. followed rules opened.after referrer opened.specifiers) why after f
  visit_failed before state referrer why after
      (by_request opened middle front specifier behind tables later_state f split pass fails) =
      ends_then answers state middle (rules.opens before referrer)
      (λ o. followed rules o.after referrer o.specifiers) opened f
      ∙ (ap (λ some. evaluated answers middle (followed rules opened.after referrer some)) split
      ∙ request_failed referrer front specifier behind opened.after middle tables later_state why after pass fails)

  -- ---- the walk

  -- the table grows, and keeps few modules
  pub record Grows (before after : B) : Type 0 where
    pub few : length (rules.modules before) ≤ rules.most → length (rules.modules after) ≤ rules.most
    pub longer : length (rules.modules before) ≤ length (rules.modules after)

  pub record KeepsFew : Type 0 where
    pub starts : rules.modules rules.start ≡ []
    pub opens : (before : B) (state : T) (referrer : Referrer M) (opened : Opened B) (after : T)
        → evaluated answers state (rules.opens before referrer) ≡ ends (Ok opened) after → Grows before opened.after
    pub follows : (before : B) (state : T) (referrer : Referrer M) (specifier : List ℕ) (after : B) (later_state : T)
        → evaluated answers state (rules.follows before referrer specifier) ≡ ends (Ok after) later_state
        → Grows before after

  pub visit_step : (room : ℕ) (before : B) (place : ℕ) (m : M) → slice_get (rules.modules before) place ≡ Some m
      → walked rules (suc room) before place ≡ and_ok (visited rules before (a_module m))
      (λ after. walked rules room after (suc place))
  visit_step room before place m is =
      ap (where_some (answered (Ok before)) (λ n.
      and_ok (visited rules before (a_module n)) (λ after. walked rules room after (suc place)))) is

  pub last_step : (room : ℕ) (before : B) (place : ℕ) → slice_get (rules.modules before) place ≡ None
      → walked rules (suc room) before place ≡ answered (Ok before)
  last_step room before place is =
      ap (where_some (answered (Ok before)) (λ n.
      and_ok (visited rules before (a_module n)) (λ after. walked rules room after (suc place)))) is

  module _ (keeps : KeepsFew) where
    same_grows : (before after : B) → before ≡ after → Grows before after
    same_grows before after same = subst (Grows before) same (record { few = λ few. few; longer = omega arith })

    then_grows : (before middle after : B) → Grows before middle → Grows middle after → Grows before after
    then_grows before middle after one rest =
        record {
          few = λ few. rest.few (one.few few);
          longer = (let a = one.longer in let b = rest.longer in omega arith);
        }

    followed_grows : (referrer : Referrer M) (some : List (List ℕ)) (before : B) (state : T) (after : B)
        (later_state : T) → evaluated answers state (followed rules before referrer some) ≡ ends (Ok after) later_state
        → Grows before after
    followed_grows referrer [] before state after later_state e =
        same_grows before after (let same : before ≡ after = cc in same)
    followed_grows referrer (specifier ∷ more) before state after later_state e =
        let parts =
        values_of answers state (rules.follows before referrer specifier)
        (λ next. followed rules next referrer more) after later_state e in
        then_grows before parts.value after (keeps.follows before state referrer specifier parts.value parts.middle
        parts.first_is) (followed_grows referrer more parts.value parts.middle after later_state parts.next_is)

    visited_grows : (referrer : Referrer M) (before : B) (state : T) (after : B) (later_state : T)
        → evaluated answers state (visited rules before referrer) ≡ ends (Ok after) later_state → Grows before after
    visited_grows referrer before state after later_state e =
        let parts =
        values_of answers state (rules.opens before referrer)
        (λ opened. followed rules opened.after referrer opened.specifiers) after later_state e in
        then_grows before parts.value.after after
        (keeps.opens before state referrer parts.value parts.middle parts.first_is)
        (followed_grows referrer parts.value.specifiers parts.value.after parts.middle after later_state
        parts.next_is)

    pub record Few (before : B) (count : ℕ) : Type 0 where
      pub within : count ≤ length (rules.modules before)
      pub few : length (rules.modules before) ≤ rules.most

    pub passed_few : (before : B) (state : T) (count : ℕ) → Passed answers rules begun before state count
        → Few before count
    passed_few before state count (page_passes passes) =
        record {
          within = omega arith;
          few = (visited_grows the_page rules.start begun before state passes).few
              (let none = ap length keeps.starts in omega (arith, none));
        }
    passed_few before state count (next_passes {before = earlier} {after = a} {state = s} {later = l} {count = n}
        {found = m} passed is passes) =
        let few = passed_few earlier s n passed in
        let grows = visited_grows (a_module m) earlier s before state passes in
        let inside = slice_get_within (rules.modules earlier) n m is in
        let more = grows.longer in
        record { within = omega arith; few = grows.few few.few }

    -- where these visits passed, the walk goes on behind them
    passed_walks : (before : B) (state : T) (count : ℕ) → Passed answers rules begun before state count → (room : ℕ)
        → room + count ≡ suc rules.most → evaluated answers begun (walk rules)
        ≡ evaluated answers state (walked rules room before count)
    passed_walks before state count (page_passes passes) room sum =
        ends_then answers begun state (visited rules rules.start the_page)
        (λ after. walked rules (suc rules.most) after 0) before passes
        ∙ ap (λ n. evaluated answers state (walked rules n before 0))
        (let e : suc rules.most ≡ room = omega arith in e)
    passed_walks before state count (next_passes {before = earlier} {after = a} {state = s} {later = l} {count = n}
        {found = m} passed is passes) room sum =
        let e : suc room + n ≡ suc rules.most = omega arith in
        passed_walks earlier s n passed (suc room) e
        ∙ (ap (evaluated answers s) (visit_step room earlier n m is)
        ∙ ends_then answers s state (visited rules earlier (a_module m))
        (λ after. walked rules room after (suc n)) before passes)

    data Ends : Ended (Result B R) T S → Type 0 where
      all_pass : {all : B} {state : T} → AllPassed answers rules begun all state → Ends (ends (Ok all) state)
      one_fails : {why : Failure R S} {after : T} → FirstFailure answers rules begun why after
          → Ends (failed why after)

    fails_here : (before : B) (state : T) (referrer : Referrer M) → Comes answers rules begun before state referrer
        → (why : Failure R S) (after : T) → evaluated answers state (visited rules before referrer) ≡ failed why after
        → Ends (failed why after)
    fails_here before state referrer comes why after e =
        one_fails (record {
          before = before;
          state = state;
          referrer = referrer;
          comes = comes;
          fails = visit_fails before state referrer why after e;
        })

    -- a visit, and what comes behind it
    visit_ends : (before : B) (state : T) (referrer : Referrer M) → Comes answers rules begun before state referrer
        → (next : B → Asking Q A (Result B R))
        → ((after : B) (later_state : T) → evaluated answers state (visited rules before referrer)
        ≡ ends (Ok after) later_state → Ends (evaluated answers later_state (next after)))
        → (r : Ended (Result B R) T S) → evaluated answers state (visited rules before referrer) ≡ r
        → Ends (evaluated answers state (and_ok (visited rules before referrer) next))
    visit_ends before state referrer comes next rest (ends (Ok after) later_state) e =
        subst Ends (sym (ends_then answers state later_state (visited rules before referrer) next after e))
        (rest after later_state e)
    visit_ends before state referrer comes next rest (ends (Err refusal) later_state) e =
        subst Ends (sym (refused_then answers state later_state (visited rules before referrer) next refusal e))
        (fails_here before state referrer comes (refused refusal) later_state e)
    visit_ends before state referrer comes next rest (stopped stop later_state) e =
        subst Ends (sym (stopped_then answers state later_state (visited rules before referrer) next stop e))
        (fails_here before state referrer comes (halted stop) later_state e)

    step_ends : (room : ℕ) (before : B) (state : T) (count : ℕ) → Passed answers rules begun before state count
        → ((after : B) (later_state : T) → Passed answers rules begun after later_state (suc count)
        → Ends (evaluated answers later_state (walked rules room after (suc count))))
        → (o : Option M) → slice_get (rules.modules before) count ≡ o
        → Ends (evaluated answers state (walked rules (suc room) before count))
    step_ends room before state count passed rest None is =
        subst (λ w. Ends (evaluated answers state w)) (sym (last_step room before count is))
        (all_pass (record { count = count; passed = passed; none_left = is }))
    step_ends room before state count passed rest (Some m) is =
        subst (λ w. Ends (evaluated answers state w)) (sym (visit_step room before count m is))
        (visit_ends before state (a_module m) (module_next passed is) (λ after. walked rules room after (suc count))
        (λ after later_state e. rest after later_state (next_passes passed is e))
        (evaluated answers state (visited rules before (a_module m))) refl)

    walk_ends : (room : ℕ) (before : B) (state : T) (count : ℕ) → Passed answers rules begun before state count
        → room + count ≡ suc rules.most → Ends (evaluated answers state (walked rules room before count))
    walk_ends zero before state count passed sum =
        let few = passed_few before state count passed in absurd (let a = few.within in let b = few.few in omega arith)
    walk_ends (suc room) before state count passed sum =
        step_ends room before state count passed
        (λ after later_state next. walk_ends room after later_state (suc count) next (omega arith))
        (slice_get (rules.modules before) count) refl

    whole_ends : Ends (evaluated answers begun (walk rules))
    whole_ends =
        visit_ends rules.start begun the_page page_first (λ after. walked rules (suc rules.most) after 0)
        (λ after later_state e. walk_ends (suc rules.most) after later_state 0 (page_passes e) (omega arith))
        (evaluated answers begun (visited rules rules.start the_page)) refl

    -- ---- exactly

    no_value_fails : (all : B) (state : T) (why : Failure R S) (after : T)
        → failed why after ≡ value_end {X = B} {R = R} {T = T} {S = S} all state → ⊥
    no_value_fails all state (refused refusal) after e = cc
    no_value_fails all state (halted stop) after e = cc

    same_failure : (why other : Failure R S) (after later_state : T)
        → failed {X = B} why after ≡ failed other later_state → (why ≡ other) × (after ≡ later_state)
    same_failure (refused a) (refused b) after later_state e =
        ((let p : a ≡ b = cc in ap refused p), (let q : after ≡ later_state = cc in q))
    same_failure (refused a) (halted b) after later_state e = absurd (cc)
    same_failure (halted a) (refused b) after later_state e = absurd (cc)
    same_failure (halted a) (halted b) after later_state e =
        ((let p : a ≡ b = cc in ap halted p), (let q : after ≡ later_state = cc in q))

    passed_of : (all : B) (state : T) (r : Ended (Result B R) T S) → Ends r → r ≡ ends (Ok all) state
        → AllPassed answers rules begun all state
    passed_of all state _ (all_pass {all = a} {state = s} passed) e =
        let p : a ≡ all = cc in
        let q : s ≡ state = cc in
        subst (AllPassed answers rules begun all) q (subst (λ b. AllPassed answers rules begun b s) p passed)
    passed_of all state _ (one_fails {why = why} {after = after} first) e =
        absurd (no_value_fails all state why after e)

    failure_of : (why : Failure R S) (after : T) (r : Ended (Result B R) T S) → Ends r → r ≡ failed why after
        → FirstFailure answers rules begun why after
    failure_of why after _ (all_pass {all = a} {state = s} passed) e = absurd (none_fails a s why after e)
    failure_of why after _ (one_fails {why = other} {after = t} first) e =
        let same = same_failure other why t after e in
        subst (FirstFailure answers rules begun why) same.1
        (subst (λ w. FirstFailure answers rules begun w t) same.0 first)

    room_left : (before : B) (state : T) (count : ℕ) → Passed answers rules begun before state count
        → (room : ℕ) × (suc room + count ≡ suc rules.most)
    room_left before state count passed =
        let few =
        passed_few before state count passed in
        (rules.most - count, (let a = few.within in let b = few.few in omega arith))

    all_of : (all : B) (state : T) → AllPassed answers rules begun all state
        → evaluated answers begun (walk rules) ≡ ends (Ok all) state
    all_of all state passed =
        let room = room_left all state passed.count passed.passed in
        passed_walks all state passed.count passed.passed (suc room.0) room.1
        ∙ ap (evaluated answers state) (last_step room.0 all passed.count passed.none_left)

    comes_walks : (before : B) (state : T) (referrer : Referrer M) → Comes answers rules begun before state referrer
        → (next : B → Asking Q A (Result B R))
        × (evaluated answers begun (walk rules)
        ≡ evaluated answers state (and_ok (visited rules before referrer) next))
    comes_walks _ _ _ page_first = (λ after. walked rules (suc rules.most) after 0, refl)
    comes_walks before state referrer (module_next {before = b} {state = s} {count = count} {found = m} passed is) =
        let room = room_left b s count passed in (
          λ after. walked rules room.0 after (suc count),
          passed_walks b s count passed (suc room.0) room.1
              ∙ ap (evaluated answers s) (visit_step room.0 b count m is),
        )

    fails_first : (why : Failure R S) (after : T) → FirstFailure answers rules begun why after
        → evaluated answers begun (walk rules) ≡ failed why after
    fails_first why after first =
        let walks = comes_walks first.before first.state first.referrer first.comes in
        walks.1 ∙ failed_then answers first.state (visited rules first.before first.referrer) walks.0 why after
        (visit_failed first.before first.state first.referrer why after first.fails)

    pub walk_where_all_pass : (all : B) (state : T)
        → evaluated answers begun (walk rules) ≡ ends (Ok all) state ↔ AllPassed answers rules begun all state
    walk_where_all_pass all state =
        (passed_of all state (evaluated answers begun (walk rules)) whole_ends, all_of all state)

    pub walk_fails_first : (why : Failure R S) (after : T)
        → evaluated answers begun (walk rules) ≡ failed why after ↔ FirstFailure answers rules begun why after
    walk_fails_first why after =
        (failure_of why after (evaluated answers begun (walk rules)) whole_ends, fails_first why after)

    -- the walk fails, or has its tables
    pub walk_few : (all : B) (state : T) → evaluated answers begun (walk rules) ≡ ends (Ok all) state
        → length (rules.modules all) ≤ rules.most
    walk_few all state e =
        let passed =
        passed_of all state (evaluated answers begun (walk rules)) whole_ends e in
        (passed_few all state passed.count passed.passed).few
