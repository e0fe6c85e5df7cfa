-- The tables and the questions of a trace up to its first refusal.
use Rattle.std.specs.Prelude.{◌≡◌, ℕ, suc, List, [], ◌∷◌, ◌++◌, length, map, slice_get, Option, Some, option_map}
use Rattle.std.specs.Prelude.{Result, Ok, Err}
use Rattle.std.proofs.Common.{refl, sym, ap, ◌∙◌, subst, arith, length-append, append_assoc, append-nil}
use Rattle.std.proofs.lemmas.Option.{slice_get-map}
use Rattle.std.proofs.lemmas.List.{map-append}
use Rattle.std.proofs.lemmas.Grind.{flat_map-append}
use Rattle.asking_spec.specs.Askings.{Asking, answered}
use Rattle.asking_spec.specs.Evaluation.{Ended, ends, stopped, then_ended, Answers, evaluated, Asked, with_asked}
use Rattle.asking_spec.specs.Evaluation.{keep_asked, listed, unlisted}
use Rattle.asking_spec.specs.Laws.{IsOutcome}
use Rattle.asking_spec.proofs.EvaluationLemmas.{evaluated_comes, evaluated_listed, asked_none}
use Rattle.tree_spec.specs.declared.LimitName.{LimitName}
use Rattle.tree_spec.specs.LookAskings.{Sights}
use Rattle.trace_spec.specs.declared.TraceFault.{TraceFault}
use Rattle.trace_spec.specs.declared.TraceFault.TheVariants.{Limit}
use Rattle.trace_spec.specs.Walking.{Referrer, the_page, a_module, new_modules, followed, visited}
use Rattle.trace_spec.specs.FirstRefusals.{Failure, refused, halted, failed, Passed, page_passes, next_passes, Comes}
use Rattle.trace_spec.specs.FirstRefusals.{page_first, module_next, FailsIn, by_opening, by_request}
use Rattle.tree_spec.specs.LookLimits.{Trail, no_trail}
use Rattle.trace_spec.specs.Modules.{Config, Module, is_module}
use Rattle.trace_spec.specs.Questions.{Question, of_module, Answer, answers, always}
use Rattle.trace_spec.specs.Checks.{Gathered, module_opened, opens, Wanted, checked, led, asking_at, followed_by, follows}
use Rattle.trace_spec.specs.Checks.{nothing_gathered, rules}
use Rattle.trace_spec.specs.Traces.{trace, result_of, state_of, traced, specifiers, leads, targets}
use Rattle.trace_spec.specs.Laws.{refusal_by, opening, opening_put, requests_put, visits_put, asked_in, visits_of}
use Rattle.trace_spec.specs.Laws.{none_asked, if_checked, asked_for, ComesTo, RefusedRequest, asked_up_to, RefusedAt}
use Rattle.trace_spec.specs.Laws.{at_opening, at_request}
use Rattle.trace_spec.specs.Laws.{RefusedInOrder, RefusesInOrder}
use Rattle.trace_spec.proofs.Steps.{answers_always}
use Rattle.trace_spec.proofs.WalkModules.{slice_there, visited_modules}
use Rattle.trace_spec.proofs.WalkOrder.{in_order, visit_in_order}
use Rattle.trace_spec.proofs.WalkRefusals.{KeepsFew, walk_fails_first}
use Rattle.trace_spec.proofs.Traces.{lead, keep_few, request_of, put_request, put_in, requests_put_is}

module _ (sights : Sights) (config : Config) where
  -- ---- with and without the list of questions

  abbrev Told : Type 0
  Told = Asked Trail Question

  abbrev told : Answers Told LimitName Question Answer
  told = listed (answers sights)

  without : {X : Type 0} (asking : Asking Question Answer X) (before : Told) (end : Ended X Told LimitName)
      → evaluated told before asking ≡ end → evaluated (answers sights) before.state asking ≡ unlisted end
  without asking before end e = sym (evaluated_listed (answers sights) before asking) ∙ ap unlisted e

  told_outcome : {X : Type 0} (asking : Asking Question Answer X) (before : Told) (value : X) (after : Told)
      → evaluated told before asking ≡ ends value after
      → IsOutcome (always sights) before.asked asking value after.asked
  told_outcome asking before value after e =
      evaluated_comes (answers sights) (always sights) (answers_always sights) before asking value after e

  keep_told : KeepsFew told (rules config) none_asked
  keep_told = record {
    starts = refl;
    opens = λ before state referrer opened after e.
        let grows = (keep_few sights config).opens before state.state referrer opened after.state
        (without (opens config before referrer) state (ends (Ok opened) after) e) in
        record { few = grows.few; longer = grows.longer };
    follows = λ before state referrer specifier after later e.
        let grows = (keep_few sights config).follows before state.state referrer specifier after later.state
        (without (follows config before referrer specifier) state (ends (Ok after) later) e) in
        record { few = grows.few; longer = grows.longer };
  }

  passed_without : (before : Gathered) (state : Told) (count : ℕ)
      → Passed told (rules config) none_asked before state count
      → Passed (answers sights) (rules config) no_trail before state.state count
  passed_without before state count (page_passes e) =
      page_passes (without (visited (rules config) nothing_gathered the_page) none_asked (ends (Ok before) state) e)
  passed_without before state count (next_passes {before = earlier} {after = a} {state = s} {later = l} {count = n}
      {found = m} passed is e) =
      next_passes (passed_without earlier s n passed) is
      (without (visited (rules config) earlier (a_module m)) s (ends (Ok before) state) e)

  comes_without : (before : Gathered) (state : Told) (referrer : Referrer Module)
      → Comes told (rules config) none_asked before state referrer
      → Comes (answers sights) (rules config) no_trail before state.state referrer
  comes_without _ _ _ page_first = page_first
  comes_without before state referrer (module_next {before = b} {state = s} {count = n} {found = m} passed is) =
      module_next (passed_without b s n passed) is

  -- ---- the visits that pass

  -- these visits passed
  record Done (before : Gathered) (state : Told) (place : ℕ) : Type 0 where
    visits : List (Referrer Module)
    later : List (Referrer Module)
    split : visits_of before ≡ visits ++ later
    counted : length visits ≡ place
    tables : before ≡ visits_put sights config nothing_gathered visits
    asked : state.asked ≡ Some (asked_in sights config visits)

  -- and the visit of this referrer comes next
  record Coming (before : Gathered) (state : Told) (place : ℕ) (referrer : Referrer Module) : Type 0 where
    visits : List (Referrer Module)
    later : List (Referrer Module)
    split : visits_of before ≡ visits ++ referrer ∷ later
    counted : length visits ≡ place
    tables : before ≡ visits_put sights config nothing_gathered visits
    asked : state.asked ≡ Some (asked_in sights config visits)

  first_of : (visits : List (Referrer Module)) (referrer : Referrer Module) → slice_get visits 0 ≡ Some referrer
      → (more : List (Referrer Module)) × (visits ≡ referrer ∷ more)
  first_of [] referrer e = absurd (cc)
  first_of (other ∷ more) referrer e = (more, ap (λ r. r ∷ more) (let same : other ≡ referrer = cc in same))

  next_coming : (before : Gathered) (state : Told) (count : ℕ) (found : Module) → Done before state (suc count)
      → slice_get before.modules count ≡ Some found → Coming before state (suc count) (a_module found)
  next_coming before state count found done is =
      let there : slice_get (visits_of before) (length done.visits) ≡ Some (a_module found) =
      ap (slice_get (visits_of before)) done.counted
      ∙ (slice_get-map a_module before.modules count ∙ ap (option_map a_module) is) in
      let next = first_of done.later (a_module found)
      (sym (slice_there done.visits done.later)
      ∙ (sym (ap (λ vs. slice_get vs (length done.visits)) done.split) ∙ there)) in
      record {
        visits = done.visits;
        later = next.0;
        split = done.split ∙ ap (λ vs. done.visits ++ vs) next.1;
        counted = done.counted;
        tables = done.tables;
        asked = done.asked;
      }

  visits_more : (some more : List (Referrer Module)) (before : Gathered)
      → visits_put sights config before (some ++ more)
      ≡ visits_put sights config (visits_put sights config before some) more
  visits_more [] more before = refl
  visits_more (referrer ∷ some) more before = visits_more some more (visits_put sights config before (referrer ∷ []))

  abbrev asked_at : Referrer Module → List Question
  asked_at referrer =
      opening referrer ++ map (asking_at config referrer) (specifiers sights config referrer)

  asked_more : (visits : List (Referrer Module)) (referrer : Referrer Module)
      → asked_in sights config visits ++ asked_at referrer ≡ asked_in sights config (visits ++ referrer ∷ [])
  asked_more visits referrer =
      ap (λ qs. asked_in sights config visits ++ qs) (sym (append-nil (asked_at referrer)))
      ∙ sym (flat_map-append asked_at visits (referrer ∷ []))

  abbrev asking : Referrer Module → List ℕ → Question
  asking referrer = asking_at config referrer

  visit_done : (before after : Gathered) (state later : Told) (place : ℕ) (referrer : Referrer Module)
      → Coming before state place referrer
      → evaluated told state (visited (rules config) before referrer) ≡ ends (Ok after) later
      → Done after later (suc place)
  visit_done before after state later place referrer coming e =
      let came = told_outcome (visited (rules config) before referrer) state (Ok after) later e in
      let new = new_modules is_module before.modules (targets sights config referrer) in
      let grown : after.modules ≡ before.modules ++ new =
      visited_modules (always sights) (rules config) (specifiers sights config) (leads sights config)
      (lead sights config) referrer before after (sym came.is) in
      let visit =
      visit_in_order (always sights) (rules config) (specifiers sights config)
      (leads sights config) opening asking
      (opening_put sights) (put_request sights config) (request_of sights config) (lead sights config)
      (put_in sights config)
      referrer before after (sym came.is) in
      let tables : after ≡ visits_put sights config before (referrer ∷ []) =
      visit.is ∙ sym (requests_put_is sights config referrer (specifiers sights config referrer)
      (opening_put sights before referrer)) in
      record {
        visits = coming.visits ++ referrer ∷ [];
        later = coming.later ++ map a_module new;
        split =
            ap (λ ms. the_page ∷ map a_module ms) grown
            ∙ (ap (λ ms. the_page ∷ ms) (map-append a_module before.modules new)
            ∙ (ap (λ vs. vs ++ map a_module new) coming.split
            ∙ (append_assoc coming.visits (referrer ∷ coming.later) (map a_module new)
            ∙ sym (append_assoc coming.visits (referrer ∷ []) (coming.later ++ map a_module new)))));
        counted = omega (arith, length-append coming.visits (referrer ∷ []), coming.counted);
        tables =
            tables
            ∙ (ap (λ b. visits_put sights config b (referrer ∷ [])) coming.tables
            ∙ sym (visits_more coming.visits (referrer ∷ []) nothing_gathered));
        asked = came.asked ∙ ((λ i. with_asked (coming.asked i) (visit.are_asked i))
            ∙ ap Some (asked_more coming.visits referrer));
      }

  page_coming : Coming nothing_gathered none_asked 0 the_page
  page_coming = record { visits = []; later = []; split = refl; counted = refl; tables = refl; asked = refl }

  passed_done : (before : Gathered) (state : Told) (count : ℕ) → Passed told (rules config) none_asked before state count
      → Done before state (suc count)
  passed_done before state count (page_passes e) = visit_done nothing_gathered before none_asked state 0 the_page page_coming e
  passed_done before state count (next_passes {before = earlier} {after = a} {state = s} {later = l} {count = n}
      {found = m} passed is e) =
      visit_done earlier before s state (suc n) (a_module m)
      (next_coming earlier s n m (passed_done earlier s n passed) is) e

  comes_next : (before : Gathered) (state : Told) (referrer : Referrer Module)
      → Comes told (rules config) none_asked before state referrer
      → (place : ℕ) × Coming before state place referrer
  comes_next _ _ _ page_first = (0, page_coming)
  comes_next before state referrer (module_next {before = b} {state = s} {count = n} {found = m} passed is) =
      (suc n, next_coming b s n m (passed_done b s n passed) is)

  -- ---- what fails

  abbrev asked_after : {X : Type 0} → Told → Asking Question Answer X → Option (List Question)
  asked_after state asking = (state_of (evaluated told state asking)).asked

  failed_state : (X : Type 0) (why : Failure TraceFault LimitName) (after : Told)
      → state_of (failed {X = X} why after) ≡ after
  failed_state X (refused refusal) after = refl
  failed_state X (halted limit) after = refl

  failed_asked : {X : Type 0} (asking : Asking Question Answer (Result X TraceFault)) (state : Told)
      (why : Failure TraceFault LimitName) (after : Told)
      → evaluated told state asking ≡ failed why after → after.asked ≡ asked_after state asking
  failed_asked {X = X} asking state why after e =
      ap (λ t. t.asked) (sym (failed_state X why after)) ∙ ap (λ end. (state_of {T = Told} end).asked) (sym e)

  failed_shown : {X : Type 0} (why : Failure TraceFault LimitName) (after : Told)
      → result_of {X = X} {T = Trail} (unlisted (failed why after)) ≡ Err (refusal_by why)
  failed_shown (refused refusal) after = refl
  failed_shown (halted limit) after = refl

  fails_so : {X : Type 0} (asking : Asking Question Answer (Result X TraceFault)) (state : Told)
      (why : Failure TraceFault LimitName) (after : Told)
      → evaluated told state asking ≡ failed why after → ComesTo sights state.state asking (Err (refusal_by why))
  fails_so asking state why after e = ap result_of (without asking state (failed why after) e) ∙ failed_shown why after

  one_asked : {X : Type 0} (question : Question) (next : Answer question → Result X TraceFault)
      (asked : Option (List Question))
      (end : Ended (Answer question) Trail LimitName)
      → (state_of (then_ended (keep_asked asked end)
      (λ answer later. evaluated told later (answered (next answer))))).asked ≡ asked
  one_asked question next asked (ends answer trail) = refl
  one_asked question next asked (stopped limit trail) = refl

  opening_asked : (before : Gathered) (referrer : Referrer Module) (state : Told)
      → asked_after state (opens config before referrer) ≡ with_asked state.asked (opening referrer)
  opening_asked before the_page state = sym (asked_none state.asked)
  opening_asked before (a_module m) state =
      one_asked (of_module m.path) (module_opened config before m) (with_asked state.asked (of_module m.path ∷ []))
      (answers sights state.state (of_module m.path))

  follows_asked : (before : Gathered) (referrer : Referrer Module) (specifier : List ℕ) (state : Told)
      (want : Result Wanted TraceFault)
      → asked_after state (followed_by config before referrer specifier want)
      ≡ with_asked state.asked (if_checked (asking referrer specifier) want)
  follows_asked before referrer specifier state (Err refusal) = sym (asked_none state.asked)
  follows_asked before referrer specifier state (Ok want) =
      one_asked (asking referrer specifier) (led config before referrer specifier want)
      (with_asked state.asked (asking referrer specifier ∷ []))
      (answers sights state.state (asking referrer specifier))

  -- ---- the visit that fails

  record Refused (before : Gathered) (state : Told) (referrer : Referrer Module) (why : Failure TraceFault LimitName)
      (after : Told) (visits : List (Referrer Module)) : Type 0 where
    asked_last : List Question
    refused : RefusedAt sights config before state.state referrer (refusal_by why) asked_last
    asked : after.asked ≡ Some (asked_in sights config visits ++ asked_last)

  asked_before : (visits : List (Referrer Module)) (some more last : List Question)
      (asked middle later after : Option (List Question))
      → asked ≡ Some (asked_in sights config visits) → middle ≡ with_asked asked some → later ≡ with_asked middle more
      → after ≡ with_asked later last
      → after ≡ Some (asked_in sights config visits ++ (some ++ more ++ last))
  asked_before visits some more last asked middle later after e f g h =
      let front = asked_in sights config visits in
      h
      ∙ (ap (λ qs. with_asked qs last) (g ∙ ap (λ qs. with_asked qs more) (f ∙ ap (λ qs. with_asked qs some) e))
      ∙ ap Some (ap (λ qs. qs ++ last) (append_assoc front some more) ∙ append_assoc front (some ++ more) last))

  refused_there : (before : Gathered) (state : Told) (referrer : Referrer Module) (why : Failure TraceFault LimitName)
      (after : Told) (visits : List (Referrer Module))
      → state.asked ≡ Some (asked_in sights config visits)
      → FailsIn told (rules config) none_asked before state referrer why after
      → Refused before state referrer why after visits
  refused_there before state referrer why after visits asked (by_opening f) = record {
    asked_last = opening referrer;
    refused = at_opening (fails_so (opens config before referrer) state why after f);
    asked = failed_asked (opens config before referrer) state why after f
        ∙ (opening_asked before referrer state ∙ ap (λ qs. with_asked qs (opening referrer)) asked);
  }
  refused_there before state referrer why after visits asked
      (by_request opened middle front specifier behind tables later f split pass fails) =
      let opening_came = told_outcome (opens config before referrer) state (Ok opened) middle f in
      let opens_so = (put_in sights config).opens before referrer opened (sym opening_came.is) in
      let front_came = told_outcome (followed (rules config) opened.after referrer front) middle (Ok tables) later pass in
      let puts =
      in_order (always sights) (rules config) (specifiers sights config) (leads sights config) opening asking
      (opening_put sights) (put_request sights config) (request_of sights config) (lead sights config)
      (put_in sights config)
      referrer front opened.after tables (sym front_came.is) in
      let is : RefusedRequest sights config before state.state referrer (refusal_by why) front specifier = record {
        behind = behind;
        split = sym opens_so.0 ∙ split;
        opened = opened;
        middle = middle.state;
        opens_so = without (opens config before referrer) state (ends (Ok opened) middle) f;
        tables = tables;
        tables_are =
            puts.is ∙ (sym (requests_put_is sights config referrer front opened.after)
            ∙ ap (λ b. requests_put sights config referrer b front) opens_so.1);
        later = later.state;
        passed = without (followed (rules config) opened.after referrer front) middle (ends (Ok tables) later) pass;
        refused = fails_so (follows config tables referrer specifier) later why after fails;
      } in
      record {
        asked_last = asked_up_to config tables referrer front specifier;
        refused = at_request front specifier is;
        asked = asked_before visits (opening referrer) (map (asking referrer) front)
            (asked_for config tables referrer specifier) state.asked middle.asked later.asked after.asked asked
            (opening_came.asked ∙ ap (λ qs. with_asked state.asked qs) opens_so.2)
            (front_came.asked ∙ ap (λ qs. with_asked middle.asked qs) puts.are_asked)
            (failed_asked (follows config tables referrer specifier) later why after fails
            ∙ follows_asked tables referrer specifier later (checked config tables referrer specifier));
      }

  record Failed (refusal : TraceFault) (end : Ended (Result Gathered TraceFault) Told LimitName) : Type 0 where
    why : Failure TraceFault LimitName
    after : Told
    shown : refusal ≡ refusal_by why
    fails : end ≡ failed why after

  failed_end : (refusal : TraceFault) (end : Ended (Result Gathered TraceFault) Told LimitName)
      → result_of (unlisted end) ≡ Err refusal → Failed refusal end
  failed_end refusal (ends (Ok all) after) e = absurd (cc)
  failed_end refusal (ends (Err other) after) e =
      record { why = refused other; after = after; shown = (let p : refusal ≡ other = cc in p); fails = refl }
  failed_end refusal (stopped limit after) e =
      record { why = halted limit; after = after; shown = (let p : refusal ≡ Limit limit = cc in p); fails = refl }

  pub refused_in_order : (refusal : TraceFault) → traced sights config ≡ Err refusal
      → RefusedInOrder sights config refusal
  refused_in_order refusal e =
      let end =
      failed_end refusal (evaluated told none_asked (trace config))
      (ap result_of (evaluated_listed (answers sights) none_asked (trace config)) ∙ e) in
      let first = (walk_fails_first told (rules config) none_asked keep_told end.why end.after).0 end.fails in
      let coming = (comes_next first.before first.state first.referrer first.comes).1 in
      let there =
      refused_there first.before first.state first.referrer end.why end.after coming.visits coming.asked
      first.fails in
      record {
        visits = coming.visits;
        referrer = first.referrer;
        later = coming.later;
        before = first.before;
        tables = coming.tables;
        in_order = coming.split;
        trail = first.state.state;
        comes = comes_without first.before first.state first.referrer first.comes;
        asked_last = there.asked_last;
        refused =
            subst (λ r. RefusedAt sights config first.before first.state.state first.referrer r there.asked_last)
            (sym end.shown) there.refused;
        asked = sym (failed_asked (trace config) none_asked end.why end.after end.fails) ∙ there.asked;
      }

pub refuses_in_order : RefusesInOrder
refuses_in_order sights config refusal e = refused_in_order sights config refusal e
