-- A clash is one of two requests.
use Rattle.std.specs.Prelude.{◌≡◌, ◌≤◌, ℕ, Bool, true, false, List, ◌∷◌, ◌++◌, Option, Some, None}
use Rattle.std.specs.Prelude.{Result, Ok, Err, nat_lt, length, Contains, if◌then◌else◌}
use Rattle.std.specs.List.{list_any}
use Rattle.std.proofs.Common.{refl, sym, ap, ◌∙◌, subst}
use Rattle.std.proofs.lemmas.Bool.{cond-false, ltb-false}
use Rattle.std.proofs.lemmas.List.Elements.{Contains-append_left, Contains-append_right}
use Rattle.asking_spec.specs.Askings.{Asking, outcome}
use Rattle.asking_spec.specs.Evaluation.{Ended, ends, stopped, evaluated}
use Rattle.asking_spec.proofs.EvaluationLemmas.{ends_outcome}
use Rattle.layout_spec.proofs.Contained.{contains_here, contains_at}
use Rattle.layout_spec.specs.declared.Need.{Need}
use Rattle.layout_spec.specs.Needs.{clashes}
use Rattle.tree_spec.specs.declared.LimitName.{LimitName}
use Rattle.tree_spec.specs.declared.LimitName.TheVariants.{Modules, Requests, Specifier}
use Rattle.tree_spec.specs.Limits.{limit_number}
use Rattle.tree_spec.specs.LookAskings.{Sights}
use Rattle.tree_spec.specs.LookLimits.{Trail, no_trail}
use Rattle.url_spec.specs.Specifiers.{ends_in_slash}
use Rattle.node_spec.specs.NodeAnswers.{Refusal, by_cause, too_deep}
use Rattle.trace_spec.specs.declared.AskCause.{AskCause}
use Rattle.trace_spec.specs.declared.AskCause.TheVariants.{TrailingSlash}
use Rattle.trace_spec.specs.declared.TraceFault.{TraceFault}
use Rattle.trace_spec.specs.declared.TraceFault.TheVariants.{Clash, Limit}
use Rattle.trace_spec.specs.Walking.{Referrer, the_page, a_module, followed, visited}
use Rattle.trace_spec.specs.FirstRefusals.{Passed, page_passes, next_passes, Comes, page_first, module_next}
use Rattle.trace_spec.specs.Modules.{Config, Module, served_at, not_folder, shown}
use Rattle.trace_spec.specs.Questions.{Source, NoSource, not_module, above, Question, of_module, Answer, answers, always}
use Rattle.trace_spec.specs.Checks.{Gathered, Spelling, page_opened, module_opened, opens, Wanted, wanted, refused_by}
use Rattle.trace_spec.specs.Checks.{wants, checked, clashing, clash_with, with_request, has_room, with_room, needed}
use Rattle.trace_spec.specs.Checks.{named, led, followed_by, follows, nothing_gathered, rules}
use Rattle.trace_spec.specs.Traces.{result_of, specifiers, if_ok, resolution, leads}
use Rattle.trace_spec.specs.Laws.{RefusedRequest, RefusedAt, at_opening, at_request, IsClash}
use Rattle.trace_spec.specs.Laws.{AsksFor, Passes, ClashesAreOfRequests}
use Rattle.trace_spec.proofs.Steps.{answers_always, checked_parts, asks_for}
use Rattle.trace_spec.proofs.SpellingLemmas.{clashing_is}
use Rattle.trace_spec.proofs.Traces.{lead, Stands, keep}
use Rattle.trace_spec.proofs.RefusalOrder.{refused_in_order}
use Rattle.trace_spec.proofs.WalkFacts.{IsVisited, followed_later, visit}

module _ (sights : Sights) (config : Config) where
  came_to : {X : Type 0} (asking : Asking Question Answer X) (before after : Trail) (value : X)
      → evaluated (answers sights) before asking ≡ ends value after → outcome (always sights) asking ≡ value
  came_to asking before after value e =
      sym (ends_outcome (answers sights) (always sights) (answers_always sights) before after asking value e)

  -- ---- the tables before each visit

  abbrev Leaves : Referrer Module → List ℕ → Gathered → Type 0
  Leaves referrer specifier before = Passes sights config before referrer specifier

  passed_stands : (before : Gathered) (trail : Trail) (count : ℕ)
      → Passed (answers sights) (rules config) no_trail before trail count → Stands sights config before
  passed_stands before trail count (page_passes e) =
      (visit (always sights) (rules config) (specifiers sights config) (leads sights config) (lead sights config)
      (Stands sights config) Leaves (keep sights config) the_page nothing_gathered before tt
      (came_to (visited (rules config) nothing_gathered the_page) no_trail trail (Ok before) e)).later.holds
      (keep sights config).starts
  passed_stands before trail count (next_passes {before = earlier} {after = a} {state = s} {later = l} {count = n}
      {found = m} passed is e) =
      (visit (always sights) (rules config) (specifiers sights config) (leads sights config) (lead sights config)
      (Stands sights config) Leaves (keep sights config) (a_module m) earlier before
      (contains_at earlier.modules n m is)
      (came_to (visited (rules config) earlier (a_module m)) s trail (Ok before) e)).later.holds
      (passed_stands earlier s n passed)

  -- and the referrer whose visit comes next stands in them
  record Next (before : Gathered) (referrer : Referrer Module) : Type 0 where
    stands : Stands sights config before
    is_visited : IsVisited before.modules referrer

  comes_next : (before : Gathered) (trail : Trail) (referrer : Referrer Module)
      → Comes (answers sights) (rules config) no_trail before trail referrer → Next before referrer
  comes_next _ _ _ page_first = record { stands = (keep sights config).starts; is_visited = tt }
  comes_next before trail referrer (module_next {before = b} {state = s} {count = n} {found = m} passed is) =
      record { stands = passed_stands b s n passed; is_visited = contains_at b.modules n m is }

  -- ---- a request that clashes

  module _ (shown_by first first_to second second_to : List ℕ) where
    abbrev clash : TraceFault
    clash = Clash shown_by first first_to second second_to

    module _ (before : Gathered) (referrer : Referrer Module) (specifier : List ℕ) where
      record Clashes (need : Need) (spelling : Spelling) : Type 0 where
        clashing_so : list_any (clashes need) before.needs ≡ true
        shown_so : clash_with config referrer (clashing need before.needs before.spellings) spelling ≡ clash

      no_room : (need : Need) (spelling : Spelling) → with_room before need spelling ≡ Err clash → ⊥
      no_room need spelling e = by (has_room before.modules spelling.target) e
        where
          by : (room : Bool) → (if room then Ok (with_request before need spelling) else Err (Limit Modules)) ≡ Err clash
              → ⊥
          by true f = absurd (cc)
          by false f = absurd (cc)

      needed_clash : (need : Need) (spelling : Spelling) → needed config before referrer need spelling ≡ Err clash
          → Clashes need spelling
      needed_clash need spelling e = by (list_any (clashes need) before.needs) refl e
        where
          by : (test : Bool) → list_any (clashes need) before.needs ≡ test
              → (if test
              then Err (clash_with config referrer (clashing need before.needs before.spellings) spelling)
              else with_room before need spelling) ≡ Err clash
              → Clashes need spelling
          by true is f = record {
            clashing_so = is;
            shown_so = (let same : clash_with config referrer (clashing need before.needs before.spellings) spelling ≡ clash = cc in same);
          }
          by false is f = absurd (no_room need spelling f)

      record LedToClash (want : Wanted) (found : Result Module Refusal) : Type 0 where
        target : Module
        answers_so : found ≡ Ok target
        url : List ℕ
        served : served_at config (a_module target) ≡ Some url
        is_file : ends_in_slash url ≡ false
        clashes_so : Clashes (record { referrer = want.referrer; asked = want.asked; target = url })
            (record { referrer = shown config referrer; specifier = specifier; target = target })

      named_clash : (want : Wanted) (target : Module) (name : Option (List ℕ))
          → served_at config (a_module target) ≡ name
          → named config before referrer want
          (record { referrer = shown config referrer; specifier = specifier; target = target }) name ≡ Err clash
          → LedToClash want (Ok target)
      named_clash want target None is e = absurd (cc)
      named_clash want target (Some url) is e = by (ends_in_slash url) refl e
        where
          by : (slash : Bool) → ends_in_slash url ≡ slash
              → (if slash
              then Err (refused_by config referrer specifier TrailingSlash)
              else needed config before referrer (record { referrer = want.referrer; asked = want.asked; target = url })
              (record { referrer = shown config referrer; specifier = specifier; target = target })) ≡ Err clash
              → LedToClash want (Ok target)
          by true slash f = absurd (cc)
          by false file f = record {
            target = target;
            answers_so = refl;
            url = url;
            served = is;
            is_file = file;
            clashes_so = needed_clash _ _ f;
          }

      led_clash : (want : Wanted) (found : Result Module Refusal)
          → led config before referrer specifier want found ≡ Err clash → LedToClash want found
      led_clash want (Err (by_cause cause)) e = absurd (cc)
      led_clash want (Err too_deep) e = absurd (cc)
      led_clash want (Ok target) e = named_clash want target (served_at config (a_module target)) refl e

      -- nothing clashes before Node is asked
      wants_no_clash : (want : Result Wanted AskCause) → wants config referrer specifier want ≡ Err clash → ⊥
      wants_no_clash (Ok want) e = absurd (cc)
      wants_no_clash (Err cause) e = absurd (cc)

      checked_no_clash : checked config before referrer specifier ≡ Err clash → ⊥
      checked_no_clash e =
          by (nat_lt (length before.targets) (limit_number Requests)) (nat_lt (limit_number Specifier) (length specifier)) e
        where
          by : (few long : Bool)
              → (if few
              then (if long
              then Err (Limit Specifier)
              else wants config referrer specifier (wanted config referrer specifier))
              else Err (Limit Requests)) ≡ Err clash
              → ⊥
          by false long f = absurd (cc)
          by true true f = absurd (cc)
          by true false f = wants_no_clash (wanted config referrer specifier) f

      clash_of : Stands sights config before → Contains (specifiers sights config referrer) specifier
          → (want : Result Wanted TraceFault) → checked config before referrer specifier ≡ want
          → outcome (always sights) (followed_by config before referrer specifier want) ≡ Err clash
          → IsClash sights config shown_by first first_to second second_to
      clash_of stands is_request (Err refusal) is e =
          let same : refusal ≡ clash = cc in absurd (checked_no_clash (is ∙ ap Err same))
      clash_of stands is_request (Ok want) is e =
          let check = checked_parts config before referrer specifier want is in
          let parts = led_clash want (resolution sights config referrer specifier) e in
          let need : Need = record { referrer = want.referrer; asked = want.asked; target = parts.url } in
          let spelling : Spelling =
          record { referrer = shown config referrer; specifier = specifier; target = parts.target } in
          let earlier =
          clashing_is sights config need before.needs before.spellings stands.spelled parts.clashes_so.clashing_so in
          let shown_is = parts.clashes_so.shown_so in
          let seconds : specifier ≡ second = cc in
          let shows : shown_by ≡ shown config referrer = cc in
          record {
            earlier = earlier.spelled.referrer;
            later = referrer;
            need = earlier.earlier;
            other = need;
            spelling = clashing need before.needs before.spellings;
            target = parts.target;
            one = earlier.spelled.leads_for;
            two = record {
              named = check.wants.named;
              shown_so = shows;
              is_request = subst (Contains (specifiers sights config referrer)) seconds is_request;
              short = subst (λ s. length s ≤ limit_number Specifier) seconds
                  (ltb-false (limit_number Specifier) (length specifier) check.short);
              asks = subst (λ s. AsksFor want.referrer s want.asked) seconds
                  (asks_for sights config referrer specifier want parts.target check.wants parts.answers_so);
              leads_there = subst (λ s. leads sights config referrer s ≡ Some parts.target) seconds
                  (ap if_ok parts.answers_so);
              is_name = ap not_folder parts.served ∙ cond-false _ None (Some parts.url) parts.is_file;
            };
            same_referrer = earlier.same_referrer;
            same_asked = earlier.same_asked;
            apart = earlier.apart;
            shown_referrer = shows;
            shown_first = (let p : first ≡ (clashing need before.needs before.spellings).specifier = cc in p);
            shown_first_to =
                (let p : first_to ≡ shown config (a_module (clashing need before.needs before.spellings).target) = cc in p);
            shown_second_to = (let p : second_to ≡ shown config (a_module parts.target) = cc in p);
          }

    -- ---- a visit that clashes

    end_clash : {X : Type 0} (asking : Asking Question Answer (Result X TraceFault)) (before : Trail)
        (end : Ended (Result X TraceFault) Trail LimitName) → evaluated (answers sights) before asking ≡ end
        → result_of end ≡ Err clash → outcome (always sights) asking ≡ Err clash
    end_clash asking before (ends result after) is e = came_to asking before after result is ∙ e
    end_clash asking before (stopped limit after) is e = absurd (cc)

    opens_no_clash : (before : Gathered) (referrer : Referrer Module)
        → outcome (always sights) (opens config before referrer) ≡ Err clash → ⊥
    opens_no_clash before the_page e = by_page (served_at config the_page) e
      where
        by_page : (name : Option (List ℕ)) → page_opened config before name ≡ Err clash → ⊥
        by_page None f = absurd (cc)
        by_page (Some url) f = absurd (cc)
    opens_no_clash before (a_module m) e = by_source (always sights (of_module m.path)) e
      where
        by_source : (found : Result Source NoSource) → module_opened config before m found ≡ Err clash → ⊥
        by_source (Ok source) f = absurd (cc)
        by_source (Err (not_module reason)) f = absurd (cc)
        by_source (Err (above limit)) f = absurd (cc)

    request_clash : (before : Gathered) (trail : Trail) (referrer : Referrer Module) (front : List (List ℕ))
        (specifier : List ℕ) → Next before referrer
        → RefusedRequest sights config before trail referrer clash front specifier
        → IsClash sights config shown_by first first_to second second_to
    request_clash before trail referrer front specifier next is =
        let opened = came_to (opens config before referrer) trail is.middle (Ok is.opened) is.opens_so in
        let opening = (lead sights config).opens before referrer is.opened opened in
        let holds = (keep sights config).opens before referrer is.opened opened next.stands in
        let still : IsVisited is.opened.after.modules referrer =
        subst (λ ms. IsVisited ms referrer) (sym opening.1) next.is_visited in
        let at : (s : List ℕ) → Contains (front ++ specifier ∷ is.behind) s → Contains (specifiers sights config referrer) s =
        λ s c. subst (λ ss. Contains ss s) (sym is.split) c in
        let tables =
        (followed_later (always sights) (rules config) (specifiers sights config) (leads sights config)
        (lead sights config) (Stands sights config) Leaves (keep sights config) referrer front is.opened.after is.tables
        still (λ s c. at s (Contains-append_left front (specifier ∷ is.behind) s c))
        (came_to (followed (rules config) is.opened.after referrer front) is.middle is.later (Ok is.tables) is.passed)).holds
        holds in
        clash_of is.tables referrer specifier tables
        (at specifier (Contains-append_right front (specifier ∷ is.behind) specifier (contains_here specifier is.behind)))
        (checked config is.tables referrer specifier) refl
        (end_clash (follows config is.tables referrer specifier) is.later
        (evaluated (answers sights) is.later (follows config is.tables referrer specifier)) refl is.refused)

    visit_clash : (before : Gathered) (trail : Trail) (referrer : Referrer Module) (asked : List Question)
        → Next before referrer → RefusedAt sights config before trail referrer clash asked
        → IsClash sights config shown_by first first_to second second_to
    visit_clash before trail referrer _ next (at_opening refuses) =
        absurd (opens_no_clash before referrer
        (end_clash (opens config before referrer) trail
        (evaluated (answers sights) trail (opens config before referrer)) refl refuses))
    visit_clash before trail referrer _ next (at_request front specifier is) =
        request_clash before trail referrer front specifier next is

pub clashes_are_of_requests : ClashesAreOfRequests
clashes_are_of_requests sights config referrer first first_to second second_to e =
    let at = refused_in_order sights config (Clash referrer first first_to second second_to) e in
    visit_clash sights config referrer first first_to second second_to at.before at.trail at.referrer at.asked_last
    (comes_next sights config at.before at.trail at.referrer at.comes) at.refused
