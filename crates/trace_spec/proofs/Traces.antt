-- The laws of a config's trace, by what its steps do.
use Rattle.std.specs.Prelude.{◌≡◌, ◌≤◌, ◌↔◌, ◌||◌, ℕ, true, List, [], ◌∷◌, ◌++◌, length, map, flat_map}
use Rattle.std.specs.Prelude.{Option, Some, None, option_map, Result, Ok, Err, unwrap_or, nat_lt, Contains}
use Rattle.std.specs.Str.{IsUtf8}
use Rattle.std.proofs.Common.{refl, sym, ap, ◌∙◌, subst, arith, lit≤, length-append, append_assoc, append-nil}
use mathlib.Core.Logic.{inl, inr}
use Rattle.std.proofs.lemmas.Bool.{ltb-true, ltb-false}
use Rattle.std.proofs.lemmas.List.{map-append}
use Rattle.asking_spec.specs.Askings.{outcome}
use Rattle.asking_spec.specs.Evaluation.{Ended, ends, stopped, evaluated}
use Rattle.asking_spec.proofs.EvaluationLemmas.{ends_outcome}
use Rattle.tree_spec.specs.declared.LimitName.{LimitName}
use Rattle.tree_spec.specs.declared.LimitName.TheVariants.{Modules, Requests, Specifier}
use Rattle.tree_spec.specs.Limits.{limit_number}
use Rattle.tree_spec.specs.LookAskings.{Sights}
use Rattle.tree_spec.specs.LookLimits.{Trail, no_trail}
use Rattle.url_spec.specs.Specifiers.{normalized}
use Rattle.layout_spec.specs.declared.Need.{Need}
use Rattle.layout_spec.specs.Needs.{NoClash}
use Rattle.layout_spec.proofs.Contained.{contains_none, contains_here, contains_there}
use Rattle.layout_spec.proofs.CountedNeeds.{same_need, with_need_old, with_need_new, with_need_cases}
use Rattle.trace_spec.specs.declared.TraceFault.{TraceFault}
use Rattle.trace_spec.specs.declared.TraceFault.TheVariants.{Limit}
use Rattle.trace_spec.specs.Walking.{Referrer, the_page, a_module, new_modules}
use Rattle.trace_spec.specs.Levels.{page}
use Rattle.trace_spec.specs.FirstRefusals.{Failure, refused, halted, failed}
use Rattle.trace_spec.specs.Modules.{Config, Module, is_module, web_name, shown, file_name}
use Rattle.trace_spec.specs.Questions.{Source, answers, always}
use Rattle.trace_spec.specs.Checks.{Gathered, Spelling, opens, asking_at, follows, with_request, has_room}
use Rattle.trace_spec.specs.Checks.{nothing_gathered, rules}
use Rattle.trace_spec.specs.Traces.{trace, result_of, traced, if_ok, source, specifiers, resolution, leads}
use Rattle.trace_spec.specs.Traces.{ReachedByPage}
use Rattle.trace_spec.specs.Laws.{HasLevels, IsWhatIsReached, ModulesOnce, FewRequests, FewModules, refusal_by, IsFirst, Decides}
use Rattle.trace_spec.specs.Laws.{FirstRefusalDecides, NeverOutOfRoom, no_module, no_source, target_of, need_of}
use Rattle.trace_spec.specs.Laws.{spelling_of, request_put, requests_put, opening_put, visits_put, opening, visits_of, led_in}
use Rattle.trace_spec.specs.Laws.{InOrder, GoesInOrder, AsksFor, AreSpelled, Passes, AllPass, RequestsPass, NeedsAre}
use Rattle.trace_spec.specs.Laws.{NeedsAreRequests}
use Rattle.trace_spec.proofs.SpellingLemmas.{spelled_more}
use Rattle.trace_spec.proofs.Lists.{same_module, AreOnce, new_module, once_more}
use Rattle.trace_spec.proofs.NeedLemmas.{no_clash_more}
use Rattle.trace_spec.proofs.Steps.{answers_always, traced_outcome, file_name_parts, opens_is, LeavesTables, opens_leaves}
use Rattle.trace_spec.proofs.Steps.{Fits, Follows, follows_is, follows_asks}
use Rattle.trace_spec.proofs.WalkModules.{LeadsBy, walk_has_levels, walk_is_reached}
use Rattle.trace_spec.proofs.WalkOrder.{all_in, PutsBy, walk_in_order}
use Rattle.trace_spec.proofs.WalkRefusals.{Grows, KeepsFew, walk_where_all_pass, walk_fails_first, walk_few}
use Rattle.trace_spec.proofs.WalkRoom.{walk_same}
use Rattle.trace_spec.proofs.WalkFacts.{IsVisited, visited_still, Keeps, AtEnd, WasVisited, at_end}

-- a request of a referrer
pub record Link : Type 0 where
  pub referrer : Referrer Module
  pub specifier : List ℕ

module _ (sights : Sights) (config : Config) where
  -- ---- where requests lead

  leads_there : (referrer : Referrer Module) (specifier : List ℕ) (target : Module)
      → resolution sights config referrer specifier ≡ Ok target
      → leads sights config referrer specifier ≡ Some target
  leads_there referrer specifier target answers = ap if_ok answers

  pub lead : LeadsBy (always sights) (rules config) (specifiers sights config) (leads sights config)
  lead = record {
    starts = refl;
    opens = λ before referrer opened e. let is = opens_is sights config before referrer opened e in
        (sym (ap (λ o. unwrap_or o []) is.asks), (opens_leaves sights config before referrer opened e).modules);
    follows = λ before referrer specifier after e.
        let is = follows_is sights config before referrer specifier after e in (
          is.target,
          leads_there referrer specifier is.target is.answers,
          ap (λ b. b.modules) is.fits.is,
        );
  }

  -- ---- how the tables grow

  one_more : (target : Module) (modules : List Module) → has_room modules target ≡ true
      → length modules ≤ limit_number Modules
      → length (modules ++ new_modules is_module modules (target ∷ [])) ≤ limit_number Modules
  one_more target modules test few =
      elim (new_module modules target) [
        | inl known ↦
            omega (arith, length-append modules (new_modules is_module modules (target ∷ [])), ap length known.1)
        | inr new ↦ let room =
            ltb-true (length modules) (limit_number Modules)
            (subst (λ b. (b || nat_lt (length modules) (limit_number Modules)) ≡ true) new.0 test) in
            omega (arith, length-append modules (new_modules is_module modules (target ∷ [])), ap length new.1)
      ]

  grows_by : (before after : Gathered) (need : Need) (spelling : Spelling) → Fits before need spelling after
      → Grows (answers sights) (rules config) no_trail before after
  grows_by before after need spelling fits = record {
    few = λ few. subst (λ b. length b.modules ≤ limit_number Modules) (sym fits.is)
        (one_more spelling.target before.modules fits.room few);
    longer =
        subst (λ b. length before.modules ≤ length b.modules) (sym fits.is)
        (omega (arith, length-append before.modules (new_modules is_module before.modules (spelling.target ∷ []))));
  }

  pub keep_few : KeepsFew (answers sights) (rules config) no_trail
  keep_few = record {
    starts = refl;
    opens = λ before state referrer opened after e.
        let is =
        opens_leaves sights config before referrer opened
        (sym (ends_outcome (answers sights) (always sights) (answers_always sights) state after
        (opens config before referrer) (Ok opened) e)) in
        record {
          few = λ few. subst (λ ms. length ms ≤ limit_number Modules) (sym is.modules) few;
          longer = omega (arith, ap length is.modules);
        };
    follows = λ before state referrer specifier after later e.
        let is =
        follows_is sights config before referrer specifier after
        (sym (ends_outcome (answers sights) (always sights) (answers_always sights) state later
        (follows config before referrer specifier) (Ok after) e)) in
        grows_by before after _ _ is.fits;
  }

  -- ---- the order

  abbrev pub request_of : Referrer Module → List ℕ → Link
  request_of referrer specifier = record { referrer = referrer; specifier = specifier }

  abbrev pub put_request : Gathered → Link → Gathered
  put_request before link = request_put sights config before link.referrer link.specifier

  target_is : (before : Gathered) (referrer : Referrer Module) (specifier : List ℕ) (after : Gathered)
      (is : Follows sights config before referrer specifier after)
      → target_of sights config referrer specifier ≡ is.target
  target_is before referrer specifier after is =
      ap (λ o. unwrap_or o no_module) (leads_there referrer specifier is.target is.answers)

  -- what a request that went through needs
  need_is : (before : Gathered) (referrer : Referrer Module) (specifier : List ℕ) (after : Gathered)
      (is : Follows sights config before referrer specifier after)
      → need_of sights config referrer specifier
      ≡ record { referrer = is.want.referrer; asked = is.want.asked; target = is.url }
  need_is before referrer specifier after is =
      let name : unwrap_or (web_name config referrer) [] ≡ is.want.referrer =
      ap (λ o. unwrap_or o []) is.checked.wants.named in
      let asked : normalized (unwrap_or (web_name config referrer) []) specifier ≡ is.want.asked =
      ap (λ n. normalized n specifier) name ∙ is.checked.wants.asks in
      let url : unwrap_or (file_name config (target_of sights config referrer specifier)) [] ≡ is.url =
      ap (λ m. unwrap_or (file_name config m) []) (target_is before referrer specifier after is)
      ∙ ap (λ o. unwrap_or o []) is.is_name in
      same_need _ _ name asked url

  spelling_is : (before : Gathered) (referrer : Referrer Module) (specifier : List ℕ) (after : Gathered)
      (is : Follows sights config before referrer specifier after)
      → spelling_of sights config referrer specifier
      ≡ record { referrer = shown config referrer; specifier = specifier; target = is.target }
  spelling_is before referrer specifier after is =
      λ i. record {
        referrer = shown config referrer;
        specifier = specifier;
        target = target_is before referrer specifier after is i;
      }

  pub put_in : PutsBy (always sights) (rules config) (specifiers sights config) (leads sights config) opening
      (asking_at config) (opening_put sights) put_request request_of
  put_in = record {
    opens = λ before referrer opened e. let is = opens_is sights config before referrer opened e in
        (sym (ap (λ o. unwrap_or o []) is.asks), is.after, is.questions);
    follows = λ before referrer specifier after e.
        let is = follows_is sights config before referrer specifier after e in
        let same : after ≡ put_request before (request_of referrer specifier) =
        is.fits.is ∙ (λ i. with_request before (sym (need_is before referrer specifier after is) i)
        (sym (spelling_is before referrer specifier after is) i)) in
        (same, is.questions);
  }

  pub requests_put_is : (referrer : Referrer Module) (some : List (List ℕ)) (before : Gathered)
      → requests_put sights config referrer before some ≡ all_in put_request before (map (request_of referrer) some)
  requests_put_is referrer [] before = refl
  requests_put_is referrer (specifier ∷ more) before =
      requests_put_is referrer more (put_request before (request_of referrer specifier))

  abbrev visit_in : Gathered → Referrer Module → Gathered
  visit_in before referrer =
      all_in put_request (opening_put sights before referrer)
      (map (request_of referrer) (specifiers sights config referrer))

  visits_put_is : (before : Gathered) (visits : List (Referrer Module))
      → visits_put sights config before visits ≡ all_in visit_in before visits
  visits_put_is before [] = refl
  visits_put_is before (referrer ∷ more) =
      ap (λ b. visits_put sights config b more)
      (requests_put_is referrer (specifiers sights config referrer) (opening_put sights before referrer))
      ∙ visits_put_is (visit_in before referrer) more

  -- requests leave the sources as they are, and a visit puts one there
  sources_left : (some : List Link) (before : Gathered) → (all_in put_request before some).sources ≡ before.sources
  sources_left [] before = refl
  sources_left (request ∷ more) before = sources_left more (put_request before request)

  abbrev opened_source : Module → Source
  opened_source m = unwrap_or (source sights m) no_source

  sources_put : (modules : List Module) (before : Gathered)
      → (all_in visit_in before (map a_module modules)).sources ≡ before.sources ++ map opened_source modules
  sources_put [] before = sym (append-nil before.sources)
  sources_put (m ∷ more) before =
      sources_put more (visit_in before (a_module m))
      ∙ (ap (λ ss. ss ++ map opened_source more)
      (sources_left (map (request_of (a_module m)) (specifiers sights config (a_module m)))
      (opening_put sights before (a_module m)))
      ∙ append_assoc before.sources (opened_source m ∷ []) (map opened_source more))

  -- requests put what they lead to there, in their order
  abbrev target_for : Link → Module
  target_for link = target_of sights config link.referrer link.specifier

  abbrev targets_of : Referrer Module → List Module
  targets_of referrer = map target_for (map (request_of referrer) (specifiers sights config referrer))

  targets_more : (some : List Link) (before : Gathered)
      → (all_in put_request before some).targets ≡ before.targets ++ map target_for some
  targets_more [] before = sym (append-nil before.targets)
  targets_more (request ∷ more) before =
      targets_more more (put_request before request)
      ∙ append_assoc before.targets (target_for request ∷ []) (map target_for more)

  targets_opened : (before : Gathered) (referrer : Referrer Module)
      → (opening_put sights before referrer).targets ≡ before.targets
  targets_opened before the_page = refl
  targets_opened before (a_module m) = refl

  targets_put : (visits : List (Referrer Module)) (before : Gathered)
      → (all_in visit_in before visits).targets ≡ before.targets ++ flat_map targets_of visits
  targets_put [] before = sym (append-nil before.targets)
  targets_put (referrer ∷ more) before =
      targets_put more (visit_in before referrer)
      ∙ (ap (λ ts. ts ++ flat_map targets_of more)
      (targets_more (map (request_of referrer) (specifiers sights config referrer)) (opening_put sights before referrer)
      ∙ ap (λ ts. ts ++ targets_of referrer) (targets_opened before referrer))
      ∙ append_assoc before.targets (targets_of referrer) (flat_map targets_of more))

  -- where each request leads to a module
  abbrev LeadsSomewhere : Referrer Module → List (List ℕ) → Type 0
  LeadsSomewhere referrer some =
      (specifier : List ℕ) → Contains some specifier
      → (target : Module) × (leads sights config referrer specifier ≡ Some target)

  led_by : (referrer : Referrer Module) (some : List (List ℕ)) → LeadsSomewhere referrer some
      → map Some (map target_for (map (request_of referrer) some)) ≡ map (leads sights config referrer) some
  led_by referrer [] lead = refl
  led_by referrer (specifier ∷ more) lead =
      let found = lead specifier (contains_here specifier more) in
      let first : Some (target_of sights config referrer specifier) ≡ leads sights config referrer specifier =
      ap (λ o. Some (unwrap_or o no_module)) found.1 ∙ sym found.1 in
      (λ i. first i ∷ led_by referrer more (λ s c. lead s (contains_there s specifier more c)) i)

  led_by_modules : (modules : List Module)
      → ((m : Module) → Contains modules m → LeadsSomewhere (a_module m) (specifiers sights config (a_module m)))
      → map Some (flat_map targets_of (map a_module modules)) ≡ led_in sights config (map a_module modules)
  led_by_modules [] lead = refl
  led_by_modules (m ∷ more) lead =
      map-append Some (targets_of (a_module m)) (flat_map targets_of (map a_module more))
      ∙ (λ i. led_by (a_module m) (specifiers sights config (a_module m)) (lead m (contains_here m more)) i
      ++ led_by_modules more (λ n c. lead n (contains_there n m more c)) i)

  -- where each module has a source
  sources_are : (modules : List Module)
      → ((m : Module) → Contains modules m → (found : Source) × (source sights m ≡ Some found))
      → map Some (map opened_source modules) ≡ map (source sights) modules
  sources_are [] has = refl
  sources_are (m ∷ more) has =
      let found = has m (contains_here m more) in
      let first : Some (opened_source m) ≡ source sights m =
      ap (λ o. Some (unwrap_or o no_source)) found.1 ∙ sym found.1 in
      (λ i. first i ∷ sources_are more (λ n c. has n (contains_there n m more c)) i)

  source_by : (m : Module) (some : List (List ℕ)) (found : Option Source)
      → option_map (λ (s : Source). s.specifiers) found ≡ Some some → (is : Source) × (found ≡ Some is)
  source_by m some None e = absurd (cc)
  source_by m some (Some is) e = (is, refl)

  -- ---- what holds of the tables

  -- a need of a request of the page, or of a module that stands in the table
  pub record IsOf (before : Gathered) (need : Need) : Type 0 where
    pub referrer : Referrer Module
    pub visited : IsVisited before.modules referrer
    pub named : web_name config referrer ≡ Some need.referrer
    pub specifier : List ℕ
    pub is_request : Contains (specifiers sights config referrer) specifier
    pub utf8 : IsUtf8 specifier
    pub asks : AsksFor need.referrer specifier need.asked
    pub target : Module
    pub leads_to : leads sights config referrer specifier ≡ Some target
    pub is_name : file_name config target ≡ Some need.target

  pub record Stands (before : Gathered) : Type 0 where
    pub each : (need : Need) → Contains before.needs need → IsOf before need
    pub spelled : AreSpelled sights config before.needs before.spellings
    pub no_clash : NoClash before.needs
    pub once : AreOnce before.modules
    pub few_requests : length before.targets ≤ limit_number Requests

  still_of : (before : Gathered) (need other : Need) (spelling : Spelling) → IsOf before other
      → IsOf (with_request before need spelling) other
  still_of before need other spelling is = record {
    referrer = is.referrer;
    visited = visited_still is.referrer before.modules (new_modules is_module before.modules (spelling.target ∷ [])) is.visited;
    named = is.named;
    specifier = is.specifier;
    is_request = is.is_request;
    utf8 = is.utf8;
    asks = is.asks;
    target = is.target;
    leads_to = is.leads_to;
    is_name = is.is_name;
  }

  stand_more : (before : Gathered) (referrer : Referrer Module) (specifier : List ℕ) (after : Gathered)
      → IsVisited before.modules referrer → Contains (specifiers sights config referrer) specifier → Stands before
      → Follows sights config before referrer specifier after → Stands after
  stand_more before referrer specifier after visited asked_for stands is =
      let need : Need = record { referrer = is.want.referrer; asked = is.want.asked; target = is.url } in
      let own : IsOf before need = record {
        referrer = referrer;
        visited = visited;
        named = is.checked.wants.named;
        specifier = specifier;
        is_request = asked_for;
        utf8 = is.checked.wants.utf8;
        asks = follows_asks sights config before referrer specifier after is;
        target = is.target;
        leads_to = leads_there referrer specifier is.target is.answers;
        is_name = is.is_name;
      } in
      subst Stands (sym is.fits.is)
      (record {
        each = λ other c. still_of before need other _ (elim (with_need_cases before.needs need other c) [
          | inl old ↦ stands.each other old
          | inr new ↦ subst (IsOf before) new own
        ]);
        spelled = spelled_more sights config before.needs need before.spellings _ stands.spelled (record {
          referrer = referrer;
          leads_for = record {
            named = own.named;
            shown_so = refl;
            is_request = asked_for;
            short = ltb-false (limit_number Specifier) (length specifier) is.checked.short;
            asks = own.asks;
            leads_there = own.leads_to;
            is_name = is.is_name;
          };
        });
        no_clash = no_clash_more before.needs need stands.no_clash is.fits.clear;
        once = once_more before.modules is.target stands.once;
        few_requests =
            let room = ltb-true (length before.targets) (limit_number Requests) is.checked.few in
            omega (arith, room, length-append before.targets (is.target ∷ []));
      })

  passes_now : (before : Gathered) (referrer : Referrer Module) (specifier : List ℕ) (after : Gathered)
      → Follows sights config before referrer specifier after → Passes sights config after referrer specifier
  passes_now before referrer specifier after is =
      let need : Need = record { referrer = is.want.referrer; asked = is.want.asked; target = is.url } in
      record {
        need = need;
        target = is.target;
        named = is.checked.wants.named;
        utf8 = is.checked.wants.utf8;
        asks = follows_asks sights config before referrer specifier after is;
        answers = is.answers;
        servable = (file_name_parts config is.target is.url is.is_name).servable;
        is_name = is.is_name;
        is_need = subst (λ b. Contains b.needs need) (sym is.fits.is) (with_need_new before.needs need);
      }

  passes_still : (before : Gathered) (need : Need) (spelling : Spelling) (after : Gathered) (referrer : Referrer Module)
      (specifier : List ℕ) → after ≡ with_request before need spelling → Passes sights config before referrer specifier
      → Passes sights config after referrer specifier
  passes_still before need spelling after referrer specifier is passes =
      subst (λ b. Passes sights config b referrer specifier) (sym is)
      (record {
        need = passes.need;
        target = passes.target;
        named = passes.named;
        utf8 = passes.utf8;
        asks = passes.asks;
        answers = passes.answers;
        servable = passes.servable;
        is_name = passes.is_name;
        is_need = with_need_old before.needs need passes.need passes.is_need;
      })

  of_on : (before after : Gathered) (need : Need) → LeavesTables before after → IsOf before need → IsOf after need
  of_on before after need leaves is = record {
    referrer = is.referrer;
    visited = subst (λ ms. IsVisited ms is.referrer) (sym leaves.modules) is.visited;
    named = is.named;
    specifier = is.specifier;
    is_request = is.is_request;
    utf8 = is.utf8;
    asks = is.asks;
    target = is.target;
    leads_to = is.leads_to;
    is_name = is.is_name;
  }

  spelled_on : (before after : Gathered) → LeavesTables before after
      → AreSpelled sights config before.needs before.spellings
      → AreSpelled sights config after.needs after.spellings
  spelled_on before after leaves spelled =
      subst (λ ns. AreSpelled sights config ns after.spellings) (sym leaves.needs)
      (subst (λ ss. AreSpelled sights config before.needs ss) (sym leaves.spellings) spelled)

  stand_on : (before after : Gathered) → LeavesTables before after → Stands before → Stands after
  stand_on before after leaves stands = record {
    each = λ need c. of_on before after need leaves (stands.each need (subst (λ ns. Contains ns need) leaves.needs c));
    spelled = spelled_on before after leaves stands.spelled;
    no_clash = subst NoClash (sym leaves.needs) stands.no_clash;
    once = subst AreOnce (sym leaves.modules) stands.once;
    few_requests = subst (λ ts. length ts ≤ limit_number Requests) (sym leaves.targets) stands.few_requests;
  }

  pass_on : (before after : Gathered) (referrer : Referrer Module) (specifier : List ℕ) → LeavesTables before after
      → Passes sights config before referrer specifier → Passes sights config after referrer specifier
  pass_on before after referrer specifier leaves passes = record {
    need = passes.need;
    target = passes.target;
    named = passes.named;
    utf8 = passes.utf8;
    asks = passes.asks;
    answers = passes.answers;
    servable = passes.servable;
    is_name = passes.is_name;
    is_need = subst (λ ns. Contains ns passes.need) (sym leaves.needs) passes.is_need;
  }

  pub keep : Keeps (always sights) (rules config) (specifiers sights config) (leads sights config) lead Stands
      (λ referrer specifier before. Passes sights config before referrer specifier)
  keep = record {
    starts =
        record {
          each = λ need c. absurd (contains_none need c);
          spelled = tt;
          no_clash = λ one other c d. absurd (contains_none one c);
          once = λ i j m e f. absurd (cc);
          few_requests = lit≤ tt;
        };
    opens = λ before referrer opened e stands.
        stand_on before opened.after (opens_leaves sights config before referrer opened e) stands;
    still = λ before referrer opened e other earlier passes.
        pass_on before opened.after other earlier (opens_leaves sights config before referrer opened e) passes;
    follows =
        λ before referrer specifier after visited asked_for stands e.
        stand_more before referrer specifier after visited asked_for stands
        (follows_is sights config before referrer specifier after e);
    leaves =
        λ before referrer specifier after e. passes_now before referrer specifier after
        (follows_is sights config before referrer specifier after e);
    stays = λ before referrer specifier after e other earlier passes.
        let is = follows_is sights config before referrer specifier after e in
        passes_still before _ _ after other earlier is.fits.is passes;
  }

  -- ---- a trace of this config

  module _ (all : Gathered) (is : traced sights config ≡ Ok all) where
    whole : outcome (always sights) (trace config) ≡ Ok all
    whole = traced_outcome sights config all is

    reached_or_not : (m : Module) → Contains all.modules m ↔ ReachedByPage sights config (a_module m)
    reached_or_not m =
        walk_is_reached (always sights) (rules config) (specifiers sights config)
        (leads sights config) lead same_module all whole m

    end : AtEnd (always sights) (rules config) (specifiers sights config) (leads sights config) lead Stands
        (λ referrer specifier before. Passes sights config before referrer specifier) keep all
    end = at_end (always sights) (rules config) (specifiers sights config) (leads sights config) lead Stands
        (λ referrer specifier before. Passes sights config before referrer specifier) keep all whole

    visited_reached : (referrer : Referrer Module) → IsVisited all.modules referrer → ReachedByPage sights config referrer
    visited_reached the_page visited = page
    visited_reached (a_module m) visited = (reached_or_not m).0 visited

    all_pass : (referrer : Referrer Module) → WasVisited (always sights) (rules config) (specifiers sights config)
        (leads sights config) lead Stands (λ referrer specifier before. Passes sights config before referrer specifier)
        keep all referrer → AllPass sights config all referrer
    all_pass referrer was =
        let opened = opens_is sights config was.before referrer was.opened.0 was.opened.1 in
        record {
          specifiers = was.opened.0.specifiers;
          asks = opened.asks;
          pass = λ specifier c. was.leaves specifier
              (subst (λ o. Contains (unwrap_or o []) specifier) (sym opened.asks) c);
        }

    reached_pass : (referrer : Referrer Module) → ReachedByPage sights config referrer → AllPass sights config all referrer
    reached_pass the_page reached = all_pass the_page end.page
    reached_pass (a_module m) reached = all_pass (a_module m) (end.each m ((reached_or_not m).1 reached))

    needs_are : NeedsAre sights config all
    needs_are = record {
      each = λ need c.
          let of = end.holds.each need c in
          record {
            referrer = of.referrer;
            reached = visited_reached of.referrer of.visited;
            named = of.named;
            specifier = of.specifier;
            is_request = of.is_request;
            utf8 = of.utf8;
            asks = of.asks;
            target = of.target;
            leads_there = of.leads_to;
            is_name = of.is_name;
          };
      spelled = end.holds.spelled;
      no_clash = end.holds.no_clash;
    }

    leads_on : (referrer : Referrer Module) → AllPass sights config all referrer
        → LeadsSomewhere referrer (specifiers sights config referrer)
    leads_on referrer pass specifier c =
        let passes = pass.pass specifier (subst (λ o. Contains (unwrap_or o []) specifier) pass.asks c) in
        (passes.target, leads_there referrer specifier passes.target passes.answers)

    in_order : InOrder sights config all
    in_order =
        let order =
        walk_in_order (always sights) (rules config) (specifiers sights config) (leads sights config) opening
        (asking_at config) (opening_put sights) put_request request_of lead put_in all whole in
        let page : Gathered = visit_in nothing_gathered the_page in
        let sources : all.sources ≡ map opened_source all.modules =
        ap (λ b. b.sources) order.tables ∙ (sources_put all.modules page
        ∙ ap (λ ss. ss ++ map opened_source all.modules)
        (sources_left (map (request_of the_page) (specifiers sights config the_page)) nothing_gathered)) in
        let targets : all.targets ≡ flat_map targets_of (visits_of all) =
        ap (λ b. b.targets) order.tables ∙ targets_put (visits_of all) nothing_gathered in
        record {
          tables = order.tables ∙ sym (visits_put_is nothing_gathered (visits_of all));
          targets = ap (map Some) targets
              ∙ (map-append Some (targets_of the_page) (flat_map targets_of (map a_module all.modules))
              ∙ (λ i. led_by the_page (specifiers sights config the_page) (leads_on the_page (all_pass the_page end.page)) i
              ++ led_by_modules all.modules (λ m c. leads_on (a_module m) (all_pass (a_module m) (end.each m c))) i));
          sources =
              ap (map Some) sources ∙ sources_are all.modules
              (λ m c. let pass = all_pass (a_module m) (end.each m c) in
              source_by m pass.specifiers (source sights m) pass.asks);
          asked = order.asked;
        }

  -- ---- the first refusal

  record OkEnded (all : Gathered) (end : Ended (Result Gathered TraceFault) Trail LimitName) : Type 0 where
    trail : Trail
    is : end ≡ ends (Ok all) trail

  ok_ended : (all : Gathered) (end : Ended (Result Gathered TraceFault) Trail LimitName) → result_of end ≡ Ok all
      → OkEnded all end
  ok_ended all (ends result trail) e = record { trail = trail; is = ap (λ r. ends r trail) e }
  ok_ended all (stopped limit trail) e = absurd (cc)

  record ErrEnded (refusal : TraceFault) (end : Ended (Result Gathered TraceFault) Trail LimitName) : Type 0 where
    why : Failure TraceFault LimitName
    shown : refusal ≡ refusal_by why
    trail : Trail
    is : end ≡ failed why trail

  err_ended : (refusal : TraceFault) (end : Ended (Result Gathered TraceFault) Trail LimitName)
      → result_of end ≡ Err refusal → ErrEnded refusal end
  err_ended refusal (ends (Ok all) trail) e = absurd (cc)
  err_ended refusal (ends (Err other) trail) e =
      record { why = refused other; shown = (let p : refusal ≡ other = cc in p); trail = trail; is = refl }
  err_ended refusal (stopped limit trail) e =
      record { why = halted limit; shown = (let p : refusal ≡ Limit limit = cc in p); trail = trail; is = refl }

  failed_refuses : (why : Failure TraceFault LimitName) (trail : Trail)
      → result_of {X = Gathered} (failed why trail) ≡ Err (refusal_by why)
  failed_refuses (refused refusal) trail = refl
  failed_refuses (halted limit) trail = refl

  first_of : (refusal : TraceFault) → traced sights config ≡ Err refusal → IsFirst sights config refusal
  first_of refusal e =
      let end = err_ended refusal (evaluated (answers sights) no_trail (trace config)) e in
      record {
        why = end.why;
        shown = end.shown;
        trail = end.trail;
        first = (walk_fails_first (answers sights) (rules config) no_trail keep_few end.why end.trail).0 end.is;
      }

  refusal_from : (refusal : TraceFault) → IsFirst sights config refusal → traced sights config ≡ Err refusal
  refusal_from refusal first =
      ap result_of ((walk_fails_first (answers sights) (rules config) no_trail keep_few first.why first.trail).1 first.first)
      ∙ (failed_refuses first.why first.trail ∙ ap Err (sym first.shown))

  pub decides : Decides sights config
  decides = record {
    passes = λ all. (
      (λ e. let end = ok_ended all (evaluated (answers sights) no_trail (trace config)) e in
          record {
            trail = end.trail;
            passed = (walk_where_all_pass (answers sights) (rules config) no_trail keep_few all end.trail).0 end.is;
          }),
      (λ pass. ap result_of
          ((walk_where_all_pass (answers sights) (rules config) no_trail keep_few all pass.trail).1 pass.passed)),
    );
    refuses = λ refusal. (first_of refusal, refusal_from refusal);
  }

-- ---- the laws

pub has_levels : HasLevels
has_levels sights config all is =
    walk_has_levels (always sights) (rules config) (specifiers sights config) (leads sights config)
    (lead sights config) all (whole sights config all is)

pub is_what_is_reached : IsWhatIsReached
is_what_is_reached sights config all is m = reached_or_not sights config all is m

pub modules_once : ModulesOnce
modules_once sights config all is = (end sights config all is).holds.once

pub few_modules : FewModules
few_modules sights config all is =
    let end = ok_ended sights config all (evaluated (answers sights) no_trail (trace config)) is in
    walk_few (answers sights) (rules config) no_trail (keep_few sights config) all end.trail end.is

pub few_requests : FewRequests
few_requests sights config all is = (end sights config all is).holds.few_requests

pub first_refusal_decides : FirstRefusalDecides
first_refusal_decides sights config = decides sights config

pub never_out_of_room : NeverOutOfRoom
never_out_of_room sights config above = walk_same (answers sights) (rules config) no_trail above (keep_few sights config)

pub goes_in_order : GoesInOrder
goes_in_order sights config all is = in_order sights config all is

pub requests_pass : RequestsPass
requests_pass sights config all is = reached_pass sights config all is

pub needs_are_requests : NeedsAreRequests
needs_are_requests sights config all is = needs_are sights config all is
