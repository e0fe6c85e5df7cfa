-- What is kept of answers.
--     same_stays           an answerer that refers to what it referred to
--     keeps_none           what isn't changed
--     keeps_module, keeps_request    what is kept stays so, where one answer more is
--     keeps_given          an answer is kept, where one is given
--     keeps_told           the same where a part of it is copied for the walk
--     seen_source, seen_module       what is given is what is kept
--     never_under          an answer under other conditions
use Rattle.std.proofs.Common.{◌≡◌, ℕ, Bool, true, false, List, [], ◌∷◌, Option, Some, None, Result, Ok, Err, IfSome, refl, sym, ap, ◌∙◌, subst, ⊎_elim}
use Rattle.std.specs.Prelude.{IfOk, bytes_eq}
use Rattle.std.specs.Cmp.Lexicographic.{pointwise, pointwise_decides}
use Rattle.std.proofs.lemmas.Bool.{cond-true}
use Rattle.std.proofs.lemmas.Slice.Eq.{bytes_eq-Decides}
use Rattle.std.specs.declared.rc.Rc.{Rc}
use Rattle.std.specs.declared.alloc.Global.{Global}
use Rattle.tree_spec.proofs.ToldStates.{if_all, if_some}
use Rattle.tree_spec.specs.LookAskings.{Sights}
use Rattle.tree_spec.specs.declared.LimitName.{LimitName}
use Rattle.tree_spec.specs.declared.LimitName.TheVariants.{File, Bytes, Looks, Modules, ModuleRequests, Requests, Specifier, Entries, Brackets, Depth, Session, Map, Choices}
use Rattle.node_spec.specs.NodeAnswers.{Module, Refusal}
use Rattle.node_resolve.specs.Places.{module_of}
use Rattle.node_resolve.specs.Responses.{responded, by_node_fault}
use Rattle.node_resolve.specs.declared.fault.NodeFault.{NodeFault}
use Rattle.node_resolve.specs.declared.fault.NodeFault.TheVariants as node
use Rattle.node_resolve.specs.declared.found.Found.{Found}
use Rattle.module_sources.specs.Shown.{source_in}
use Rattle.module_sources.specs.declared.source.NoSource.{NoSource}
use Rattle.module_sources.specs.declared.source.Source.{Source}
use Rattle.package_lookup.specs.Answered.{State, Tells, Answered}
use Rattle.package_lookup.specs.Looked.{Sees}
use Rattle.package_lookup.specs.Lookups.{IsSameLookup}
use Rattle.package_lookup.specs.Responses.{Response, given, fails, passes, not_read, no_memory, never, looked, by_limit, deep_config}
use Rattle.package_lookup.specs.declared.fault.LookupFault.{LookupFault}
use Rattle.package_lookup.specs.declared.lookup.Lookup.{Lookup}
use Rattle.trace_spec.specs.Questions as spec
use Rattle.trace_spec.specs.Questions.{Question, Answer, of_module, of_request, put, always}
use Rattle.trace_spec.specs.declared.TraceFault.{TraceFault}
use Rattle.request_trace.specs.Answering.{result_by, KeepsOn, KeepsAnswer}
use Rattle.request_trace.proofs.AnswerLemmas.{afresh}
use Rattle.kept_spec.specs.Certificates.{LookSeen}
use Rattle.kept_answers.specs.Entries.{Request}
use Rattle.kept_answers.specs.Freshness.{module_looks, request_looks, is_fresh, IsSeenNow, StaysSeen}
use Rattle.kept_answers.specs.declared.modules.KeptModules.{KeptModules}
use Rattle.kept_answers.specs.declared.requests.KeptRequests.{KeptRequests}
use Rattle.kept_answers.proofs.Certifying.{as_failing, failing_of}
use Rattle.kept_trace.specs.Keeping.{stays_of, IsGivenBy, keeps}
use Rattle.kept_trace.specs.Ready.{kept_looks, is_anew}
use Rattle.kept_trace.specs.Sharing.{IsToldAs}
use Rattle.kept_trace.specs.declared.kept.Kept.{Kept}
use Rattle.kept_trace.proofs.Telling.{answers_always, with_told, told_so, if_each}

pub same_stays : {F : Type 0} (old new : Lookup F) (steps place : ℕ) (next later : Kept)
    → later.requests.names ≡ next.requests.names → IsSameLookup old new
    → stays_of new steps place later ≡ stays_of old steps place next
same_stays old new steps place next later named same =
    (λ i. record {
      references = same.folder i ∷ same.known i ∷ steps ∷ same.trail i ∷ place ∷ [];
      names = named i;
    })

looks_under : (kept : Kept) (conditions : List (List ℕ)) (parent specifier : List ℕ)
    → kept.requests.names ≡ conditions → kept_looks kept (of_request conditions parent specifier)
    ≡ request_looks kept.requests (record { parent = parent; specifier = specifier })
looks_under kept conditions parent specifier same =
    cond-true _ _ _ ((pointwise_decides bytes_eq-Decides kept.requests.names conditions).1 same)

-- ---- what is kept stays so

pub keeps_none : (before : State) (next : Kept) → KeepsOn (keeps next) (keeps next) before
keeps_none before next = if_all before.folder.holds (λ tree sights sees question kept. kept)

module _ (before : State) (next : Kept) where
  module _ (modules : KeptModules)
      (still : (path : List ℕ) → StaysSeen before (module_looks next.modules path) (module_looks modules path)) where
    abbrev with_modules : Kept
    with_modules = record { modules = modules; requests = next.requests }

    module_still : (sights : Sights)
        → ((path : List ℕ) → is_fresh sights (module_looks next.modules path) ≡ false
        → is_fresh sights (module_looks modules path) ≡ false)
        → (question : Question) → keeps next sights question → keeps with_modules sights question
    module_still sights each (of_module path) kept = λ under given. each path (kept under given)
    module_still sights each (of_request conditions parent specifier) kept = kept

    pub keeps_module : KeepsOn (keeps next) (keeps with_modules) before
    keeps_module =
        if_some
        {P = λ tree. (path : List ℕ) (sights : Sights) → Sees tree before.known sights
        → is_fresh sights (module_looks next.modules path) ≡ false → is_fresh sights (module_looks modules path) ≡ false}
        {Q = λ tree. (sights : Sights) → Sees tree before.known sights → (question : Question)
        → keeps next sights question → keeps with_modules sights question} before.folder.holds
        (λ tree each sights sees question kept.
        module_still sights (λ path. each path sights sees) question kept)
        (if_each
        (λ path tree. (sights : Sights) → Sees tree before.known sights
        → is_fresh sights (module_looks next.modules path) ≡ false → is_fresh sights (module_looks modules path) ≡ false)
        before.folder.holds still)

  module _ (requests : KeptRequests) (named : requests.names ≡ next.requests.names)
      (still : (request : Request)
      → StaysSeen before (request_looks next.requests request) (request_looks requests request)) where
    abbrev with_requests : Kept
    with_requests = record { modules = next.modules; requests = requests }

    request_still : (sights : Sights)
        → ((request : Request) → is_fresh sights (request_looks next.requests request) ≡ false
        → is_fresh sights (request_looks requests request) ≡ false)
        → (question : Question) → keeps next sights question → keeps with_requests sights question
    request_still sights each (of_module path) kept = kept
    request_still sights each (of_request conditions parent specifier) kept = λ under given.
        let before_so : next.requests.names ≡ conditions = sym named ∙ under in
        subst (λ looks. is_fresh sights looks ≡ false) (sym (looks_under with_requests conditions parent specifier under))
        (each (record { parent = parent; specifier = specifier })
        (subst (λ looks. is_fresh sights looks ≡ false) (looks_under next conditions parent specifier before_so)
        (kept before_so given)))

    pub keeps_request : KeepsOn (keeps next) (keeps with_requests) before
    keeps_request =
        if_some
        {P = λ tree. (request : Request) (sights : Sights) → Sees tree before.known sights
        → is_fresh sights (request_looks next.requests request) ≡ false
        → is_fresh sights (request_looks requests request) ≡ false}
        {Q = λ tree. (sights : Sights) → Sees tree before.known sights → (question : Question)
        → keeps next sights question → keeps with_requests sights question} before.folder.holds
        (λ tree each sights sees question kept.
        request_still sights (λ request. each request sights sees) question kept)
        (if_each
        (λ request tree. (sights : Sights) → Sees tree before.known sights
        → is_fresh sights (request_looks next.requests request) ≡ false
        → is_fresh sights (request_looks requests request) ≡ false) before.folder.holds still)

-- ---- an answer is kept, where one is given

module _ (before after : State) (next : Kept) (question : Question) where
  not_given : (result : Result (Answer question) TraceFault) (fault : TraceFault) → result ≡ Err fault
      → KeepsAnswer (keeps next) before question result
  not_given result fault is =
      if_all before.folder.holds
      (λ tree sights sees. subst (λ r. IfOk r (λ answer. keeps next sights question)) (sym is) tt)

  pub keeps_given : (response : Response (Answer question)) (result : Result (Answer question) TraceFault)
      → result ≡ result_by response → Answered (afresh before) (put question) response after
      → ((value : Answer question) → response ≡ given value → IsGivenBy question value
      → IsSeenNow before (kept_looks next question)) → KeepsAnswer (keeps next) before question result
  keeps_given (given value) result is a seen =
      with_told before.folder.holds
      (λ tree holds sights sees.
      let tells = told_so (λ t. Tells t (afresh before) (put question) (given value) after) before.folder.holds tree holds
      a.tells in
      let same : value ≡ always sights question =
      answers_always sights before.trail after.trail question value (tells.says sights sees) in
      subst (λ r. IfOk r (λ answer. keeps next sights question)) (sym is)
      (λ under is_given.
      told_so (λ t. (s : Sights) → Sees t before.known s → is_fresh s (kept_looks next question) ≡ false)
      before.folder.holds tree holds (seen value refl (subst (IsGivenBy question) (sym same) is_given)) sights sees))
  keeps_given (fails (passes which)) result is a seen = not_given result _ is
  keeps_given (fails not_read) result is a seen = not_given result _ is
  keeps_given (fails no_memory) result is a seen = not_given result _ is
  keeps_given (fails never) result is a seen = not_given result _ is

  pub keeps_told : (response : Response (Answer question)) (result : Result (Answer question) TraceFault)
      → IsToldAs response result → Answered (afresh before) (put question) response after
      → ((value : Answer question) → response ≡ given value → IsGivenBy question value
      → IsSeenNow before (kept_looks next question)) → KeepsAnswer (keeps next) before question result
  keeps_told response result told a seen =
      ⊎_elim (λ is. keeps_given response result is a seen) (λ behind. not_given result _ behind.2) told

-- ---- what is given is what is kept

pub seen_source : (P : Type 0) (path : List ℕ) (found : Result (Result Source NoSource) LookupFault)
    → IfOk found (λ answer. IfOk answer (λ source. P)) → (value : Result spec.Source spec.NoSource)
    → looked source_in found ≡ given value → IsGivenBy (of_module path) value → P
seen_source P path (Ok (Ok source)) kept value e is = kept
seen_source P path (Ok (Err why)) kept value e is = absurd (let none = is.1 in cc)
seen_source P path (Err fault) kept value e is =
    absurd (let fails_so = sym (as_failing {X = Result spec.Source spec.NoSource} fault) ∙ e in cc)

no_module : (which : LimitName) (value : Result Module Refusal) (target : Module)
    → by_limit deep_config which ≡ given value → value ≡ Ok target → ⊥
no_module File value target e is = cc
no_module Bytes value target e is = cc
no_module Looks value target e is = cc
no_module Modules value target e is = cc
no_module ModuleRequests value target e is = cc
no_module Requests value target e is = cc
no_module Specifier value target e is = cc
no_module Entries value target e is = cc
no_module Brackets value target e is = cc
no_module Depth value target e is = cc
no_module Session value target e is = cc
no_module Map value target e is = cc
no_module Choices value target e is = cc

no_target : (fault : NodeFault) (value : Result Module Refusal) (target : Module) → by_node_fault fault ≡ given value
    → value ≡ Ok target → ⊥
no_target (node.Refused cause) value target e is = cc
no_target node.ReadFault value target e is = cc
no_target (node.Limit which) value target e is = no_module which value target e is
no_target node.Memory value target e is = cc

pub seen_module : (P : Type 0) (conditions : List (List ℕ)) (parent specifier : List ℕ)
    (found : Result (Rc Found Global) NodeFault) → IfOk found (λ own. P) → (value : Result Module Refusal)
    → responded (λ (own : Rc Found Global). module_of own.value) found ≡ given value
    → IsGivenBy (of_request conditions parent specifier) value → P
seen_module P conditions parent specifier (Ok own) kept value e is = kept
seen_module P conditions parent specifier (Err fault) kept value e is = absurd (no_target fault value is.0 e is.1)

pub seen_under : (before : State) (kept : Kept) (conditions : List (List ℕ)) (parent specifier : List ℕ)
    → kept.requests.names ≡ conditions
    → IsSeenNow before (request_looks kept.requests (record { parent = parent; specifier = specifier }))
    → IsSeenNow before (kept_looks kept (of_request conditions parent specifier))
seen_under before kept conditions parent specifier same seen =
    subst (IsSeenNow before) (sym (looks_under kept conditions parent specifier same)) seen

-- under other conditions nothing is kept
pub never_under : (before : State) (kept : Kept) (conditions : List (List ℕ)) (parent specifier : List ℕ)
    (result : Result (Result Module Refusal) TraceFault) → (kept.requests.names ≡ conditions → ⊥)
    → KeepsAnswer (keeps kept) before (of_request conditions parent specifier) result
never_under before kept conditions parent specifier (Ok value) other =
    if_all before.folder.holds (λ tree sights sees under given. absurd (other under))
never_under before kept conditions parent specifier (Err fault) other =
    if_all before.folder.holds (λ tree sights sees. tt)
