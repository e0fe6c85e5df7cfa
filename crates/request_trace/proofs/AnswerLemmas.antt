-- A question of a walk that is answered by looks, and the walk over these answers.
--     always_ready         an answerer that needs nothing to be ready
--     kind_of, found_of    why a module has no source, and that one that it has is right
--     step_for_each        a step for each question, where all are fresh
--     nothing_to_keep, none_to_keep      where nothing needs to be kept
--     met_by               a question
--     referring            what stays of a look-up that refers to what it referred to
--     traces_by            the walk
--     traces_moved         the same beside another name for the state
--     traces_nothing       there is no memory for a walk
--     traced_kind          why there is no trace
--     first_name, second_name, third_name, fourth_name      the references
--     takes_moved          the steps beside another name for what they end with
--     named_limit, limit_ends, look_ends      a limit that ends a walk
use Rattle.std.proofs.Common.{◌≡◌, ◌≤◌, ◌+◌, ℕ, List, length, Option, Some, None, Result, Ok, Err, IfSome, refl, sym, ap, ◌∙◌, subst, arith}
use Rattle.std.specs.Prelude.{◌≢◌, [], ◌∷◌, filter, All, Contains, IfErr, IfOk, MatchResult, OnOk, ⊤}
use Rattle.std.proofs.lemmas.List.Elements.{Contains-append_left, All-cons, All-nil}
use Rattle.asking_spec.specs.Askings.{answered, ask}
use Rattle.asking_spec.specs.Evaluation.{Ended, ends, stopped, then_ended, evaluated}
use Rattle.tree_spec.specs.declared.LimitName.{LimitName}
use Rattle.tree_spec.specs.Limits.{limit_number}
use Rattle.tree_spec.specs.declared.LimitName.TheVariants.{File, Bytes, Looks, Modules, ModuleRequests, Requests, Specifier, Entries, Brackets, Depth, Session, Map, Choices}
use Rattle.tree_spec.specs.LookAskings.{Sights, looks}
use Rattle.tree_spec.specs.LookLimits.{Trail, begun, no_trail, look_limits}
use Rattle.tree_spec.specs.States.{FolderState}
use Rattle.tree_spec.specs.Trees.{Tree}
use Rattle.tree_spec.proofs.ToldStates.{if_all}
use Rattle.trace_spec.specs.declared.TraceFault.{TraceFault}
use Rattle.trace_spec.specs.declared.TraceFault.TheVariants.{Limit, ReadFault, Memory}
use Rattle.trace_spec.specs.Laws.{IsLookedAt}
use Rattle.trace_spec.specs.Questions.{Question, Answer, put, answers}
use Rattle.trace_spec.specs.Kinds.{IsTraceLimit}
use Rattle.trace_spec.specs.Traces.{result_of, state_of, trace, traced}
use Rattle.trace_spec.specs.Checks.{Gathered}
use Rattle.trace_spec.specs.Modules.{Config}
use Rattle.package_lookup.specs.declared.known.Known.{Known}
use Rattle.package_lookup.specs.Looked.{Sees}
use Rattle.package_lookup.specs.Answered.{State, state, Tells, IsLookOf, Answered}
use Rattle.package_lookup.specs.Answered as lookup
use Rattle.package_lookup.specs.Responses.{Response, given, fails, passes, not_read, no_memory, never, by_limit}
use Rattle.package_lookup.specs.Trails.{IsReached}
use Rattle.package_lookup.proofs.Questions.{sees_still}
use Rattle.package_lookup.proofs.Learnings.{learns_as, learns_by, learns_at, learns_nothing}
use Rattle.trace_walk.specs.Meeting.{Told, Kept, IsTold, asked_then, asked_to_end, looks_to_end, IsAskedBy, fresh_to_end, Comes, Met, fine}
use Rattle.module_sources.specs.declared.source.Source.{Source}
use Rattle.module_sources.specs.declared.source.NoSource.{NoSource}
use Rattle.module_sources.specs.Shown.{FindsSource, IsSource}
use Rattle.trace_walk.specs.Kinds.{IsOfAnswers, IsOfWalk}
use Rattle.trace_walk.specs.Shown.{traced_of}
use Rattle.trace_walk.specs.declared.tables.Tables.{Tables}
use Rattle.package_lookup.specs.Lookups.{IsSameLookup}
use Rattle.package_lookup.specs.declared.lookup.Lookup.{Lookup}
use Rattle.request_trace.specs.Answering.{result_by, Freshness, Keeping, Stays, all_fresh, all_kept, looked_to_end, told_by, ToldBy, TakesStep, answers_of}
use Rattle.request_trace.specs.Answering.{stays_of, KeepsOn, KeepsAnswer}
use Rattle.request_trace.specs.Tracing.{known_of, IsOfFootprint, TakesSteps, Traces}
use Rattle.request_trace.proofs.WalkLooks.{reached_to_end, walk_looks}

pub always_ready : {A E : Type 0} (result : Result A E) → OnOk result ⊤
always_ready (Ok value) = tt
always_ready (Err fault) = tt

pub kind_of : (result : Result (Result Source NoSource) TraceFault) (P : Type 0) → MatchResult result (λ source. P → IsSource source) IsOfAnswers → IfErr result IsOfAnswers
kind_of (Ok source) P is = tt
kind_of (Err fault) P is = is

pub found_of : (result : Result (Result Source NoSource) TraceFault) (P : Type 0) → MatchResult result (λ source. P → IsSource source) IsOfAnswers → P → FindsSource result
found_of (Ok source) P is holds = is holds
found_of (Err fault) P is holds = tt

pub referring : {F : Type 0} (old new : Lookup F) (steps : ℕ) → IsSameLookup old new
    → stays_of new steps ≡ stays_of old steps
referring old new steps same =
    (λ i. record { references = same.folder i ∷ same.known i ∷ steps ∷ same.trail i ∷ []; names = [] })

abbrev Answering : Type 0
Answering = Told Trail Question Answer

abbrev going : {X : Type 0} → Ended X Trail LimitName → Ended (Result X TraceFault) Trail LimitName
going end = then_ended end (λ value after. ends (Ok value) after)

-- ---- one question

abbrev Is : {X : Type 0} → Ended X Trail LimitName → Result X TraceFault → Trail → Type 0
Is end result after = (result_of (going end) ≡ result) × (state_of (going end) ≡ after)

comes_by : {X : Type 0} (end : Ended X Trail LimitName) (response : Response X) (result : Result X TraceFault)
    (after : Trail) → result ≡ result_by response → IsTold result → lookup.Comes end response after
    → Is end result after
comes_by end (given value) result after is told e =
    (ap (λ x. result_of (going x)) e ∙ sym is, ap (λ x. state_of (going x)) e)
comes_by end (fails (passes which)) result after is told e =
    (ap (λ x. result_of (going x)) e ∙ sym is, ap (λ x. state_of (going x)) e)
comes_by end (fails not_read) result after is told e = absurd (told.0 is)
comes_by end (fails no_memory) result after is told e = absurd (told.1 is)
comes_by end (fails never) result after is told e = absurd e

read_by : {X : Type 0} (response : Response X) (result : Result X TraceFault) → result ≡ result_by response
    → result ≡ Err ReadFault → response ≡ fails not_read
read_by (given value) result is e = absurd (cc)
read_by (fails (passes which)) result is e = absurd (cc)
read_by (fails not_read) result is e = refl
read_by (fails no_memory) result is e = absurd (cc)
read_by (fails never) result is e = absurd (cc)

abbrev pub afresh : State → State
afresh before = state before.folder before.known (begun before.trail)

-- a question by itself is all that is asked
one_asked : {X S : Type 0} (end : Ended X Trail S) (question : Question)
    → question ∷ asked_then end (λ answer after. []) ≡ question ∷ []
one_asked (ends answer after) question = refl
one_asked (stopped stop after) question = refl

-- whatever is fresh: at most one step, and that only for a fresh one
pub step_for_each : (before : State) (question : Question) (taken spent : ℕ) → spent ≤ taken + 1
    → TakesStep all_fresh before question taken spent
step_for_each before question taken spent few =
    if_all before.folder.holds (λ tree sights sees. omega (arith, few))

-- whatever is kept, where nothing needs to be
pub nothing_to_keep : (before : State) → KeepsOn all_kept all_kept before
nothing_to_keep before = if_all before.folder.holds (λ tree sights sees question kept. tt)

pub none_to_keep : {X : Type 0} (before : State) (question : Question) (result : Result X TraceFault)
    → KeepsAnswer all_kept before question result
none_to_keep before question (Ok value) = if_all before.folder.holds (λ tree sights sees. tt)
none_to_keep before question (Err fault) = if_all before.folder.holds (λ tree sights sees. tt)

module _ (is_fresh : Freshness) (keeping : Keeping) (stays : Stays) (taken spent : ℕ) (before after : State) (question : Question) (response : Response (Answer question))
    (result : Result (Answer question) TraceFault) where
  told_here : Answered (afresh before) (put question) response after → (by : Tree)
      → before.folder.holds ≡ Some by → Tells by (afresh before) (put question) response after
  told_here a tree holds =
      subst (λ h. IfSome h (λ tree. Tells tree (afresh before) (put question) response after)) holds a.tells

  comes_told : result ≡ result_by response → Answered (afresh before) (put question) response after
      → (told : Answering) → ToldBy is_fresh before.folder before.known told → IsTold result
      → Comes told.answers before.trail (fine (ask question answered)) result after.trail
  comes_told is a told by is_told =
      (let tells = told_here a by.tree by.holds in
      let here = comes_by (answers by.sights before.trail question) response result after.trail is is_told
      (tells.says by.sights by.sees) in
      subst (λ (t : Answering). Comes t.answers before.trail (fine (ask question answered)) result after.trail) (sym by.are)
      (record { is = here.0; leaves = here.1 }))

  told_still : Answered (afresh before) (put question) response after → (told : Answering)
      → ToldBy is_fresh before.folder before.known told → ToldBy is_fresh after.folder after.known told
  told_still a told by = record {
    tree = by.tree;
    sights = by.sights;
    holds = a.folder.tree ∙ by.holds;
    sees = sees_still by.tree before.known after.known by.sights (told_here a by.tree by.holds).same by.sees;
    are = by.are;
  }

  -- a look of the question is one at which the walk's question looks
  asked_by : (path : List ℕ) → IsLookOf (afresh before) (put question) path
      → IsAskedBy (answers_of is_fresh keeping stays taken before) (fine (ask question answered)) path
  asked_by path is told by =
      let each : (sights : Sights) → Sees by.tree before.known sights
      → IsReached look_limits sights (begun before.trail) (looks sights (put question)) path =
      subst (λ holds. IfSome holds
      (λ tree. (sights : Sights) → Sees tree before.known sights
      → IsReached look_limits sights (begun before.trail) (looks sights (put question)) path))
      by.holds is in
      subst (λ (t : Answering). Contains (looks_to_end t before.trail (fine (ask question answered))) path)
      (sym by.are)
      (Contains-append_left (looked_to_end by.sights (begun before.trail) (put question))
      (asked_then (answers by.sights before.trail question) (λ answer after. [])) path
      (reached_to_end by.sights (begun before.trail) (put question) path (each by.sights by.sees)))

  steps_told : TakesStep is_fresh before question taken spent → (told : Answering)
      → ToldBy is_fresh before.folder before.known told
      → spent ≤ taken + length (fresh_to_end told before.trail (fine (ask question answered)))
  steps_told takes told by =
      let each : (sights : Sights) → Sees by.tree before.known sights
      → spent ≤ taken + length (filter (is_fresh sights) (question ∷ [])) =
      subst (λ holds. IfSome holds
      (λ tree. (sights : Sights) → Sees tree before.known sights
      → spent ≤ taken + length (filter (is_fresh sights) (question ∷ [])))) by.holds takes in
      subst (λ (t : Answering). spent ≤ taken + length (fresh_to_end t before.trail (fine (ask question answered))))
      (sym by.are)
      (subst (λ asked. spent ≤ taken + length (filter (is_fresh by.sights) asked))
      (sym (one_asked (answers by.sights before.trail question) question)) (each by.sights by.sees))

  stands_so : (told : Answering) (by : ToldBy is_fresh before.folder before.known told) → told.stands ≡ by.sights
  stands_so told by = ap (λ (t : Answering). t.stands) by.are

  kept_still : (later_keeping : Keeping) → KeepsOn keeping later_keeping before → (told : Answering)
      → ToldBy is_fresh before.folder before.known told → (other : Question) → keeping told.stands other
      → later_keeping told.stands other
  kept_still later_keeping on told by other kept =
      let each : (sights : Sights) → Sees by.tree before.known sights → (q : Question) → keeping sights q
      → later_keeping sights q =
      subst (λ holds. IfSome holds
      (λ tree. (sights : Sights) → Sees tree before.known sights → (q : Question) → keeping sights q
      → later_keeping sights q)) by.holds on in
      subst (λ s. later_keeping s other) (sym (stands_so told by))
      (each by.sights by.sees other (subst (λ s. keeping s other) (stands_so told by) kept))

  kept_here : (later_keeping : Keeping) → KeepsAnswer later_keeping before question result → (told : Answering)
      → ToldBy is_fresh before.folder before.known told → (value : Answer question) → result ≡ Ok value
      → All (later_keeping told.stands) (asked_to_end told.answers before.trail (fine (ask question answered)))
  kept_here later_keeping here told by value is =
      let each : (sights : Sights) → Sees by.tree before.known sights
      → IfOk result (λ answer. later_keeping sights question) =
      subst (λ holds. IfSome holds
      (λ tree. (sights : Sights) → Sees tree before.known sights
      → IfOk result (λ answer. later_keeping sights question))) by.holds here in
      let own : later_keeping by.sights question =
      subst (λ r. IfOk r (λ answer. later_keeping by.sights question)) is (each by.sights by.sees) in
      subst (All (later_keeping told.stands)) (sym (one_asked (told.answers before.trail question) question))
      (All-cons (later_keeping told.stands) question []
      (subst (λ s. later_keeping s question) (sym (stands_so told by)) own) (All-nil (later_keeping told.stands)))

  pub met_by : (others : Stays) (later_keeping : Keeping) → others ≡ stays
      → TakesStep is_fresh before question taken spent → KeepsOn keeping later_keeping before
      → KeepsAnswer later_keeping before question result → result ≡ result_by response
      → Answered (afresh before) (put question) response after
      → Met (answers_of is_fresh keeping stays taken before) (fine (ask question answered)) result
      (answers_of is_fresh later_keeping others spent after)
  met_by others later_keeping same takes on here is a = record {
    comes = comes_told is a;
    told = told_still a;
    keeps = (λ i. record {
      references = (same i).references;
      names = (same i).names;
      holds = a.folder.tree i;
      writes = a.folder.writes i;
    });
    later = a.folder.later;
    cause = λ e. a.folder.cause (read_by response result is e);
    quiet = λ ne. a.folder.quiet (λ e. ne (is ∙ ap result_by e));
    steps = steps_told takes;
    learns = learns_as before after (response ≡ fails no_memory) (result ≡ Err Memory)
        (IsLookOf (afresh before) (put question))
        (IsAskedBy (answers_of is_fresh keeping stays taken before) (fine (ask question answered))) (λ e. is ∙ ap result_by e) asked_by
        (learns_at (afresh before) after before.trail after.trail (response ≡ fails no_memory)
        (IsLookOf (afresh before) (put question)) (learns_by (afresh before) after (put question) response a));
    covered = λ finished covers. a.covered (λ e. finished (is ∙ ap result_by e)) covers;
    still_kept = kept_still later_keeping on;
    asked_kept = kept_here later_keeping here;
  }

-- ---- the walk

is_traced : (is_fresh later_fresh : Freshness) (keeping later_keeping : Keeping) (told : Option Tree) (stays others : Stays) (taken spent : ℕ) (config : Config) (before after : State)
    (result : Result Gathered TraceFault) → before.folder.holds ≡ told → before.trail ≡ no_trail
    → Met (answers_of is_fresh keeping stays taken before) (trace config) result (answers_of later_fresh later_keeping others spent after)
    → IfSome told
    (λ tree. (sights : Sights) → Sees tree before.known sights → IsTold result → traced sights config ≡ result)
is_traced is_fresh later_fresh keeping later_keeping None stays others taken spent config before after result holds fresh met = tt
is_traced is_fresh later_fresh keeping later_keeping (Some tree) stays others taken spent config before after result holds fresh met = λ sights sees is_told.
    ap (λ trail. result_of (evaluated (answers sights) trail (trace config))) (sym fresh)
    ∙ (met.comes (told_by is_fresh sights) (record { tree = tree; sights = sights; holds = holds; sees = sees; are = refl })
    is_told).is

-- what the walk's questions look at until it ends
of_footprint : (is_fresh : Freshness) (keeping : Keeping) (told : Option Tree) (stays : Stays) (taken : ℕ) (config : Config) (before : State) (path : List ℕ)
    → before.folder.holds ≡ told → before.trail ≡ no_trail
    → IsAskedBy (answers_of is_fresh keeping stays taken before) (trace config) path
    → IfSome told (λ tree. (sights : Sights) → Sees tree before.known sights → IsLookedAt sights config path)
of_footprint is_fresh keeping None stays taken config before path holds fresh is = tt
of_footprint is_fresh keeping (Some tree) stays taken config before path holds fresh is = λ sights sees.
    let reached = walk_looks sights is_fresh no_trail no_trail (trace config) path refl
    (subst (λ trail. Contains (looks_to_end (told_by is_fresh sights) trail (trace config)) path) fresh
    (is (told_by is_fresh sights) (record { tree = tree; sights = sights; holds = holds; sees = sees; are = refl }))) in
    record {
      front = reached.front;
      back = reached.back;
      split = reached.split;
      before = reached.before;
      passes = reached.passes;
      room = reached.room;
    }

pub traces_by : (is_fresh later_fresh : Freshness) (keeping later_keeping : Keeping) (stays others : Stays) (taken spent : ℕ) (config : Config) (before after : State)
    (result : Result Gathered TraceFault) → before.trail ≡ no_trail
    → Met (answers_of is_fresh keeping stays taken before) (trace config) result (answers_of later_fresh later_keeping others spent after)
    → IfErr result (IsOfWalk config)
    → Traces config before.folder before.known result after.folder after.known
traces_by is_fresh later_fresh keeping later_keeping stays others taken spent config before after result fresh met kind = record {
  is = is_traced is_fresh later_fresh keeping later_keeping before.folder.holds stays others taken spent config before after result refl fresh met;
  learns = learns_at before after no_trail no_trail (result ≡ Err Memory)
      (IsOfFootprint config before.folder before.known)
      (learns_as before after (result ≡ Err Memory) (result ≡ Err Memory)
      (IsAskedBy (answers_of is_fresh keeping stays taken before) (trace config)) (IsOfFootprint config before.folder before.known)
      (λ e. e) (λ path. of_footprint is_fresh keeping before.folder.holds stays taken config before path refl fresh) met.learns);
  looks = record {
    tree = ap (λ (keeps : Kept). keeps.holds) met.keeps;
    writes = ap (λ (keeps : Kept). keeps.writes) met.keeps;
    later = met.later;
    cause = met.cause;
    quiet = met.quiet;
  };
  kind = kind;
}

-- another state that is the same
pub traces_moved : (config : Config) (before : FolderState) (known : Known) (result : Result Gathered TraceFault)
    (one other : FolderState) (some later : Known) → one ≡ other → some ≡ later
    → Traces config before known result one some → Traces config before known result other later
traces_moved config before known result one other some later here there traces =
    subst (λ k. Traces config before known result other k) there
    (subst (λ f. Traces config before known result f some) here traces)

-- where memory is wanting before the first question
pub traces_nothing : (config : Config) (before : FolderState) (known : Known)
    → Traces config before known (Err Memory) before known
traces_nothing config before known = record {
  is = if_all before.holds (λ tree sights sees told. absurd (told.1 refl));
  learns = learns_nothing (known_of before known) _ (IsOfFootprint config before known);
  looks = record {
    tree = refl;
    writes = refl;
    later = omega arith;
    cause = λ e. absurd (cc);
    quiet = λ none. refl;
  };
  kind = tt;
}

-- ---- why an answer ends a walk

-- a limit that a look passes, or that of brackets
pub named_limit : {X : Type 0} (deep : Response X) (which : LimitName) → by_limit deep which ≢ fails never
    → IsTraceLimit which
named_limit deep File ne = tt
named_limit deep Bytes ne = tt
named_limit deep Looks ne = tt
named_limit deep Modules ne = absurd (ne refl)
named_limit deep ModuleRequests ne = absurd (ne refl)
named_limit deep Requests ne = absurd (ne refl)
named_limit deep Specifier ne = absurd (ne refl)
named_limit deep Entries ne = absurd (ne refl)
named_limit deep Brackets ne = absurd (ne refl)
named_limit deep Depth ne = tt
named_limit deep Session ne = absurd (ne refl)
named_limit deep Map ne = absurd (ne refl)
named_limit deep Choices ne = absurd (ne refl)

pub limit_ends : {X : Type 0} (deep : Response X) (which : LimitName) → by_limit deep which ≢ fails never → which ≢ Depth
    → result_by (by_limit deep which) ≡ Err (Limit which)
limit_ends deep File ne other = refl
limit_ends deep Bytes ne other = refl
limit_ends deep Looks ne other = refl
limit_ends deep Modules ne other = absurd (ne refl)
limit_ends deep ModuleRequests ne other = absurd (ne refl)
limit_ends deep Requests ne other = absurd (ne refl)
limit_ends deep Specifier ne other = absurd (ne refl)
limit_ends deep Entries ne other = absurd (ne refl)
limit_ends deep Brackets ne other = absurd (ne refl)
limit_ends deep Depth ne other = absurd (other refl)
limit_ends deep Session ne other = absurd (ne refl)
limit_ends deep Map ne other = absurd (ne refl)
limit_ends deep Choices ne other = absurd (ne refl)

pub look_ends : {X : Type 0} (which : LimitName) → by_limit {X = X} (fails never) which ≢ fails never
    → result_by {X = X} (by_limit (fails never) which) ≡ Err (Limit which)
look_ends {X} which ne = limit_ends {X = X} (fails never) which ne (λ e. ne (ap (λ w. by_limit {X = X} (fails never) w) e))

-- ---- the references

pub first_name : {a b c d x y z w : ℕ} → (a ∷ b ∷ c ∷ d ∷ []) ≡ (x ∷ y ∷ z ∷ w ∷ []) → a ≡ x
first_name e = cc

pub second_name : {a b c d x y z w : ℕ} → (a ∷ b ∷ c ∷ d ∷ []) ≡ (x ∷ y ∷ z ∷ w ∷ []) → b ≡ y
second_name e = cc

pub third_name : {a b c d x y z w : ℕ} → (a ∷ b ∷ c ∷ d ∷ []) ≡ (x ∷ y ∷ z ∷ w ∷ []) → c ≡ z
third_name e = cc

pub fourth_name : {a b c d x y z w : ℕ} → (a ∷ b ∷ c ∷ d ∷ []) ≡ (x ∷ y ∷ z ∷ w ∷ []) → d ≡ w
fourth_name e = cc

-- ---- steps

pub takes_moved : {A E : Type 0} (result : Result A E) (count : A → ℕ) (before after later : ℕ) → after ≡ later
    → IfOk result (λ found. after ≤ before + count found)
    → after ≤ before + (limit_number Modules + limit_number Requests) → TakesSteps result count before later
takes_moved result count before after later same counted bounded = record {
  counted = subst (λ end. IfOk result (λ found. end ≤ before + count found)) same counted;
  bounded = subst (λ end. end ≤ before + (limit_number Modules + limit_number Requests)) same bounded;
}

-- ---- why there is no trace

pub traced_kind : (config : Config) (result : Result Tables TraceFault) → IfErr result (IsOfWalk config)
    → IfErr (traced_of result) (IsOfWalk config)
traced_kind config (Ok tables) kind = tt
traced_kind config (Err fault) kind = kind
