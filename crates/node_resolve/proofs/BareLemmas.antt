-- What a target in `imports` comes to, by what the object that answers its bare texts keeps.
--     calls_seen, names_keep       calls of the object, by what it keeps
--     choice_answered, choice_lost      the whole target
--     moved, chosen_fails          what is handed on
use Rattle.std.proofs.Common.{◌≡◌, ℕ, List, [], ◌∷◌, ◌++◌, Bool, true, false, Option, Some, None, IfSome, refl, sym, ap, ◌∙◌, subst, append_assoc, append-nil}
use Rattle.asking_spec.proofs.AskingLemmas.{questions_then}
use Rattle.asking_spec.proofs.EvaluationLemmas.{ends_outcome}
use Rattle.asking_spec.specs.Askings.{answered, ask, outcome, and_then}
use Rattle.asking_spec.specs.Evaluation.{Ended, ends, stopped, then_ended, evaluated}
use Rattle.json_spec.specs.Value.{Json}
use Rattle.tree_spec.specs.LookAskings.{Sights, LookAsking, looks}
use Rattle.tree_spec.specs.LookLimits.{Trail, look_limits, limited}
use Rattle.tree_spec.specs.Trees.{Tree}
use Rattle.tree_spec.specs.States.{FolderState}
use Rattle.tree_spec.specs.declared.LimitName.{LimitName}
use Rattle.tree_spec.specs.declared.LimitName.TheVariants.{File, Bytes, Looks, Modules, ModuleRequests, Requests, Specifier, Entries, Brackets, Depth, Session, Map, Choices}
use Rattle.package_lookup.specs.declared.known.Known.{Known}
use Rattle.node_resolve.specs.Responses.{by_node_fault}
use Rattle.node_resolve.specs.declared.bare_texts.BareTexts.{BareTexts}
use Rattle.node_resolve.specs.declared.fault.NodeFault.{NodeFault}
use Rattle.node_resolve.specs.declared.fault.NodeFault.TheVariants.{Refused, ReadFault, Limit, Memory}
use Rattle.node_spec.proofs.DecidingCall.{deciding_call_is_last}
use Rattle.node_spec.proofs.TargetsAnswered.{target_answered, StopsLast, stops_last, nothing_called}
use Rattle.node_spec.proofs.TargetsFollowed.{no_front}
use Rattle.node_spec.specs.NodeAnswers.{Url, Resolving}
use Rattle.node_spec.specs.PackageTargetResolve.{Bares, Found, Came, came, judge_bare, target_comes}
use Rattle.node_spec.specs.PackageTargets.{Rules, Call, ResolvesTarget}
use Rattle.node_spec.specs.TargetCalls as target
use Rattle.node_spec.specs.TargetCalls.{LookAnswers, Answerer, Calls}
use Rattle.node_spec.specs.declared.BareAnswer.{BareAnswer}
use Rattle.node_spec.specs.declared.BareAnswer.TheVariants as bare_answer
use Rattle.node_spec.specs.declared.Outcome.{Outcome}
use Rattle.package_lookup.specs.Answered.{State, state, Comes, Tells, Answered}
use Rattle.package_lookup.specs.Looked.{Sees}
use Rattle.package_lookup.specs.Trails.{IsReached}
use Rattle.package_lookup.specs.Responses.{Failing, passes, not_read, no_memory, never, Response, given, fails}
use Rattle.package_lookup.proofs.Reaching.{IsFront, reached_by_front}
use Rattle.package_lookup.proofs.Questions.{failed, carried, sees_still, limited_always, then_given, then_fails, now_given}
use Rattle.node_resolve.proofs.Answering.{reframed}
use Rattle.node_resolve.proofs.TargetLooks.{Hears, target_heard}
use Rattle.node_resolve.specs.BareTexts.{Kept, KeepsNames, GivesBare, a_value, a_fault, failing_of, lost_by}

-- ---- a front of the calls

stops_front : (front more : List Call) → StopsLast (front ++ more) → StopsLast front
stops_front [] more stops = tt
stops_front (call ∷ front) more stops =
    ((λ e. no_front front more (stops.0 e)), stops_front front more stops.1)

-- ---- stops that tell the state

abbrev Stop : Type 0
Stop = LimitName × Trail

abbrev tag : {X : Type 0} → Ended X Trail LimitName → Ended X Trail Stop
tag (ends value after) = ends value after
tag (stopped name after) = stopped (name, after) after

abbrev tagged : LookAnswers Trail LimitName → LookAnswers Trail Stop
tagged answers before path = tag (answers before path)

tag_then : {X Y : Type 0} (first : Ended X Trail LimitName) (next : X → Trail → Ended Y Trail LimitName)
    (other : X → Trail → Ended Y Trail Stop) → ((x : X) (t : Trail) → other x t ≡ tag (next x t))
    → then_ended (tag first) other ≡ tag (then_ended first next)
tag_then (ends value after) next other same = same value after
tag_then (stopped name after) next other same = refl

tag_is : {X : Type 0} (answers : LookAnswers Trail LimitName) (before : Trail) (asking : LookAsking X)
    → evaluated (tagged answers) before asking ≡ tag (evaluated answers before asking)
tag_is answers before (answered value) = refl
tag_is answers before (ask path next) =
    tag_then (answers before path) (λ found after. evaluated answers after (next found))
    (λ found after. evaluated (tagged answers) after (next found)) (λ found after. tag_is answers after (next found))

ends_there : {X : Type 0} (end : Ended X Trail LimitName) (value : X) (after : Trail) → tag end ≡ ends value after
    → end ≡ ends value after
ends_there (ends other there) value after e =
    let v : other ≡ value = cc in
    let s : there ≡ after = cc in
    λ i. ends (v i) (s i)
ends_there (stopped name there) value after e = absurd (cc)

stopped_there : {X : Type 0} (end : Ended X Trail LimitName) (name : LimitName) (after at : Trail)
    → tag end ≡ stopped (name, after) at → end ≡ stopped name after
stopped_there (ends other there) name after at e = absurd (cc)
stopped_there (stopped limit there) name after at e =
    let one : Stop = (limit, there) in
    let other : Stop = (name, after) in
    let p : one ≡ other = cc in
    λ i. stopped ((p i).0) ((p i).1)

-- ---- the object, by what it keeps

pub calls_seen : {B : Type 0} (gives : B → List ℕ → BareAnswer → B → Type 0) (see : B → Kept)
    (ask_of : B → List ℕ → Resolving Url)
    → ((old new : B) (text : List ℕ) (answer : BareAnswer) → gives old text answer new
    → (ask_of new ≡ ask_of old) × GivesBare (ask_of old) (see old) text answer (see new))
    → (old new : B) (asked : List Call) → Calls gives old asked new
    → Calls (GivesBare (ask_of old)) (see old) asked (see new)
calls_seen gives see ask_of says old new [] calls = ap see calls
calls_seen gives see ask_of says old new (call ∷ more) calls =
    let one = says old calls.0 call.0 call.1 calls.1 in (
      see calls.0,
      one.1,
      subst (λ ask. Calls (GivesBare ask) (see calls.0) more (see new)) one.0
          (calls_seen gives see ask_of says calls.0 new more calls.2),
    )

calls_keep : {B N : Type 0} (gives : B → List ℕ → BareAnswer → B → Type 0) (name : B → N)
    → ((old new : B) (text : List ℕ) (answer : BareAnswer) → gives old text answer new → name new ≡ name old)
    → (old new : B) (asked : List Call) → Calls gives old asked new → name new ≡ name old
calls_keep gives name keeps old new [] calls = ap name calls
calls_keep gives name keeps old new (call ∷ more) calls =
    calls_keep gives name keeps calls.0 new more calls.2 ∙ keeps old calls.0 call.0 call.1 calls.1

pub names_keep : {F : Type 0} (gives : BareTexts F → List ℕ → BareAnswer → BareTexts F → Type 0)
    → ((old new : BareTexts F) (text : List ℕ) (answer : BareAnswer) → gives old text answer new → KeepsNames old new)
    → (old new : BareTexts F) (asked : List Call) → Calls gives old asked new → KeepsNames old new
names_keep gives keeps old new asked calls = record {
  lookup = calls_keep gives (λ b. b.lookup.ghost_name) (λ b n text answer gave. (keeps b n text answer gave).lookup) old new asked calls;
  same = record {
    known = calls_keep gives (λ b. b.lookup.now.known.ghost_name) (λ b n text answer gave. (keeps b n text answer gave).same.known) old new asked calls;
    folder = calls_keep gives (λ b. b.lookup.now.folder.ghost_name) (λ b n text answer gave. (keeps b n text answer gave).same.folder) old new asked calls;
    trail = calls_keep gives (λ b. b.lookup.now.trail.ghost_name) (λ b n text answer gave. (keeps b n text answer gave).same.trail) old new asked calls;
  };
  last = calls_keep gives (λ b. b.last.ghost_name) (λ b n text answer gave. (keeps b n text answer gave).last) old new asked calls;
}

-- ---- one call, and what it tells

module _ (ask : List ℕ → Resolving Url) where
  abbrev bares : Bares Found
  bares = record { ask = ask; judge = judge_bare }

  -- all texts, one after another
  abbrev row : List Call → LookAsking (Unit {0})
  row [] = answered tt
  row (call ∷ more) = and_then (ask call.0) (λ found. row more)

  abbrev row_response : Option Failing → Response (Unit {0})
  row_response None = given tt
  row_response (Some failing) = fails failing

  one_row : (before middle after : Kept) (text : List ℕ) (answer : BareAnswer) (more : List Call)
      → before.fault ≡ None → GivesBare ask before text answer middle → (answer ≡ bare_answer.Stop → more ≡ [])
      → (middle.fault ≡ None → Answered middle.state (row more) (row_response after.fault) after.state)
      → (more ≡ [] → after ≡ middle)
      → Answered before.state (row ((text, answer) ∷ more)) (row_response after.fault) after.state
  one_row before middle after text answer more free (a_value {found = found} a j l k) ends_it rest still =
      then_given before.state middle.state after.state (ask text) (λ f. row more) found (row_response after.fault) a
      (rest (k ∙ free))
  one_row before middle after text answer more free (a_fault {failing = failing} a s k) ends_it rest still =
      let failed : Answered {X = Unit {0}} before.state (row ((text, answer) ∷ more)) (fails failing) middle.state =
      then_fails before.state middle.state (ask text) (λ f. row more) failing a in
      subst (λ (b : Kept). Answered before.state (row ((text, answer) ∷ more)) (row_response b.fault) b.state)
      (sym (still (ends_it s)))
      (subst (λ f. Answered before.state (row ((text, answer) ∷ more)) (row_response f) middle.state) (sym k) failed)

  rows : (before after : Kept) (asked : List Call) → before.fault ≡ None → StopsLast asked
      → Calls (GivesBare ask) before asked after
      → Answered before.state (row asked) (row_response after.fault) after.state
  rows before after [] free stops calls =
      subst (λ (b : Kept). Answered before.state (row []) (row_response b.fault) b.state) (sym calls)
      (subst (λ f. Answered before.state (row []) (row_response f) before.state) (sym free) (now_given before.state tt))
  rows before after (call ∷ more) free stops calls =
      one_row before calls.0 after call.0 call.1 more free calls.1 stops.0
      (λ still. rows calls.0 after more still stops.1 calls.2)
      (nothing_called (GivesBare ask) calls.0 after more calls.2)

  -- the same, as what is told of a tree
  abbrev stop_of : Option Failing → Trail → Option Stop
  stop_of None trail = None
  stop_of (Some (passes name)) trail = Some (name, trail)
  stop_of (Some not_read) trail = None
  stop_of (Some no_memory) trail = None
  stop_of (Some never) trail = None

  abbrev is_lost : Option Failing → Bool
  is_lost None = false
  is_lost (Some (passes name)) = false
  is_lost (Some not_read) = true
  is_lost (Some no_memory) = true
  is_lost (Some never) = true

  abbrev answerer : Kept → Answerer Trail Stop Found
  answerer held = record {
    state = held.state.trail;
    last = held.last;
    stop = stop_of held.fault held.state.trail;
    lost = is_lost held.fault;
  }

  tells_at : {X : Type 0} (tree : Tree) (before after : State) (asking : LookAsking X) (response : Response X)
      → before.folder.holds ≡ Some tree → Answered before asking response after → Tells tree before asking response after
  tells_at tree before after asking response e a =
      subst (λ told. IfSome told (λ t. Tells t before asking response after)) e a.tells

  module _ (tree : Tree) (sights : Sights) where
    abbrev answers : LookAnswers Trail LimitName
    answers = limited look_limits sights

    abbrev Given : Kept → List ℕ → BareAnswer → Kept → Type 0
    Given before text answer after = target.GivesBare (tagged answers) bares (answerer before) text answer (answerer after)

    gives_fault : (before middle : Kept) (text : List ℕ) (answer : BareAnswer) (failing : Failing)
        → Answered {X = Found} before.state (ask text) (fails failing) middle.state → answer ≡ bare_answer.Stop
        → middle.fault ≡ Some failing → before.state.folder.holds ≡ Some tree → Sees tree before.state.known sights
        → Given before text answer middle
    gives_fault before middle text answer (passes name) a s k e sees =
        target.a_limit {stop = (name, middle.state.trail)} {at = middle.state.trail}
        (tag_is answers before.state.trail (ask text)
        ∙ ap tag ((tells_at tree before.state middle.state (ask text) (fails (passes name)) e a).says sights sees))
        s (ap (λ f. stop_of f middle.state.trail) k)
    gives_fault before middle text answer not_read a s k e sees = target.a_loss s (ap is_lost k)
    gives_fault before middle text answer no_memory a s k e sees = target.a_loss s (ap is_lost k)
    gives_fault before middle text answer never a s k e sees = absurd (a.possible refl)

    one_given : (before middle : Kept) (text : List ℕ) (answer : BareAnswer) → before.fault ≡ None
        → GivesBare ask before text answer middle → before.state.folder.holds ≡ Some tree
        → Sees tree before.state.known sights → Given before text answer middle
    one_given before middle text answer free (a_value {found = found} a j l k) e sees =
        target.a_value {value = found}
        (tag_is answers before.state.trail (ask text)
        ∙ ap tag ((tells_at tree before.state middle.state (ask text) (given found) e a).says sights sees))
        j l
        (ap (λ f. stop_of f middle.state.trail) (k ∙ free) ∙ sym (ap (λ f. stop_of f before.state.trail) free))
        (ap is_lost k)
    one_given before middle text answer free (a_fault {failing = failing} a s k) e sees =
        gives_fault before middle text answer failing a s k e sees

    still_holds : (before middle : Kept) (text : List ℕ) (answer : BareAnswer) → GivesBare ask before text answer middle
        → before.state.folder.holds ≡ Some tree → middle.state.folder.holds ≡ Some tree
    still_holds before middle text answer (a_value a j l k) e = a.folder.tree ∙ e
    still_holds before middle text answer (a_fault a s k) e = a.folder.tree ∙ e

    still_sees : (before middle : Kept) (text : List ℕ) (answer : BareAnswer) → GivesBare ask before text answer middle
        → before.state.folder.holds ≡ Some tree → Sees tree before.state.known sights
        → Sees tree middle.state.known sights
    still_sees before middle text answer (a_value {found = found} a j l k) e sees =
        sees_still tree before.state.known middle.state.known sights
        (tells_at tree before.state middle.state (ask text) (given found) e a).same sees
    still_sees before middle text answer (a_fault {failing = failing} a s k) e sees =
        sees_still tree before.state.known middle.state.known sights
        (tells_at tree before.state middle.state (ask text) (fails failing) e a).same sees

    goes_free : (before middle : Kept) (text : List ℕ) (answer : BareAnswer) (more : List Call)
        → GivesBare ask before text answer middle → before.fault ≡ None → (answer ≡ bare_answer.Stop → more ≡ [])
        → (more ≡ [] → ⊥) → middle.fault ≡ None
    goes_free before middle text answer more (a_value a j l k) free ends_it some = k ∙ free
    goes_free before middle text answer more (a_fault a s k) free ends_it some = absurd (some (ends_it s))

    all_given : (before after : Kept) (asked : List Call) → before.fault ≡ None → StopsLast asked
        → before.state.folder.holds ≡ Some tree → Sees tree before.state.known sights
        → Calls (GivesBare ask) before asked after
        → Calls (target.GivesBare (tagged answers) bares) (answerer before) asked (answerer after)
    all_given before after [] free stops e sees calls = ap answerer calls
    all_given before after (call ∷ []) free stops e sees calls =
        (answerer calls.0, one_given before calls.0 call.0 call.1 free calls.1 e sees, ap answerer calls.2)
    all_given before after (call ∷ (next ∷ more)) free stops e sees calls = (
      answerer calls.0,
      one_given before calls.0 call.0 call.1 free calls.1 e sees,
      all_given calls.0 after (next ∷ more)
          (goes_free before calls.0 call.0 call.1 (next ∷ more) calls.1 free stops.0 (λ f. cc)) stops.1
          (still_holds before calls.0 call.0 call.1 calls.1 e) (still_sees before calls.0 call.0 call.1 calls.1 e sees)
          calls.2,
    )

    -- ---- these begin with the looks for the texts

    one_heard : (paths : List (List ℕ)) (before middle : Kept) (text : List ℕ) (answer : BareAnswer)
        (more rest : List Call) → GivesBare ask before text answer middle → before.state.folder.holds ≡ Some tree
        → Sees tree before.state.known sights → (answer ≡ bare_answer.Stop → more ≡ [])
        → Hears sights bares paths ((text, answer) ∷ (more ++ rest))
        → ((others : List (List ℕ)) → Hears sights bares others (more ++ rest) → IsFront (looks sights (row more)) others)
        → IsFront (looks sights (row ((text, answer) ∷ more))) paths
    one_heard paths before middle text answer more rest (a_value {found = found} a j l k) e sees ends_it hears goes =
        let is : found ≡ outcome sights (ask text) =
        ends_outcome answers sights (limited_always sights) before.state.trail middle.state.trail (ask text) found
        ((tells_at tree before.state middle.state (ask text) (given found) e a).says sights sees) in
        let begins = goes hears.0 (hears.2 (j ∙ ap judge_bare is)) in (
          begins.0,
          hears.1 ∙ (ap (λ others. looks sights (ask text) ++ others) begins.1
              ∙ (sym (append_assoc (looks sights (ask text)) (looks sights (row more)) begins.0)
              ∙ ap (λ others. others ++ begins.0) (sym (questions_then sights (ask text) (λ f. row more))))),
        )
    one_heard paths before middle text answer more rest (a_fault a s k) e sees ends_it hears goes = (
      hears.0,
      hears.1 ∙ ap (λ others. others ++ hears.0)
          (sym (questions_then sights (ask text) (λ f. row more)
          ∙ (ap (λ calls. looks sights (ask text) ++ looks sights (row calls)) (ends_it s)
          ∙ append-nil (looks sights (ask text))))),
    )

    all_heard : (paths : List (List ℕ)) (before after : Kept) (asked rest : List Call) → StopsLast asked
        → before.state.folder.holds ≡ Some tree → Sees tree before.state.known sights
        → Calls (GivesBare ask) before asked after → Hears sights bares paths (asked ++ rest)
        → IsFront (looks sights (row asked)) paths
    all_heard paths before after [] rest stops e sees calls hears = (paths, refl)
    all_heard paths before after (call ∷ more) rest stops e sees calls hears =
        one_heard paths before calls.0 call.0 call.1 more rest calls.1 e sees stops.0 hears
        (λ others. all_heard others calls.0 after more rest stops.1 (still_holds before calls.0 call.0 call.1 calls.1 e)
        (still_sees before calls.0 call.0 call.1 calls.1 e sees) calls.2)

  -- ---- the whole target

  abbrev pub response_of : Outcome → Option Found → Option Failing → Response (Came Found)
  response_of out last None = given (came out last)
  response_of out last (Some failing) = fails failing

  module _ (rules : Rules) (goal : Json) (asked : List Call) (out : Outcome) (is : ResolvesTarget rules goal asked out)
      (before after : Kept) (free : before.fault ≡ None) (none : before.last ≡ None)
      (calls : Calls (GivesBare ask) before asked after) where
    stops : StopsLast asked
    stops = stops_last asked out (deciding_call_is_last rules goal asked out is)

    abbrev whole : LookAsking (Came Found)
    whole = target_comes bares rules goal None

    abbrev end : Sights → Ended (Came Found) Trail LimitName
    end sights = evaluated (limited look_limits sights) before.state.trail whole

    abbrev other_end : Sights → Ended (Came Found) Trail Stop
    other_end sights = evaluated (tagged (limited look_limits sights)) before.state.trail whole

    same_end : (sights : Sights) → other_end sights ≡ tag (end sights)
    same_end sights = tag_is (limited look_limits sights) before.state.trail whole

    by_fault : (sights : Sights) (fault : Option Failing) → after.fault ≡ fault
        → (is_lost after.fault ≡ false → stop_of after.fault after.state.trail ≡ None
        → other_end sights ≡ ends (came out after.last) after.state.trail)
        → ((stop : Stop) → is_lost after.fault ≡ false → stop_of after.fault after.state.trail ≡ Some stop
        → (at : Trail) × (other_end sights ≡ stopped stop at))
        → Comes (end sights) (response_of out after.last fault) after.state.trail
    by_fault sights None f value limit =
        ends_there (end sights) (came out after.last) after.state.trail
        (sym (same_end sights) ∙ value (ap is_lost f) (ap (λ g. stop_of g after.state.trail) f))
    by_fault sights (Some (passes name)) f value limit =
        let found = limit (name, after.state.trail) (ap is_lost f) (ap (λ g. stop_of g after.state.trail) f) in
        stopped_there (end sights) name after.state.trail found.0 (sym (same_end sights) ∙ found.1)
    by_fault sights (Some not_read) f value limit = tt
    by_fault sights (Some no_memory) f value limit = tt
    by_fault sights (Some never) f value limit =
        absurd ((rows before after asked free stops calls).possible (ap row_response f))

    comes_by : (tree : Tree) (sights : Sights) → before.state.folder.holds ≡ Some tree
        → Sees tree before.state.known sights → (fault : Option Failing) → after.fault ≡ fault
        → Comes (end sights) (response_of out after.last fault) after.state.trail
    comes_by tree sights e sees fault f =
        let asks = target_answered (tagged (limited look_limits sights)) bares rules goal (answerer before) asked out
        (answerer after) (ap (λ g. stop_of g before.state.trail) free) is
        (all_given tree sights before after asked free stops e sees calls) in
        by_fault sights fault f
        (λ kept alone. subst (λ last. evaluated (tagged (limited look_limits sights)) before.state.trail
        (target_comes bares rules goal last) ≡ ends (came out after.last) after.state.trail) none (asks.value kept alone))
        (λ stop kept some. (let found = asks.limit stop kept some in (
          found.0,
          subst (λ last. evaluated (tagged (limited look_limits sights)) before.state.trail
              (target_comes bares rules goal last) ≡ stopped stop found.0) none found.1,
        )))

    within : (tree : Tree) (sights : Sights) → before.state.folder.holds ≡ Some tree
        → Sees tree before.state.known sights → (path : List ℕ)
        → IsReached look_limits sights before.state.trail (looks sights (row asked)) path
        → IsReached look_limits sights before.state.trail (looks sights whole) path
    within tree sights e sees path =
        reached_by_front look_limits sights before.state.trail (looks sights (row asked)) (looks sights whole) path
        (all_heard tree sights (looks sights whole) before after asked [] stops e sees calls
        (subst (Hears sights bares (looks sights whole)) (sym (append-nil asked))
        ((target_heard sights bares rules goal asked out is).hears None)))

    whole_by : (fault : Option Failing) → after.fault ≡ fault
        → Answered before.state (row asked) (row_response fault) after.state
        → Answered before.state whole (response_of out after.last fault) after.state
    whole_by None f a =
        reframed before.state after.state (row asked) whole (given tt) (given (came out after.last)) a (λ e. absurd (cc))
        (λ e. absurd (cc)) (λ e. absurd (cc)) (λ e. absurd (cc)) (λ tree sights e sees. comes_by tree sights e sees None f) within
    whole_by (Some failing) f a =
        reframed before.state after.state (row asked) whole (fails failing) (fails failing) a
        (carried {X = Unit {0}} {Y = Came Found} failing no_memory)
        (carried {X = Unit {0}} {Y = Came Found} failing not_read)
        (carried {X = Came Found} {Y = Unit {0}} failing not_read)
        (carried {X = Came Found} {Y = Unit {0}} failing never)
        (λ tree sights e sees. comes_by tree sights e sees (Some failing) f) within

    pub choice_answered : Answered before.state whole (response_of out after.last after.fault) after.state
    choice_answered = whole_by after.fault refl (rows before after asked free stops calls)

  -- ---- where memory was wanting on the way

  module _ (rules : Rules) (goal : Json) (asked more : List Call) (out : Outcome)
      (is : ResolvesTarget rules goal (asked ++ more) out) (before after : Kept) (free : before.fault ≡ None)
      (calls : Calls (GivesBare ask) before asked after) where
    front_stops : StopsLast asked
    front_stops =
        stops_front asked more (stops_last (asked ++ more) out (deciding_call_is_last rules goal (asked ++ more) out is))

    abbrev entire : LookAsking (Came Found)
    entire = target_comes bares rules goal None

    within_front : (tree : Tree) (sights : Sights) → before.state.folder.holds ≡ Some tree
        → Sees tree before.state.known sights → (path : List ℕ)
        → IsReached look_limits sights before.state.trail (looks sights (row asked)) path
        → IsReached look_limits sights before.state.trail (looks sights entire) path
    within_front tree sights e sees path =
        reached_by_front look_limits sights before.state.trail (looks sights (row asked)) (looks sights entire) path
        (all_heard tree sights (looks sights entire) before after asked more front_stops e sees calls
        ((target_heard sights bares rules goal (asked ++ more) out is).hears None))

    lost_when : (fault : Option Failing) → Answered before.state (row asked) (row_response fault) after.state
        → Answered {X = Came Found} before.state (target_comes bares rules goal None) (fails (lost_by fault)) after.state
    lost_when None a =
        reframed before.state after.state (row asked) (target_comes bares rules goal None) (given tt) (fails no_memory) a
        (λ e. refl) (λ e. absurd (cc)) (λ e. absurd (cc)) (λ e. absurd (cc)) (λ tree sights e sees. tt) within_front
    lost_when (Some (passes name)) a =
        reframed before.state after.state (row asked) (target_comes bares rules goal None) (fails (passes name))
        (fails no_memory) a (λ e. refl) (λ e. absurd (cc)) (λ e. absurd (cc)) (λ e. absurd (cc))
        (λ tree sights e sees. tt) within_front
    lost_when (Some not_read) a =
        reframed before.state after.state (row asked) (target_comes bares rules goal None) (fails not_read)
        (fails not_read) a (λ e. absurd (cc)) (λ e. refl) (λ e. refl) (λ e. absurd (cc)) (λ tree sights e sees. tt) within_front
    lost_when (Some no_memory) a =
        reframed before.state after.state (row asked) (target_comes bares rules goal None) (fails no_memory)
        (fails no_memory) a (λ e. refl) (λ e. absurd (cc)) (λ e. absurd (cc)) (λ e. absurd (cc))
        (λ tree sights e sees. tt) within_front
    lost_when (Some never) a = absurd (a.possible refl)

    pub choice_lost : Answered {X = Came Found} before.state (target_comes bares rules goal None)
        (fails (lost_by after.fault)) after.state
    choice_lost =
        lost_when after.fault (rows before after asked free front_stops calls)

-- ---- what is handed on

pub moved : {X : Type 0} (before : State) (asking : LookAsking X) (response : Response X) (folder other_folder : FolderState)
    (known other_known : Known) (trail other_trail : Trail) → other_folder ≡ folder → other_known ≡ known
    → other_trail ≡ trail → Answered before asking response (state folder known trail)
    → Answered before asking response (state other_folder other_known other_trail)
moved before asking response folder other_folder known other_known trail other_trail f k t a =
    subst (λ s. Answered before asking response s) (λ i. state (sym f i) (sym k i) (sym t i)) a

limit_on : {X : Type 0} (before after : State) (part : LookAsking X) (next : X → Resolving Url) (which : LimitName)
    → Answered {X = X} before part (fails (failing_of (Limit which))) after
    → Answered before (and_then part next) (by_node_fault (Limit which)) after
limit_on before after part next File a = then_fails before after part next (passes File) a
limit_on before after part next Bytes a = then_fails before after part next (passes Bytes) a
limit_on before after part next Looks a = then_fails before after part next (passes Looks) a
limit_on before after part next Modules a = absurd (a.possible refl)
limit_on before after part next ModuleRequests a = absurd (a.possible refl)
limit_on before after part next Requests a = absurd (a.possible refl)
limit_on before after part next Specifier a = absurd (a.possible refl)
limit_on before after part next Entries a = absurd (a.possible refl)
limit_on before after part next Brackets a = absurd (a.possible refl)
limit_on before after part next Depth a = absurd (a.possible refl)
limit_on before after part next Session a = absurd (a.possible refl)
limit_on before after part next Map a = absurd (a.possible refl)
limit_on before after part next Choices a = absurd (a.possible refl)

pub chosen_fails : {X : Type 0} (before after : State) (part : LookAsking X) (next : X → Resolving Url) (fault : NodeFault)
    → Answered {X = X} before part (fails (failing_of fault)) after
    → Answered before (and_then part next) (by_node_fault fault) after
chosen_fails before after part next (Refused cause) a = absurd (a.possible refl)
chosen_fails before after part next ReadFault a = then_fails before after part next not_read a
chosen_fails before after part next (Limit which) a = limit_on before after part next which a
chosen_fails before after part next Memory a = then_fails before after part next no_memory a

pub answered_as : {X : Type 0} (before after : State) (asking : LookAsking X) (one other : Response X) → one ≡ other
    → Answered before asking one after → Answered before asking other after
answered_as before after asking one other e a = subst (λ r. Answered before asking r after) e a

pub calls_end : {B : Type 0} (gives : B → List ℕ → BareAnswer → B → Type 0) (old middle new : B) (asked : List Call)
    → new ≡ middle → Calls gives old asked middle → Calls gives old asked new
calls_end gives old middle new asked same calls = subst (λ b. Calls gives old asked b) (sym same) calls

pub lost_same : {X : Type 0} (one other : Failing) → other ≡ one → failed X one ≡ failed X other
lost_same {X} one other e = ap (failed X) (sym e)

pub chosen_same : (asks : List ℕ → Resolving Url) (out : Outcome) (last other : Option Found) (fault : Option Failing)
    → fault ≡ None → other ≡ last → response_of asks out last fault ≡ given (came out other)
chosen_same asks out last other fault e l = ap (response_of asks out last) e ∙ ap (λ o. given (came out o)) (sym l)

pub failing_same : (asks : List ℕ → Resolving Url) (out : Outcome) (last : Option Found) (fault : Option Failing) (failing : Failing)
    → fault ≡ Some failing → response_of asks out last fault ≡ failed (Came Found) failing
failing_same asks out last fault failing e = ap (response_of asks out last) e
