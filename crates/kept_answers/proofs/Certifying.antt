-- What an answer that was given certifies, and how it is given again.
--     kept_by              the looks of its question certify an answer
--     given_again          looks that see the same answer a question whose answer is kept
--     failed_again         so do looks of which one fails
--     behind_looks         a question behind looks of which one sees otherwise
--     given_still, failed_behind      an answer, behind looks at the paths of its question
--     lost, no_memory_begun      memory was wanting behind an answer, and before the first look
--     kept_looks, seen_again, seen_other      the same under other names
--     failing_of, as_failing, by_failing, node_failing      a fault of looks alone, in each place
use Rattle.std.proofs.Common.{◌≡◌, ℕ, Bool, true, false, List, [], ◌∷◌, ◌++◌, Option, Some, None, Result, Ok, IfSome, refl, sym, ap, ◌∙◌, subst}
use Rattle.std.specs.Prelude.{All, Contains}
use Rattle.std.proofs.lemmas.List.Elements.{All-append, All-contains, All-contains_itself}
use Rattle.asking_spec.specs.Askings.{answered, and_then}
use Rattle.asking_spec.specs.Evaluation.{Ended, ends, then_ended, evaluated}
use Rattle.asking_spec.proofs.AskingLemmas.{questions_then}
use Rattle.asking_spec.proofs.EvaluationLemmas.{evaluated_then}
use Rattle.tree_spec.proofs.Contained.{all_contained, contains_seen, seen_contained}
use Rattle.tree_spec.proofs.FootprintSets.{footprint_is_set}
use Rattle.tree_spec.proofs.LimitedLooks.{ends_counted}
use Rattle.tree_spec.proofs.ToldStates.{if_two, looks_then}
use Rattle.tree_spec.specs.LookAskings.{Sights, LookAsking, look_at_each, looks, footprint}
use Rattle.tree_spec.specs.LookLimits.{Trail, begun, look_limits, limited}
use Rattle.tree_spec.specs.States.{FolderState}
use Rattle.tree_spec.specs.Trees.{Tree}
use Rattle.tree_spec.specs.declared.LimitName.{LimitName}
use Rattle.tree_spec.specs.declared.LimitName.TheVariants.{File, Bytes, Looks, Modules, ModuleRequests, Requests, Specifier, Entries, Brackets, Depth, Session, Map, Choices}
use Rattle.node_spec.specs.NodeAnswers.{Refusal, Resolving}
use Rattle.node_resolve.proofs.Answering.{reframed}
use Rattle.node_resolve.specs.Responses.{node_fault, by_node_fault}
use Rattle.node_resolve.specs.declared.fault.NodeFault.{NodeFault}
use Rattle.package_lookup.specs.Answered.{State, state, Fails, Comes, Tells, IsLookOf, Answered}
use Rattle.package_lookup.specs.Looked.{Sees, SomeSights}
use Rattle.package_lookup.specs.declared.known.Known.{Known}
use Rattle.package_lookup.specs.Responses.{Response, Failing, given, fails, passes, not_read, no_memory, never, by_limit, by_fault, deep_config}
use Rattle.package_lookup.specs.declared.fault.LookupFault.{LookupFault}
use Rattle.package_lookup.specs.declared.fault.LookupFault.TheVariants.{ReadFault, Limit, InvalidConfig, Memory}
use Rattle.package_lookup.specs.Trails.{IsReached}
use Rattle.package_lookup.proofs.Reaching.{reached_as, reached_by_front, reached_among, all_reached, looks_passed}
use Rattle.package_lookup.proofs.Learnings.{learns_then, learns_by, learns_at}
use Rattle.package_lookup.proofs.Questions.{carried, failed, grows_twice, lengthens_twice, sees_still, then_given, no_memory_now}
use Rattle.kept_spec.specs.Certificates.{LookSeen, paths_of, AreSeen}
use Rattle.kept_spec.specs.Replays.{IsFront}
use Rattle.kept_spec.proofs.Certifying.{end_is_certified, certified_is_asked}
use Rattle.kept_spec.proofs.FrontLooks.{front_is_looked, front_goes_before, front_stops, question_is_counted}
use Rattle.kept_answers.specs.KnownLooks.{AreLooksAt, afresh, IsSeenAgain, LooksTo, LooksAgain, IsKept}
use Rattle.kept_answers.proofs.KnownLemmas.{all_seen}
use Rattle.kept_answers.proofs.ReachedAgain.{looks_each, reached_first, reached_behind_front}

abbrev nothing_given : Response (Unit {0})
nothing_given = given tt

-- what is told, by name
if_told : {A : Type 0} {P : A → Type 0} (told : Option A) → ((x : A) → told ≡ Some x → P x) → IfSome told P
if_told None each = tt
if_told (Some x) each = each x refl

told_so : {A : Type 0} (P : A → Type 0) (told : Option A) (x : A) → told ≡ Some x → IfSome told P → P x
told_so P told x same is = subst (λ t. IfSome t P) same is

-- ---- an answer that was given is certified by its looks

pub kept_by : {X : Type 0} → SomeSights → (before middle after : State) (asking : LookAsking X) (value : X)
    (response : Response (Unit {0})) → Answered (afresh before) asking (given value) middle
    → Answered middle (look_at_each middle.trail.question) response after
    → IfSome before.folder.holds
    (λ tree. (looks : List LookSeen) → AreLooksAt after.known middle.trail.question looks → IsKept asking value looks)
kept_by some before middle after asking value response a b =
    if_two {P = λ tree. Tells tree (afresh before) asking (given value) middle}
    {Q = λ tree. Tells tree middle (look_at_each middle.trail.question) response after}
    {R = λ tree. (looks : List LookSeen) → AreLooksAt after.known middle.trail.question looks
    → IsKept asking value looks}
    before.folder.holds
    (λ tree tells later looks are.
    let standing = some tree before.known in
    let here = all_seen tree after.known standing.0 looks
    (sees_still tree middle.known after.known standing.0 later.same
    (sees_still tree before.known middle.known standing.0 tells.same standing.1)) are.each in
    record {
      certified = end_is_certified look_limits standing.0 before.trail asking value middle.trail looks
          (tells.says standing.0 standing.1) are.paths_are here;
      shown = (standing.0, here);
    })
    a.tells
    (subst (λ holds. IfSome holds (λ tree. Tells tree middle (look_at_each middle.trail.question) response after))
    a.folder.tree b.tells)

-- ---- looks again

-- under another name of the looks
pub kept_looks : {X : Type 0} (told : Option Tree) (asking : LookAsking X) (value : X) (looks shown : List LookSeen)
    → shown ≡ looks → IfSome told (λ tree. IsKept asking value looks) → IfSome told (λ tree. IsKept asking value shown)
kept_looks told asking value looks shown same kept =
    subst (λ ls. IfSome told (λ tree. IsKept asking value ls)) (sym same) kept

pub seen_again : (before after : State) (looks : List LookSeen) (same : Bool) → same ≡ true
    → LooksAgain before looks (Ok same) after → IsSeenAgain before looks after
seen_again before after looks same is again = subst (λ s. LooksAgain before looks (Ok s) after) is again

pub seen_other : (before after : State) (looks : List LookSeen) (same : Bool) → same ≡ false
    → LooksAgain before looks (Ok same) after → LooksTo before looks (given tt) after
seen_other before after looks same is again =
    (subst (λ s. LooksAgain before looks (Ok s) after) is again).0

-- each path of a footprint is looked at
footprint_looks : {X : Type 0} (sights : Sights) (asking : LookAsking X)
    → All (Contains (looks sights asking)) (footprint sights asking)
footprint_looks sights asking =
    all_contained (Contains (looks sights asking)) (footprint sights asking)
    (λ path held. contains_seen path (looks sights asking)
    (sym ((footprint_is_set sights asking).same_paths path) ∙ seen_contained path (footprint sights asking) held))

module _ {X : Type 0} (asking : LookAsking X) (value : X) (seen : List LookSeen) (before : State)
    (kept : IfSome before.folder.holds (λ tree. IsKept asking value seen)) where
  kept_at : (tree : Tree) → before.folder.holds ≡ Some tree → IsKept asking value seen
  kept_at tree holds = told_so (λ t. IsKept asking value seen) before.folder.holds tree holds kept

  -- where all of them see the same
  pub given_again : (after : State) → IsSeenAgain before seen after → Answered (afresh before) asking (given value) after
  given_again after again =
      reframed (afresh before) after (look_at_each (paths_of seen)) asking (given tt) (given value) again.answered
      (λ e. absurd (cc)) (λ e. absurd (cc)) (λ e. absurd (cc)) (λ e. absurd (cc)) comes within
    where
      told_at : (tree : Tree) → before.folder.holds ≡ Some tree
          → Tells tree (afresh before) (look_at_each (paths_of seen)) (given tt) after
      told_at tree holds =
          told_so (λ t. Tells t (afresh before) (look_at_each (paths_of seen)) (given tt) after)
          before.folder.holds tree holds again.answered.tells

      here : (tree : Tree) (sights : Sights) → before.folder.holds ≡ Some tree → Sees tree before.known sights
          → AreSeen sights seen
      here tree sights holds sees =
          all_seen tree after.known sights seen
          (sees_still tree before.known after.known sights (told_at tree holds).same sees) again.each

      comes : (tree : Tree) (sights : Sights) → before.folder.holds ≡ Some tree → Sees tree before.known sights
          → evaluated (limited look_limits sights) (begun before.trail) asking ≡ ends value after.trail
      comes tree sights holds sees =
          certified_is_asked look_limits sights before.trail asking value seen (kept_at tree holds).certified
          (here tree sights holds sees)
          ∙ (evaluated_then (limited look_limits sights) (begun before.trail) (look_at_each (paths_of seen))
          (λ done. answered value)
          ∙ ap (λ end. then_ended end (λ done later. ends value later)) ((told_at tree holds).says sights sees))

      within : (tree : Tree) (sights : Sights) → before.folder.holds ≡ Some tree → Sees tree before.known sights
          → (path : List ℕ)
          → IsReached look_limits sights (begun before.trail) (looks sights (look_at_each (paths_of seen))) path
          → IsReached look_limits sights (begun before.trail) (looks sights asking) path
      within tree sights holds sees path reached =
          let is = (kept_at tree holds).certified.each sights (here tree sights holds sees) in
          reached_first look_limits sights (begun before.trail) (looks sights asking) path
          (reached_as look_limits sights (begun before.trail) (looks sights (look_at_each (paths_of seen)))
          (footprint sights asking) path (is.paths ∙ sym (looks_each sights (paths_of seen))) reached)

  -- ---- up to one

  module _ (response : Response (Unit {0})) (after : State) (to : LooksTo before seen response after) where
    abbrev front : List (List ℕ)
    front = paths_of to.same ++ to.next.path ∷ []

    told_to : (tree : Tree) → before.folder.holds ≡ Some tree
        → Tells tree (afresh before) (look_at_each front) response after
    told_to tree holds =
        told_so (λ t. Tells t (afresh before) (look_at_each front) response after) before.folder.holds tree holds
        to.answered.tells

    is_front : (tree : Tree) (sights : Sights) → before.folder.holds ≡ Some tree → Sees tree before.known sights
        → IsFront front (footprint sights asking)
    is_front tree sights holds sees =
        front_is_looked sights asking value seen to.same to.rest to.next (kept_at tree holds).certified
        (kept_at tree holds).shown to.split
        (all_seen tree after.known sights to.same
        (sees_still tree before.known after.known sights (told_to tree holds).same sees) to.each)

    within_front : (tree : Tree) (sights : Sights) → before.folder.holds ≡ Some tree → Sees tree before.known sights
        → (path : List ℕ)
        → IsReached look_limits sights (begun before.trail) (looks sights (look_at_each front)) path
        → IsReached look_limits sights (begun before.trail) (looks sights asking) path
    within_front tree sights holds sees path reached =
        let is = is_front tree sights holds sees in
        reached_first look_limits sights (begun before.trail) (looks sights asking) path
        (reached_by_front look_limits sights (begun before.trail) (looks sights (look_at_each front))
        (footprint sights asking) path (is.0, is.1 ∙ ap (λ ps. ps ++ is.0) (sym (looks_each sights front))) reached)

  fails_by : (failing : Failing) (sights : Sights) (paths : List (List ℕ)) (later : Trail)
      → IsFront paths (footprint sights asking)
      → Fails (evaluated (limited look_limits sights) (begun before.trail) (look_at_each paths)) failing later
      → Fails (evaluated (limited look_limits sights) (begun before.trail) asking) failing later
  fails_by (passes name) sights paths later is e =
      front_stops look_limits sights before.trail later asking paths name is e
  fails_by not_read sights paths later is e = tt
  fails_by no_memory sights paths later is e = tt
  fails_by never sights paths later is e = e

  -- where one of them fails
  pub failed_again : (failing : Failing) (after : State) → LooksTo before seen (fails failing) after
      → Answered {X = X} (afresh before) asking (fails failing) after
  failed_again failing after to =
      reframed {X = Unit {0}} {Y = X} (afresh before) after (look_at_each (front (fails failing) after to)) asking
      (fails failing) (fails failing) to.answered (carried failing no_memory) (carried failing not_read)
      (carried failing not_read) (carried failing never)
      (λ tree sights holds sees. fails_by failing sights (front (fails failing) after to) after.trail
      (is_front (fails failing) after to tree sights holds sees)
      ((told_to (fails failing) after to tree holds).says sights sees))
      (within_front (fails failing) after to)

  -- where one of them sees otherwise
  module _ (middle : State) (to : LooksTo before seen (given tt) middle) where
    same_end : (tree : Tree) (sights : Sights) → before.folder.holds ≡ Some tree → Sees tree before.known sights
        → evaluated (limited look_limits sights) (begun middle.trail) asking
        ≡ evaluated (limited look_limits sights) (begun before.trail) asking
    same_end tree sights holds sees =
        front_goes_before look_limits sights before.trail middle.trail asking (front (given tt) middle to)
        (is_front (given tt) middle to tree sights holds sees)
        ((told_to (given tt) middle to tree holds).says sights sees)

    abbrev Reaches : {Y : Type 0} → State → LookAsking Y → List ℕ → Tree → Type 0
    Reaches at of path tree =
        (sights : Sights) → Sees tree at.known sights
        → IsReached look_limits sights (begun at.trail) (looks sights of) path

    first_looks_of : (path : List ℕ) → IsLookOf (afresh before) (look_at_each (front (given tt) middle to)) path
        → IsLookOf (afresh before) asking path
    first_looks_of path is =
        if_told {P = Reaches before asking path} before.folder.holds
        (λ tree holds sights sees. within_front (given tt) middle to tree sights holds sees path
        (told_so (Reaches before (look_at_each (front (given tt) middle to)) path) before.folder.holds tree holds is
        sights sees))

    looks_behind : (path : List ℕ) → IsLookOf (afresh middle) asking path → IsLookOf (afresh before) asking path
    looks_behind path is =
        if_told {P = Reaches before asking path} before.folder.holds
        (λ tree holds sights sees.
        let told = told_to (given tt) middle to tree holds in
        reached_behind_front look_limits sights before.trail middle.trail (looks sights asking)
        (front (given tt) middle to) path (is_front (given tt) middle to tree sights holds sees)
        (told.says sights sees)
        (told_so (Reaches middle asking path) middle.folder.holds tree (to.answered.folder.tree ∙ holds) is sights
        (sees_still tree before.known middle.known sights told.same sees)))

    tells_behind : (response : Response X) (after : State) → Answered (afresh middle) asking response after
        → (tree : Tree) → before.folder.holds ≡ Some tree → Tells tree (afresh before) asking response after
    tells_behind response after rest tree holds =
        let here = told_to (given tt) middle to tree holds in
        let later = told_so (λ t. Tells t (afresh middle) asking response after) middle.folder.holds tree
        (to.answered.folder.tree ∙ holds) rest.tells in
        record {
          says = λ sights sees. subst (λ end. Comes end response after.trail) (same_end tree sights holds sees)
              (later.says sights (sees_still tree before.known middle.known sights here.same sees));
          same = λ path. later.same path ∙ here.same path;
        }

    pub behind_looks : (response : Response X) (after : State) → Answered (afresh middle) asking response after
        → Answered (afresh before) asking response after
    behind_looks response after rest = record {
      tells = if_told {P = λ tree. Tells tree (afresh before) asking response after} before.folder.holds
          (tells_behind response after rest);
      known = grows_twice before.known middle.known after.known to.answered.known rest.known;
      trail = lengthens_twice (begun before.trail) middle.trail after.trail to.answered.trail
          (record { more = rest.trail.more; paths = rest.trail.paths; size = rest.trail.size });
      covered = λ finished covers. rest.covered finished (to.answered.covered (λ e. cc) covers);
      asked = (learns_then (afresh before) (afresh middle) after (nothing_given ≡ fails no_memory)
          (response ≡ fails no_memory) (IsLookOf (afresh before) (look_at_each (front (given tt) middle to)))
          (IsLookOf (afresh middle) asking) (IsLookOf (afresh before) asking) (λ e. cc) first_looks_of looks_behind
          (learns_at (afresh before) middle (begun before.trail) (begun middle.trail) (nothing_given ≡ fails no_memory)
          (IsLookOf (afresh before) (look_at_each (front (given tt) middle to)))
          (learns_by (afresh before) middle (look_at_each (front (given tt) middle to)) (given tt) to.answered))
          (learns_by (afresh middle) after asking response rest)).asked;
      folder = looks_then {P = nothing_given ≡ fails not_read} {Q = response ≡ fails not_read} before.folder
          middle.folder after.folder (λ e. cc) to.answered.folder rest.folder;
      possible = rest.possible;
    }

-- ---- an answer behind looks at the paths of its question

abbrev at_end : Trail → Ended (Unit {0}) Trail LimitName
at_end trail = ends tt trail

trail_of : (one other : Trail) → Comes (at_end one) nothing_given other → one ≡ other
trail_of one other e = cc

module _ {X : Type 0} (asking : LookAsking X) (value : X) (before middle after : State)
    (a : Answered (afresh before) asking (given value) middle) where
  told_first : (tree : Tree) → before.folder.holds ≡ Some tree → Tells tree (afresh before) asking (given value) middle
  told_first tree holds =
      told_so (λ t. Tells t (afresh before) asking (given value) middle) before.folder.holds tree holds a.tells

  module _ (response : Response (Unit {0})) (b : Answered middle (look_at_each middle.trail.question) response after) where
    told_last : (tree : Tree) → before.folder.holds ≡ Some tree
        → Tells tree middle (look_at_each middle.trail.question) response after
    told_last tree holds =
        told_so (λ t. Tells t middle (look_at_each middle.trail.question) response after) middle.folder.holds tree
        (a.folder.tree ∙ holds) b.tells

    both : Answered (afresh before) (and_then asking (λ v. look_at_each middle.trail.question)) response after
    both = then_given (afresh before) middle after asking (λ v. look_at_each middle.trail.question) value response a b

    within_both : (tree : Tree) (sights : Sights) → before.folder.holds ≡ Some tree → Sees tree before.known sights
        → (path : List ℕ)
        → IsReached look_limits sights (begun before.trail)
        (looks sights (and_then asking (λ v. look_at_each middle.trail.question))) path
        → IsReached look_limits sights (begun before.trail) (looks sights asking) path
    within_both tree sights holds sees path reached =
        let end = (told_first tree holds).says sights sees in
        let counts = ends_counted look_limits sights (begun before.trail) asking value middle.trail end in
        let all =
        subst (All (Contains (looks sights asking)))
        (sym (questions_then sights asking (λ v. look_at_each middle.trail.question)
        ∙ ap (λ ps. looks sights asking ++ ps) (looks_each sights middle.trail.question)))
        (All-append (Contains (looks sights asking)) (looks sights asking) middle.trail.question
        (All-contains_itself (looks sights asking))
        (subst (All (Contains (looks sights asking))) (sym counts.counts.question) (footprint_looks sights asking))) in
        all_reached look_limits sights (begun before.trail) middle.trail (looks sights asking) path
        (looks_passed look_limits sights (begun before.trail) middle.trail asking value end)
        (All-contains (Contains (looks sights asking))
        (looks sights (and_then asking (λ v. look_at_each middle.trail.question))) path all
        (reached_among look_limits sights (begun before.trail)
        (looks sights (and_then asking (λ v. look_at_each middle.trail.question))) path reached))

    -- the looks count nothing
    counted_all : (tree : Tree) (sights : Sights) → before.folder.holds ≡ Some tree → Sees tree before.known sights
        → Comes (at_end middle.trail) response after.trail
    counted_all tree sights holds sees =
        subst (λ end. Comes end response after.trail)
        (question_is_counted look_limits sights before.trail middle.trail asking value
        ((told_first tree holds).says sights sees))
        ((told_last tree holds).says sights
        (sees_still tree before.known middle.known sights (told_first tree holds).same sees))

  pub given_still : Answered middle (look_at_each middle.trail.question) (given tt) after
      → Answered (afresh before) asking (given value) after
  given_still b =
      reframed (afresh before) after (and_then asking (λ v. look_at_each middle.trail.question)) asking (given tt)
      (given value) (both (given tt) b) (λ e. absurd (cc)) (λ e. absurd (cc)) (λ e. absurd (cc)) (λ e. absurd (cc))
      (λ tree sights holds sees.
      let same : middle.trail ≡ after.trail = trail_of middle.trail after.trail (counted_all (given tt) b tree sights holds sees) in
      (told_first tree holds).says sights sees ∙ ap (ends value) same)
      (within_both (given tt) b)

  never_passed : (failing : Failing) (end : Ended X Trail LimitName) (one other : Trail)
      → Comes (at_end one) (fails failing) other → Fails end failing other
  never_passed (passes name) end one other e = absurd (cc)
  never_passed not_read end one other e = tt
  never_passed no_memory end one other e = tt
  never_passed never end one other e = e

  pub failed_behind : (failing : Failing)
      → Answered {X = Unit {0}} middle (look_at_each middle.trail.question) (fails failing) after
      → Answered {X = X} (afresh before) asking (fails failing) after
  failed_behind failing b =
      reframed {X = Unit {0}} {Y = X} (afresh before) after
      (and_then asking (λ v. look_at_each middle.trail.question)) asking (fails failing) (fails failing)
      (both (fails failing) b) (carried failing no_memory) (carried failing not_read) (carried failing not_read)
      (carried failing never)
      (λ tree sights holds sees.
      never_passed failing (evaluated (limited look_limits sights) (begun before.trail) asking) middle.trail after.trail
      (counted_all (fails failing) b tree sights holds sees))
      (within_both (fails failing) b)

-- ---- memory was wanting behind an answer, and before the first look

pub no_memory_begun : {X : Type 0} (folder : FolderState) (known : Known) (old now : Trail) (asking : LookAsking X)
    → now ≡ begun old → Answered {X = X} (state folder known (begun old)) asking (fails no_memory) (state folder known now)
no_memory_begun {X} folder known old now asking same =
    subst (λ t. Answered {X = X} (state folder known (begun old)) asking (fails no_memory) (state folder known t))
    (sym same) (no_memory_now (state folder known (begun old)) asking)

pub lost : {X : Type 0} (before after : State) (asking : LookAsking X) (value : X)
    → Answered before asking (given value) after → Answered {X = X} before asking (fails no_memory) after
lost {X} before after asking value a =
    reframed {X = X} {Y = X} before after asking asking (given value) (fails no_memory) a (λ e. absurd (cc))
    (λ e. absurd (cc)) (λ e. absurd (cc)) (λ e. absurd (cc)) (λ tree sights holds sees. tt)
    (λ tree sights holds sees path reached. reached)

-- ---- faults of looks alone

abbrev limit_failing : LimitName → Failing
limit_failing File = passes File
limit_failing Bytes = passes Bytes
limit_failing Looks = passes Looks
limit_failing Modules = never
limit_failing ModuleRequests = never
limit_failing Requests = never
limit_failing Specifier = never
limit_failing Entries = never
limit_failing Brackets = never
limit_failing Depth = never
limit_failing Session = never
limit_failing Map = never
limit_failing Choices = never

abbrev pub failing_of : LookupFault → Failing
failing_of ReadFault = not_read
failing_of (Limit which) = limit_failing which
failing_of InvalidConfig = never
failing_of Memory = no_memory

as_limit : {X : Type 0} (which : LimitName) → by_limit (failed X never) which ≡ fails (limit_failing which)
as_limit File = refl
as_limit Bytes = refl
as_limit Looks = refl
as_limit Modules = refl
as_limit ModuleRequests = refl
as_limit Requests = refl
as_limit Specifier = refl
as_limit Entries = refl
as_limit Brackets = refl
as_limit Depth = refl
as_limit Session = refl
as_limit Map = refl
as_limit Choices = refl

pub as_failing : {X : Type 0} (fault : LookupFault)
    → by_fault (failed X never) (failed X never) fault ≡ fails (failing_of fault)
as_failing ReadFault = refl
as_failing (Limit which) = as_limit which
as_failing InvalidConfig = refl
as_failing Memory = refl

pub to_failing : (before after : State) (seen : List LookSeen) (fault : LookupFault)
    → LooksTo before seen (by_fault (fails never) (fails never) fault) after
    → LooksTo before seen (fails (failing_of fault)) after
to_failing before after seen fault to = subst (λ r. LooksTo before seen r after) (as_failing fault) to

module _ {X : Type 0} (before after : State) (asking : LookAsking X) where
  -- of a question that can't be refused, and back
  pub by_failing : (fault : LookupFault) → Answered {X = X} before asking (fails (failing_of fault)) after
      → Answered before asking (by_fault (fails never) (fails never) fault) after
  by_failing fault a = subst (λ r. Answered before asking r after) (sym (as_failing fault)) a

  pub failing_by : (fault : LookupFault)
      → Answered before asking (by_fault (fails never) (fails never) fault) after
      → Answered {X = X} before asking (fails (failing_of fault)) after
  failing_by fault a = subst (λ r. Answered before asking r after) (as_failing fault) a

module _ {Y : Type 0} (before after : State) (asking : Resolving Y) where
  node_limit : (which : LimitName) → Answered {X = Result Y Refusal} before asking (fails (limit_failing which)) after
      → Answered before asking (by_limit deep_config which) after
  node_limit File a = a
  node_limit Bytes a = a
  node_limit Looks a = a
  node_limit Modules a = a
  node_limit ModuleRequests a = a
  node_limit Requests a = a
  node_limit Specifier a = a
  node_limit Entries a = a
  node_limit Brackets a = a
  node_limit Depth a = absurd (a.possible refl)
  node_limit Session a = a
  node_limit Map a = a
  node_limit Choices a = a

  node_of : (fault : LookupFault) → Answered {X = Result Y Refusal} before asking (fails (failing_of fault)) after
      → Answered before asking (by_node_fault (node_fault fault)) after
  node_of ReadFault a = a
  node_of Memory a = a
  node_of InvalidConfig a = absurd (a.possible refl)
  node_of (Limit which) a = node_limit which a

  -- of one that may be
  pub node_failing : (fault : LookupFault) (named : NodeFault) → named ≡ node_fault fault
      → Answered {X = Result Y Refusal} before asking (fails (failing_of fault)) after
      → Answered before asking (by_node_fault named) after
  node_failing fault named same a =
      subst (λ f. Answered before asking (by_node_fault f) after) (sym same) (node_of fault a)
