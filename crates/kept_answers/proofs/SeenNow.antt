-- Answers whose looks see what stands there.
--     looks_set, looks_same      a table by its looks
--     seen_by              looks that are as is known behind an answer see what stood before it
--     again_now, anew_now  looks again, and new ones
--     seen_before, found_before, source_before, stays_before      what is so behind looks is so before them
--     stays_as             what wasn't changed
--     stays_put, now_put   what was put
--     same_path, same_request      a key is itself
use Rattle.std.proofs.Common.{◌≡◌, ℕ, Bool, true, false, List, Option, Some, None, Result, Ok, Err, IfSome, refl, sym, ap, ◌∙◌, subst}
use Rattle.std.specs.Prelude.{not, All, bytes_eq, option_map, if◌then◌else◌, IfOk, OnOk, OnErr}
use Rattle.std.proofs.lemmas.Slice.Eq.{bytes_eq-Decides}
use Rattle.tree_spec.proofs.ToldStates.{if_all, if_some, if_two}
use Rattle.tree_spec.specs.LookAskings.{Sights, LookAsking, look_at_each}
use Rattle.package_lookup.specs.Answered.{State, Tells, Answered}
use Rattle.package_lookup.specs.Looked.{Sees}
use Rattle.package_lookup.specs.Responses.{Response, given}
use Rattle.package_lookup.proofs.Questions.{sees_still}
use Rattle.kept_spec.specs.Certificates.{LookSeen, paths_of, AreSeen}
use Rattle.kept_spec.proofs.Freshening.{same_is_seen}
use Rattle.kept_answers.specs.Entries.{Request, is_request}
use Rattle.kept_answers.specs.Freshness.{is_fresh, IsSeenNow, StaysSeen, put_looks}
use Rattle.kept_answers.specs.KnownLooks.{IsAsKnown, afresh, IsSeenAgain}
use Rattle.kept_answers.proofs.Certifying.{given_still}
use Rattle.kept_answers.proofs.KnownLemmas.{all_seen}

-- ---- a table by its looks

looks_by : {V : Type 0} (looks_of : V → List LookSeen) (test : Bool) (value : V) (old new : Option V)
    → new ≡ (if test then Some value else old)
    → option_map looks_of new ≡ (if test then Some (looks_of value) else option_map looks_of old)
looks_by looks_of true value old new e = ap (option_map looks_of) e
looks_by looks_of false value old new e = ap (option_map looks_of) e

module _ {Key V E A : Type 0} (looks_of : V → List LookSeen) (test : Key → Key → Bool) (key : Key) (value : V)
    (old new : Key → Option V) where
  pub looks_set : (result : Result A E)
      → OnOk result ((other : Key) → new other ≡ (if test key other then Some value else old other))
      → OnOk result ((other : Key) → option_map looks_of (new other)
      ≡ put_looks test key (looks_of value) (λ k. option_map looks_of (old k)) other)
  looks_set (Ok unit) set = λ other. looks_by looks_of (test key other) value (old other) (new other) (set other)
  looks_set (Err fault) set = tt

  pub looks_same : (result : Result A E) → OnErr result ((other : Key) → new other ≡ old other)
      → OnErr result ((other : Key) → option_map looks_of (new other) ≡ option_map looks_of (old other))
  looks_same (Ok unit) same = tt
  looks_same (Err fault) same = λ other. ap (option_map looks_of) (same other)

-- ---- looks that are as is known

unfresh : (sights : Sights) (looks : List LookSeen) → AreSeen sights looks → is_fresh sights (Some looks) ≡ false
unfresh sights looks seen = ap not ((same_is_seen sights looks).1 seen)

pub seen_by : {X : Type 0} (before after : State) (asking : LookAsking X) (response : Response X)
    (looks : List LookSeen) → Answered (afresh before) asking response after → All (IsAsKnown after.known) looks
    → IsSeenNow before (Some looks)
seen_by before after asking response looks a each =
    if_some {P = λ tree. Tells tree (afresh before) asking response after}
    {Q = λ tree. (sights : Sights) → Sees tree before.known sights → is_fresh sights (Some looks) ≡ false}
    before.folder.holds
    (λ tree tells sights sees.
    unfresh sights looks
    (all_seen tree after.known sights looks (sees_still tree before.known after.known sights tells.same sees) each))
    a.tells

module _ (before middle : State) (paths : List (List ℕ))
    (a : Answered (afresh before) (look_at_each paths) (given tt) middle) where
  pub seen_before : (looks : Option (List LookSeen)) → IsSeenNow middle looks → IsSeenNow before looks
  seen_before looks seen =
      if_two {P = λ tree. Tells tree (afresh before) (look_at_each paths) (given tt) middle}
      {Q = λ tree. (sights : Sights) → Sees tree middle.known sights → is_fresh sights looks ≡ false}
      {R = λ tree. (sights : Sights) → Sees tree before.known sights → is_fresh sights looks ≡ false}
      before.folder.holds
      (λ tree tells here sights sees. here sights (sees_still tree before.known middle.known sights tells.same sees))
      a.tells
      (subst (λ holds. IfSome holds
      (λ tree. (sights : Sights) → Sees tree middle.known sights → is_fresh sights looks ≡ false)) a.folder.tree seen)

  pub stays_before : (old new : Option (List LookSeen)) → StaysSeen middle old new → StaysSeen before old new
  stays_before old new stays =
      if_two {P = λ tree. Tells tree (afresh before) (look_at_each paths) (given tt) middle}
      {Q = λ tree. (sights : Sights) → Sees tree middle.known sights → is_fresh sights old ≡ false
      → is_fresh sights new ≡ false}
      {R = λ tree. (sights : Sights) → Sees tree before.known sights → is_fresh sights old ≡ false
      → is_fresh sights new ≡ false}
      before.folder.holds
      (λ tree tells here sights sees. here sights (sees_still tree before.known middle.known sights tells.same sees))
      a.tells
      (subst (λ holds. IfSome holds
      (λ tree. (sights : Sights) → Sees tree middle.known sights → is_fresh sights old ≡ false
      → is_fresh sights new ≡ false)) a.folder.tree stays)

pub found_before : {A E : Type 0} (result : Result A E) (before middle : State) (paths : List (List ℕ))
    → Answered (afresh before) (look_at_each paths) (given tt) middle → (looks : Option (List LookSeen))
    → IfOk result (λ found. IsSeenNow middle looks) → IfOk result (λ found. IsSeenNow before looks)
found_before (Ok found) before middle paths a looks seen = seen_before before middle paths a looks seen
found_before (Err fault) before middle paths a looks seen = tt

pub source_before : {A B E : Type 0} (result : Result (Result A B) E) (before middle : State) (paths : List (List ℕ))
    → Answered (afresh before) (look_at_each paths) (given tt) middle → (looks : Option (List LookSeen))
    → IfOk result (λ answer. IfOk answer (λ source. IsSeenNow middle looks))
    → IfOk result (λ answer. IfOk answer (λ source. IsSeenNow before looks))
source_before (Ok answer) before middle paths a looks seen = found_before answer before middle paths a looks seen
source_before (Err fault) before middle paths a looks seen = tt

pub again_now : (before after : State) (looks shown : List LookSeen) → shown ≡ looks → IsSeenAgain before shown after
    → IsSeenNow before (Some looks)
again_now before after looks shown same again =
    subst (λ ls. IsSeenNow before (Some ls)) same
    (seen_by before after (look_at_each (paths_of shown)) (given tt) shown again.answered again.each)

pub anew_now : {X : Type 0} (before middle after : State) (asking : LookAsking X) (value : X) (looks : List LookSeen)
    → Answered (afresh before) asking (given value) middle
    → Answered middle (look_at_each middle.trail.question) (given tt) after → All (IsAsKnown after.known) looks
    → IsSeenNow before (Some looks)
anew_now before middle after asking value looks first last each =
    seen_by before after asking (given value) looks (given_still asking value before middle after first last) each

-- ---- what is put

pub stays_as : (before : State) (old new : Option (List LookSeen)) → new ≡ old → StaysSeen before old new
stays_as before old new same =
    if_all before.folder.holds
    (λ tree sights sees kept. subst (λ looks. is_fresh sights looks ≡ false) (sym same) kept)

stays_by : (before : State) (test : Bool) (looks : List LookSeen) (old new : Option (List LookSeen))
    → new ≡ (if test then Some looks else old) → IsSeenNow before (Some looks) → StaysSeen before old new
stays_by before true looks old new e seen =
    if_some {P = λ tree. (sights : Sights) → Sees tree before.known sights → is_fresh sights (Some looks) ≡ false}
    {Q = λ tree. (sights : Sights) → Sees tree before.known sights → is_fresh sights old ≡ false
    → is_fresh sights new ≡ false} before.folder.holds
    (λ tree each sights sees kept. subst (λ ls. is_fresh sights ls ≡ false) (sym e) (each sights sees)) seen
stays_by before false looks old new e seen = stays_as before old new e

module _ {Key : Type 0} (before : State) (test : Key → Key → Bool) (key : Key) (looks : List LookSeen)
    (old new : Key → Option (List LookSeen)) (set : (other : Key) → new other ≡ put_looks test key looks old other)
    (seen : IsSeenNow before (Some looks)) where
  pub stays_put : (other : Key) → StaysSeen before (old other) (new other)
  stays_put other = stays_by before (test key other) looks (old other) (new other) (set other) seen

  pub now_put : (other : Key) → test key other ≡ true → IsSeenNow before (new other)
  now_put other same =
      subst (λ ls. IsSeenNow before ls)
      (sym (set other ∙ ap (λ b. if b then Some looks else old other) same)) seen

-- ---- a key is itself

pub same_path : (path : List ℕ) → bytes_eq path path ≡ true
same_path path = (bytes_eq-Decides path path).1 refl

pub same_request : (request : Request) → is_request request request ≡ true
same_request request = cc (same_path request.parent, same_path request.specifier)
