-- What a resolution comes to, by what its parts come to.
--     now_comes                    nothing is looked at
--     looked_fails, record_fails, resolved_fails      a fault of a part is the fault of the whole
--     then_ok                      a part that isn't refused, and what comes behind it
--     memory_now                   memory was wanting before anything was asked
--     reframed                     another asking that the same looks answer
use Rattle.std.proofs.Common.{◌≡◌, Option, Some, None, IfSome, List, ℕ, Result, Ok, Err, refl, sym, ap, ◌∙◌, subst}
use Rattle.asking_spec.specs.Evaluation.{evaluated}
use Rattle.tree_spec.specs.LookLimits.{look_limits, limited}
use Rattle.tree_spec.specs.Trees.{Tree}
use Rattle.package_lookup.specs.Looked.{Sees}
use Rattle.asking_spec.specs.Askings.{answered, and_then, on_ok, and_ok}
use Rattle.tree_spec.specs.LookAskings.{Sights, LookAsking, looks}
use Rattle.tree_spec.specs.declared.LimitName.{LimitName}
use Rattle.tree_spec.proofs.ToldStates.{if_some}
use Rattle.node_spec.specs.NodeAnswers.{Refusal, by_cause, Resolving}
use Rattle.node_spec.specs.declared.Cause.{Cause}
use Rattle.package_lookup.specs.Answered.{State, Comes, Tells, IsLookOf, AsksOnce, Answered}
use Rattle.package_lookup.specs.Trails.{IsReached}
use Rattle.package_lookup.specs.Responses.{Response, given, fails, passes, not_read, no_memory, never, by_fault, bad_config, deep_config}
use Rattle.package_lookup.specs.declared.fault.LookupFault.{LookupFault}
use Rattle.package_lookup.specs.declared.fault.LookupFault.TheVariants as lookup
use Rattle.std.specs.Result.{IsErrAnd}
use Rattle.package_lookup.proofs.Questions.{asks_finished, handed, then_given, then_fails, now_given, no_memory_now, nothing, looked_to, refused_on, resolved_on}
use Rattle.node_resolve.specs.Responses.{node_fault, by_node_fault, responded, NeedsNoLook, ComesNow, Gives}
use Rattle.node_resolve.specs.declared.fault.NodeFault.{NodeFault}
use Rattle.node_resolve.specs.declared.fault.NodeFault.TheVariants.{Refused, ReadFault, Limit, Memory}

-- ---- nothing is looked at

pub needs_none : {X : Type 0} (before : State) (asking : LookAsking X) (value : X) → NeedsNoLook asking value
    → Answered before asking (given value) before
needs_none before asking value e =
    nothing before asking (given value) (λ sights. e sights before.trail) (λ e. cc) (λ e. cc)

pub comes_now : {X : Type 0} (before : State) (asking : LookAsking X) (response : Response X) → ComesNow asking response
    → Answered before asking response before
comes_now before asking (given value) e = needs_none before asking value e
comes_now before asking (fails (passes name)) e = absurd e
comes_now before asking (fails not_read) e = absurd e
comes_now before asking (fails no_memory) e = no_memory_now before asking
comes_now before asking (fails never) e = absurd e

pub now_comes : {X Y : Type 0} (shown : X → Y) (before : State) (asking : Resolving Y) (result : Result X NodeFault)
    → Gives shown asking result → Answered before asking (responded shown result) before
now_comes shown before asking result e = comes_now before asking (responded shown result) e

pub refused_now : {Y : Type 0} (before : State) (cause : Cause)
    → Answered {X = Result Y Refusal} before (answered (Err (by_cause cause))) (given (Err (by_cause cause))) before
refused_now before cause = now_given before (Err (by_cause cause))

pub memory_now : {Y : Type 0} (before : State) (asking : Resolving Y) (fault : NodeFault) → fault ≡ Memory
    → Answered before asking (by_node_fault fault) before
memory_now before asking fault e =
    subst (λ f. Answered before asking (by_node_fault f) before) (sym e) (no_memory_now before asking)

-- ---- faults are handed on

fault_same : {Y : Type 0} (fault : LookupFault) → by_fault (bad_config {X = Y}) deep_config fault ≡ by_node_fault (node_fault fault)
fault_same lookup.ReadFault = refl
fault_same (lookup.Limit which) = refl
fault_same lookup.InvalidConfig = refl
fault_same lookup.Memory = refl

limit_same : {Y : Type 0} (which : LimitName) → by_fault (bad_config {X = Y}) deep_config (lookup.Limit which) ≡ by_node_fault (Limit which)
limit_same which = refl

module _ {Y : Type 0} (before after : State) where
  pub looked_fails : {X : Type 0} (part : LookAsking X) (next : X → Resolving Y) (fault : LookupFault) (other : NodeFault)
      → other ≡ node_fault fault → Answered before part (by_fault (fails never) (fails never) fault) after
      → Answered before (and_then part next) (by_node_fault other) after
  looked_fails part next fault other e a =
      subst (λ r. Answered before (and_then part next) r after) (fault_same fault ∙ ap by_node_fault (sym e))
      (looked_to before after part next bad_config deep_config fault a)

  pub record_fails : {X : Type 0} (part : Resolving X) (next : X → Resolving Y) (fault : LookupFault) (other : NodeFault)
      → other ≡ node_fault fault → Answered before part (by_fault bad_config deep_config fault) after
      → Answered before (and_ok part next) (by_node_fault other) after
  record_fails part next fault other e a =
      subst (λ r. Answered before (and_ok part next) r after) (fault_same fault ∙ ap by_node_fault (sym e))
      (resolved_on before after part next fault a)

  pub resolved_fails : {X : Type 0} (part : Resolving X) (next : X → Resolving Y) (fault : NodeFault)
      → Answered before part (by_node_fault fault) after
      → Answered before (and_ok part next) (by_node_fault fault) after
  resolved_fails part next (Refused cause) a = refused_on before after part next (by_cause cause) a
  resolved_fails part next ReadFault a = then_fails before after part (on_ok next) not_read a
  resolved_fails part next (Limit which) a = resolved_on before after part next (lookup.Limit which) a
  resolved_fails part next Memory a = then_fails before after part (on_ok next) no_memory a

-- ---- what comes behind

pub then_ok : {X Y : Type 0} (before middle after : State) (part : Resolving X) (next : X → Resolving Y) (value : X)
    (response : Response (Result Y Refusal)) → Answered before part (given (Ok value)) middle
    → Answered middle (next value) response after → Answered before (and_ok part next) response after
then_ok before middle after part next value response a b =
    then_given before middle after part (on_ok next) (Ok value) response a b

-- ---- another asking

tells_as : {X Y : Type 0} (told : Option Tree) (before after : State) (one : LookAsking X) (other : LookAsking Y)
    (r : Response X) (q : Response Y)
    → ((tree : Tree) (sights : Sights) → told ≡ Some tree → Sees tree before.known sights
    → Comes (evaluated (limited look_limits sights) before.trail other) q after.trail)
    → IfSome told (λ tree. Tells tree before one r after) → IfSome told (λ tree. Tells tree before other q after)
tells_as None before after one other r q comes tells = tt
tells_as (Some tree) before after one other r q comes tells =
    record { says = λ sights sees. comes tree sights refl sees; same = tells.same }

-- where each look of the one is a look of the other
abbrev GoesTo : {X Y : Type 0} → State → LookAsking X → LookAsking Y → Sights → Type 0
GoesTo before one other sights =
    (path : List ℕ) → IsReached look_limits sights before.trail (looks sights one) path
    → IsReached look_limits sights before.trail (looks sights other) path

abbrev Reaches : {X : Type 0} → State → LookAsking X → List ℕ → Tree → Type 0
Reaches before asking path tree =
    (sights : Sights) → Sees tree before.known sights
    → IsReached look_limits sights before.trail (looks sights asking) path

looks_as : {X Y : Type 0} (told : Option Tree) (before : State) (one : LookAsking X) (other : LookAsking Y)
    (path : List ℕ)
    → ((tree : Tree) (sights : Sights) → told ≡ Some tree → Sees tree before.known sights
    → GoesTo before one other sights)
    → IfSome told (Reaches before one path) → IfSome told (Reaches before other path)
looks_as None before one other path within is = tt
looks_as (Some tree) before one other path within is = λ sights sees.
    within tree sights refl sees path (is sights sees)

pub reframed : {X Y : Type 0} (before after : State) (one : LookAsking X) (other : LookAsking Y) (r : Response X)
    (q : Response Y) → Answered before one r after → (r ≡ fails no_memory → q ≡ fails no_memory)
    → (r ≡ fails not_read → q ≡ fails not_read) → (q ≡ fails not_read → r ≡ fails not_read)
    → (q ≡ fails never → r ≡ fails never)
    → ((tree : Tree) (sights : Sights) → before.folder.holds ≡ Some tree → Sees tree before.known sights
    → Comes (evaluated (limited look_limits sights) before.trail other) q after.trail)
    → ((tree : Tree) (sights : Sights) → before.folder.holds ≡ Some tree → Sees tree before.known sights
    → GoesTo before one other sights) → Answered before other q after
reframed before after one other r q a memory read back possible comes within = record {
  tells = tells_as before.folder.holds before after one other r q comes a.tells;
  known = a.known;
  trail = a.trail;
  covered = λ finished covers. a.covered (λ e. finished (memory e)) covers;
  asked = if_some {P = λ old. AsksOnce old before after (r ≡ fails no_memory) (IsLookOf before one)}
      {Q = λ old. AsksOnce old before after (q ≡ fails no_memory) (IsLookOf before other)} before.folder.asked
      (λ old. asks_finished old before after (r ≡ fails no_memory) (q ≡ fails no_memory) (IsLookOf before one)
      (IsLookOf before other) memory (λ path. looks_as before.folder.holds before one other path within)) a.asked;
  folder = record {
    tree = a.folder.tree;
    writes = a.folder.writes;
    later = a.folder.later;
    cause = λ e. a.folder.cause (back e);
    quiet = λ none. a.folder.quiet (λ e. none (read e));
  };
  possible = λ e. a.possible (possible e);
}

-- ---- what is returned where a call fails

pub responded_err : {X Y : Type 0} (shown : X → Y) (before after : State) (asking : Resolving Y)
    (result : Result X NodeFault) (fault : NodeFault) → IsErrAnd result (λ given. given ≡ fault)
    → Answered before asking (by_node_fault fault) after → Answered before asking (responded shown result) after
responded_err shown before after asking result fault e a =
    subst (λ r. Answered before asking (responded shown r) after) (sym (handed result fault e)) a

pub memory_err : {X Y : Type 0} (shown : X → Y) (before : State) (asking : Resolving Y) (result : Result X NodeFault)
    → IsErrAnd result (λ given. given ≡ Memory) → Answered before asking (responded shown result) before
memory_err shown before asking result e =
    responded_err shown before before asking result Memory e (no_memory_now before asking)

pub gives_err : {X Y : Type 0} (shown : X → Y) (asking : Resolving Y) (result : Result X NodeFault)
    → IsErrAnd result (λ given. given ≡ Memory) → Gives shown asking result
gives_err shown asking result e = subst (λ r. Gives shown asking r) (sym (handed result Memory e)) tt

pub gives_as : {X Y : Type 0} (shown : X → Y) (one other : Resolving Y) (result : Result X NodeFault) → other ≡ one
    → Gives shown one result → Gives shown other result
gives_as shown one other result e gives = subst (λ asking. Gives shown asking result) (sym e) gives
