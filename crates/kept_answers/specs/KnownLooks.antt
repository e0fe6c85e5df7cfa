-- Looks with what they saw, beside what is known.
--     IsSmall found                  it is no file above the limit
--     IsAsKnown known look           the same is known to stand there
--     AreLooksAt known paths looks   looks at these paths, as what stands there is known
--     done value                     nothing of a value
--     afresh before                  the same state, where a new question begins
--     IsSeenAgain before looks after     looks at these paths in a new question, each of which saw the same
--     LooksTo before looks response after    the same up to the next one, which may see otherwise or fail
--     IsOther known look             something else is known to stand there
--     LooksAgain before looks result after   looks again, up to one that sees otherwise
--     IsKept asking value looks      the looks certify what the asking comes to, and something shows them
use Rattle.std.specs.Prelude.{◌≡◌, ◌≢◌, ◌++◌, [], ◌∷◌, ℕ, nat_lt, Bool, true, false, List, All, Option, Some, Result, Ok, Err}
use Rattle.tree_spec.specs.LookAskings.{LookAsking, look_at_each}
use Rattle.tree_spec.specs.LookLimits.{look_limits, size_at, begun}
use Rattle.tree_spec.specs.declared.Entry.{Entry}
use Rattle.tree_spec.specs.declared.Look.{Look}
use Rattle.package_lookup.specs.Answered.{State, state, Answered}
use Rattle.package_lookup.specs.LaidTrees.{look_for}
use Rattle.package_lookup.specs.Looked.{known_at}
use Rattle.package_lookup.specs.Responses.{Response, given, fails, never, by_fault}
use Rattle.package_lookup.specs.declared.fault.LookupFault.{LookupFault}
use Rattle.package_lookup.specs.declared.known.Known.{Known}
use Rattle.kept_spec.specs.Certificates.{LookSeen, paths_of, IsShown, IsCertified}

abbrev pub IsSmall : Option Entry → Type 0
IsSmall found = nat_lt look_limits.file (size_at found) ≡ false

pub record IsAsKnown (known : Known) (look : LookSeen) : Type 0 where
  pub known_so : known_at known look.path ≡ Some (look_for look.found)
  pub small : IsSmall look.found

pub record AreLooksAt (known : Known) (paths : List (List ℕ)) (looks : List LookSeen) : Type 0 where
  pub paths_are : paths_of looks ≡ paths
  pub each : All (IsAsKnown known) looks

abbrev pub done : {X : Type 0} → X → Unit {0}
done value = tt

-- ---- looks again

abbrev pub afresh : State → State
afresh before = state before.folder before.known (begun before.trail)

pub record IsSeenAgain (before : State) (looks : List LookSeen) (after : State) : Type 0 where
  pub each : All (IsAsKnown after.known) looks
  pub answered : Answered (afresh before) (look_at_each (paths_of looks)) (given tt) after

pub record LooksTo (before : State) (looks : List LookSeen) (response : Response (Unit {0}))
    (after : State) : Type 0 where
  pub same : List LookSeen
  pub next : LookSeen
  pub rest : List LookSeen
  pub split : looks ≡ same ++ next ∷ rest
  pub each : All (IsAsKnown after.known) same
  pub answered : Answered (afresh before) (look_at_each (paths_of same ++ next.path ∷ [])) response after

pub record IsOther (known : Known) (look : LookSeen) : Type 0 where
  pub seen : Look
  pub known_so : known_at known look.path ≡ Some seen
  pub other : seen ≢ look_for look.found
  pub small : IsSmall look.found

abbrev pub LooksAgain : State → List LookSeen → Result Bool LookupFault → State → Type 0
LooksAgain before looks (Ok true) after = IsSeenAgain before looks after
LooksAgain before looks (Ok false) after =
    (to : LooksTo before looks (given tt) after) × IsOther after.known to.next
LooksAgain before looks (Err fault) after = LooksTo before looks (by_fault (fails never) (fails never) fault) after

-- ---- what is kept of an answer

-- own: it says nothing of one tree, so that it stays true whatever changes
pub record IsKept {X : Type 0} (asking : LookAsking X) (value : X) (looks : List LookSeen) : Type 0 where
  pub certified : IsCertified asking value looks
  pub shown : IsShown looks
