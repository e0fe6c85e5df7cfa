-- One more look on a trail.
--     has_room trail path                a look at the path isn't one path too many
--     OnCount old counted result new     the call does what counting the look tells
--     IsCounted shown old path result new      a look that answers is counted, and one that passes a limit leaves the trail
--     asked_again trail paths            the trail, where a question begins that asked these paths
--     passed trail path size             the trail behind a look at a path with so many bytes, in no question
--     Lengthens before after             the paths before are the first of those after, and the size doesn't fall
--     HasRoom limits sights trail path   the look at the path isn't refused as one path too many, before it is made
--     IsReached limits sights trail paths path
--                                        of looks at these paths one after another, one is at this path, those before
--                                        it pass no limit, and there is room for it
use Rattle.std.specs.Prelude.{◌≡◌, ◌≢◌, ◌≤◌, ◌||◌, ◌+◌, ◌++◌, [], ◌∷◌, ℕ, nat_lt, Bool, List, length, Option, Result, Ok, Err, ⊤}
use Rattle.std.specs.Prelude.{if◌then◌else◌}
use Rattle.asking_spec.specs.Evaluation.{ends, evaluated}
use Rattle.tree_spec.specs.LookAskings.{Sights, look_at_each, is_seen}
use Rattle.tree_spec.specs.LookLimits.{LookLimits, Trail, look_limits, counted, limited}
use Rattle.tree_spec.specs.declared.Entry.{Entry}
use Rattle.tree_spec.specs.declared.LimitName.{LimitName}
use Rattle.tree_spec.specs.declared.LimitName.TheVariants.{Looks}
use Rattle.package_lookup.specs.declared.fault.LookupFault.{LookupFault}
use Rattle.package_lookup.specs.declared.fault.LookupFault.TheVariants.{ReadFault, Limit, InvalidConfig, Memory}

abbrev pub has_room : Trail → List ℕ → Bool
has_room trail path = nat_lt (length trail.paths) look_limits.looks || is_seen path trail.paths

-- a look that passes a limit leaves the trail
abbrev pub OnCount : Trail → Result Trail LimitName → Result (Unit {0}) LookupFault → Trail → Type 0
OnCount old counted (Ok unit) new = counted ≡ Ok new
OnCount old counted (Err (Limit which)) new = (counted ≡ Err which) × (new ≡ old)
OnCount old counted (Err Memory) new = ⊤
OnCount old counted (Err ReadFault) new = ⊥
OnCount old counted (Err InvalidConfig) new = ⊥

-- own: whatever the folder tells
abbrev pub IsCounted : {X : Type 0} → (X → Option Entry) → Trail → List ℕ → Result X LookupFault → Trail → Type 0
IsCounted shown old path (Ok found) new = counted look_limits old path (shown found) ≡ Ok new
IsCounted shown old path (Err (Limit which)) new = new ≡ old
IsCounted shown old path (Err ReadFault) new = ⊤
IsCounted shown old path (Err Memory) new = ⊤
IsCounted shown old path (Err InvalidConfig) new = ⊤

abbrev pub asked_again : Trail → List (List ℕ) → Trail
asked_again trail paths = record { paths = trail.paths; size = trail.size; question = paths }

-- own: whatever the limits are
abbrev pub passed : Trail → List ℕ → ℕ → Trail
passed trail path size =
    if is_seen path trail.paths then trail
    else record { paths = trail.paths ++ path ∷ []; size = trail.size + size; question = trail.question }

-- own: whatever a call comes to, nothing that was counted is taken back
pub record Lengthens (before after : Trail) : Type 0 where
  pub more : List (List ℕ)
  pub paths : after.paths ≡ before.paths ++ more
  pub size : before.size ≤ after.size

abbrev pub HasRoom : LookLimits → Sights → Trail → List ℕ → Type 0
HasRoom limits sights trail path = counted limits trail path (sights path) ≢ Err Looks

-- own: so that looks behind the first limit are none, and neither is that one where it is the limit of paths; a path
-- that stands in the list twice may be reached at either
pub record IsReached (limits : LookLimits) (sights : Sights) (trail : Trail) (paths : List (List ℕ))
    (path : List ℕ) : Type 0 where
  pub front : List (List ℕ)
  pub back : List (List ℕ)
  pub split : paths ≡ front ++ path ∷ back
  pub before : Trail
  pub passes : evaluated (limited limits sights) trail (look_at_each front) ≡ ends tt before
  pub room : HasRoom limits sights before path
