-- What the calls of a resolution come to.
--     node_fault fault             the fault of a question behind a resolution, as its own
--     responded shown result       of a call whose asking may be refused, its value as it is shown
--     NeedsNoLook asking value     the asking comes to this without a look
--     ComesNow asking response     the same, unless memory is wanting
--     Gives shown asking result    so does a call that looks at nothing
use Rattle.std.specs.Prelude.{◌≡◌, ⊤, Result, Ok, Err}
use Rattle.asking_spec.specs.Evaluation.{ends, evaluated}
use Rattle.tree_spec.specs.LookAskings.{Sights, LookAsking}
use Rattle.tree_spec.specs.LookLimits.{Trail, look_limits, limited}
use Rattle.node_spec.specs.NodeAnswers.{Refusal, by_cause, Resolving}
use Rattle.node_spec.specs.declared.Cause.TheVariants.{InvalidConfig}
use Rattle.package_lookup.specs.Responses.{Response, given, fails, Failing, passes, not_read, no_memory, never}
use Rattle.package_lookup.specs.Responses.{by_limit, deep_config}
use Rattle.package_lookup.specs.declared.fault.LookupFault.{LookupFault}
use Rattle.package_lookup.specs.declared.fault.LookupFault.TheVariants as lookup
use Rattle.node_resolve.specs.declared.fault.NodeFault.{NodeFault}
use Rattle.node_resolve.specs.declared.fault.NodeFault.TheVariants.{Refused, ReadFault, Limit, Memory}

abbrev pub node_fault : LookupFault → NodeFault
node_fault lookup.ReadFault = ReadFault
node_fault (lookup.Limit which) = Limit which
node_fault lookup.InvalidConfig = Refused InvalidConfig
node_fault lookup.Memory = Memory

-- a cause and the limit of brackets are what the asking comes to
abbrev pub by_node_fault : {X : Type 0} → NodeFault → Response (Result X Refusal)
by_node_fault (Refused cause) = given (Err (by_cause cause))
by_node_fault ReadFault = fails not_read
by_node_fault (Limit which) = by_limit deep_config which
by_node_fault Memory = fails no_memory

abbrev pub responded : {X Y : Type 0} → (X → Y) → Result X NodeFault → Response (Result Y Refusal)
responded shown (Ok value) = given (Ok (shown value))
responded shown (Err fault) = by_node_fault fault

abbrev pub NeedsNoLook : {X : Type 0} → LookAsking X → X → Type 0
NeedsNoLook asking value =
    (sights : Sights) (trail : Trail) → evaluated (limited look_limits sights) trail asking ≡ ends value trail

abbrev pub IsMemory : Failing → Type 0
IsMemory (passes name) = ⊥
IsMemory not_read = ⊥
IsMemory no_memory = ⊤
IsMemory never = ⊥

abbrev pub ComesNow : {X : Type 0} → LookAsking X → Response X → Type 0
ComesNow asking (given value) = NeedsNoLook asking value
ComesNow asking (fails failing) = IsMemory failing

abbrev pub Gives : {X Y : Type 0} → (X → Y) → Resolving Y → Result X NodeFault → Type 0
Gives shown asking result = ComesNow asking (responded shown result)
