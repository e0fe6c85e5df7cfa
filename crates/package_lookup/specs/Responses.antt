-- What a call that asks comes to.
--     Failing                     why it comes to nothing
--     Response X                  what it comes to
--     looked shown result         of a call whose asking can't be refused, its value as it is shown
--     resolved shown result       of a call whose asking may be: an `InvalidConfig` and the limit of brackets are
--                                 what the asking comes to
--     itself value                the value, shown as it is
use Rattle.std.specs.Prelude.{Result, Ok, Err}
use Rattle.node_spec.specs.NodeAnswers.{Refusal, by_cause, too_deep}
use Rattle.node_spec.specs.declared.Cause.TheVariants as cause
use Rattle.tree_spec.specs.declared.LimitName.{LimitName}
use Rattle.tree_spec.specs.declared.LimitName.TheVariants.{File, Bytes, Looks, Modules, ModuleRequests, Requests}
use Rattle.tree_spec.specs.declared.LimitName.TheVariants.{Specifier, Entries, Brackets, Depth, Session, Map, Choices}
use Rattle.package_lookup.specs.declared.fault.LookupFault.{LookupFault}
use Rattle.package_lookup.specs.declared.fault.LookupFault.TheVariants.{ReadFault, Limit, InvalidConfig, Memory}

-- `passes name`: a look passes this limit; `not_read`: a look failed; `no_memory`: memory was wanting; `never`: no call
-- comes to this
pub data Failing : Type 0 where
  passes : LimitName → Failing
  not_read : Failing
  no_memory : Failing
  never : Failing

pub data Response (X : Type 0) : Type 0 where
  given : X → Response X
  fails : Failing → Response X

-- three limits are passed by looks; `deep` is what the limit of brackets comes to
abbrev pub by_limit : {X : Type 0} → Response X → LimitName → Response X
by_limit deep File = fails (passes File)
by_limit deep Bytes = fails (passes Bytes)
by_limit deep Looks = fails (passes Looks)
by_limit deep Modules = fails never
by_limit deep ModuleRequests = fails never
by_limit deep Requests = fails never
by_limit deep Specifier = fails never
by_limit deep Entries = fails never
by_limit deep Brackets = fails never
by_limit deep Depth = deep
by_limit deep Session = fails never
by_limit deep Map = fails never
by_limit deep Choices = fails never

-- `config` is what a package.json that isn't well formed comes to
abbrev pub by_fault : {X : Type 0} → Response X → Response X → LookupFault → Response X
by_fault config deep ReadFault = fails not_read
by_fault config deep (Limit which) = by_limit deep which
by_fault config deep InvalidConfig = config
by_fault config deep Memory = fails no_memory

abbrev pub itself : {X : Type 0} → X → X
itself value = value

abbrev pub looked : {X Y : Type 0} → (X → Y) → Result X LookupFault → Response Y
looked shown (Ok value) = given (shown value)
looked shown (Err fault) = by_fault (fails never) (fails never) fault

abbrev pub bad_config : {X : Type 0} → Response (Result X Refusal)
bad_config = given (Err (by_cause cause.InvalidConfig))

abbrev pub deep_config : {X : Type 0} → Response (Result X Refusal)
deep_config = given (Err too_deep)

abbrev pub resolved : {X Y : Type 0} → (X → Y) → Result X LookupFault → Response (Result Y Refusal)
resolved shown (Ok value) = given (Ok (shown value))
resolved shown (Err fault) = by_fault bad_config deep_config fault
