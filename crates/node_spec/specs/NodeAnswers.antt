-- What Node's resolution comes to.
--     Refusal                   why there is no answer
--     Module                    a path with a suffix
--     Url                       the text of a URL
--     Resolving X               an asking over looks that comes to an `X` or is refused
--     gives value               it comes to this, without a look
--     refuses cause             it is refused by this cause, without a look
--     as_node answer            an answer for a relative specifier, as an answer for any
use Rattle.std.specs.Prelude.{ℕ, List, Result, Ok, Err}
use Rattle.asking_spec.specs.Askings.{answered}
use Rattle.tree_spec.specs.LookAskings.{LookAsking}
use Rattle.node_spec.specs.Resolution.{Answer, Resolved, Refused}
use Rattle.node_spec.specs.declared.Cause.{Cause}

-- own: `too_deep`: a package.json that is read on the way has more open brackets than a reader takes. That is a limit
-- and none of the causes
pub data Refusal : Type 0 where
  by_cause : Cause → Refusal
  too_deep : Refusal

pub record Module : Type 0 where
  pub path : List ℕ
  pub suffix : List ℕ

abbrev pub Url : Type 0
Url = List ℕ

abbrev pub Resolving : Type 0 → Type 0
Resolving X = LookAsking (Result X Refusal)

abbrev pub gives : {X : Type 0} → X → Resolving X
gives value = answered (Ok value)

abbrev pub refuses : {X : Type 0} → Cause → Resolving X
refuses cause = answered (Err (by_cause cause))

abbrev pub as_node : Answer → Result Module Refusal
as_node (Resolved path suffix) = Ok (record { path = path; suffix = suffix })
as_node (Refused cause) = Err (by_cause cause)
