-- Which questions take a step.
--     module_looks, request_looks     the looks that are kept of a module, and of a request
--     is_fresh sights looks           nothing is kept, or one of its looks sees something else
--     step_if fresh                   one step, or none
--     TakesStepIfFresh folder known looks before after      a step is taken for a fresh question alone
--     IsSeenNow before looks           an answer is kept, and its looks see what stands there
--     StaysSeen before old new         so it is still, where it was
--     put_looks test key looks old      one question's looks are put into a table of looks
use Rattle.std.specs.Prelude.{◌≡◌, ◌≤◌, ◌+◌, not, ℕ, Bool, true, false, List, Option, Some, None, option_map, IfSome}
use Rattle.std.specs.Prelude.{if◌then◌else◌}
use Rattle.tree_spec.specs.LookAskings.{Sights}
use Rattle.tree_spec.specs.States.{FolderState}
use Rattle.package_lookup.specs.Answered.{State}
use Rattle.package_lookup.specs.Looked.{Sees}
use Rattle.package_lookup.specs.declared.known.Known.{Known}
use Rattle.kept_spec.specs.Certificates.{LookSeen}
use Rattle.kept_spec.specs.Freshness.{see_same}
use Rattle.kept_answers.specs.Entries.{ModuleSeen, Request}
use Rattle.kept_answers.specs.Tables.{modules_at, requests_at}
use Rattle.kept_answers.specs.declared.modules.KeptModules.{KeptModules}
use Rattle.kept_answers.specs.declared.requests.KeptRequest.{KeptRequest}
use Rattle.kept_answers.specs.declared.requests.KeptRequests.{KeptRequests}

abbrev pub module_looks : KeptModules → List ℕ → Option (List LookSeen)
module_looks table path = option_map (λ (kept : ModuleSeen). kept.looks) (modules_at table path)

abbrev pub request_looks : KeptRequests → Request → Option (List LookSeen)
request_looks table request = option_map (λ (kept : KeptRequest). kept.looks.value) (requests_at table request)

abbrev pub is_fresh : Sights → Option (List LookSeen) → Bool
is_fresh sights None = true
is_fresh sights (Some looks) = not (see_same sights looks)

abbrev pub step_if : Bool → ℕ
step_if true = 1
step_if false = 0

-- own: where a tree is told, whatever stands at each path as far as looks tell; so in the next two too
abbrev pub TakesStepIfFresh : FolderState → Known → Option (List LookSeen) → ℕ → ℕ → Type 0
TakesStepIfFresh folder known looks before after =
    IfSome folder.holds
    (λ tree. (sights : Sights) → Sees tree known sights → after ≤ before + step_if (is_fresh sights looks))

abbrev pub IsSeenNow : State → Option (List LookSeen) → Type 0
IsSeenNow before looks =
    IfSome before.folder.holds
    (λ tree. (sights : Sights) → Sees tree before.known sights → is_fresh sights looks ≡ false)

abbrev pub StaysSeen : State → Option (List LookSeen) → Option (List LookSeen) → Type 0
StaysSeen before old new =
    IfSome before.folder.holds
    (λ tree. (sights : Sights) → Sees tree before.known sights → is_fresh sights old ≡ false
    → is_fresh sights new ≡ false)

abbrev pub put_looks : {Key : Type 0} → (Key → Key → Bool) → Key → List LookSeen → (Key → Option (List LookSeen))
    → Key → Option (List LookSeen)
put_looks test key looks old other = if test key other then Some looks else old other
