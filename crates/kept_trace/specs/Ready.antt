-- When kept answers may be given, and which questions they leave to be asked anew.
--     AreAllRight kept               all that is kept is right
--     IsEmptyUnder conditions kept   nothing is kept, and that under these conditions
--     AreBothRight kept next         the answers of the walk before, and those that are kept for the next one
--     AreUnderOne kept next          both are kept under the same conditions
--     kept_looks kept question       the looks that are kept of a question
--     is_anew kept sights question   the question is asked anew
use Rattle.std.specs.Prelude.{◌≡◌, ℕ, Bool, List, bytes_eq, Option, None, if◌then◌else◌}
use Rattle.std.specs.Cmp.Lexicographic.{pointwise}
use Rattle.tree_spec.specs.LookAskings.{Sights}
use Rattle.trace_spec.specs.Questions.{Question, of_module, of_request}
use Rattle.kept_spec.specs.Certificates.{LookSeen}
use Rattle.kept_answers.specs.Entries.{Request}
use Rattle.kept_answers.specs.Freshness.{module_looks, request_looks, is_fresh}
use Rattle.kept_answers.specs.Tables.{modules_at, requests_at, AreModules, AreRequests}
use Rattle.kept_trace.specs.declared.kept.Kept.{Kept}

pub record AreAllRight (kept : Kept) : Type 0 where
  pub modules : AreModules kept.modules
  pub requests : AreRequests kept.requests

pub record IsEmptyUnder (conditions : List (List ℕ)) (kept : Kept) : Type 0 where
  pub modules : (path : List ℕ) → modules_at kept.modules path ≡ None
  pub requests : (request : Request) → requests_at kept.requests request ≡ None
  pub names : kept.requests.names ≡ conditions

pub record AreBothRight (kept next : Kept) : Type 0 where
  pub before : AreAllRight kept
  pub here : AreAllRight next

abbrev pub AreUnderOne : Kept → Kept → Type 0
AreUnderOne kept next = kept.requests.names ≡ next.requests.names

-- ---- what is asked anew

-- own: nothing is kept of a request under other conditions
abbrev pub kept_looks : Kept → Question → Option (List LookSeen)
kept_looks kept (of_module path) = module_looks kept.modules path
kept_looks kept (of_request conditions parent specifier) =
    if pointwise bytes_eq kept.requests.names conditions
    then request_looks kept.requests (record { parent = parent; specifier = specifier })
    else None

abbrev pub is_anew : Kept → Sights → Question → Bool
is_anew kept sights question = is_fresh sights (kept_looks kept question)
