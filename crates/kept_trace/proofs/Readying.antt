-- Kept answers stay right.
--     on_ok                        what is so whatever the result is
--     right_by_module, right_by_request      where one answer more is kept
--     nothing_wrong                where nothing is kept
--     right_with_none, right_still      beside nothing, and what is kept then
use Rattle.std.proofs.Common.{ℕ, List, Option, IfSome, Result, Ok, Err}
use Rattle.std.specs.Prelude.{OnOk}
use Rattle.tree_spec.proofs.ToldStates.{if_some}
use Rattle.tree_spec.specs.Trees.{Tree}
use Rattle.kept_answers.specs.Tables.{AreModules, AreRequests}
use Rattle.kept_answers.specs.declared.modules.KeptModules.{KeptModules}
use Rattle.kept_answers.specs.declared.requests.KeptRequests.{KeptRequests}
use Rattle.kept_trace.specs.Ready.{AreAllRight, AreBothRight, IsEmptyUnder}
use Rattle.kept_trace.specs.declared.kept.Kept.{Kept}

pub on_ok : {A E P : Type 0} (result : Result A E) → P → OnOk result P
on_ok (Ok value) holds = holds
on_ok (Err fault) holds = tt

module _ (kept next : Kept) (right : AreBothRight kept next) where
  pub right_by_module : (modules : KeptModules)
      → (AreModules kept.modules → AreModules next.modules → AreModules modules)
      → AreBothRight kept (record { modules = modules; requests = next.requests })
  right_by_module modules stays = record {
    before = right.before;
    here = record { modules = stays right.before.modules right.here.modules; requests = right.here.requests };
  }

  pub right_by_request : (requests : KeptRequests)
      → (AreRequests kept.requests → AreRequests next.requests → AreRequests requests)
      → AreBothRight kept (record { modules = next.modules; requests = requests })
  right_by_request requests stays = record {
    before = right.before;
    here = record { modules = right.here.modules; requests = stays right.before.requests right.here.requests };
  }

nothing_wrong : (conditions : List (List ℕ)) (kept : Kept) → IsEmptyUnder conditions kept → AreAllRight kept
nothing_wrong conditions kept none = record {
  modules = record { each = λ path own is. absurd (let here = none.modules path in cc) };
  requests = record { each = λ request own is. absurd (let here = none.requests request in cc) };
}

pub right_with_none : (conditions : List (List ℕ)) (kept next : Kept) → IsEmptyUnder conditions next
    → AreAllRight kept → AreBothRight kept next
right_with_none conditions kept next none right = record { before = right; here = nothing_wrong conditions next none }

pub right_still : (kept next later : Kept) (conditions : List (List ℕ)) (told : Option Tree)
    → IsEmptyUnder conditions next → IfSome told (λ tree. AreBothRight kept next → AreAllRight later)
    → IfSome told (λ tree. AreAllRight kept → AreAllRight later)
right_still kept next later conditions told none so =
    if_some {P = λ tree. AreBothRight kept next → AreAllRight later} {Q = λ tree. AreAllRight kept → AreAllRight later}
    told (λ tree stays right. stays (right_with_none conditions kept next none right)) so
