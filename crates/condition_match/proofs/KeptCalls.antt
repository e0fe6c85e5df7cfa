-- What each call keeps, a row of calls keeps.
use Rattle.std.specs.Prelude.{◌≡◌, ℕ, Bool, true, List, [], ◌∷◌}
use Rattle.std.proofs.Common.{ap, ◌∙◌}
use Rattle.node_spec.specs.declared.BareAnswer.{BareAnswer}
use Rattle.node_spec.specs.PackageTargets.{Call}
use Rattle.condition_match.specs.CallLaws.{CallsKeep}

pub calls_keep : {B : Type 0} (gives : B → List ℕ → BareAnswer → B → Type 0) → CallsKeep gives
calls_keep gives test old new [] keeps same passes = ap test same ∙ passes
calls_keep gives test old new (call ∷ more) keeps calls passes = calls_keep gives test calls.0 new more keeps calls.2 (keeps old calls.0 call.0 call.1 calls.1 passes)
