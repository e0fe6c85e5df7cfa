-- The law of calls. It is the contract of a function of this crate.
--     CallsKeep gives      what each call keeps, a row of calls keeps
use Rattle.std.specs.Prelude.{◌≡◌, ℕ, Bool, true, List}
use Rattle.node_spec.specs.declared.BareAnswer.{BareAnswer}
use Rattle.node_spec.specs.PackageTargets.{Call}
use Rattle.node_spec.specs.TargetCalls.{Calls}

-- own law: where a test of the object passes after each call before which it passes, it passes after a row of calls
-- before which it passes
abbrev pub CallsKeep : {B : Type 0} → (B → List ℕ → BareAnswer → B → Type 0) → Type 0
CallsKeep {B} gives =
    (test : B → Bool) (old new : B) (asked : List Call)
    → ((before after : B) (text : List ℕ) (answer : BareAnswer) → gives before text answer after → test before ≡ true
    → test after ≡ true)
    → Calls gives old asked new → test old ≡ true → test new ≡ true
