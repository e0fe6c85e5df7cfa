-- What is told, by name.
--     with_told, told_so   of what is told
--     if_each              of each key
--     answers_always       the answers are always the same, unless a limit stops them
use Rattle.std.proofs.Common.{◌≡◌, Option, Some, None, IfSome, refl, subst}
use Rattle.asking_spec.proofs.EvaluationLemmas.{ends_outcome}
use Rattle.asking_spec.specs.Evaluation.{AreAlways}
use Rattle.package_lookup.proofs.Questions.{limited_always}
use Rattle.trace_spec.specs.Questions.{put, answers, always}
use Rattle.tree_spec.specs.LookAskings.{Sights}
use Rattle.tree_spec.specs.LookLimits.{begun, look_limits, limited}

pub with_told : {A : Type 0} {P : A → Type 0} (told : Option A) → ((x : A) → told ≡ Some x → P x) → IfSome told P
with_told None each = tt
with_told (Some x) each = each x refl

pub told_so : {A : Type 0} (P : A → Type 0) (told : Option A) (x : A) → told ≡ Some x → IfSome told P → P x
told_so P told x same is = subst (λ t. IfSome t P) same is

pub if_each : {A K : Type 0} (P : K → A → Type 0) (told : Option A) → ((key : K) → IfSome told (P key))
    → IfSome told (λ x. (key : K) → P key x)
if_each P None each = tt
if_each P (Some x) each = each

pub answers_always : (sights : Sights) → AreAlways (answers sights) (always sights)
answers_always sights trail after question answer e =
    ends_outcome (limited look_limits sights) sights (limited_always sights) (begun trail) after (put question) answer e
