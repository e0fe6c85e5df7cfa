-- What a target gives.
--     given_now                    what is answered without a look
--     comes_by                     what goes on behind what needs no look
--     export_comes                 a target in `exports` needs no look
use Rattle.std.proofs.Common.{◌≡◌, ◌≢◌, ℕ, List, [], false, Option, None, Result, refl, ap, ◌∙◌, subst}
use Rattle.asking_spec.proofs.EvaluationLemmas.{evaluated_then}
use Rattle.asking_spec.specs.Askings.{answered, and_then}
use Rattle.asking_spec.specs.Evaluation.{ends, then_ended, evaluated}
use Rattle.json_spec.specs.Value.{Json}
use Rattle.tree_spec.specs.LookAskings.{LookAsking}
use Rattle.tree_spec.specs.LookLimits.{look_limits, limited}
use Rattle.node_spec.proofs.DecidingCall.{exports_ask_nothing}
use Rattle.node_spec.proofs.TargetsFollowed.{follows_target}
use Rattle.node_spec.specs.NodeAnswers.{Url}
use Rattle.node_spec.specs.PackageTargetResolve.{Found, came, no_bares, target_comes, target_url, package_target}
use Rattle.node_spec.specs.PackageTargets.{Rules, Call, ResolvesTarget}
use Rattle.node_spec.specs.TargetCalls.{no_call}
use Rattle.node_spec.specs.declared.Cause.{Cause}
use Rattle.node_spec.specs.declared.Outcome.{Outcome}
use Rattle.node_spec.specs.declared.Outcome.TheVariants.{Undefined, Null, Place, Bare, Stopped, InvalidTarget, InvalidSpecifier, InvalidConfig}
use Rattle.package_lookup.specs.Responses.{Response, given, fails, itself}
use Rattle.node_resolve.specs.Responses.{responded, NeedsNoLook, ComesNow, Gives}
use Rattle.node_resolve.specs.Targets.{own_url}
use Rattle.node_resolve.specs.declared.fault.NodeFault.{NodeFault}

pub given_now : {X : Type 0} (value : X) → NeedsNoLook (answered value) value
given_now value = λ sights trail. refl

pub comes_by : {X Y : Type 0} (part : LookAsking X) (next : X → LookAsking Y) (value : X) (last : Y)
    → NeedsNoLook part value → NeedsNoLook (next value) last → NeedsNoLook (and_then part next) last
comes_by part next value last e f = λ sights trail.
    evaluated_then (limited look_limits sights) trail part next
    ∙ (ap (λ end. then_ended end (λ v t. evaluated (limited look_limits sights) t (next v))) (e sights trail)
    ∙ f sights trail)

pub gives_by : {X Y : Type 0} (part : LookAsking X) (next : X → LookAsking Y) (value : X) (response : Response Y)
    → NeedsNoLook part value → ComesNow (next value) response → ComesNow (and_then part next) response
gives_by part next value (given last) e f = comes_by part next value last e f
gives_by part next value (fails failing) e f = f

no_calls : (rules : Rules) (target : Json) (asked : List Call) (out : Outcome) → asked ≡ []
    → ResolvesTarget rules target asked out → NeedsNoLook (target_comes no_bares rules target None) (came out None)
no_calls rules target asked out e is = λ sights trail.
    follows_target (limited look_limits sights) no_bares rules target [] out
    (subst (λ (a : List Call). ResolvesTarget rules target a out) e is) trail None (ends None trail) no_call

pub export_comes : (rules : Rules) (target : Json) (folder : List ℕ) (nothing : Cause) (asked : List Call) (out : Outcome)
    (result : Result Url NodeFault) → rules.is_imports ≡ false → ResolvesTarget rules target asked out
    → Gives itself (own_url folder nothing out) result
    → Gives itself (package_target no_bares rules folder nothing target) result
export_comes rules target folder nothing asked out result e is gives =
    gives_by (target_comes no_bares rules target None) (target_url folder nothing) (came out None) (responded itself result)
    (no_calls rules target asked out (exports_ask_nothing rules target asked out e is).0 is) gives

pub own_url_is : (folder : List ℕ) (nothing : Cause) (out : Outcome) (last : Option Found) (result : Result Url NodeFault)
    → out ≢ Bare → out ≢ Stopped → Gives itself (own_url folder nothing out) result
    → Gives itself (target_url folder nothing (came out last)) result
own_url_is folder nothing Undefined last result b s gives = gives
own_url_is folder nothing Null last result b s gives = gives
own_url_is folder nothing (Place text) last result b s gives = gives
own_url_is folder nothing Bare last result b s gives = absurd (b refl)
own_url_is folder nothing Stopped last result b s gives = absurd (s refl)
own_url_is folder nothing InvalidTarget last result b s gives = gives
own_url_is folder nothing InvalidSpecifier last result b s gives = gives
own_url_is folder nothing InvalidConfig last result b s gives = gives
