-- A package that names itself.
--     self_no, self_yes, self_fails      by whether it has the name and exports
use Rattle.std.proofs.Common.{◌≡◌, Bool, true, false, Option, Some, None, Result, Ok, Err, sym, subst}
use Rattle.std.specs.Prelude.{if◌then◌else◌}
use Rattle.std.proofs.lemmas.Bool.{cond-true, cond-false}
use Rattle.asking_spec.specs.Askings.{on_ok, and_ok}
use Rattle.node_spec.specs.NodeAnswers.{Url, Refusal, by_cause, too_deep, Resolving, gives}
use Rattle.package_lookup.specs.Responses.{deep_config, by_limit}
use Rattle.tree_spec.specs.declared.LimitName.{LimitName}
use Rattle.tree_spec.specs.declared.LimitName.TheVariants.{File, Bytes, Looks, Modules, ModuleRequests, Requests, Specifier, Entries, Brackets, Depth, Session, Map, Choices}
use Rattle.node_resolve.specs.Responses.{by_node_fault, NeedsNoLook, ComesNow}
use Rattle.node_resolve.specs.SelfNamed.{gives_some}
use Rattle.node_resolve.specs.declared.fault.NodeFault.{NodeFault}
use Rattle.node_resolve.specs.declared.fault.NodeFault.TheVariants.{Refused, ReadFault, Limit, Memory}
use Rattle.node_resolve.proofs.TargetLemmas.{given_now, comes_by}

module _ (b : Bool) (exports : Resolving Url) where
  abbrev named : Resolving (Option Url)
  named = if b then and_ok exports gives_some else gives None

  pub self_no : b ≡ false → NeedsNoLook named (Ok None)
  self_no e = subst (λ a. NeedsNoLook a (Ok None)) (sym (cond-false b (and_ok exports gives_some) (gives None) e)) (given_now (Ok None))

  some_exports : b ≡ true → (r : Result (Option Url) Refusal) → NeedsNoLook (and_ok exports gives_some) r → NeedsNoLook named r
  some_exports e r a = subst (λ q. NeedsNoLook q r) (sym (cond-true b (and_ok exports gives_some) (gives None) e)) a

  pub self_yes : (url : Url) → b ≡ true → NeedsNoLook exports (Ok url) → NeedsNoLook named (Ok (Some url))
  self_yes url e a = some_exports e (Ok (Some url)) (comes_by exports (on_ok gives_some) (Ok url) (Ok (Some url)) a (given_now (Ok (Some url))))

  refused : (refusal : Refusal) → b ≡ true → NeedsNoLook exports (Err refusal) → NeedsNoLook named (Err refusal)
  refused refusal e a = some_exports e (Err refusal) (comes_by exports (on_ok gives_some) (Err refusal) (Err refusal) a (given_now (Err refusal)))

  limit_fails : (which : LimitName) → b ≡ true → ComesNow exports (by_limit deep_config which) → ComesNow named (by_limit deep_config which)
  limit_fails File e a = absurd a
  limit_fails Bytes e a = absurd a
  limit_fails Looks e a = absurd a
  limit_fails Modules e a = absurd a
  limit_fails ModuleRequests e a = absurd a
  limit_fails Requests e a = absurd a
  limit_fails Specifier e a = absurd a
  limit_fails Entries e a = absurd a
  limit_fails Brackets e a = absurd a
  limit_fails Depth e a = refused too_deep e a
  limit_fails Session e a = absurd a
  limit_fails Map e a = absurd a
  limit_fails Choices e a = absurd a

  pub self_fails : (fault : NodeFault) → b ≡ true → ComesNow exports (by_node_fault fault) → ComesNow named (by_node_fault fault)
  self_fails (Refused cause) e a = refused (by_cause cause) e a
  self_fails ReadFault e a = absurd a
  self_fails (Limit which) e a = limit_fails which e a
  self_fails Memory e a = tt
