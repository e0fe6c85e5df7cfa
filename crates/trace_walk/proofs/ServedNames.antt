-- Web names that are served.
use Rattle.std.proofs.Common.{◌≡◌, ℕ, List, ◌++◌, Option, Some, None, refl, sym, ap, ◌∙◌, subst}
use Rattle.std.specs.Prelude.{⊤, MatchOption}
use mathlib.Core.Logic.{inl, inr}
use Rattle.std.proofs.lemmas.Bool.{cases_Bool, cond-true, cond-false}
use Rattle.url_spec.specs.WebNames.{web}
use Rattle.url_spec.specs.ServedPaths.{IsServed}
use Rattle.url_spec.specs.PathTests.{is_served}
use Rattle.url_spec.proofs.PathTestLemmas.{served_by_test, test_by_served}
use Rattle.web_url.specs.declared.names.WebFault.{WebFault}
use Rattle.web_url.specs.declared.names.WebFault.TheVariants.{Unservable}
use Rattle.web_url.specs.Serving.{IsUnservable}
use Rattle.trace_spec.specs.Modules.{Config, served_name}
use Rattle.trace_spec.specs.declared.TraceFault.{TraceFault}
use Rattle.trace_spec.specs.declared.TraceFault.TheVariants as refused
use Rattle.trace_walk.specs.Walking.{IsUnserved}

-- a name that leads back is the served name
pub served_is : (base path suffix url : List ℕ) → web base path suffix ≡ Some url → IsServed base url path → served_name base path (web base path suffix) ≡ Some url
served_is base path suffix url name back = ap (served_name base path) name ∙ cond-true (is_served base url path) (Some url) None (test_by_served base url path back)

-- where none leads back there is none
served_none : (base path : List ℕ) (name : Option (List ℕ)) → MatchOption name ⊤ (λ url. IsServed base url path → ⊥) → served_name base path name ≡ None
served_none base path None lost = refl
served_none base path (Some url) lost =
    elim (cases_Bool (is_served base url path)) [
      | inl back ↦ absurd (lost (served_by_test base url path back))
      | inr none ↦ cond-false (is_served base url path) (Some url) None none
    ]

pub unserved_is : (config : Config) (base path suffix : List ℕ) (named : WebFault) (url : Option (List ℕ)) (fault : TraceFault) → base ≡ config.base → named ≡ Unservable url → IsUnservable base path suffix named → fault ≡ refused.Unservable (path ++ suffix) url → IsUnserved config path suffix fault
unserved_is config base path suffix named url fault on same is says =
    let parts = subst (λ b. IsUnservable b path suffix (Unservable url)) on (subst (IsUnservable base path suffix) same is) in
    record {
      lost = ap (served_name config.base path) (sym parts.0) ∙ served_none config.base path url parts.1;
      is = says ∙ ap (refused.Unservable (path ++ suffix)) parts.0;
    }
