-- No request of what the page reaches is left out.
use Rattle.std.proofs.Common.{◌≡◌, List, [], ◌∷◌, Option, Some, Contains, map, refl, sym, ap, ◌∙◌, subst}
use Rattle.std.specs.FinMap.{get}
use Rattle.std.specs.List.{cons_option, filter_map}
use Rattle.std.specs.Prelude.{unwrap_or}
use Rattle.layout_spec.proofs.Contained.{contains_here, contains_there}
use Rattle.trace_spec.proofs.Traces.{requests_pass}
use Rattle.trace_spec.specs.Traces.{if_ok, leads, specifiers}
use Rattle.generator_spec.specs.Explaining.{referrer_of}
use Rattle.generator_spec.specs.Laws.{RequestsAreNumbered}
use Rattle.generator_spec.proofs.Explanations.{from_reached}

-- where each item leads somewhere, nothing is left out
all_lead : {X A : Type 0} (k : X → Option A) (xs : List X) → ((x : X) → Contains xs x → (y : A) × (k x ≡ Some y)) → map Some (filter_map k xs) ≡ map k xs
all_lead k [] each = refl
all_lead k (x ∷ xs) each =
    let first = each x (contains_here x xs) in
    let rest = all_lead k xs (λ y held. each y (contains_there y x xs held)) in
    let leads_on = first.1 in
    ap (λ found. map Some (cons_option found (filter_map k xs))) leads_on ∙ (λ i. sym leads_on i ∷ rest i)

pub requests_are_numbered : RequestsAreNumbered
requests_are_numbered tree config all traces asker reached =
    let passing = requests_pass (get tree) config all traces (referrer_of asker) (from_reached (get tree) config [] asker reached) in
    let asks = ap (λ found. unwrap_or found []) passing.asks in
    all_lead (leads (get tree) config (referrer_of asker)) (specifiers (get tree) config (referrer_of asker))
    (λ specifier held.
    let passed = passing.pass specifier (subst (λ texts. Contains texts specifier) asks held) in
    (passed.target, ap if_ok passed.answers))
