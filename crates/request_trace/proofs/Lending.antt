-- What is lent of the module at a place.
--     field_some, field_none      a part of it, or none where there is no module
--     then_some, then_none        what may be there of it
--     asked_same                  the specifier of a request
use Rattle.std.proofs.Common.{◌≡◌, ℕ, map, Option, Some, None, refl, sym, ap, ◌∙◌}
use Rattle.std.specs.Prelude.{option_map, option_and_then, slice_get}
use Rattle.std.proofs.lemmas.Option.{slice_get-map}
use Rattle.module_spec.specs.declared.request.Request.{Request}
use Rattle.module_graph.specs.declared.module.Module as vertex
use Rattle.module_graph.specs.Modules.{asked_by, asked_at}

module _ {X Y : Type 0} (shown : vertex.Module → Y) (at : Option Y) (found : Option vertex.Module)
    (is : at ≡ option_map shown found) where
  pub field_some : (f : Y → X) (v : vertex.Module) (x : X) → found ≡ Some v → x ≡ f (shown v) → Some x ≡ option_map f at
  field_some f v x here same = ap Some same ∙ sym (ap (option_map f) (is ∙ ap (option_map shown) here))

  pub field_none : (f : Y → X) → found ≡ None → None ≡ option_map f at
  field_none f none = sym (ap (option_map f) (is ∙ ap (option_map shown) none))

  pub then_some : (f : Y → Option X) (v : vertex.Module) (x : Option X) → found ≡ Some v → x ≡ f (shown v)
      → x ≡ option_and_then f at
  then_some f v x here same = same ∙ sym (ap (option_and_then f) (is ∙ ap (option_map shown) here))

  pub then_none : (f : Y → Option X) → found ≡ None → None ≡ option_and_then f at
  then_none f none = sym (ap (option_and_then f) (is ∙ ap (option_map shown) none))

asked_text : (r : Option Request) → asked_by r ≡ option_map (λ (r : Request). r.text) r
asked_text None = refl
asked_text (Some r) = refl

pub asked_same : (v : vertex.Module) (number : ℕ) → asked_at v number
    ≡ slice_get (map (λ (r : Request). r.text) v.requests.value) number
asked_same v number = asked_text (slice_get v.requests.value number) ∙ sym (slice_get-map (λ (r : Request). r.text) v.requests.value number)
