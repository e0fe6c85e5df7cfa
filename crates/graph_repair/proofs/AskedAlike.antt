-- When two modules ask alike.
--     same_lists                lists of one length, with the same item at each place, are one
--     asked_is                  what is asked for at a place, among all that is asked for
--     not_alike                 modules that don't ask alike at a place don't ask alike
use Rattle.std.proofs.Common.{◌≡◌, ◌<◌, ◌↔◌, ℕ, zero, suc, Bool, true, false, List, [], ◌∷◌, length, map, option_map, Option, Some, None, IsTrue, refl, sym, ap, ◌∙◌, subst, arith}
use Rattle.std.specs.Prelude.{slice_get}
use Rattle.std.proofs.lemmas.Option.{slice_get-map}
use Rattle.module_spec.specs.declared.request.Request.{Request}
use Rattle.module_graph.specs.declared.module.Module.{Module}
use Rattle.module_graph.specs.Modules.{asked_at, asked_by}

pub same_lists : {X : Type 0} (xs ys : List X) → length xs ≡ length ys → ((i : ℕ) → i < length xs → slice_get xs i ≡ slice_get ys i) → xs ≡ ys
same_lists [] [] many each = refl
same_lists [] (y ∷ ys) many each = absurd (omega (arith, many))
same_lists (x ∷ xs) [] many each = absurd (omega (arith, many))
same_lists (x ∷ xs) (y ∷ ys) many each =
    let first : Some x ≡ Some y = each zero (omega arith) in
    let here : x ≡ y = cc in
    λ i. here i ∷ same_lists xs ys (omega (arith, many)) (λ k lt. each (suc k) (omega (arith, lt))) i

abbrev pub texts : Module → List (List ℕ)
texts m = map (λ (r : Request). r.text) m.requests.value

asked_as : (o : Option Request) → asked_by o ≡ option_map (λ (r : Request). r.text) o
asked_as None = refl
asked_as (Some r) = refl

pub asked_is : (m : Module) (i : ℕ) → asked_at m i ≡ slice_get (texts m) i
asked_is m i = asked_as (slice_get m.requests.value i) ∙ sym (slice_get-map (λ (r : Request). r.text) m.requests.value i)

pub not_alike : (own other : Module) (i : ℕ) (r : Bool) → IsTrue r ↔ (asked_at own i ≡ asked_at other i) → r ≡ false → IsTrue false ↔ (texts own ≡ texts other)
not_alike own other i r asks unlike = (
  λ yes. (let bad : false ≡ true = yes in cc),
  λ same. subst IsTrue unlike (asks.1 (asked_is own i ∙ (ap (λ xs. slice_get xs i) same ∙ sym (asked_is other i)))),
)
