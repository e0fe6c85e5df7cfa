-- A slot names its module, or none.
use Rattle.std.proofs.Common.{◌≡◌, ◌≢◌, ◌⊎◌, inl, inr, List, Some, None, refl, sym, ap, ◌∙◌}
use Rattle.slot_arena.specs.Slots.{Place, value_at, IsGiven, set_at, with_places}
use Rattle.slot_arena.specs.Calls as arena
use Rattle.slot_arena.specs.declared.slot.Slot.{Slot}
use Rattle.slot_arena.proofs.SlotLaws.{same_slot_or_not, given_once, is_given, each_inserts, each_writes, each_removes, each_grows}
use Rattle.module_graph.specs.declared.module.Module.{Module}
use Rattle.module_graph.specs.Modules.{with_target}
use Rattle.module_graph.specs.Calls.{Calls, begin, reserved, added, connected, removed}
use Rattle.module_graph.specs.Laws.{IsSame, NamesItsModule}

-- the slot was given, and names the module or none
record Names (h : List (Place Module)) (s : Slot) (m : Module) : Type 0 where
  given : IsGiven h s
  names : (value_at h s ≡ None) ⊎ ((n : Module) × (value_at h s ≡ Some n) × IsSame m n)

-- the slot's value is another state's
moved : (g h : List (Place Module)) (s : Slot) (m : Module) → value_at h s ≡ value_at g s → IsGiven h s → Names g s m → Names h s m
moved g h s m same given k = record {
  given = given;
  names = elim k.names [ inl none ↦ inl (same ∙ none) | inr some ↦ inr (some.0, same ∙ some.1, some.2) ];
}

one_module : (g : List (Place Module)) (s t : Slot) (m n : Module) → s ≡ t → value_at g s ≡ Some m → value_at g t ≡ Some n → n ≡ m
one_module g s t m n e is also = let both : Some n ≡ Some m = sym also ∙ sym (ap (value_at g) e) ∙ is in cc

no_module : {A : Type 0} (g : List (Place Module)) (s t : Slot) (n : Module) → s ≡ t → value_at g s ≡ None → value_at g t ≡ Some n → A
no_module g s t n e none is = absurd (let bad : None ≡ Some n = sym none ∙ ap (value_at g) e ∙ is in cc)

name : (g h : List (Place Module)) (s : Slot) (m : Module) → Names g s m → Calls g h → Names h s m
name g h s m k begin = k
name g h s m k (reserved {g = c} n calls) =
    let now = name g c s m k calls in let law = each_grows Module c n in moved c (with_places c n) s m (law.everywhere s) ((law.giving s).1 now.given) now
name g h s m k (added {g = c} t a fresh calls) =
    let now = name g c s m k calls in let law = given_once Module in
    let apart : t ≢ s = law.never_again c c s t now.given arena.begin fresh in
    moved c (set_at c t (Some a)) s m ((each_inserts Module c t a fresh).elsewhere s (λ e. apart (sym e)))
    (law.stays c (set_at c t (Some a)) s now.given (arena.inserted t a fresh arena.begin)) now
name g h s m k (connected {g = c} t a i to is calls) =
    let now = name g c s m k calls in let b = with_target a i to in let law = each_writes Module c t a b is in
    let given = (given_once Module).stays c (set_at c t (Some b)) s now.given (arena.written t a b is arena.begin) in
    elim (same_slot_or_not s t) [
      | inl e ↦ record {
        given = given;
        names = elim now.names [
          | inl none ↦ no_module c s t a e none is
          | inr some ↦
              let one : a ≡ some.0 = one_module c s t some.0 a e some.1 is in
              inr (b, ap (value_at (set_at c t (Some b))) e ∙ law.here, (ap (λ (x : Module). x.path) one ∙ some.2.0, ap (λ (x : Module). x.suffix) one ∙ some.2.1, ap (λ (x : Module). x.source) one ∙ some.2.2, ap (λ (x : Module). x.requests) one ∙ some.2.3))
        ];
      }
      | inr apart ↦ moved c (set_at c t (Some b)) s m (law.elsewhere s apart) given now
    ]
name g h s m k (removed {g = c} t a is calls) =
    let now = name g c s m k calls in let law = each_removes Module c t a is in
    let given = (given_once Module).stays c (set_at c t None) s now.given (arena.removed t a is arena.begin) in
    elim (same_slot_or_not s t) [
      | inl e ↦ record { given = given; names = inl (ap (value_at (set_at c t None)) e ∙ law.here) }
      | inr apart ↦ moved c (set_at c t None) s m (law.elsewhere s apart) given now
    ]

pub names_its_module : NamesItsModule
names_its_module g h s m is calls =
    (name g h s m (record { given = is_given Module g s m is; names = inr (m, is, (refl, refl, refl, refl)) }) calls).names
