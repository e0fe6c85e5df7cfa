-- What the places of maps that are written out as lists hold, and whether they capture needs.
use Rattle.std.proofs.Common.{refl, sym, ap, ◌∙◌, subst}
use Rattle.std.proofs.lemmas.Option.{same_Some}
use Rattle.std.specs.FinMap.{get, empty}
use Rattle.std.specs.Prelude.{◌≡◌, ℕ, List, [], ◌∷◌, Option, Some, None, map, option_map, unwrap_or, Contains, ⊤}
use mathlib.Core.Logic.{inl, inr}
use mathlib.Core.Path.{fun_ext}
use Rattle.import_map_spec.proofs.Entries.{get_nowhere}
use Rattle.import_map_spec.proofs.examples.WrittenMaps.{looked, get_map_of, scopes_looked}
use Rattle.import_map_spec.specs.LookUps.{Lookup}
use Rattle.import_map_spec.specs.ParsedMap.{Addresses}
use Rattle.import_map_spec.specs.WrittenMaps.{Lists, map_of, scope_of, map_of_lists}
use Rattle.layout_spec.proofs.Contained.{contains_cases, contains_none}
use Rattle.layout_spec.specs.Places.{places}
use Rattle.layout_spec.specs.Serving.{held, first_of, NoCapture, OfNeeds}
use Rattle.layout_spec.specs.declared.Need.{Need}

abbrev look_up : Option (Lookup (Option (List ℕ))) → Lookup (Option (List ℕ))
look_up None key = None
look_up (Some addresses) key = addresses key

abbrev listed : Lists → List ℕ → List ℕ → Option (Option (List ℕ))
listed l asked [] = looked l.imports asked
listed l asked (b ∷ rest) = look_up (option_map looked (looked l.scopes (b ∷ rest))) asked

by_option : (scope : Option Addresses) (asked : List ℕ) → get (unwrap_or scope empty) asked ≡ look_up (option_map get scope) asked
by_option None asked = get_nowhere asked
by_option (Some addresses) asked = refl

held_at : (l : Lists) (asked place : List ℕ) → held (map_of_lists l) asked place ≡ listed l asked place
held_at l asked [] = ap (λ (f : Lookup (Option (List ℕ))). f asked) (get_map_of l.imports)
held_at l asked (b ∷ rest) =
    by_option (get (map_of (map scope_of l.scopes)) (b ∷ rest)) asked ∙ ap (λ (f : Lookup (Lookup (Option (List ℕ)))). look_up (f (b ∷ rest)) asked) (scopes_looked l.scopes)

-- what a need comes to, by the lists
abbrev answer : Lists → Need → Option (List ℕ)
answer l need = unwrap_or (first_of (listed l need.asked) (places need.referrer)) (Some need.asked)

held_answer : (l : Lists) (need : Need) → unwrap_or (first_of (held (map_of_lists l) need.asked) (places need.referrer)) (Some need.asked) ≡ answer l need
held_answer l need = ap (λ (look : List ℕ → Option (Option (List ℕ))). unwrap_or (first_of look (places need.referrer)) (Some need.asked)) (fun_ext (held_at l need.asked))

abbrev AllServed : Lists → List Need → Type 0
AllServed l [] = ⊤
AllServed l (need ∷ more) = (answer l need ≡ Some need.target) × AllServed l more

pub none_captured : (l : Lists) (needs : List Need) → AllServed l needs → NoCapture needs (map_of_lists l)
none_captured l [] all need c = absurd (contains_none need c)
none_captured l (first ∷ more) all need c =
    elim (contains_cases need first more c) [
      | inl same ↦ subst (λ n. unwrap_or (first_of (held (map_of_lists l) n.asked) (places n.referrer)) (Some n.asked) ≡ Some n.target) same (held_answer l first ∙ all.0)
      | inr later ↦ none_captured l more all.1 need later
    ]

pub captured : (l : Lists) (needs : List Need) (need : Need) → Contains needs need → (found : List ℕ) → answer l need ≡ Some found → (found ≡ need.target → ⊥) → NoCapture needs (map_of_lists l) → ⊥
captured l needs need c found is differs no_capture = differs (same_Some found need.target (sym is ∙ (sym (held_answer l need) ∙ no_capture need c)))

pub of_no_need : (l : Lists) (need : Need) → OfNeeds (need ∷ []) (map_of_lists l) → (place asked address : List ℕ) → listed l asked place ≡ Some (Some address) → (address ≡ need.target → ⊥) → ⊥
of_no_need l need of_needs place asked address is differs =
    let found = of_needs.only place asked (Some address) (held_at l asked place ∙ is) in
    elim (contains_cases found.0 need [] found.1.is_need) [
      | inl same ↦ differs (same_Some address need.target (found.1.address_is ∙ ap (λ n. Some n.target) (sym same)))
      | inr none ↦ contains_none found.0 none
    ]
