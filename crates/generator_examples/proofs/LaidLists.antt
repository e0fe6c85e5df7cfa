-- The layout with the fewest mappings of needs that are written out, as lists.
use Rattle.std.proofs.Common.{refl, ap, ◌∙◌, sym, subst}
use Rattle.std.proofs.lemmas.Option.{none-some, same_Some}
use Rattle.std.specs.Cmp.Lexicographic.{slice_cmp, nat_list_cmp_total}
use Rattle.std.specs.FinMap.{insert, empty, get, find, get-from_entries}
use Rattle.std.specs.List.{filter_map}
use Rattle.std.specs.Ordering.{nat_cmp}
use Rattle.std.specs.Prelude.{ℕ, List, Option, [], ◌∷◌, ◌++◌, if◌then◌else◌, Some, unwrap_or, ◌≡◌, map, flat_map, Bool, true, false, option_map, None, Contains}
use mathlib.Core.Logic.{inl, inr}
use Rattle.import_map_spec.proofs.Entries.{same_key, cases_option}
use Rattle.import_map_spec.proofs.examples.WrittenMaps.{looked, looked_onto, nowhere, get_map_of}
use Rattle.import_map_spec.specs.LookUps.{Lookup}
use Rattle.import_map_spec.specs.ParsedMap.{Texts, Addresses}
use Rattle.import_map_spec.specs.WrittenMaps.{Lists, insert_all, scope_of, map_of, map_of_lists}
use Rattle.layout_spec.proofs.Contained.{contains_flat, flat_from, contains_given, given_from}
use Rattle.layout_spec.proofs.Laying.{Mapping, laid, laid_onto, is_laid, NoConflict}
use Rattle.layout_spec.proofs.examples.Agreement.{all_agree, no_clash_from_test}
use Rattle.layout_spec.specs.Needs.{NoClash}
use Rattle.layout_spec.specs.PutMappings.{mapped_at}
use Rattle.layout_spec.specs.Serving.{held}
use Rattle.layout_spec.specs.declared.Need.{Need}
use Rattle.fewest_spec.proofs.SomeFewest.{chosen_picked, chosen_within, places_are, some_fewest}
use Rattle.fewest_spec.specs.Choosing.{no_weight}
use Rattle.fewest_spec.specs.Fewest.{Choice, IsFewestLayout}
use Rattle.fewest_spec.specs.Making.{choice_of, picked, places_for, wish_of}

-- ---- mappings that are put one after another, as lists

abbrev Mappings : Type 0
Mappings = List (List ℕ × Option (List ℕ))

-- a place and its mappings
abbrev Scope : Type 0
Scope = List ℕ × Mappings

-- a scope that has one mapping more stands behind the others, and replaces the one that it grew from
abbrev with_listed : List ℕ → List ℕ → List ℕ → Lists → Lists
with_listed [] asked target l = record { imports = l.imports ++ (asked, Some target) ∷ []; scopes = l.scopes; integrity = l.integrity }
with_listed (b ∷ rest) asked target l = record { imports = l.imports; scopes = l.scopes ++ (b ∷ rest, unwrap_or (looked l.scopes (b ∷ rest)) [] ++ (asked, Some target) ∷ []) ∷ []; integrity = l.integrity }

abbrev listed_onto : Lists → List Mapping → Lists
listed_onto l [] = l
listed_onto l (mapping ∷ more) = listed_onto (with_listed mapping.place mapping.asked mapping.target l) more

abbrev no_lists : Lists
no_lists = record { imports = []; scopes = []; integrity = [] }

inserted_last : {X : Type 0} (es : List (List ℕ × X)) (m : Texts X) (key : List ℕ) (x : X) → insert_all m (es ++ (key, x) ∷ []) ≡ insert (insert_all m es) key x
inserted_last [] m key x = refl
inserted_last (e ∷ es) m key x = inserted_last es (insert m e.0 e.1) key x

map_last : (scopes : List Scope) (scope : Scope) → map scope_of (scopes ++ scope ∷ []) ≡ map scope_of scopes ++ scope_of scope ∷ []
map_last [] scope = refl
map_last (first ∷ scopes) scope = ap (λ (more : List (List ℕ × Addresses)). scope_of first ∷ more) (map_last scopes scope)

mappings_looked : (scopes : List Scope) (f : Lookup Addresses) (g : Lookup Mappings) → ((q : List ℕ) → f q ≡ option_map map_of (g q)) → (q : List ℕ) → looked_onto f (map scope_of scopes) q ≡ option_map map_of (looked_onto g scopes q)
mappings_looked [] f g same q = same q
mappings_looked (e ∷ scopes) f g same q = mappings_looked scopes _ _ (λ k. one k (same_key k e.0)) q
  where
    one : (k : List ℕ) (b : Bool) → (if b then Some (map_of e.1) else f k) ≡ option_map map_of (if b then Some e.1 else g k)
    one k true = refl
    one k false = same k

or_empty : (found : Option Mappings) → unwrap_or (option_map map_of found) empty ≡ map_of (unwrap_or found [])
or_empty None = refl
or_empty (Some mappings) = refl

scope_listed : (scopes : List Scope) (place : List ℕ) → unwrap_or (get (map_of (map scope_of scopes)) place) empty ≡ map_of (unwrap_or (looked scopes place) [])
scope_listed scopes place =
    ap (λ (f : Lookup Addresses). unwrap_or (f place) empty) (get_map_of (map scope_of scopes))
    ∙ (ap (λ found. unwrap_or found empty) (mappings_looked scopes nowhere nowhere (λ q. refl) place) ∙ or_empty (looked scopes place))

mapping_listed : (place asked target : List ℕ) (scopes : List Scope) → insert (map_of (map scope_of scopes)) place (insert (unwrap_or (get (map_of (map scope_of scopes)) place) empty) asked (Some target)) ≡ map_of (map scope_of (scopes ++ (place, unwrap_or (looked scopes place) [] ++ (asked, Some target) ∷ []) ∷ []))
mapping_listed place asked target scopes =
    let mappings : Mappings = unwrap_or (looked scopes place) [] in
    let grown : Scope = (place, mappings ++ (asked, Some target) ∷ []) in
    ap (λ (scope : Addresses). insert (map_of (map scope_of scopes)) place (insert scope asked (Some target))) (scope_listed scopes place)
    ∙ (ap (insert (map_of (map scope_of scopes)) place) (sym (inserted_last mappings empty asked (Some target)))
    ∙ (sym (inserted_last (map scope_of scopes) empty place (map_of grown.1)) ∙ ap map_of (sym (map_last scopes grown))))

address_listed : (place asked target : List ℕ) (l : Lists) → mapped_at place asked target (map_of_lists l) ≡ map_of_lists (with_listed place asked target l)
address_listed [] asked target l = λ i. record { imports = sym (inserted_last l.imports empty asked (Some target)) i; scopes = map_of (map scope_of l.scopes); integrity = map_of l.integrity }
address_listed (b ∷ rest) asked target l = λ i. record { imports = map_of l.imports; scopes = mapping_listed (b ∷ rest) asked target l.scopes i; integrity = map_of l.integrity }

onto_listed : (more : List Mapping) (l : Lists) → laid_onto (map_of_lists l) more ≡ map_of_lists (listed_onto l more)
onto_listed [] l = refl
onto_listed (mapping ∷ more) l =
    ap (λ m. laid_onto m more) (address_listed mapping.place mapping.asked mapping.target l) ∙ onto_listed more (with_listed mapping.place mapping.asked mapping.target l)

-- ---- what is chosen for each need's specifier

abbrev mapped : List ℕ → List ℕ → List ℕ → Mapping
mapped p asked t = record { place = p; asked = asked; target = t }

module _ (needs : List Need) where
  -- what is chosen for a specifier, as a list
  abbrev picks : List ℕ → List (List ℕ × List ℕ)
  picks asked = picked (wish_of needs asked) (places_for needs asked) no_weight

  looks : (asked p : List ℕ) → get (choice_of needs asked) p ≡ find (slice_cmp nat_cmp) p (picks asked)
  looks asked p =
      ap (λ (c : Choice). get c p) (chosen_picked (wish_of needs asked) (places_for needs asked) no_weight (places_are needs asked).down)
      ∙ get-from_entries nat_list_cmp_total (picks asked) p

  abbrev mapping_at : Need → List ℕ → Option Mapping
  mapping_at need p = option_map (mapped p need.asked) (find (slice_cmp nat_cmp) p (picks need.asked))

  abbrev of_need : Need → List Mapping
  of_need need = filter_map (mapping_at need) (places_for needs need.asked)

  abbrev mappings : List Mapping
  mappings = flat_map of_need needs

  stands : (mapping : Mapping) → Contains mappings mapping → get (choice_of needs mapping.asked) mapping.place ≡ Some mapping.target
  stands mapping c =
      let from = flat_from of_need mapping needs c in
      let given = given_from (mapping_at from.item) mapping (places_for needs from.item.asked) from.holds in
      by from.item given.item (find (slice_cmp nat_cmp) given.item (picks from.item.asked)) refl given.gives
    where
      by : (need : Need) (p : List ℕ) (o : Option (List ℕ)) → find (slice_cmp nat_cmp) p (picks need.asked) ≡ o → option_map (mapped p need.asked) o ≡ Some mapping → get (choice_of needs mapping.asked) mapping.place ≡ Some mapping.target
      by need p None e g = absurd (none-some mapping g)
      by need p (Some t) e g = subst (λ (m : Mapping). get (choice_of needs m.asked) m.place ≡ Some m.target) (same_Some _ mapping g) (looks need.asked p ∙ e)

  no_conflict : NoConflict mappings
  no_conflict one other c d same_place same_asked =
      same_Some _ _ (sym (stands one c) ∙ ((λ i. get (choice_of needs (same_asked i)) (same_place i)) ∙ stands other d))

  listed : (asked p t : List ℕ) → get (choice_of needs asked) p ≡ Some t → Contains mappings (mapped p asked t)
  listed asked p t e =
      let at = chosen_within (wish_of needs asked) (places_for needs asked) no_weight p t e in
      let found = (places_are needs asked).only p at in
      contains_flat of_need found.0 _ needs found.1.is_need
      (contains_given (mapping_at found.0) p _ (places_for needs found.0.asked) (subst (λ a. Contains (places_for needs a) p) (sym found.1.asks) at)
      (subst (λ a. option_map (mapped p a) (find (slice_cmp nat_cmp) p (picks a)) ≡ Some (mapped p asked t)) (sym found.1.asks)
      (ap (option_map (mapped p asked)) (sym (looks asked p) ∙ e))))

  laid_fewest : NoClash needs → IsFewestLayout needs (laid mappings)
  laid_fewest no_clash =
      let is = is_laid mappings no_conflict in
      record {
        tidy = is.tidy;
        no_digests = is.integrity;
        choices = λ asked. (
          choice_of needs asked,
          some_fewest needs asked no_clash,
          λ place. elim (cases_option (get (choice_of needs asked) place)) [
            | inr some ↦ is.holds (mapped place asked some.0) (listed asked place some.0 some.1) ∙ ap (option_map Some) (sym some.1)
            | inl none ↦ elim (cases_option (held (laid mappings) asked place)) [
              | inl nothing ↦ nothing ∙ ap (option_map Some) (sym none)
              | inr some ↦
                  let found = is.only place asked some.0 some.1 in
                  absurd (none-some found.0.target (sym ((λ i. get (choice_of needs (found.1.asked_is i)) (found.1.place_is i)) ∙ none) ∙ stands found.0 found.1.is_mapping))
            ]
          ],
        );
      }

-- the lists of the layout with the fewest mappings
abbrev pub listed_layout : List Need → Lists
listed_layout needs = listed_onto no_lists (mappings needs)

-- the map of these lists is the layout with the fewest mappings of the needs
pub layout_listed : (needs : List Need) → all_agree needs ≡ true → IsFewestLayout needs (map_of_lists (listed_layout needs))
layout_listed needs agree =
    subst (IsFewestLayout needs) (onto_listed (mappings needs) no_lists) (laid_fewest needs (no_clash_from_test needs agree))
