-- Maps that are put together from mappings, and what they hold.
--     laid mappings      the map of these mappings
--     IsLaid mappings map      the map holds these mappings and no other
--     NoConflict mappings      mappings of one specifier at one place have one target
use Rattle.std.proofs.Common.{refl, sym, ap, ◌∙◌, subst}
use Rattle.std.proofs.lemmas.Bool.{cases_Bool, cond-true, cond-false}
use Rattle.std.proofs.lemmas.Option.{same_Some, none-some}
use Rattle.std.specs.FinMap.{get, insert, empty}
use Rattle.std.specs.Prelude.{◌≡◌, ◌⊎◌, ℕ, false, cond, List, [], ◌∷◌, Option, Some, None, unwrap_or, Contains}
use mathlib.Core.Logic.{inl, inr}
use Rattle.import_map_spec.proofs.Entries.{same_key, same_key_is, same_key_itself, get_inserted, get_nowhere}
use Rattle.import_map_spec.specs.ParsedMap.{Addresses, ParsedMap}
use Rattle.layout_spec.proofs.Contained.{contains_cases, contains_none, contains_here, contains_there}
use Rattle.layout_spec.specs.PutMappings.{nothing_mapped, mapped_at}
use Rattle.layout_spec.specs.Serving.{addresses_at, held, IsTidy}

-- a specifier and its address, at a place
pub record Mapping : Type 0 where
  pub place : List ℕ
  pub asked : List ℕ
  pub target : List ℕ

abbrev pub with_mapping : ParsedMap → Mapping → ParsedMap
with_mapping m mapping = mapped_at mapping.place mapping.asked mapping.target m

abbrev pub laid_onto : ParsedMap → List Mapping → ParsedMap
laid_onto m [] = m
laid_onto m (mapping ∷ more) = laid_onto (with_mapping m mapping) more

abbrev pub laid : List Mapping → ParsedMap
laid mappings = laid_onto nothing_mapped mappings

-- ---- one mapping more

module _ (m : ParsedMap) (asked target q : List ℕ) where
  here : (place : List ℕ) → held (mapped_at place asked target m) q place ≡ cond (same_key q asked) (Some (Some target)) (held m q place)
  here [] = get_inserted m.imports asked (Some target) q
  here (b ∷ rest) =
      ap (λ (o : Option Addresses). get (unwrap_or o empty) q) (get_inserted m.scopes (b ∷ rest) (insert (addresses_at m (b ∷ rest)) asked (Some target)) (b ∷ rest) ∙ cond-true _ _ _ (same_key_itself (b ∷ rest)))
      ∙ get_inserted (addresses_at m (b ∷ rest)) asked (Some target) q

  elsewhere : (place other : List ℕ) → same_key other place ≡ false → held (mapped_at place asked target m) q other ≡ held m q other
  elsewhere [] [] apart = absurd (let same = same_key_itself [] in cc)
  elsewhere [] (c ∷ more) apart = refl
  elsewhere (b ∷ rest) [] apart = refl
  elsewhere (b ∷ rest) (c ∷ more) apart = ap (λ (o : Option Addresses). get (unwrap_or o empty) q) (get_inserted m.scopes (b ∷ rest) (insert (addresses_at m (b ∷ rest)) asked (Some target)) (c ∷ more) ∙ cond-false _ _ _ apart)

-- what is held is this mapping, or it was there
held_cases : (m : ParsedMap) (mapping : Mapping) (q other : List ℕ) (address : Option (List ℕ)) → held (with_mapping m mapping) q other ≡ Some address → ((mapping.place ≡ other) × (mapping.asked ≡ q) × (address ≡ Some mapping.target)) ⊎ (held m q other ≡ Some address)
held_cases m mapping q other address e =
    elim (cases_Bool (same_key other mapping.place)) [
      | inr apart ↦ inr (sym (elsewhere m mapping.asked mapping.target q mapping.place other apart) ∙ e)
      | inl same ↦
          let place_is : other ≡ mapping.place = same_key_is other mapping.place same in
          let found : cond (same_key q mapping.asked) (Some (Some mapping.target)) (held m q mapping.place) ≡ Some address = sym (here m mapping.asked mapping.target q mapping.place) ∙ subst (λ p. held (with_mapping m mapping) q p ≡ Some address) place_is e in
          elim (cases_Bool (same_key q mapping.asked)) [
            | inl asked ↦ inl (sym place_is, sym (same_key_is q mapping.asked asked), sym (same_Some _ _ (sym (cond-true _ _ _ asked) ∙ found)))
            | inr differs ↦ inr (subst (λ p. held m q p ≡ Some address) (sym place_is) (sym (cond-false _ _ _ differs) ∙ found))
          ]
    ]

held_now : (m : ParsedMap) (mapping : Mapping) → held (with_mapping m mapping) mapping.asked mapping.place ≡ Some (Some mapping.target)
held_now m mapping = here m mapping.asked mapping.target mapping.asked mapping.place ∙ cond-true _ _ _ (same_key_itself mapping.asked)

-- a mapping stays, unless one over it has another target
held_still : (m : ParsedMap) (mapping : Mapping) (q other target : List ℕ) → (mapping.place ≡ other → mapping.asked ≡ q → mapping.target ≡ target) → held m q other ≡ Some (Some target) → held (with_mapping m mapping) q other ≡ Some (Some target)
held_still m mapping q other target agrees e =
    elim (cases_Bool (same_key other mapping.place)) [
      | inr apart ↦ elsewhere m mapping.asked mapping.target q mapping.place other apart ∙ e
      | inl same ↦
          let place_is : other ≡ mapping.place = same_key_is other mapping.place same in
          subst (λ p. held (with_mapping m mapping) q p ≡ Some (Some target)) (sym place_is)
          (here m mapping.asked mapping.target q mapping.place ∙ elim (cases_Bool (same_key q mapping.asked)) [
            | inl asked ↦ cond-true _ _ _ asked ∙ ap (λ t. Some (Some t)) (agrees (sym place_is) (sym (same_key_is q mapping.asked asked)))
            | inr differs ↦ cond-false _ _ _ differs ∙ subst (λ p. held m q p ≡ Some (Some target)) place_is e
          ])
    ]

-- ---- all mappings

pub record IsFrom (mappings : List Mapping) (place asked : List ℕ) (address : Option (List ℕ)) (mapping : Mapping) : Type 0 where
  pub is_mapping : Contains mappings mapping
  pub place_is : mapping.place ≡ place
  pub asked_is : mapping.asked ≡ asked
  pub address_is : address ≡ Some mapping.target

abbrev From : List Mapping → List ℕ → List ℕ → Option (List ℕ) → Type 0
From mappings place asked address = (mapping : Mapping) × IsFrom mappings place asked address mapping

laid_only : (mappings : List Mapping) (m : ParsedMap) (q other : List ℕ) (address : Option (List ℕ)) → held (laid_onto m mappings) q other ≡ Some address → From mappings other q address ⊎ (held m q other ≡ Some address)
laid_only [] m q other address e = inr e
laid_only (mapping ∷ more) m q other address e =
    elim (laid_only more (with_mapping m mapping) q other address e) [
      | inl found ↦ inl (found.0, record { is_mapping = contains_there found.0 mapping more found.1.is_mapping; place_is = found.1.place_is; asked_is = found.1.asked_is; address_is = found.1.address_is })
      | inr before ↦ elim (held_cases m mapping q other address before) [
        | inl this ↦ inl (mapping, record { is_mapping = contains_here mapping more; place_is = this.0; asked_is = this.1; address_is = this.2 })
        | inr was ↦ inr was
      ]
    ]

laid_still : (mappings : List Mapping) (m : ParsedMap) (q other target : List ℕ) → ((mapping : Mapping) → Contains mappings mapping → mapping.place ≡ other → mapping.asked ≡ q → mapping.target ≡ target) → held m q other ≡ Some (Some target) → held (laid_onto m mappings) q other ≡ Some (Some target)
laid_still [] m q other target agree e = e
laid_still (mapping ∷ more) m q other target agree e =
    laid_still more (with_mapping m mapping) q other target (λ any c. agree any (contains_there any mapping more c)) (held_still m mapping q other target (agree mapping (contains_here mapping more)) e)

abbrev pub NoConflict : List Mapping → Type 0
NoConflict mappings = (one other : Mapping) → Contains mappings one → Contains mappings other → one.place ≡ other.place → one.asked ≡ other.asked → one.target ≡ other.target

laid_all : (mappings : List Mapping) (m : ParsedMap) (mapping : Mapping) → NoConflict mappings → Contains mappings mapping → held (laid_onto m mappings) mapping.asked mapping.place ≡ Some (Some mapping.target)
laid_all [] m mapping no_conflict c = absurd (contains_none mapping c)
laid_all (first ∷ more) m mapping no_conflict c =
    elim (contains_cases mapping first more c) [
      | inr later ↦ laid_all more (with_mapping m first) mapping (λ one other p q. no_conflict one other (contains_there one first more p) (contains_there other first more q)) later
      | inl same ↦ laid_still more (with_mapping m first) mapping.asked mapping.place mapping.target (λ other later p a. no_conflict other mapping (contains_there other first more later) c p a)
          (subst (λ n. held (with_mapping m n) mapping.asked mapping.place ≡ Some (Some mapping.target)) (sym same) (held_now m mapping))
    ]

nothing_held : (q other : List ℕ) → held nothing_mapped q other ≡ None
nothing_held q [] = get_nowhere q
nothing_held q (b ∷ rest) = ap (λ (o : Option Addresses). get (unwrap_or o empty) q) (get_nowhere (b ∷ rest)) ∙ get_nowhere q

-- ---- the scopes

tidy_with : (place asked target : List ℕ) (m : ParsedMap) → IsTidy m → IsTidy (mapped_at place asked target m)
tidy_with [] asked target m tidy = record { no_top = tidy.no_top; some = tidy.some }
tidy_with (b ∷ rest) asked target m tidy =
    let grown : Addresses = insert (addresses_at m (b ∷ rest)) asked (Some target) in
    record {
      no_top = get_inserted m.scopes (b ∷ rest) grown [] ∙ tidy.no_top;
      some = λ key scope e. elim (cases_Bool (same_key key (b ∷ rest))) [
        | inl same ↦ (asked, Some target, ap (λ (s : Addresses). get s asked) (sym (same_Some _ _ (sym (get_inserted m.scopes (b ∷ rest) grown key ∙ cond-true _ _ _ same) ∙ e))) ∙ (get_inserted (addresses_at m (b ∷ rest)) asked (Some target) asked ∙ cond-true _ _ _ (same_key_itself asked)))
        | inr apart ↦ tidy.some key scope (sym (get_inserted m.scopes (b ∷ rest) grown key ∙ cond-false _ _ _ apart) ∙ e)
      ];
    }

tidy_onto : (mappings : List Mapping) (m : ParsedMap) → IsTidy m → IsTidy (laid_onto m mappings)
tidy_onto [] m tidy = tidy
tidy_onto (mapping ∷ more) m tidy = tidy_onto more (with_mapping m mapping) (tidy_with mapping.place mapping.asked mapping.target m tidy)

no_digests : (mappings : List Mapping) (m : ParsedMap) → (laid_onto m mappings).integrity ≡ m.integrity
no_digests [] m = refl
no_digests (mapping ∷ more) m = no_digests more (with_mapping m mapping) ∙ kept mapping.place mapping.asked mapping.target
  where
    kept : (place asked target : List ℕ) → (mapped_at place asked target m).integrity ≡ m.integrity
    kept [] asked target = refl
    kept (b ∷ rest) asked target = refl

pub record IsLaid (mappings : List Mapping) (m : ParsedMap) : Type 0 where
  pub tidy : IsTidy m
  pub integrity : m.integrity ≡ empty
  pub only : (place asked : List ℕ) (address : Option (List ℕ)) → held m asked place ≡ Some address → (mapping : Mapping) × IsFrom mappings place asked address mapping
  pub holds : (mapping : Mapping) → Contains mappings mapping → held m mapping.asked mapping.place ≡ Some (Some mapping.target)

pub is_laid : (mappings : List Mapping) → NoConflict mappings → IsLaid mappings (laid mappings)
is_laid mappings no_conflict = record {
  tidy = tidy_onto mappings nothing_mapped (record { no_top = get_nowhere []; some = λ key scope e. absurd (none-some scope (sym (get_nowhere key) ∙ e)) });
  integrity = no_digests mappings nothing_mapped;
  only = λ place asked address e. found place asked address (laid_only mappings nothing_mapped asked place address e);
  holds = λ mapping c. laid_all mappings nothing_mapped mapping no_conflict c;
}
  where
    found : (place asked : List ℕ) (address : Option (List ℕ)) → From mappings place asked address ⊎ (held nothing_mapped asked place ≡ Some address) → From mappings place asked address
    found place asked address (inl from) = from
    found place asked address (inr e) = absurd (none-some address (sym (nothing_held asked place) ∙ e))
