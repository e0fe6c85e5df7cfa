-- What is parsed is normal: keys aren't empty and are normalized, and addresses, the keys of scopes and those of the integrity are URLs.
use Rattle.std.specs.Prelude.{◌≡◌, ◌≢◌, ℕ, false, not, ◌&&◌, List, [], ◌∷◌, codes, Option, Some, None, unwrap_or, Result, Ok, Err}
use Rattle.std.specs.FinMap.{get, insert, empty}
use Rattle.std.proofs.Common.{refl, ap, sym, ◌∙◌, subst}
use Rattle.std.proofs.lemmas.Bool.{cond-true, cond-false, cases_Bool}
use mathlib.Core.Logic.{inl, inr}
use Rattle.json_spec.specs.Value.{Json, a_null, a_bool, a_number, a_text, a_list, an_object, Members, no_members, a_member}
use Rattle.json_spec.specs.PropertyOrder.{in_property_order}
use Rattle.url_spec.specs.Parsing.{parse_against, IsUrl}
use Rattle.url_spec.specs.Specifiers.{as_url, normalized, ends_in_slash}
use Rattle.url_spec.proofs.KeptUrls.{kept_urls}
use Rattle.url_spec.proofs.OwnUrls.{own_urls}
use Rattle.url_spec.proofs.NoUrls.{empty_no_url}
use Rattle.import_map_spec.specs.declared.MapPart.{MapPart}
use Rattle.import_map_spec.specs.declared.MapPart.TheVariants.{Scope, Imports, Scopes, Integrity}
use Rattle.import_map_spec.specs.ParsedMap.{Texts, Addresses, ParsedMap}
use Rattle.import_map_spec.specs.Parsing.{is_empty, fitting, address_of, with_address, addresses_onto, normalized_addresses, with_scope, scopes_onto, normalized_scopes, with_integrity, integrity_onto, normalized_integrity, member, object_in, parsed_map, ◌>>=◌}
use Rattle.import_map_spec.specs.Laws.{AreNormal, IsNormal, ParsedMapsAreNormal}
use Rattle.import_map_spec.proofs.Entries.{same_key, same_key_is, get_inserted, get_nowhere}

-- ---- one entry more

-- what holds of each entry of a map
abbrev Each : {X : Type 0} → (List ℕ → X → Type 0) → Texts X → Type 0
Each {X} P m = (key : List ℕ) (x : X) → get m key ≡ Some x → P key x

each_empty : {X : Type 0} (P : List ℕ → X → Type 0) → Each P (empty)
each_empty {X} P key x e = absurd (let none : get {X = X} empty key ≡ None = get_nowhere key in let wrong : ◌≡◌ {A = Option X} None (Some x) = sym none ∙ e in cc)

same_some : {X : Type 0} (x y : X) → ◌≡◌ {A = Option X} (Some x) (Some y) → x ≡ y
same_some x y e = cc

each_inserted : {X : Type 0} (P : List ℕ → X → Type 0) (m : Texts X) (key : List ℕ) (x : X) → P key x → Each P m → Each P (insert m key x)
each_inserted P m key x here each other y e =
    elim (cases_Bool (same_key other key)) [
      | inl t ↦ (let found = same_some x y (sym (cond-true (same_key other key) (Some x) (get m other) t) ∙ (sym (get_inserted m key x other) ∙ e)) in
          subst (λ k. P k y) (sym (same_key_is other key t)) (subst (P key) found here))
      | inr f ↦ each other y (sym (cond-false (same_key other key) (Some x) (get m other) f) ∙ (sym (get_inserted m key x other) ∙ e))
    ]

-- ---- a module specifier map

record IsNormalEntry (base key : List ℕ) (address : Option (List ℕ)) : Type 0 where
  some_key : key ≢ []
  normal_key : normalized base key ≡ key
  url : (text : List ℕ) → address ≡ Some text → IsUrl text

fitting_url : (key : List ℕ) (found : Option (List ℕ)) → ((url : List ℕ) → found ≡ Some url → IsUrl url) → (text : List ℕ) → fitting key found ≡ Some text → IsUrl text
fitting_url key None urls text e = urls text e
fitting_url key (Some url) urls text e =
    elim (cases_Bool (ends_in_slash key && not (ends_in_slash url))) [
      | inl t ↦ absurd (let none = cond-true _ None (Some url) t in let wrong : ◌≡◌ {A = Option (List ℕ)} None (Some text) = sym none ∙ e in cc)
      | inr f ↦ urls text (sym (cond-false _ None (Some url) f) ∙ e)
    ]

never_none : (text : List ℕ) → ◌≡◌ {A = Option (List ℕ)} None (Some text) → ⊥
never_none text e = cc

address_url : (base key : List ℕ) (value : Json) (text : List ℕ) → address_of base key value ≡ Some text → IsUrl text
address_url base key (a_text written) text e = fitting_url key (as_url base written) (own_urls.1 base written) text e
address_url base key a_null text e = absurd (never_none text e)
address_url base key (a_bool b) text e = absurd (never_none text e)
address_url base key (a_number number) text e = absurd (never_none text e)
address_url base key (a_list items) text e = absurd (never_none text e)
address_url base key (an_object ms) text e = absurd (never_none text e)

-- to normalize again changes nothing
normal_again : (base key : List ℕ) → normalized base (normalized base key) ≡ normalized base key
unfolding normalized
normal_again base key = go (as_url base key) refl
  where
    go : (found : Option (List ℕ)) → as_url base key ≡ found → unwrap_or (as_url base (unwrap_or found key)) (unwrap_or found key) ≡ unwrap_or found key
    go None e = ap (λ o. unwrap_or o key) e
    go (Some url) e = ap (λ o. unwrap_or o url) (own_urls.0 base url (own_urls.1 base key url e))

normal_some : (base key : List ℕ) → is_empty key ≡ false → normalized base key ≢ []
unfolding normalized
normal_some base key some none = go (as_url base key) refl key some none
  where
    go : (found : Option (List ℕ)) → as_url base key ≡ found → (k : List ℕ) → is_empty k ≡ false → unwrap_or found k ≡ [] → ⊥
    go None e [] some none = absurd (cc)
    go None e (b ∷ k) some none = absurd (cc)
    go (Some url) e k some none = never_none [] (sym empty_no_url ∙ subst IsUrl none (own_urls.1 base key url e))

with_address_normal : (base key : List ℕ) (value : Json) (m : Addresses) → Each (IsNormalEntry base) m → Each (IsNormalEntry base) (with_address base key value m)
with_address_normal base key value m each =
    elim (cases_Bool (is_empty key)) [
      | inl t ↦ subst (Each (IsNormalEntry base)) (sym (cond-true _ m _ t)) each
      | inr f ↦ subst (Each (IsNormalEntry base)) (sym (cond-false _ m _ f))
          (each_inserted (IsNormalEntry base) m (normalized base key) (address_of base key value) (record { some_key = normal_some base key f; normal_key = normal_again base key; url = address_url base key value }) each)
    ]

addresses_normal : (base : List ℕ) (m : Addresses) (members : Members) → Each (IsNormalEntry base) m → Each (IsNormalEntry base) (addresses_onto base m members)
addresses_normal base m no_members each = each
addresses_normal base m (a_member key value more) each = addresses_normal base (with_address base key value m) more (with_address_normal base key value m each)

are_normal : (base : List ℕ) (members : Members) → AreNormal base (normalized_addresses base members)
are_normal base members =
    let each = addresses_normal base empty members (each_empty (IsNormalEntry base)) in
    record {
      some_key = λ key address e. (each key address e).some_key;
      normal_key = λ key address e. (each key address e).normal_key;
      urls = λ key url e. (each key (Some url) e).url url refl;
    }

-- ---- the scopes

record IsNormalScope (base key : List ℕ) (addresses : Addresses) : Type 0 where
  url : IsUrl key
  normal : AreNormal base addresses

with_scope_normal : (base key : List ℕ) (found : Option (List ℕ)) (addresses : Addresses) (m : Texts Addresses) → parse_against base key ≡ found → AreNormal base addresses → Each (IsNormalScope base) m → Each (IsNormalScope base) (with_scope found addresses m)
with_scope_normal base key None addresses m e normal each = each
with_scope_normal base key (Some url) addresses m e normal each = each_inserted (IsNormalScope base) m url addresses (record { url = kept_urls.1 base key url e; normal = normal }) each

never_fault : {A : Type 0} (part : MapPart) (m : A) → ◌≡◌ {A = Result A MapPart} (Err part) (Ok m) → ⊥
never_fault part m e = cc

same_ok : {A : Type 0} (m n : A) → ◌≡◌ {A = Result A MapPart} (Ok m) (Ok n) → m ≡ n
same_ok m n e = cc

scopes_normal : (base : List ℕ) (m : Texts Addresses) (members : Members) (out : Texts Addresses) → scopes_onto base m members ≡ Ok out → Each (IsNormalScope base) m → Each (IsNormalScope base) out
scopes_normal base m no_members out e each = subst (Each (IsNormalScope base)) (same_ok m out e) each
scopes_normal base m (a_member key (an_object ms) more) out e each =
    scopes_normal base (with_scope (parse_against base key) (normalized_addresses base ms) m) more out e (with_scope_normal base key (parse_against base key) (normalized_addresses base ms) m refl (are_normal base ms) each)
scopes_normal base m (a_member key a_null more) out e each = absurd (never_fault Scope out e)
scopes_normal base m (a_member key (a_bool b) more) out e each = absurd (never_fault Scope out e)
scopes_normal base m (a_member key (a_number number) more) out e each = absurd (never_fault Scope out e)
scopes_normal base m (a_member key (a_text text) more) out e each = absurd (never_fault Scope out e)
scopes_normal base m (a_member key (a_list items) more) out e each = absurd (never_fault Scope out e)

-- ---- the integrity

abbrev IsUrlKey : List ℕ → List ℕ → Type 0
IsUrlKey key text = IsUrl key

with_integrity_normal : (base key : List ℕ) (found : Option (List ℕ)) (value : Json) (m : Texts (List ℕ)) → as_url base key ≡ found → Each IsUrlKey m → Each IsUrlKey (with_integrity found value m)
with_integrity_normal base key None value m e each = each
with_integrity_normal base key (Some url) (a_text text) m e each = each_inserted IsUrlKey m url text (own_urls.1 base key url e) each
with_integrity_normal base key (Some url) a_null m e each = each
with_integrity_normal base key (Some url) (a_bool b) m e each = each
with_integrity_normal base key (Some url) (a_number number) m e each = each
with_integrity_normal base key (Some url) (a_list items) m e each = each
with_integrity_normal base key (Some url) (an_object ms) m e each = each

integrity_normal : (base : List ℕ) (m : Texts (List ℕ)) (members : Members) → Each IsUrlKey m → Each IsUrlKey (integrity_onto base m members)
integrity_normal base m no_members each = each
integrity_normal base m (a_member key value more) each = integrity_normal base (with_integrity (as_url base key) value m) more (with_integrity_normal base key (as_url base key) value m refl each)

-- ---- the whole

integrity_is : (base : List ℕ) (members : Members) → Each IsUrlKey (normalized_integrity base members)
integrity_is base members = integrity_normal base empty members (each_empty IsUrlKey)

abbrev last_part : List ℕ → Members → Texts Addresses → Result Members MapPart → Result ParsedMap MapPart
last_part base imports scopes integrity = integrity >>= (λ i. Ok (record { imports = normalized_addresses base imports; scopes = scopes; integrity = normalized_integrity base i }))

last_normal : (base : List ℕ) (imports : Members) (scopes : Texts Addresses) (integrity : Result Members MapPart) (map : ParsedMap) → Each (IsNormalScope base) scopes → last_part base imports scopes integrity ≡ Ok map → IsNormal base map
last_normal base imports scopes (Err part) map each e = absurd (never_fault part map e)
last_normal base imports scopes (Ok members) map each e = subst (IsNormal base) (same_ok _ map e) (record {
  imports = are_normal base imports;
  scope_keys = λ key addresses f. (each key addresses f).url;
  scopes = λ key addresses f. (each key addresses f).normal;
  integrity_keys = integrity_is base members;
})

scopes_then : (base : List ℕ) (imports : Members) (scopes : Result (Texts Addresses) MapPart) (integrity : Result Members MapPart) (map : ParsedMap) → ((out : Texts Addresses) → scopes ≡ Ok out → Each (IsNormalScope base) out) → (scopes >>= (λ normal. last_part base imports normal integrity)) ≡ Ok map → IsNormal base map
scopes_then base imports (Err part) integrity map each e = absurd (never_fault part map e)
scopes_then base imports (Ok scopes) integrity map each e = last_normal base imports scopes integrity map (each scopes refl) e

abbrev rest_part : List ℕ → Members → Result Members MapPart → Result Members MapPart → Result ParsedMap MapPart
rest_part base imports scopes integrity = scopes >>= (λ s. normalized_scopes base s >>= (λ normal. last_part base imports normal integrity))

rest_normal : (base : List ℕ) (imports : Members) (scopes integrity : Result Members MapPart) (map : ParsedMap) → rest_part base imports scopes integrity ≡ Ok map → IsNormal base map
rest_normal base imports (Err part) integrity map e = absurd (never_fault part map e)
rest_normal base imports (Ok members) integrity map e =
    scopes_then base imports (normalized_scopes base members) integrity map (λ out f. scopes_normal base empty (in_property_order members) out f (each_empty (IsNormalScope base))) e

whole_normal : (base : List ℕ) (imports scopes integrity : Result Members MapPart) (map : ParsedMap) → (imports >>= (λ i. rest_part base i scopes integrity)) ≡ Ok map → IsNormal base map
whole_normal base (Err part) scopes integrity map e = absurd (never_fault part map e)
whole_normal base (Ok members) scopes integrity map e = rest_normal base members scopes integrity map e

pub parsed_maps_are_normal : ParsedMapsAreNormal
unfolding parsed_map
parsed_maps_are_normal base (an_object ms) map e = whole_normal base (object_in Imports (member (codes "imports") ms)) (object_in Scopes (member (codes "scopes") ms)) (object_in Integrity (member (codes "integrity") ms)) map e
parsed_maps_are_normal base a_null map e = absurd (never_fault _ map e)
parsed_maps_are_normal base (a_bool b) map e = absurd (never_fault _ map e)
parsed_maps_are_normal base (a_number number) map e = absurd (never_fault _ map e)
parsed_maps_are_normal base (a_text text) map e = absurd (never_fault _ map e)
parsed_maps_are_normal base (a_list items) map e = absurd (never_fault _ map e)
