-- A map whose keys, addresses and scopes stand as parsing leaves them is the map of its value.
use Rattle.std.proofs.Common.{refl, ap, ◌∙◌, arith, sym}
use Rattle.std.proofs.lemmas.Bool.{cond-false, and_parts, lt-leb, leb-true, ne_eqb, cases_Bool, and_left, cond_both}
use Rattle.std.specs.Char.{is_ascii_digit}
use Rattle.std.specs.FinMap.{insert, empty, entries, get}
use Rattle.std.specs.Prelude.{◌≡◌, ℕ, List, Option, Some, None, [], ◌∷◌, ◌≤◌, true, false, ⊤, Ok, codes, Result, ◌&&◌, not}
use mathlib.Core.Logic.{inl, inr}
use Rattle.json_spec.specs.PropertyOrder.{is_array_index, index_members, other_members, joined, in_property_order}
use Rattle.json_spec.specs.Value.{Members, no_members, a_member, a_text}
use Rattle.url_spec.proofs.KeptUrls.{kept_urls}
use Rattle.url_spec.proofs.NoUrls.{no_url}
use Rattle.url_spec.specs.Laws.{IsNoStart}
use Rattle.url_spec.specs.Parsing.{IsUrl}
use Rattle.import_map_spec.proofs.Entries.{AllEntries, all_entries, inserted_entries}
use Rattle.import_map_spec.specs.ParsedMap.{Addresses, Texts, ParsedMap}
use Rattle.import_map_spec.specs.Parsing.{fitting, address_of, with_address, addresses_onto, normalized_addresses, with_scope, scopes_onto, normalized_scopes, with_integrity, integrity_onto, normalized_integrity, member, object_in, ◌>>=◌, parsed_map}
use Rattle.import_map_spec.specs.WrittenMaps.{insert_all}
use Rattle.import_map_spec.specs.declared.MapPart.{MapPart}
use Rattle.import_map_spec.specs.declared.MapPart.TheVariants.{Scopes, Integrity}
use Rattle.layout_spec.specs.PrintedMap.{address_value, IsKeptAddress, IsKeptKey, members_of, AreKept, IsKeptScope, IsKeptIntegrity, with_part, map_value, IsKept, scopes_of}
use Rattle.layout_spec.proofs.ShortBack.{short_url, short_scope, short_no_index}
use Rattle.url_spec.specs.Specifiers.{as_url, ends_in_slash}

fitting_found : (key : List ℕ) (found : Option (List ℕ)) (url : List ℕ) → fitting key found ≡ Some url → found ≡ Some url
fitting_found key None url e = absurd (cc)
fitting_found key (Some other) url e =
    cond_both (ends_in_slash key && not (ends_in_slash other)) None (Some other) (λ r. r ≡ Some url → Some other ≡ Some url) (λ slash f. absurd (cc)) (λ fits f. f) e

address_back : (base key : List ℕ) (address : Option (List ℕ)) → IsKeptAddress base key address → address_of base key (address_value base address) ≡ address
address_back base key None k = refl
address_back base key (Some url) k =
    let found : as_url base url ≡ Some url = fitting_found key (as_url base url) url k.0 in
    ap (fitting key) (short_url base url found ∙ sym found) ∙ k.0

key_back : (base key : List ℕ) (address : Option (List ℕ)) (m : Addresses) → IsKeptKey base key address → with_address base key (address_value base address) m ≡ insert m key address
key_back base key address m k =
    cond-false _ _ _ k.not_empty ∙ (ap (λ q. insert m q (address_of base key (address_value base address))) k.normal ∙ ap (insert m key) (address_back base key address k.stands))

onto_back : (base : List ℕ) (es : List (List ℕ × Option (List ℕ))) (m : Addresses) → AllEntries (IsKeptKey base) es → addresses_onto base m (members_of (address_value base) es) ≡ insert_all m es
onto_back base [] m k = refl
onto_back base (e ∷ es) m k = ap (λ n. addresses_onto base n (members_of (address_value base) es)) (key_back base e.0 e.1 m k.0) ∙ onto_back base es (insert m e.0 e.1) k.1

addresses_back : (base : List ℕ) (m : Addresses) → AreKept base m → normalized_addresses base (members_of (address_value base) (entries m)) ≡ m
addresses_back base m k = onto_back base (entries m) empty (all_entries (IsKeptKey base) m k) ∙ inserted_entries m

-- the text of a URL is no array index
digit_start : (b : ℕ) → is_ascii_digit b ≡ true → IsNoStart b
digit_start b e =
    let p = and_parts _ _ e in
    let low : 48 ≤ b = leb-true 48 b p.0 in
    let high : b ≤ 57 = leb-true b 57 p.1 in
    record {
      no_letter = rw (lt-leb 65 b (omega arith), lt-leb 97 b (omega arith)) refl;
      no_space = lt-leb b 32 (omega arith);
      no_tab = rw (ne_eqb b 9 (omega arith), ne_eqb b 10 (omega arith), ne_eqb b 13 (omega arith)) refl;
    }

url_no_index : (key : List ℕ) → IsUrl key → is_array_index key ≡ false
unfolding is_array_index
url_no_index [] u = refl
url_no_index (b ∷ rest) u =
    elim (cases_Bool (is_ascii_digit b)) [
      | inl e ↦ absurd (never (no_url b rest (digit_start b e)) u)
      | inr e ↦ and_left _ _ (and_left _ _ e)
    ]
  where
    never : {o : Option (List ℕ)} → o ≡ None → o ≡ Some (b ∷ rest) → ⊥
    never p q = cc

-- members whose names are no array indices keep their order
abbrev NoIndex : Members → Type 0
NoIndex no_members = ⊤
NoIndex (a_member key value more) = (is_array_index key ≡ false) × NoIndex more

no_index_members : (ms : Members) → NoIndex ms → index_members ms ≡ no_members
no_index_members no_members n = refl
no_index_members (a_member key value more) n = cond-false _ _ _ n.0 ∙ no_index_members more n.1

all_other_members : (ms : Members) → NoIndex ms → other_members ms ≡ ms
all_other_members no_members n = refl
all_other_members (a_member key value more) n = cond-false _ _ _ n.0 ∙ ap (a_member key value) (all_other_members more n.1)

same_order : (ms : Members) → NoIndex ms → in_property_order ms ≡ ms
same_order ms n = λ i. joined (no_index_members ms n i) (all_other_members ms n i)

scope_names : (base : List ℕ) (es : List (List ℕ × Addresses)) → AllEntries (IsKeptScope base) es → NoIndex (scopes_of base es)
scope_names base [] k = tt
scope_names base (e ∷ es) k = (short_no_index base e.0 (url_no_index e.0 (kept_urls.1 base e.0 e.0 k.0.url)), scope_names base es k.1)

scopes_onto_back : (base : List ℕ) (es : List (List ℕ × Addresses)) (m : Texts Addresses) → AllEntries (IsKeptScope base) es → scopes_onto base m (scopes_of base es) ≡ Ok (insert_all m es)
scopes_onto_back base [] m k = refl
scopes_onto_back base (e ∷ es) m k =
    ap (λ u. scopes_onto base (with_scope u (normalized_addresses base (members_of (address_value base) (entries e.1))) m) (scopes_of base es)) (short_scope base e.0 k.0.url)
    ∙ (ap (λ a. scopes_onto base (insert m e.0 a) (scopes_of base es)) (addresses_back base e.1 k.0.kept) ∙ scopes_onto_back base es (insert m e.0 e.1) k.1)

scopes_back : (base : List ℕ) (m : Texts Addresses) → ((key : List ℕ) (addresses : Addresses) → get m key ≡ Some addresses → IsKeptScope base key addresses) → normalized_scopes base (scopes_of base (entries m)) ≡ Ok m
scopes_back base m k =
    let each = all_entries (IsKeptScope base) m k in
    ap (scopes_onto base empty) (same_order _ (scope_names base (entries m) each)) ∙ (scopes_onto_back base (entries m) empty each ∙ ap Ok (inserted_entries m))

integrity_onto_back : (base : List ℕ) (es : List (List ℕ × List ℕ)) (m : Texts (List ℕ)) → AllEntries (IsKeptIntegrity base) es → integrity_onto base m (members_of a_text es) ≡ insert_all m es
integrity_onto_back base [] m k = refl
integrity_onto_back base (e ∷ es) m k =
    ap (λ u. integrity_onto base (with_integrity u (a_text e.1) m) (members_of a_text es)) k.0.url ∙ integrity_onto_back base es (insert m e.0 e.1) k.1

integrity_back : (base : List ℕ) (m : Texts (List ℕ)) → ((key text : List ℕ) → get m key ≡ Some text → IsKeptIntegrity base key text) → normalized_integrity base (members_of a_text (entries m)) ≡ m
integrity_back base m k = integrity_onto_back base (entries m) empty (all_entries (IsKeptIntegrity base) m k) ∙ inserted_entries m

-- each part is found where it was put
scopes_found : (scopes integrity : Members) → object_in Scopes (member (codes "scopes") (with_part (codes "scopes") scopes (with_part (codes "integrity") integrity no_members))) ≡ Ok scopes
scopes_found no_members no_members = refl
scopes_found no_members (a_member key value more) = refl
scopes_found (a_member key value more) integrity = refl

integrity_found : (scopes integrity : Members) → object_in Integrity (member (codes "integrity") (with_part (codes "scopes") scopes (with_part (codes "integrity") integrity no_members))) ≡ Ok integrity
integrity_found no_members no_members = refl
integrity_found no_members (a_member key value more) = refl
integrity_found (a_member k v ms) no_members = refl
integrity_found (a_member k v ms) (a_member key value more) = refl

abbrev checked : List ℕ → Members → Result Members MapPart → Result Members MapPart → Result ParsedMap MapPart
checked base imports scopes integrity = do
  s ← scopes
  normal ← normalized_scopes base s
  i ← integrity
  Ok (record { imports = normalized_addresses base imports; scopes = normal; integrity = normalized_integrity base i })

assembled : (base : List ℕ) (m : ParsedMap) (imports scopes integrity : Members) → normalized_addresses base imports ≡ m.imports → normalized_scopes base scopes ≡ Ok m.scopes → normalized_integrity base integrity ≡ m.integrity → checked base imports (Ok scopes) (Ok integrity) ≡ Ok m
assembled base m imports scopes integrity p q r =
    ap (λ n. n >>= (λ normal. Ok (record { imports = normalized_addresses base imports; scopes = normal; integrity = normalized_integrity base integrity }))) q
    ∙ (λ i. Ok (record { imports = p i; scopes = m.scopes; integrity = r i }))

-- own law: the value of a map is read as that map
pub map_back : (base : List ℕ) (m : ParsedMap) → IsKept base m → parsed_map base (map_value base m) ≡ Ok m
unfolding parsed_map map_value
map_back base m k =
    let scopes = scopes_of base (entries m.scopes) in
    let integrity = members_of a_text (entries m.integrity) in
    (λ i. checked base (members_of (address_value base) (entries m.imports)) (scopes_found scopes integrity i) (integrity_found scopes integrity i))
    ∙ assembled base m (members_of (address_value base) (entries m.imports)) scopes integrity (addresses_back base m.imports k.imports) (scopes_back base m.scopes k.scopes) (integrity_back base m.integrity k.integrity)
