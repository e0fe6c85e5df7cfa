-- The text of a map that is written out as lists.
use Rattle.std.proofs.Common.{refl, ap, ◌∙◌}
use Rattle.std.specs.Cmp.Lexicographic.{slice_cmp, nat_list_cmp_total}
use Rattle.std.specs.FinMap.{put, insert, entries, entries-insert, empty}
use Rattle.std.specs.FinMap.Entries.{by_order}
use Rattle.std.specs.Ordering.{nat_cmp}
use Rattle.std.specs.Prelude.{ℕ, List, [], ◌∷◌, ◌≡◌, Option, map, codes}
use Rattle.std.specs.declared.cmp.Ordering.{Ordering}
use Rattle.std.specs.declared.cmp.Ordering.TheVariants.{Less, Equal, Greater}
use Rattle.json_spec.specs.PrintedValue.{printed_text}
use Rattle.json_spec.specs.Value.{Json, an_object, a_member, Members, no_members, a_text}
use Rattle.import_map_spec.proofs.Entries.{no_entries}
use Rattle.import_map_spec.specs.ParsedMap.{Texts, Addresses}
use Rattle.import_map_spec.specs.WrittenMaps.{insert_all, map_of, scope_of, Lists, map_of_lists}
use Rattle.layout_spec.specs.PrintedMap.{members_of, address_value, addresses_value, with_part, map_value, map_text, scopes_of}
use Rattle.layout_spec.specs.ShortForms.{short}

abbrev pub put_onto : {X : Type 0} → List (List ℕ × X) → List (List ℕ × X) → List (List ℕ × X)
put_onto done [] = done
put_onto done (e ∷ es) = put_onto (put (slice_cmp nat_cmp) e.0 e.1 done) es

-- the entries in the order of their keys
abbrev pub in_key_order : {X : Type 0} → List (List ℕ × X) → List (List ℕ × X)
in_key_order es = put_onto [] es

entries_onto : {X : Type 0} (es : List (List ℕ × X)) (m : Texts X) → entries (insert_all m es) ≡ put_onto (entries m) es
entries_onto [] m = refl
entries_onto (e ∷ es) m = entries_onto es (insert m e.0 e.1) ∙ ap (λ done. put_onto done es) (entries-insert nat_list_cmp_total m e.0 e.1)

pub entries_map_of : {X : Type 0} (es : List (List ℕ × X)) → entries (map_of es) ≡ in_key_order es
entries_map_of {X} es = entries_onto es empty ∙ ap (λ done. put_onto done es) (no_entries X)

abbrev Entry : Type 0
Entry = List ℕ × List (List ℕ × Option (List ℕ))

abbrev pub listed_addresses : List ℕ → List (List ℕ × Option (List ℕ)) → Json
listed_addresses base es = an_object (members_of (address_value base) (in_key_order es))

-- the scopes, as lists
abbrev pub listed_members : List ℕ → List Entry → Members
listed_members base [] = no_members
listed_members base (e ∷ es) = a_member (short base e.0) (listed_addresses base e.1) (listed_members base es)

put_step : (key : List ℕ) (value : List (List ℕ × Option (List ℕ))) (e : Entry) (es : List Entry) → put (slice_cmp nat_cmp) key (map_of value) (map scope_of es) ≡ map scope_of (put (slice_cmp nat_cmp) key value es) → (o : Ordering) → by_order o ((key, map_of value) ∷ scope_of e ∷ map scope_of es) ((e.0, map_of value) ∷ map scope_of es) (scope_of e ∷ put (slice_cmp nat_cmp) key (map_of value) (map scope_of es)) ≡ map scope_of (by_order o ((key, value) ∷ e ∷ es) ((e.0, value) ∷ es) (e ∷ put (slice_cmp nat_cmp) key value es))
put_step key value e es later Less = refl
put_step key value e es later Equal = refl
put_step key value e es later Greater = ap (λ (xs : List (List ℕ × Addresses)). scope_of e ∷ xs) later

put_scope : (key : List ℕ) (value : List (List ℕ × Option (List ℕ))) (es : List Entry) → put (slice_cmp nat_cmp) key (map_of value) (map scope_of es) ≡ map scope_of (put (slice_cmp nat_cmp) key value es)
put_scope key value [] = refl
put_scope key value (e ∷ es) = put_step key value e es (put_scope key value es) (slice_cmp nat_cmp key e.0)

scopes_onto : (done es : List Entry) → put_onto (map scope_of done) (map scope_of es) ≡ map scope_of (put_onto done es)
scopes_onto done [] = refl
scopes_onto done (e ∷ es) = ap (λ (k : List (List ℕ × Addresses)). put_onto k (map scope_of es)) (put_scope e.0 e.1 done) ∙ scopes_onto (put (slice_cmp nat_cmp) e.0 e.1 done) es

listed_scopes : (base : List ℕ) (es : List Entry) → scopes_of base (map scope_of es) ≡ listed_members base es
listed_scopes base [] = refl
listed_scopes base (e ∷ es) = λ i. a_member (short base e.0) (an_object (members_of (address_value base) (entries_map_of e.1 i))) (listed_scopes base es i)

scopes_members : (base : List ℕ) (es : List Entry) → scopes_of base (entries (map_of (map scope_of es))) ≡ listed_members base (in_key_order es)
scopes_members base es = ap (scopes_of base) (entries_map_of (map scope_of es) ∙ scopes_onto [] es) ∙ listed_scopes base (in_key_order es)

abbrev text_with : Members → Members → Members → List ℕ
text_with imports scopes integrity = printed_text (an_object (a_member (codes "imports") (an_object imports) (with_part (codes "scopes") scopes (with_part (codes "integrity") integrity no_members))))

-- the text of the map, as its lists have it
abbrev pub listed_text : List ℕ → Lists → List ℕ
listed_text base l = text_with (members_of (address_value base) (in_key_order l.imports)) (listed_members base (in_key_order l.scopes)) (members_of a_text (in_key_order l.integrity))

pub lists_text : (base : List ℕ) (l : Lists) → map_text base (map_of_lists l) ≡ listed_text base l
unfolding map_text map_value
lists_text base l = λ i. text_with (members_of (address_value base) (entries_map_of l.imports i)) (scopes_members base l.scopes i) (members_of a_text (entries_map_of l.integrity i))
