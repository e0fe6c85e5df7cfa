-- The printed lists are the text of the map whose entries they are.
use Rattle.std.proofs.Common.{◌≡◌, ℕ, List, [], ◌∷◌, refl, sym, ap, ◌∙◌}
use Rattle.std.specs.Prelude.{map, codes, Option}
use Rattle.std.specs.FinMap.{entries}
use Rattle.json_spec.specs.Value.{Json, Members, a_text, an_object, no_members, a_member}
use Rattle.json_spec.specs.PrintedValue.{printed}
use Rattle.import_map_spec.specs.ParsedMap.{Addresses, ParsedMap}
use Rattle.layout_spec.specs.PrintedMap.{members_of, address_value, addresses_value, scopes_of, with_part, map_value, map_text}
use Rattle.layout_spec.specs.ShortForms.{short}
use Rattle.scope_builder.specs.declared.keyed.Layout.{Layout}
use Rattle.scope_builder.specs.Lists.{address_entry, scope_entries, scope_entry, Lists}
use Rattle.map_print.specs.PrintedLists.{pairs_members, scopes_members, layout_value}
use Rattle.map_print.specs.declared.print.Values.TheVariants as values

mappings : (base : List ℕ) (pairs : List (List ℕ × List ℕ)) → members_of (address_value base) (map address_entry pairs) ≡ pairs_members values.Addresses base pairs
mappings base [] = refl
mappings base (pair ∷ more) = ap (a_member pair.0 (a_text (short base pair.1))) (mappings base more)

digests : (base : List ℕ) (pairs : List (List ℕ × List ℕ)) → members_of a_text pairs ≡ pairs_members values.Digests base pairs
digests base [] = refl
digests base (pair ∷ more) = ap (a_member pair.0 (a_text pair.1)) (digests base more)

abbrev entries_value : List ℕ → List (List ℕ × Option (List ℕ)) → Json
entries_value base es = an_object (members_of (address_value base) es)

-- the scopes by their entries
abbrev entries_members : List ℕ → List (List ℕ × List (List ℕ × Option (List ℕ))) → Members
entries_members base [] = no_members
entries_members base (scope ∷ more) = a_member (short base scope.0) (entries_value base scope.1) (entries_members base more)

scope_members : (base : List ℕ) (scopes : List (List ℕ × Addresses)) → scopes_of base scopes ≡ entries_members base (map scope_entries scopes)
scope_members base [] = refl
scope_members base (scope ∷ more) = ap (a_member (short base scope.0) (addresses_value base scope.1)) (scope_members base more)

listed_scopes : (base : List ℕ) (scopes : List (List ℕ × List (List ℕ × List ℕ))) → entries_members base (map scope_entry scopes) ≡ scopes_members base scopes
listed_scopes base [] = refl
listed_scopes base (scope ∷ more) = λ i. a_member (short base scope.0) (an_object (mappings base scope.1 i)) (listed_scopes base more i)

pub lists_value : (base : List ℕ) (layout : Layout) (integrity : List (List ℕ × List ℕ)) (m : ParsedMap) → Lists layout integrity m → layout_value base layout integrity ≡ map_value base m
unfolding map_value
lists_value base layout integrity m l =
    let imports = sym (ap (members_of (address_value base)) l.imports ∙ mappings base layout.imports) in
    let scopes = sym (scope_members base (entries m.scopes) ∙ (ap (entries_members base) l.scopes ∙ listed_scopes base layout.scopes)) in
    let pairs = sym (ap (members_of a_text) l.integrity_texts ∙ digests base integrity) in
    λ i. an_object (a_member (codes "imports") (an_object (imports i)) (with_part (codes "scopes") (scopes i) (with_part (codes "integrity") (pairs i) no_members)))

pub lists_text : (base : List ℕ) (layout : Layout) (integrity : List (List ℕ × List ℕ)) (m : ParsedMap) → Lists layout integrity m → printed 0 (layout_value base layout integrity) (10 ∷ []) ≡ map_text base m
unfolding map_text
lists_text base layout integrity m l = ap (λ value. printed 0 value (10 ∷ [])) (lists_value base layout integrity m l)
