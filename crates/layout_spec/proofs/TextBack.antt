-- The text of a map is read as that map.
use Rattle.std.proofs.Common.{refl, ap, sym}
use Rattle.std.specs.Char.{encode_utf8}
use Rattle.std.specs.FinMap.{entries}
use Rattle.std.specs.List.{IsDistinct}
use Rattle.std.specs.Prelude.{ℕ, List, Option, Some, None, [], ◌∷◌, suc, ◌≡◌, false, bytes_eq, IsUtf8, codes, Ok}
use Rattle.json_spec.proofs.NewNames.{IsNewName}
use Rattle.json_spec.proofs.NoMarkup.{prints_no_markup}
use Rattle.json_spec.proofs.PrintedUtf8.{text_utf8}
use Rattle.json_spec.proofs.ReadBack.{values_read_back}
use Rattle.json_spec.specs.Grammar.{most_depth}
use Rattle.json_spec.specs.PrintedValue.{IsPrintable, MembersArePrintable}
use Rattle.json_spec.specs.Value.{a_text, Members, no_members, a_member, AreDistinct}
use Rattle.import_map_spec.proofs.Entries.{AllEntries, all_entries}
use Rattle.import_map_spec.specs.ParsedMap.{Addresses, ParsedMap}
use Rattle.import_map_spec.specs.Parsing.{as_map}
use Rattle.layout_spec.proofs.MapBack.{map_back}
use Rattle.layout_spec.proofs.MapMembers.{distinct_members}
use Rattle.layout_spec.proofs.ShortBack.{short_utf8, distinct_scopes}
use Rattle.layout_spec.specs.Laws.{TextsReadBack, TextsArePlain}
use Rattle.layout_spec.specs.PrintedMap.{address_value, IsKeptAddress, members_of, IsKeptKey, addresses_value, AreKept, IsKeptScope, IsKeptIntegrity, with_part, map_value, IsKept, map_text, scopes_of}

address_printable : (depth : ℕ) (base key : List ℕ) (address : Option (List ℕ)) → IsKeptAddress base key address → IsPrintable depth (address_value base address)
address_printable depth base key None k = tt
address_printable depth base key (Some url) k = short_utf8 base url k.1

addresses_printable : (depth : ℕ) (base : List ℕ) (es : List (List ℕ × Option (List ℕ))) → AllEntries (IsKeptKey base) es → MembersArePrintable depth (members_of (address_value base) es)
addresses_printable depth base [] k = tt
addresses_printable depth base (e ∷ es) k = (k.0.utf8, address_printable depth base e.0 e.1 k.0.stands, addresses_printable depth base es k.1)

-- the value of one map of addresses
value_printable : (depth : ℕ) (base : List ℕ) (m : Addresses) → AreKept base m → IsPrintable (suc depth) (addresses_value base m)
value_printable depth base m k = (distinct_members (address_value base) m, addresses_printable depth base (entries m) (all_entries (IsKeptKey base) m k))

scopes_printable : (depth : ℕ) (base : List ℕ) (es : List (List ℕ × Addresses)) → AllEntries (IsKeptScope base) es → MembersArePrintable (suc depth) (scopes_of base es)
scopes_printable depth base [] k = tt
scopes_printable depth base (e ∷ es) k = (short_utf8 base e.0 k.0.utf8, value_printable depth base e.1 k.0.kept, scopes_printable depth base es k.1)

integrity_printable : (depth : ℕ) (base : List ℕ) (es : List (List ℕ × List ℕ)) → AllEntries (IsKeptIntegrity base) es → MembersArePrintable depth (members_of a_text es)
integrity_printable depth base [] k = tt
integrity_printable depth base (e ∷ es) k = (k.0.key_utf8, k.0.text_utf8, integrity_printable depth base es k.1)

new_part : (key name : List ℕ) (part more : Members) → bytes_eq key name ≡ false → IsNewName key more → IsNewName key (with_part name part more)
new_part key name no_members more e n = n
new_part key name (a_member k v ms) more e n = (e, n)

distinct_part : (name : List ℕ) (part more : Members) → IsNewName name more → AreDistinct more → AreDistinct (with_part name part more)
unfolding IsDistinct
distinct_part name no_members more n d = d
distinct_part name (a_member k v ms) more n d = (n, d)

printable_part : (depth : ℕ) (name : List ℕ) (part more : Members) → IsUtf8 name → AreDistinct part → MembersArePrintable depth part → MembersArePrintable (suc depth) more → MembersArePrintable (suc depth) (with_part name part more)
printable_part depth name no_members more u d p q = q
printable_part depth name (a_member k v ms) more u d p q = (u, (d, p), q)

-- the three names are UTF-8
names_utf8 : IsUtf8 (codes "imports") × IsUtf8 (codes "scopes") × IsUtf8 (codes "integrity")
unfolding encode_utf8
names_utf8 = ((codes "imports", (refl, refl)), (codes "scopes", (refl, refl)), (codes "integrity", (refl, refl)))

map_printable : (depth : ℕ) (base : List ℕ) (m : ParsedMap) → IsKept base m → IsPrintable (suc (suc (suc depth))) (map_value base m)
unfolding map_value IsDistinct
map_printable depth base m k =
    let scopes = scopes_of base (entries m.scopes) in
    let integrity = members_of a_text (entries m.integrity) in
    let last = with_part (codes "integrity") integrity no_members in
    let new_imports = new_part (codes "imports") (codes "scopes") scopes last refl (new_part (codes "imports") (codes "integrity") integrity no_members refl tt) in
    let new_scopes = new_part (codes "scopes") (codes "integrity") integrity no_members refl tt in
    let distinct = distinct_part (codes "scopes") scopes last new_scopes (distinct_part (codes "integrity") integrity no_members tt tt) in
    let last_printable = printable_part (suc depth) (codes "integrity") integrity no_members names_utf8.2 (distinct_members a_text m.integrity) (integrity_printable (suc depth) base (entries m.integrity) (all_entries (IsKeptIntegrity base) m.integrity k.integrity)) tt in
    let scopes_part = printable_part (suc depth) (codes "scopes") scopes last names_utf8.1 (distinct_scopes base m.scopes k.scopes) (scopes_printable depth base (entries m.scopes) (all_entries (IsKeptScope base) m.scopes k.scopes)) last_printable in
    ((new_imports, distinct), (names_utf8.0, value_printable (suc depth) base m.imports k.imports, scopes_part))

within_limit : (base : List ℕ) (m : ParsedMap) → IsKept base m → IsPrintable most_depth (map_value base m)
unfolding most_depth
within_limit base m k = map_printable 125 base m k

pub texts_read_back : TextsReadBack
unfolding map_text
texts_read_back base m k = record { json = Ok (map_value base m); reads = values_read_back (map_value base m) (within_limit base m k); is = sym (ap as_map (map_back base m k)) }

pub texts_are_plain : TextsArePlain
unfolding map_text
texts_are_plain base m k =
    let printable = within_limit base m k in
    (text_utf8 most_depth (map_value base m) printable, prints_no_markup most_depth (map_value base m) printable)
