-- The printed lists have as many bytes at least as are counted.
use Rattle.std.proofs.Common.{◌≡◌, ◌≤◌, ℕ, zero, suc, ◌+◌, ◌*◌, ◌-◌, List, [], ◌∷◌, ◌++◌, length, refl, sym, ap, ◌∙◌, arith, subst}
use Rattle.std.specs.Prelude.{codes, ◌||◌, ◌==◌, nat_lt}
use Rattle.std.specs.List.{sum_by}
use Rattle.std.proofs.lemmas.Bool.{cond_both}
use Rattle.std.proofs.lemmas.List.{length-append}
use Rattle.std.proofs.lemmas.List.Sums.{sum_by-cons}
use Rattle.json_spec.specs.PrintedString.{escaped_byte, escaped, quoted, unicode_escape}
use Rattle.json_spec.specs.PrintedValue.{margin, line, printed, printed_members}
use Rattle.json_spec.specs.Value.{Json, a_text, an_object, no_members}
use Rattle.layout_spec.proofs.ShortBack.{short_by_cases}
use Rattle.layout_spec.specs.PrintedMap.{with_part}
use Rattle.layout_spec.specs.ShortForms.{folder_text, short, IsShort, is_beside, is_whole}
use Rattle.scope_builder.specs.declared.keyed.Layout.{Layout}
use Rattle.map_print.specs.LeastSizes.{pair_least, scope_least, map_least}
use Rattle.map_print.specs.PrintedLists.{members_by, value_text, mappings_value, pairs_members, scopes_members, layout_value}
use Rattle.map_print.specs.declared.print.Values.{Values}
use Rattle.map_print.specs.declared.print.Values.TheVariants.{Addresses, Digests}
use Rattle.map_print.proofs.PrintedParts.{part_before}

some_byte : (b : ℕ) → 1 ≤ length (escaped_byte b)
some_byte b =
    cond_both (b == 34 || b == 92) (92 ∷ b ∷ []) _ (λ bytes. 1 ≤ length bytes) (λ _. omega arith)
    (λ _. cond_both (nat_lt b 32 || b == 60) (unicode_escape b) (b ∷ []) (λ bytes. 1 ≤ length bytes) (λ _. omega arith) (λ _. omega arith))

escaped_least : (text : List ℕ) → length text ≤ length (escaped text)
escaped_least [] = omega arith
escaped_least (b ∷ text) = omega (arith, length-append (escaped_byte b) (escaped text), some_byte b, escaped_least text)

quoted_least : (text rest : List ℕ) → length text + length rest ≤ length (quoted text ++ rest)
quoted_least text rest =
    let whole = length-append (quoted text) rest in
    let inside = length-append (escaped text) (34 ∷ []) in
    let least = escaped_least text in
    omega arith

margin_least : (n : ℕ) (rest : List ℕ) → length rest ≤ length (margin n rest)
margin_least zero rest = omega arith
margin_least (suc n) rest = let least = margin_least n rest in omega arith

short_least : (base url text : List ℕ) → IsShort base url text → length url - length (folder_text base) ≤ length text
short_least base url text (is_beside rest split is parsed) =
    let whole = ap length split ∙ length-append (folder_text base) rest in
    let written = ap length is ∙ length-append (codes "./") rest in
    omega arith
short_least base url text (is_whole none is) = let same = ap length is in omega arith

value_least : (values : Values) (base text : List ℕ) → length text - length (folder_text base) ≤ length (value_text values base text)
value_least Addresses base text = short_least base text (short base text) (short_by_cases base text)
value_least Digests base text = omega arith

module _ {X : Type 0} (name : X → List ℕ) (value : X → Json) (least : X → ℕ) (level : ℕ) (holds : (item : X) (rest : List ℕ) → least item + length rest ≤ length (quoted (name item) ++ (codes ": " ++ printed level (value item) rest))) where
  members_least : (items : List X) (rest : List ℕ) → sum_by least items + length rest ≤ length (printed_members level (members_by name value items) rest)
  members_least [] rest = omega arith
  members_least (item ∷ more) rest =
      let here = holds item (printed_members level (members_by name value more) rest) in
      let start = margin_least level (quoted (name item) ++ (codes ": " ++ printed level (value item) (printed_members level (members_by name value more) rest))) in
      let later = members_least more rest in
      let sum = sum_by-cons least item more in
      omega arith

  object_least : (n : ℕ) (items : List X) (rest : List ℕ) → level ≡ suc n → sum_by least items + length rest ≤ length (printed n (an_object (members_by name value items)) rest)
  object_least n [] rest is = let whole = length-append (codes "{}") rest in omega arith
  object_least n (item ∷ more) rest is =
      let close = line n (125 ∷ rest) in
      let here = holds item (printed_members level (members_by name value more) close) in
      let start = margin_least level (quoted (name item) ++ (codes ": " ++ printed level (value item) (printed_members level (members_by name value more) close))) in
      let later = members_least more close in
      let end = margin_least n (125 ∷ rest) in
      let sum = sum_by-cons least item more in
      subst (λ k. sum_by least (item ∷ more) + length rest ≤ length (123 ∷ line k (quoted (name item) ++ (codes ": " ++ printed k (value item) (printed_members k (members_by name value more) close))))) is (omega arith)

  part_least : (title : List ℕ) (items : List X) (rest : List ℕ) → level ≡ 2 → sum_by least items + length rest ≤ length (printed_members 1 (with_part title (members_by name value items) no_members) rest)
  part_least title [] rest is = omega arith
  part_least title (item ∷ more) rest is =
      let object = object_least 1 (item ∷ more) rest is in
      let text : List ℕ = printed 1 (an_object (members_by name value (item ∷ more))) rest in
      let front = quoted_least title (codes ": " ++ text) in
      let mark = length-append (codes ": ") text in
      omega arith

module _ (base : List ℕ) where
  pair_holds : (values : Values) (level : ℕ) (pair : List ℕ × List ℕ) (rest : List ℕ) → pair_least (length (folder_text base)) pair + length rest ≤ length (quoted pair.0 ++ (codes ": " ++ printed level (a_text (value_text values base pair.1)) rest))
  pair_holds values level pair rest =
      let text : List ℕ = quoted (value_text values base pair.1) ++ rest in
      let key = quoted_least pair.0 (codes ": " ++ text) in
      let mark = length-append (codes ": ") text in
      let value = quoted_least (value_text values base pair.1) rest in
      let least = value_least values base pair.1 in
      omega arith

  pairs_least : (values : Values) (n : ℕ) (pairs : List (List ℕ × List ℕ)) (rest : List ℕ) → sum_by (pair_least (length (folder_text base))) pairs + length rest ≤ length (printed n (mappings_value values base pairs) rest)
  pairs_least values n pairs rest =
      object_least (λ pair. pair.0) (λ pair. a_text (value_text values base pair.1)) (pair_least (length (folder_text base))) (suc n) (pair_holds values (suc n)) n pairs rest refl

  scope_holds : (scope : List ℕ × List (List ℕ × List ℕ)) (rest : List ℕ) → scope_least (length (folder_text base)) scope + length rest ≤ length (quoted (short base scope.0) ++ (codes ": " ++ printed 2 (mappings_value Addresses base scope.1) rest))
  scope_holds scope rest =
      let text : List ℕ = printed 2 (mappings_value Addresses base scope.1) rest in
      let key = quoted_least (short base scope.0) (codes ": " ++ text) in
      let mark = length-append (codes ": ") text in
      let mappings = pairs_least Addresses 2 scope.1 rest in
      let least = short_least base scope.0 (short base scope.0) (short_by_cases base scope.0) in
      omega arith

  pub map_is_larger : (layout : Layout) (integrity : List (List ℕ × List ℕ)) → map_least (length (folder_text base)) layout integrity ≤ length (printed 0 (layout_value base layout integrity) (10 ∷ []))
  map_is_larger layout integrity =
      let end : List ℕ = 10 ∷ 125 ∷ 10 ∷ [] in
      let digests = with_part (codes "integrity") (pairs_members Digests base integrity) no_members in
      let behind : List ℕ = printed_members 1 (with_part (codes "scopes") (scopes_members base layout.scopes) digests) end in
      let pairs = part_least (λ pair. pair.0) (λ pair. a_text (value_text Digests base pair.1)) (pair_least (length (folder_text base))) 2 (pair_holds Digests 2) (codes "integrity") integrity end refl in
      let scopes = part_least (λ scope. short base scope.0) (λ scope. mappings_value Addresses base scope.1) (scope_least (length (folder_text base))) 2 scope_holds (codes "scopes") layout.scopes (printed_members 1 digests end) refl in
      let split = ap length (part_before (codes "scopes") (scopes_members base layout.scopes) digests end) in
      let imports = pairs_least Addresses 1 layout.imports behind in
      omega arith
