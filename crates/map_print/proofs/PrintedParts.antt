-- The parts of a map, appended one after another.
use Rattle.std.proofs.Common.{◌≡◌, ℕ, ◌+◌, zero, suc, List, [], ◌∷◌, ◌++◌, length, drop, ◌≤◌, refl, sym, ap, ◌∙◌, arith}
use Rattle.std.specs.Prelude.{◌≢◌, codes}
use Rattle.std.proofs.Math.Numerals.{add-one}
use Rattle.std.proofs.lemmas.List.{drop_all}
use Rattle.json_spec.specs.Value.{Json, an_object, Members, no_members, a_member}
use Rattle.json_spec.specs.PrintedString.{quoted}
use Rattle.json_spec.specs.PrintedValue.{margin, line, printed, printed_members}
use Rattle.layout_spec.specs.PrintedMap.{with_part}
use Rattle.scope_builder.specs.declared.keyed.Layout.{Layout}
use Rattle.map_print.specs.PrintedLists.{members_by, mappings_value, pairs_members, scopes_members, layout_value}
use Rattle.map_print.specs.declared.print.Values.TheVariants.{Addresses, Digests}
use Rattle.ordered_json.proofs.Appends.{piece, next, as_text, Completes}
use Rattle.ordered_json.specs.Appending.{Appends}

margin_suc : (n : ℕ) (rest : List ℕ) → margin (suc n) rest ≡ margin n (32 ∷ 32 ∷ rest)
margin_suc zero rest = refl
margin_suc (suc n) rest = ap (λ (xs : List ℕ). 32 ∷ 32 ∷ xs) (margin_suc n rest)

pub line_more : {old now new : List ℕ} (n : ℕ) → Appends old now (line n) → new ≡ now ++ 32 ∷ 32 ∷ [] → Appends old new (line (n + 1))
line_more n a e = as_text (line (n + 1)) (next a (piece (32 ∷ 32 ∷ []) e)) (λ rest. ap (λ (xs : List ℕ). 10 ∷ xs) (sym (ap (λ k. margin k rest) (add-one n) ∙ margin_suc n rest)))

module _ {X : Type 0} (name : X → List ℕ) (value : X → Json) where
  pub all_members : {old now : List ℕ} {all : List ℕ → List ℕ} (n i : ℕ) (items : List X) → length items ≤ i → Completes old now all (printed_members n (members_by name value (drop i items))) → Appends old now all
  all_members {now = now} n i items past c = record { whole = λ rest. sym (ap (λ xs. now ++ printed_members n (members_by name value xs) rest) (drop_all i items past)) ∙ c.whole rest }

  -- an object is its first member, those behind it, and the line of its closing brace; k is the level of its members
  pub object : {a b c d e : List ℕ} (n k : ℕ) (first : X) (more items : List X) → k ≡ suc n → items ≡ first ∷ more → b ≡ a ++ 123 ∷ [] → Appends b c (λ rest. line k (quoted (name first) ++ (codes ": " ++ printed k (value first) rest))) → Appends c d (printed_members k (members_by name value more)) → Appends d e (λ rest. line n (125 ∷ rest)) → Appends a e (printed n (an_object (members_by name value items)))
  object n k first more items deeper split opens one others closes =
      as_text (printed n (an_object (members_by name value items))) (next (piece (123 ∷ []) opens) (next one (next others closes)))
      (λ rest. ap (λ j. 123 ∷ line j (quoted (name first) ++ (codes ": " ++ printed j (value first) (printed_members j (members_by name value more) (line n (125 ∷ rest)))))) deeper
      ∙ sym (ap (λ xs. printed n (an_object (members_by name value xs)) rest) split))

  -- a part that isn't empty, behind another member
  pub part : {a b c : List ℕ} (title start : List ℕ) (items : List X) → length items ≢ 0 → ((rest : List ℕ) → start ++ rest ≡ 44 ∷ line 1 (quoted title ++ (codes ": " ++ rest))) → b ≡ a ++ start → Appends b c (printed 1 (an_object (members_by name value items))) → Appends a c (printed_members 1 (with_part title (members_by name value items) no_members))
  part title start [] some begins starts after = absurd (some refl)
  part title start (item ∷ more) some begins starts after =
      as_text (printed_members 1 (with_part title (members_by name value (item ∷ more)) no_members)) (next (piece start starts) after) (λ rest. begins (printed 1 (an_object (members_by name value (item ∷ more))) rest))

  pub no_part : {a : List ℕ} (title : List ℕ) (items : List X) → length items ≡ 0 → Appends a a (printed_members 1 (with_part title (members_by name value items) no_members))
  no_part title [] none = record { whole = λ rest. refl }
  no_part title (item ∷ more) none = absurd (omega arith)

-- a part writes the same whatever stands behind it
pub part_before : (name : List ℕ) (part more : Members) (rest : List ℕ) → printed_members 1 (with_part name part more) rest ≡ printed_members 1 (with_part name part no_members) (printed_members 1 more rest)
part_before name no_members more rest = refl
part_before name (a_member key value others) more rest = refl

-- the map is its start, its three parts and its end
pub whole_map : {a b c d e f : List ℕ} (base : List ℕ) (layout : Layout) (integrity : List (List ℕ × List ℕ)) (start end : List ℕ) → ((rest : List ℕ) → start ++ rest ≡ 123 ∷ line 1 (quoted (codes "imports") ++ (codes ": " ++ rest))) → ((rest : List ℕ) → end ++ rest ≡ line 0 (125 ∷ 10 ∷ rest)) → b ≡ a ++ start → Appends b c (printed 1 (mappings_value Addresses base layout.imports)) → Appends c d (printed_members 1 (with_part (codes "scopes") (scopes_members base layout.scopes) no_members)) → Appends d e (printed_members 1 (with_part (codes "integrity") (pairs_members Digests base integrity) no_members)) → f ≡ e ++ end → Appends a f (λ rest. printed 0 (layout_value base layout integrity) (10 ∷ rest))
whole_map base layout integrity start end begins ends starts imports scopes digests finishes =
    let scopes_part = scopes_members base layout.scopes in
    let integrity_part = with_part (codes "integrity") (pairs_members Digests base integrity) no_members in
    let before : List ℕ → List ℕ = λ rest. printed 1 (mappings_value Addresses base layout.imports) rest in
    as_text (λ rest. printed 0 (layout_value base layout integrity) (10 ∷ rest)) (next (piece start starts) (next imports (next scopes (next digests (piece end finishes)))))
    (λ rest. begins _
    ∙ (ap (λ (xs : List ℕ). 123 ∷ line 1 (quoted (codes "imports") ++ (codes ": " ++ before (printed_members 1 (with_part (codes "scopes") scopes_part no_members) (printed_members 1 integrity_part xs))))) (ends rest)
    ∙ ap (λ (xs : List ℕ). 123 ∷ line 1 (quoted (codes "imports") ++ (codes ": " ++ before xs))) (sym (part_before (codes "scopes") scopes_part integrity_part (line 0 (125 ∷ 10 ∷ rest))))))
