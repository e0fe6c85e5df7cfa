-- The JSON value of the lists that are printed.
--     members_by name value items      a member for each item
--     value_text values base text      an address or a digest, as it is written beside the page of the map base
--     pairs_members values base pairs, mappings_value values base pairs      a member for each pair, and their object
--     scopes_members base scopes      a member for each scope
--     layout_value base layout integrity      the whole map
use Rattle.std.specs.Prelude.{ℕ, List, [], ◌∷◌, codes}
use Rattle.json_spec.specs.Value.{Json, Members, a_text, an_object, no_members, a_member}
use Rattle.layout_spec.specs.PrintedMap.{with_part}
use Rattle.layout_spec.specs.ShortForms.{short}
use Rattle.map_print.specs.declared.print.Values.{Values}
use Rattle.map_print.specs.declared.print.Values.TheVariants.{Addresses, Digests}
use Rattle.scope_builder.specs.declared.keyed.Layout.{Layout}

abbrev pub members_by : {X : Type 0} → (X → List ℕ) → (X → Json) → List X → Members
members_by name value [] = no_members
members_by name value (x ∷ xs) = a_member (name x) (value x) (members_by name value xs)

-- own: an address is written in its short form, a digest as it is
abbrev pub value_text : Values → List ℕ → List ℕ → List ℕ
value_text Addresses base text = short base text
value_text Digests base text = text

abbrev pub pairs_members : Values → List ℕ → List (List ℕ × List ℕ) → Members
pairs_members values base pairs = members_by (λ pair. pair.0) (λ pair. a_text (value_text values base pair.1)) pairs

-- the object of mappings or of digests, as JSON
abbrev pub mappings_value : Values → List ℕ → List (List ℕ × List ℕ) → Json
mappings_value values base pairs = an_object (pairs_members values base pairs)

-- own: the key of a scope is written in its short form
abbrev pub scopes_members : List ℕ → List (List ℕ × List (List ℕ × List ℕ)) → Members
scopes_members base scopes =
    members_by (λ scope. short base scope.0) (λ scope. mappings_value Addresses base scope.1) scopes

-- the whole map, as JSON
abbrev pub layout_value : List ℕ → Layout → List (List ℕ × List ℕ) → Json
layout_value base layout integrity =
    an_object (a_member (codes "imports") (mappings_value Addresses base layout.imports)
    (with_part (codes "scopes") (scopes_members base layout.scopes)
    (with_part (codes "integrity") (pairs_members Digests base integrity) no_members)))
