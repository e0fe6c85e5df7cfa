-- Maps that are written out as lists, for the worked examples.
--     Lists, map_of_lists lists      the parts of a map as lists, and their map
--     Questions, Answer map questions      referrers, specifiers and answers, and that the map gives these answers
use Rattle.std.specs.FinMap.{insert, empty}
use Rattle.std.specs.Prelude.{ℕ, List, [], ◌∷◌, Option, map, ◌≡◌, codes, ⊤}
use Rattle.import_map_spec.specs.ParsedMap.{Texts, Addresses, ParsedMap}
use Rattle.import_map_spec.specs.Resolving.{Resolution}
use Rattle.import_map_spec.specs.LookUps.{resolve_in}
use Prim.Native.String.{String}

-- the entries, inserted one after another
abbrev pub insert_all : {X : Type 0} → Texts X → List (List ℕ × X) → Texts X
insert_all m [] = m
insert_all m (e ∷ es) = insert_all (insert m e.0 e.1) es

-- the entries one after another: a later one replaces an earlier one
abbrev pub map_of : {X : Type 0} → List (List ℕ × X) → Texts X
map_of es = insert_all empty es

-- a scope's key, with the map of its entries
abbrev pub scope_of : List ℕ × List (List ℕ × Option (List ℕ)) → List ℕ × Addresses
scope_of e = (e.0, map_of e.1)

-- the parts of a map
pub record Lists : Type 0 where
  pub imports : List (List ℕ × Option (List ℕ))
  pub scopes : List (List ℕ × List (List ℕ × Option (List ℕ)))
  pub integrity : List (List ℕ × List ℕ)

abbrev pub map_of_lists : Lists → ParsedMap
map_of_lists l =
    record { imports = map_of l.imports; scopes = map_of (map scope_of l.scopes); integrity = map_of l.integrity }

-- a table of referrers, specifiers and answers
abbrev pub Questions : Type 0
Questions = List (String × String × Resolution)

abbrev pub Answer : ParsedMap → Questions → Type 0
Answer m [] = ⊤
Answer m (q ∷ qs) = (resolve_in m (codes q.0) (codes q.1) ≡ q.2) × Answer m qs
