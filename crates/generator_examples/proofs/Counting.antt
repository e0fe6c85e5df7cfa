-- How many mappings a map has that is written out as lists.
use Rattle.std.proofs.Common.{◌≡◌, refl, ap, ◌∙◌}
use Rattle.std.specs.Prelude.{◌+◌, ℕ, List, [], ◌∷◌, length, map}
use Rattle.std.specs.List.{sum_by}
use Rattle.std.specs.FinMap.{len, entries, len-entries}
use Rattle.std.proofs.lemmas.List.Sums.{sum_by-cons}
use Rattle.import_map_spec.specs.ParsedMap.{Addresses}
use Rattle.import_map_spec.specs.WrittenMaps.{map_of, scope_of, Lists, map_of_lists}
use Rattle.layout_spec.specs.Counting.{mapping_count}
use Rattle.layout_spec.proofs.examples.PrintedLists.{put_onto, entries_map_of}

-- how many keys
counted : {X : Type 0} (es : List (List ℕ × X)) → len (map_of es) ≡ length (put_onto [] es)
counted es = len-entries (map_of es) ∙ ap length (entries_map_of es)

abbrev scope_count : List ℕ × Addresses → ℕ
scope_count scope = len scope.1

abbrev pub total : List (List ℕ × Addresses) → ℕ
total [] = 0
total (scope ∷ scopes) = len scope.1 + total scopes

totals : (scopes : List (List ℕ × Addresses)) → sum_by scope_count scopes ≡ total scopes
totals [] = refl
totals (scope ∷ scopes) = sum_by-cons scope_count scope scopes ∙ ap (λ n. len scope.1 + n) (totals scopes)

-- how many mappings the lists have, of which a later one replaces an earlier one
pub counts : (l : Lists) → mapping_count (map_of_lists l) ≡ length (put_onto [] l.imports) + total (put_onto [] (map scope_of l.scopes))
counts l =
    let imports : len (map_of l.imports) ≡ length (put_onto [] l.imports) = counted l.imports in
    let scoped : sum_by scope_count (entries (map_of (map scope_of l.scopes))) ≡ total (put_onto [] (map scope_of l.scopes)) = ap (sum_by scope_count) (entries_map_of (map scope_of l.scopes)) ∙ totals _ in
    λ i. imports i + scoped i
