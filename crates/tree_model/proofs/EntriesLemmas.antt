-- How the tree of a map in memory follows the map's changes.
use Rattle.std.specs.Prelude.{◌≡◌, ℕ, cond, List, [], ◌∷◌, bytes_eq, Option, Some, None, refl}
use Rattle.std.specs.Ordering.{nat_cmp}
use Rattle.std.specs.Cmp.Lexicographic.{slice_cmp, nat_list_cmp_total}
use Rattle.std.specs.HashMap as map
use Rattle.std.specs.HashMap.{HashMap, Updates, UpdatesBy}
use Rattle.std.specs.FinMap.{get, find, insert, remove, get-from_entries, get-remove}
use Rattle.std.specs.Map.{lookup}
use Rattle.std.proofs.Common.{sym, ◌∙◌, ap}
use Rattle.std.proofs.lemmas.Map.Text.{is_eq-slice_cmp}
use Rattle.std.proofs.lemmas.Cmp.{nat_list_eq_equiv}
use Rattle.tree_spec.specs.declared.Entry.{Entry}
use Rattle.tree_spec.proofs.Insertion.{get_inserted, same_tree}
use Rattle.tree_model.specs.Entries.{tree_of}

find_lookup : (path : List ℕ) (entries : List (List ℕ × Entry)) → find (slice_cmp nat_cmp) path entries ≡ lookup (bytes_eq path) entries
find_lookup path [] = refl
find_lookup path (e ∷ entries) =
    ap (λ b. cond b (Some e.1) (find (slice_cmp nat_cmp) path entries)) (is_eq-slice_cmp path e.0)
    ∙ ap (cond (bytes_eq path e.0) (Some e.1)) (find_lookup path entries)

module _ {S : Type 0} where
  pub tree_get : (entries : HashMap (List ℕ) Entry S) (path : List ℕ) → get (tree_of entries) path ≡ map.get bytes_eq entries path
  tree_get entries path = get-from_entries nat_list_cmp_total entries.entries path ∙ find_lookup path entries.entries

  updated : (before after : HashMap (List ℕ) Entry S) (path : List ℕ) (found : Option Entry) (other : List ℕ) → UpdatesBy bytes_eq (bytes_eq path) before after found
      → get (tree_of after) other ≡ cond (bytes_eq other path) found (get (tree_of before) other)
  updated before after path found other u =
      tree_get after other ∙ u.0 other ∙ ap (λ b. cond b found (map.get bytes_eq before other)) (nat_list_eq_equiv.symm path other)
      ∙ ap (cond (bytes_eq other path) found) (sym (tree_get before other))

  pub tree_insert : (before after : HashMap (List ℕ) Entry S) (path : List ℕ) (entry : Entry) → UpdatesBy bytes_eq (bytes_eq path) before after (Some entry) → tree_of after ≡ insert (tree_of before) path entry
  tree_insert before after path entry u = same_tree _ _ (λ other. updated before after path (Some entry) other u ∙ sym (get_inserted (tree_of before) path entry other))

  pub tree_remove : (before after : HashMap (List ℕ) Entry S) (path : List ℕ) → UpdatesBy bytes_eq (bytes_eq path) before after None → tree_of after ≡ remove (tree_of before) path
  tree_remove before after path u =
      same_tree _ _ (λ other. updated before after path None other u ∙ sym (get-remove nat_list_cmp_total (tree_of before) path other ∙ ap (λ b. cond b None (get (tree_of before) other)) (is_eq-slice_cmp other path)))
