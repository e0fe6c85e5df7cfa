-- The tree below a folder: of each entry behind the folder's path, what stands behind that.
use Rattle.std.proofs.Common.{◌≡◌, ◌≢◌, ◌++◌, ◌&&◌, [], ◌∷◌, ℕ, List, Bool, true, false, cond, length, Option, Some, None, refl, sym, ap, ◌∙◌, subst, inl, inr}
use Rattle.std.proofs.Math.Seq.{drop-append_seam}
use Rattle.std.proofs.lemmas.Bool.{and_from, and_parts}
use Rattle.std.proofs.lemmas.Map.Text.{is_eq-slice_cmp}
use Rattle.std.proofs.lemmas.Slice.Eq.{bytes_eq-Decides}
use Rattle.std.specs.Bool.{Decides}
use Rattle.std.specs.Cmp.Lexicographic.{slice_cmp, nat_list_cmp_total}
use Rattle.std.specs.FinMap.{entries, find, from_entries, get, get-entries, get-from_entries}
use Rattle.std.specs.Ordering.{nat_cmp}
use Rattle.std.specs.Prelude.{bytes_eq, codes, drop, if◌then◌else◌}
use Rattle.tree_spec.proofs.ByteLists.{text_same_or_not}
use Rattle.tree_spec.specs.Paths.{IsPath}
use Rattle.tree_spec.specs.Trees.{Tree}
use Rattle.tree_spec.specs.declared.Entry.{Entry}
use Rattle.tree_spec.specs.declared.Entry.TheVariants.{Directory}
use Rattle.url_spec.proofs.PathDecisions.{path_by_test, test_by_path}
use Rattle.url_spec.specs.PathTests.{is_path}
use Rattle.vendor_spec.specs.Laws.{SomeBelow}
use Rattle.vendor_spec.specs.Vendored.{IsBelow}

abbrev Entries : Type 0
Entries = List (List ℕ × Entry)

abbrev found : List ℕ → Entries → Option Entry
found path es = find (slice_cmp nat_cmp) path es

abbrev found_by : Bool → Entry → Option Entry → Option Entry
found_by same entry rest = cond same (Some entry) rest

found_first : (path : List ℕ) (e : List ℕ × Entry) (es : Entries)
    → found path (e ∷ es) ≡ found_by (bytes_eq path e.0) e.1 (found path es)
found_first path e es = ap (λ same. found_by same e.1 (found path es)) (is_eq-slice_cmp path e.0)

not_same : (b : Bool) (one other : List ℕ) → Decides b (one ≡ other) → one ≢ other → b ≡ false
not_same true one other d different = absurd (different (d.0 refl))
not_same false one other d different = refl

module _ (to : List ℕ) where
  abbrev behind : List ℕ → List ℕ
  behind path = drop (length to) path

  abbrev stands : List ℕ → Bool
  stands path = bytes_eq path (to ++ behind path) && is_path (behind path)

  abbrev with_first : Bool → (List ℕ × Entry) → Entries → Entries
  with_first keep e more = if keep then (behind e.0, e.1) ∷ more else more

  abbrev rests : Entries → Entries
  rests [] = []
  rests (e ∷ es) = with_first (stands e.0) e (rests es)

  -- what stands there begins with the folder's path
  begins_so : (path : List ℕ) → stands path ≡ true → path ≡ to ++ behind path
  begins_so path e = (bytes_eq-Decides path (to ++ behind path)).0 (and_parts (bytes_eq path (to ++ behind path)) (is_path (behind path)) e).0

  stands_so : (path rest : List ℕ) → IsPath rest → to ++ rest ≡ path → stands path ≡ true
  stands_so path rest is e =
      let same : behind path ≡ rest = ap (drop (length to)) (sym e) ∙ drop-append_seam to rest in
      and_from (bytes_eq path (to ++ behind path)) (is_path (behind path))
      ((bytes_eq-Decides path (to ++ behind path)).1 (sym e ∙ ap (λ r. to ++ r) (sym same)))
      (ap is_path same ∙ test_by_path rest is)

  found_rest : (path : List ℕ) → IsPath path → (es : Entries) → found path (rests es) ≡ found (to ++ path) es
  found_rest path is [] = refl
  found_rest path is (e ∷ es) =
      by (stands e.0) refl (bytes_eq (to ++ path) e.0) (bytes_eq-Decides (to ++ path) e.0) (found_rest path is es)
      ∙ sym (found_first (to ++ path) e es)
    where
      by : (keep : Bool) → stands e.0 ≡ keep → (same : Bool) → Decides same (to ++ path ≡ e.0)
          → found path (rests es) ≡ found (to ++ path) es
          → found path (with_first keep e (rests es)) ≡ found_by same e.1 (found (to ++ path) es)
      by true k true d rest =
          let is_rest : path ≡ behind e.0 = sym (drop-append_seam to path) ∙ ap (drop (length to)) (d.0 refl) in
          found_first path (behind e.0, e.1) (rests es)
          ∙ ap (λ same. found_by same e.1 (found path (rests es))) ((bytes_eq-Decides path (behind e.0)).1 is_rest)
      by true k false d rest =
          let other : path ≢ behind e.0 =
          λ s. (let wrong : false ≡ true = d.1 (ap (λ r. to ++ r) s ∙ sym (begins_so e.0 k)) in cc) in
          found_first path (behind e.0, e.1) (rests es)
          ∙ (ap (λ same. found_by same e.1 (found path (rests es)))
          (not_same (bytes_eq path (behind e.0)) path (behind e.0) (bytes_eq-Decides path (behind e.0)) other) ∙ rest)
      by false k true d rest = absurd (let wrong : true ≡ false = sym (stands_so e.0 path is (d.0 refl)) ∙ k in cc)
      by false k false d rest = rest

  rests_are_paths : (path : List ℕ) (entry : Entry) (es : Entries) → found path (rests es) ≡ Some entry → IsPath path
  rests_are_paths path entry [] e = absurd (cc)
  rests_are_paths path entry (first ∷ es) e = by (stands first.0) refl e (rests_are_paths path entry es)
    where
      by_same : stands first.0 ≡ true → (same : Bool) → Decides same (path ≡ behind first.0)
          → found_by same first.1 (found path (rests es)) ≡ Some entry
          → (found path (rests es) ≡ Some entry → IsPath path) → IsPath path
      by_same k true d at rest =
          path_by_test path
          (ap is_path (d.0 refl) ∙ (and_parts (bytes_eq first.0 (to ++ behind first.0)) (is_path (behind first.0)) k).1)
      by_same k false d at rest = rest at

      by : (keep : Bool) → stands first.0 ≡ keep → found path (with_first keep first (rests es)) ≡ Some entry
          → (found path (rests es) ≡ Some entry → IsPath path) → IsPath path
      by true k at rest =
          by_same k (bytes_eq path (behind first.0)) (bytes_eq-Decides path (behind first.0))
          (sym (found_first path (behind first.0, first.1) (rests es)) ∙ at) rest
      by false k at rest = rest at

  abbrev root_first : Tree → Entries
  root_first tree = (codes "/", Directory) ∷ rests (entries tree)

  abbrev below : Tree → Tree
  below tree = from_entries (root_first tree)

  get_below : (tree : Tree) (path : List ℕ) → get (below tree) path ≡ found_by (bytes_eq path (codes "/")) Directory (found path (rests (entries tree)))
  get_below tree path =
      get-from_entries nat_list_cmp_total (root_first tree) path
      ∙ found_first path (codes "/", Directory) (rests (entries tree))

  deep_below : (tree : Tree) (path : List ℕ) → path ≢ codes "/" → get (below tree) path ≡ found path (rests (entries tree))
  deep_below tree path deep =
      get_below tree path
      ∙ ap (λ same. found_by same Directory (found path (rests (entries tree))))
      (not_same (bytes_eq path (codes "/")) path (codes "/") (bytes_eq-Decides path (codes "/")) deep)

  is_below : (tree : Tree) → IsBelow tree to (below tree)
  is_below tree = record {
    root = get_below tree (codes "/")
        ∙ ap (λ same. found_by same Directory (found (codes "/") (rests (entries tree))))
        ((bytes_eq-Decides (codes "/") (codes "/")).1 refl);
    paths = λ path entry e. elim (text_same_or_not path (codes "/")) [
      | inl top ↦ subst IsPath (sym top) (path_by_test (codes "/") refl)
      | inr deep ↦ rests_are_paths path entry (entries tree) (sym (deep_below tree path deep) ∙ e)
    ];
    each = λ path is deep.
        deep_below tree path deep ∙ (found_rest path is (entries tree) ∙ sym (get-entries tree (to ++ path)));
  }

pub some_below : SomeBelow
some_below tree to = (below to tree, is_below to tree)
