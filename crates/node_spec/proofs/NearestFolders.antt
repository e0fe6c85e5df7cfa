-- In a tree the asking for the nearest folder comes to it, and there is one at most.
use Rattle.std.proofs.Common.{◌≡◌, ◌⊎◌, ◌<◌, ℕ, length, List, Option, Some, None, Bool, true, false, refl, sym, ap, ◌∙◌, subst, inl, inr, arith}
use Rattle.std.specs.FinMap.{get}
use Rattle.std.specs.Prelude.{codes, option_map, if◌then◌else◌}
use Rattle.std.proofs.lemmas.Bool.{cond-true, cond-false}
use Rattle.asking_spec.proofs.AskingLemmas.{outcome_then}
use Rattle.asking_spec.specs.Askings.{answered, outcome, and_then}
use Rattle.tree_spec.proofs.FolderLemmas.{folders_climb}
use Rattle.tree_spec.proofs.PathsAbove.{above_shorter, nothing_above_root, above_by_parent}
use Rattle.tree_spec.specs.FoldersAbove.{folders_from, Climbs, at_root, from_parent}
use Rattle.tree_spec.specs.LookAskings.{LookAsking}
use Rattle.tree_spec.specs.Paths.{IsPath, IsParent, IsAbove, parent_of, further}
use Rattle.tree_spec.specs.Trees.{Tree, IsTree}
use Rattle.tree_spec.specs.declared.Entry.{Entry}
use Rattle.url_spec.proofs.PathDecisions.{test_by_path}
use Rattle.url_spec.specs.PathTests.{is_path}
use Rattle.node_spec.specs.FileLooks.{look_at_text}
use Rattle.node_spec.specs.LookupPackageScope.{scopes}
use Rattle.node_spec.specs.Nearest.{Search, is_accepted, nearest_in, nearest, IsAtOrAbove, IsAccepted, IsDeepest, IsNearest, one_is, none_is}
use Rattle.node_spec.specs.Laws.{OneNearest, FindsPackageScope, FindsPackageFolder}
use Rattle.node_spec.specs.PackageResolve.{packages, package_at}

-- ---- looks at texts

none_there : (tree : Tree) → IsTree tree → (text : List ℕ) → is_path text ≡ false → (found : Option Entry)
    → get tree text ≡ found → found ≡ None
none_there tree is text other None e = refl
none_there tree is text other (Some entry) e =
    let held : is_path text ≡ true = test_by_path text (is.paths text entry e) in
    absurd (cc)

sees_by : (tree : Tree) → IsTree tree → (text : List ℕ) (test : Bool) → is_path text ≡ test
    → outcome (get tree) (look_at_text text) ≡ get tree text
sees_by tree is text true e = ap (outcome (get tree)) (cond-true _ _ _ e)
sees_by tree is text false e =
    ap (outcome (get tree)) (cond-false _ _ _ e) ∙ sym (none_there tree is text e (get tree text) refl)

-- in a tree a look at a text tells what stands there
pub text_sees : (tree : Tree) → IsTree tree → (text : List ℕ) → outcome (get tree) (look_at_text text) ≡ get tree text
text_sees tree is text = sees_by tree is text (is_path text) refl

-- ---- where folders stand

never_above : (above path : List ℕ) → IsAbove above path → IsAtOrAbove path above → ⊥
never_above above path a (inl e) =
    let short : length above < length path = above_shorter above path a in
    let same : length path ≡ length above = ap length e in
    absurd (omega arith)
never_above above path a (inr b) =
    let short : length above < length path = above_shorter above path a in
    let other : length path < length above = above_shorter path above b in
    absurd (omega arith)

one_place : (folder path : List ℕ) → IsAtOrAbove path folder → IsAtOrAbove folder path → folder ≡ path
one_place folder path (inl e) b = sym e
one_place folder path (inr a) b = absurd (never_above path folder a b)

up_to : (folder parent path : List ℕ) → IsParent parent path → IsAtOrAbove folder parent → IsAbove folder path
up_to folder parent path p (inl e) = subst (λ f. IsAbove f path) (sym e) (parent_of parent path p)
up_to folder parent path p (inr a) = further folder parent path a p

-- ---- one folder more

module _ (search : Search) (tree : Tree) where
  blocked : (path found : List ℕ) → search.ends_at path ≡ true → IsDeepest search tree path found → ⊥
  blocked path found named is =
      let free : search.ends_at path ≡ false = is.within path is.at_or_above (inl refl) in
      absurd (cc)

  itself : (path : List ℕ) → search.ends_at path ≡ false → IsAccepted search tree path
      → IsDeepest search tree path path
  itself path free holds = record {
    at_or_above = inl refl;
    accepted = holds;
    within = λ folder a b. subst (λ f. search.ends_at f ≡ false) (sym (one_place folder path a b)) free;
    deepest = λ folder a b h. never_above path folder a b;
  }

  deeper : (parent path found : List ℕ) → IsParent parent path → search.ends_at path ≡ false
      → (IsAccepted search tree path → ⊥) → IsDeepest search tree parent found → IsDeepest search tree path found
  deeper parent path found p free none is = record {
    at_or_above = inr (up_to found parent path p is.at_or_above);
    accepted = is.accepted;
    within = λ folder a b. elim b [
      | inl e ↦ subst (λ f. search.ends_at f ≡ false) (sym e) free
      | inr above ↦ is.within folder a (above_by_parent folder parent path p above)
    ];
    deepest = λ folder a b h. elim b [
      | inl e ↦ none (subst (IsAccepted search tree) e h)
      | inr above ↦ is.deepest folder a (above_by_parent folder parent path p above) h
    ];
  }

  higher : (parent path found : List ℕ) → IsParent parent path → (IsAccepted search tree path → ⊥)
      → IsDeepest search tree path found → IsDeepest search tree parent found
  higher parent path found p none is = record {
    at_or_above = elim (is.at_or_above) [
      | inl e ↦ absurd (none (subst (IsAccepted search tree) e is.accepted))
      | inr above ↦ above_by_parent found parent path p above
    ];
    accepted = is.accepted;
    within = λ folder a b. is.within folder a (inr (up_to folder parent path p b));
    deepest = λ folder a b h. is.deepest folder a (inr (up_to folder parent path p b)) h;
  }

  at_parent : (parent path : List ℕ) (out : Option (List ℕ)) → IsParent parent path → search.ends_at path ≡ false
      → (IsAccepted search tree path → ⊥) → IsNearest search tree parent out → IsNearest search tree path out
  at_parent parent path _ p free none (one_is found is) = one_is found (deeper parent path found p free none is)
  at_parent parent path _ p free none (none_is nothing) =
      none_is (λ found is. nothing found (higher parent path found p none is))

  at_top : (path : List ℕ) → path ≡ codes "/" → (IsAccepted search tree path → ⊥) → IsNearest search tree path None
  at_top path top none = none_is (λ found is. elim (is.at_or_above) [
    | inl e ↦ none (subst (IsAccepted search tree) e is.accepted)
    | inr above ↦ nothing_above_root found path top above
  ])

  -- what stands at its place decides, or else the folders above
  accepted_or_above : (path : List ℕ) (above : LookAsking (Option (List ℕ))) (accepted : Bool)
      → search.accepts (get tree (search.place path)) ≡ accepted → search.ends_at path ≡ false
      → ((IsAccepted search tree path → ⊥) → IsNearest search tree path (outcome (get tree) above))
      → IsNearest search tree path (outcome (get tree) (if accepted then answered (Some path) else above))
  accepted_or_above path above false e free rest = rest (λ h. absurd (cc))
  accepted_or_above path above true e free rest = one_is path (itself path free e)

  by_folder_name : IsTree tree → (path : List ℕ) (above : LookAsking (Option (List ℕ))) (named : Bool)
      → search.ends_at path ≡ named
      → (search.ends_at path ≡ false → (IsAccepted search tree path → ⊥)
      → IsNearest search tree path (outcome (get tree) above))
      → IsNearest search tree path (outcome (get tree) (if named then answered None
      else and_then (is_accepted search path) (λ accepted. if accepted then answered (Some path) else above)))
  by_folder_name is path above true e rest = none_is (λ found s. blocked path found e s)
  by_folder_name is path above false e rest =
      let place : List ℕ = search.place path in
      let next : Bool → LookAsking (Option (List ℕ)) = λ accepted. if accepted then answered (Some path) else above in
      let says : outcome (get tree) (is_accepted search path) ≡ search.accepts (get tree place) =
      outcome_then (get tree) (look_at_text place) (λ found. answered (search.accepts found))
      ∙ ap search.accepts (text_sees tree is place) in
      subst (IsNearest search tree path)
      (sym (outcome_then (get tree) (is_accepted search path) next ∙ ap (λ accepted. outcome (get tree) (next accepted)) says))
      (accepted_or_above path above (search.accepts (get tree place)) refl e (rest e))

  by_climbs : IsTree tree → (path : List ℕ) (folders : List (List ℕ)) → Climbs path folders
      → IsNearest search tree path (outcome (get tree) (nearest_in search folders))
  by_climbs is _ _ (at_root path top) =
      by_folder_name is path (answered None) (search.ends_at path) refl (λ free none. at_top path top none)
  by_climbs is _ _ (from_parent parent path folders p climbs) =
      by_folder_name is path (nearest_in search folders) (search.ends_at path) refl
      (λ free none. at_parent parent path _ p free none (by_climbs is parent folders climbs))

pub finds_nearest : (search : Search) (tree : Tree) (from : List ℕ) → IsTree tree → IsPath from
    → IsNearest search tree from (outcome (get tree) (nearest search from))
finds_nearest search tree from is path = by_climbs search tree is from (folders_from from) (folders_climb from path)

pub finds_package_scope : FindsPackageScope
finds_package_scope tree from is path = finds_nearest scopes tree from is path

pub finds_package_folder : FindsPackageFolder
finds_package_folder tree from name is path = record {
  above = outcome (get tree) (nearest (packages name) from);
  is_nearest = finds_nearest (packages name) tree from is path;
  there =
      outcome_then (get tree) (nearest (packages name) from)
      (λ found. answered (option_map (package_at name) found));
}

-- ---- there is one

abbrev Compared : List ℕ → List ℕ → Type 0
Compared one other = IsAtOrAbove one other ⊎ IsAtOrAbove other one

compared_to : (path one other : List ℕ) → IsAbove one path → IsAtOrAbove other path → Compared one other
compared_to path one other a (inl e) = inl (inr (subst (IsAbove one) (sym e) a))
compared_to _ one other (parent_of above path p) (inr b) = inr (above_by_parent other above path p b)
compared_to _ one other (further above parent path a p) (inr b) =
    compared_to parent one other a (above_by_parent other parent path p b)

compared : (path one other : List ℕ) → IsAtOrAbove one path → IsAtOrAbove other path → Compared one other
compared path one other (inl e) b = inr (subst (IsAtOrAbove other) (sym e) b)
compared path one other (inr a) b = compared_to path one other a b

same_deepest : (search : Search) (tree : Tree) (from one other : List ℕ) → IsDeepest search tree from one
    → IsDeepest search tree from other → Compared one other → one ≡ other
same_deepest search tree from one other a b (inl (inl e)) = e
same_deepest search tree from one other a b (inl (inr above)) =
    absurd (a.deepest other above b.at_or_above b.accepted)
same_deepest search tree from one other a b (inr (inl e)) = sym e
same_deepest search tree from one other a b (inr (inr above)) =
    absurd (b.deepest one above a.at_or_above a.accepted)

pub one_nearest : OneNearest
one_nearest search tree from _ _ (one_is one a) (one_is other b) =
    ap Some (same_deepest search tree from one other a b (compared from one other a.at_or_above b.at_or_above))
one_nearest search tree from _ _ (one_is one a) (none_is nothing) = absurd (nothing one a)
one_nearest search tree from _ _ (none_is nothing) (one_is one a) = absurd (nothing one a)
one_nearest search tree from _ _ (none_is nothing) (none_is also) = refl
