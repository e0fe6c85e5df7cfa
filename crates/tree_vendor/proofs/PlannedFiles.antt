-- A plan is one of the tree's files, where what is kept is what looks at the tree see.
use Rattle.std.proofs.Common.{◌≡◌, ◌≢◌, ◌<◌, ◌++◌, [], ◌∷◌, ℕ, List, Bool, true, false, nat_lt, length, map, Option, Some, None, refl, sym, ap, ◌∙◌, subst}
use Rattle.std.proofs.lemmas.Bool.{cond-false}
use Rattle.std.specs.Cmp.Lexicographic.{slice_cmp}
use Rattle.std.specs.FinMap.{get}
use Rattle.std.specs.List.Sorted.{IsStrictlySortedBy}
use Rattle.std.specs.Map.{keys_of}
use Rattle.std.specs.Option.{option_or}
use Rattle.std.specs.Ordering.{nat_cmp}
use Rattle.std.specs.Prelude.{codes, Contains, is_some, option_and_then, unwrap_or, if◌then◌else◌}
use Rattle.package_lookup.specs.Looked.{Sees, known_at, kept_at, look_or, look_in}
use Rattle.package_lookup.specs.SeenLooks.{bytes_of, seen_as, within_limit, IsWithin}
use Rattle.package_lookup.specs.declared.known.Known.{Known}
use Rattle.tree_spec.proofs.Contained.{all_contained, contains_here, contains_there}
use Rattle.tree_spec.specs.Limits.{limit_number}
use Rattle.tree_spec.specs.Paths.{IsPath, HasDepth}
use Rattle.tree_spec.specs.Trees.{Tree, IsTree}
use Rattle.tree_spec.specs.declared.Entry.{Entry}
use Rattle.tree_spec.specs.declared.Entry.TheVariants.{Stored, Directory}
use Rattle.tree_spec.specs.declared.LimitName.TheVariants as limit
use Rattle.tree_spec.specs.declared.Look.{Look}
use Rattle.tree_spec.specs.declared.Look.TheVariants.{Absent, Folder, File, TooLarge}
use Rattle.vendor_spec.specs.Vendored.{Pair, Written, goals}
use Rattle.tree_vendor.proofs.Elements.{contains_mapped, made_of}
use Rattle.vendor_spec.proofs.GoalPaths.{goal_behind}
use Rattle.vendor_spec.specs.Goals.{goal_of, most_path_bytes, HasDeepCopy, HasLongCopy}
use Rattle.tree_vendor.specs.Copying.{Step, AreKept, bytes_at, copies, file_at}
use Rattle.tree_vendor.specs.Laws.{FaultsAreOfTree, KeepsFootprint, PlannedAreKept, PlannedIsPlan, pairs}
use Rattle.tree_vendor.specs.Planning.{ArePlanned, HasDeepGoal, HasLongGoal, IsSource}

pub planned_are_kept : PlannedAreKept
planned_are_kept footprint known to steps planned =
    all_contained (λ (step : Step). is_some (file_at known step.0) ≡ true) steps
    (λ step held. (planned.sources step held).kept)

-- ---- what a look saw

file_by : (bytes others : List ℕ) (b : Bool) → (if b then TooLarge else File bytes) ≡ File others → bytes ≡ others
file_by bytes others true e = absurd (cc)
file_by bytes others false e = cc

no_absent : (bytes : List ℕ) (b : Bool) → (if b then TooLarge else File bytes) ≡ Absent → ⊥
no_absent bytes true e = cc
no_absent bytes false e = cc

no_folder : (bytes : List ℕ) (b : Bool) → (if b then TooLarge else File bytes) ≡ Folder → ⊥
no_folder bytes true e = cc
no_folder bytes false e = cc

seen_file : (found : Option Entry) (bytes : List ℕ) → seen_as found ≡ File bytes → found ≡ Some (Stored bytes)
seen_file None bytes e = absurd (cc)
seen_file (Some Directory) bytes e = absurd (cc)
seen_file (Some (Stored others)) bytes e =
    ap (λ b. Some (Stored b)) (file_by others bytes (nat_lt (limit_number limit.File) (length others)) e)

-- the file that is kept is the tree's
stored_by : (look : Option Look) (found : Option Entry) → IsWithin look → is_some (option_and_then bytes_of look) ≡ true
    → seen_as found ≡ look_or look found → found ≡ Some (Stored (unwrap_or (option_and_then bytes_of look) []))
stored_by None found within some e = absurd within
stored_by (Some Absent) found within some e = absurd (cc)
stored_by (Some Folder) found within some e = absurd (cc)
stored_by (Some (File bytes)) found within some e = seen_file found bytes (e ∙ cond-false _ _ _ within)
stored_by (Some TooLarge) found within some e = absurd within

-- and the tree's file is kept
kept_by : (look : Option Look) (bytes : List ℕ) → IsWithin look
    → seen_as (Some (Stored bytes)) ≡ look_or look (Some (Stored bytes)) → option_and_then bytes_of look ≡ Some bytes
kept_by None bytes within e = absurd within
kept_by (Some Absent) bytes within e = absurd (no_absent bytes (nat_lt (limit_number limit.File) (length bytes)) e)
kept_by (Some Folder) bytes within e = absurd (no_folder bytes (nat_lt (limit_number limit.File) (length bytes)) e)
kept_by (Some (File others)) bytes within e =
    ap Some (sym (file_by bytes others (nat_lt (limit_number limit.File) (length bytes)) (e ∙ cond-false _ _ _ within)))
kept_by (Some TooLarge) bytes within e = absurd within

-- ---- the lists

same_sources : (known : Known) (steps : List Step) → keys_of steps ≡ map (λ (pair : Pair). pair.0) (pairs known steps)
same_sources known [] = refl
same_sources known (step ∷ steps) = ap (λ ps. step.0 ∷ ps) (same_sources known steps)

pub same_copies : (known : Known) (to : List ℕ) (steps : List Step)
    → ((step : Step) → Contains steps step → step.1 ≡ to ++ step.0) → copies known steps ≡ goals to (pairs known steps)
same_copies known to [] each = refl
same_copies known to (step ∷ steps) each =
    (λ i. (each step (contains_here step steps) i, bytes_at known step.0)
    ∷ same_copies known to steps (λ other held. each other (contains_there other step steps held)) i)

module _ (tree : Tree) (footprint : List (List ℕ)) (known : Known) (is_tree : IsTree tree)
    (keeps : KeepsFootprint tree known footprint) where
  kept_is : (path : List ℕ) → known_at known path ≡ kept_at known path
  kept_is path = ap (λ l. option_or l (kept_at known path)) (keeps.none_laid path)

  within : (path : List ℕ) → Contains footprint path → IsWithin (kept_at known path)
  within path held = subst IsWithin (kept_is path) (keeps.covered path held)

  sees : (path : List ℕ) → seen_as (get tree path) ≡ look_or (kept_at known path) (get tree path)
  sees path = keeps.sees.each path ∙ ap (λ l. look_or l (get tree path)) (kept_is path)

  stored : (path : List ℕ) → Contains footprint path → IsSource known path → get tree path ≡ Some (Stored (bytes_at known path))
  stored path held source = stored_by (kept_at known path) (get tree path) (within path held) source.kept (sees path)

  file_is : (path bytes : List ℕ) → Contains footprint path → get tree path ≡ Some (Stored bytes) → file_at known path ≡ Some bytes
  file_is path bytes held e =
      kept_by (kept_at known path) bytes (within path held)
      (subst (λ f. seen_as f ≡ look_or (kept_at known path) f) e (sees path))

  source_of : (path bytes : List ℕ) → Contains footprint path → get tree path ≡ Some (Stored bytes) → IsSource known path
  source_of path bytes held e = record {
    below_root = λ r. (let f : Some (Stored bytes) ≡ Some Directory = sym e ∙ (ap (get tree) r ∙ is_tree.root) in cc);
    kept = ap is_some (file_is path bytes held e);
  }

  module _ (to : List ℕ) (deep : to ≢ codes "/") where
    long_copy : HasLongGoal footprint known to → HasLongCopy tree to footprint
    long_copy has = record {
      path = has.path;
      bytes = bytes_at known has.path;
      looked_at = has.looked_at;
      is_file = stored has.path has.looked_at has.too_long.source;
      long = subst (λ goal. most_path_bytes < length goal) (goal_behind to has.path deep) has.too_long.long;
    }

    long_goal : HasLongCopy tree to footprint → HasLongGoal footprint known to
    long_goal has = record {
      path = has.path;
      looked_at = has.looked_at;
      too_long =
          record {
            source = source_of has.path has.bytes has.looked_at has.is_file;
            long = subst (λ goal. most_path_bytes < length goal) (sym (goal_behind to has.path deep)) has.long;
          };
    }

    deep_copy : HasDeepGoal footprint known to → HasDeepCopy tree to footprint
    deep_copy has = record {
      path = has.path;
      bytes = bytes_at known has.path;
      looked_at = has.looked_at;
      is_file = stored has.path has.looked_at has.source;
      depth = has.depth;
      segments = subst (HasDepth has.depth) (goal_behind to has.path deep) has.segments;
      deep = has.deep;
    }

    deep_goal : HasDeepCopy tree to footprint → HasDeepGoal footprint known to
    deep_goal has = record {
      path = has.path;
      looked_at = has.looked_at;
      source = source_of has.path has.bytes has.looked_at has.is_file;
      depth = has.depth;
      segments = subst (HasDepth has.depth) (sym (goal_behind to has.path deep)) has.segments;
      deep = has.deep;
    }

pub faults_are_of_tree : FaultsAreOfTree
faults_are_of_tree tree to footprint known is_tree deep keeps = record {
  long = (long_copy tree footprint known is_tree keeps to deep, long_goal tree footprint known is_tree keeps to deep);
  deep = (deep_copy tree footprint known is_tree keeps to deep, deep_goal tree footprint known is_tree keeps to deep);
}

-- a copy stands behind the folder's path
pub below : (footprint : List (List ℕ)) (known : Known) (to : List ℕ) (steps : List Step) → ArePlanned footprint known to steps
    → to ≢ codes "/" → (step : Step) → Contains steps step → step.1 ≡ to ++ step.0
below footprint known to steps planned deep step held = planned.goals step held ∙ goal_behind to step.0 deep

module _ (tree : Tree) (to : List ℕ) (footprint : List (List ℕ)) (known : Known) (steps : List Step)
    (is_tree : IsTree tree) (deep : to ≢ codes "/") (keeps : KeepsFootprint tree known footprint)
    (planned : ArePlanned footprint known to steps) where
  abbrev pair_of : Step → Pair
  pair_of step = (step.0, bytes_at known step.0)

  whole : (path bytes : List ℕ) → Contains footprint path → get tree path ≡ Some (Stored bytes)
      → Contains (pairs known steps) (path, bytes)
  whole path bytes held e =
      let file = file_is tree footprint known is_tree keeps path bytes held e in
      let there : Contains steps (path, goal_of to path) =
      planned.whole path held (source_of tree footprint known is_tree keeps path bytes held e) in
      subst (λ b. Contains (pairs known steps) (path, b)) (ap (λ f. unwrap_or f []) file)
      (contains_mapped pair_of steps (path, goal_of to path) there)

  each : (P : Pair → Type 0) → ((step : Step) → Contains steps step → P (pair_of step)) → (pair : Pair)
      → Contains (pairs known steps) pair → P pair
  each P so pair held = (let made = made_of pair_of steps pair held in subst P made.is (so made.source made.held))

pub planned_is_plan : PlannedIsPlan
planned_is_plan tree to footprint known steps is_tree deep keeps planned = record {
  is_plan = record {
    files = each tree to footprint known steps is_tree deep keeps planned
        (λ pair. get tree pair.0 ≡ Some (Stored pair.1))
        (λ step held. stored tree footprint known is_tree keeps step.0 (planned.looked_at step held) (planned.sources step held));
    looked_at = each tree to footprint known steps is_tree deep keeps planned (λ pair. Contains footprint pair.0)
        planned.looked_at;
    whole = whole tree to footprint known steps is_tree deep keeps planned;
    in_order = subst (IsStrictlySortedBy (slice_cmp nat_cmp)) (same_sources known steps) planned.in_order;
    goals = each tree to footprint known steps is_tree deep keeps planned (λ pair. IsPath (to ++ pair.0))
        (λ step held. subst IsPath (below footprint known to steps planned deep step held)
        (planned.paths step held));
  };
  copied = λ before after. subst (λ files. Written before files after)
      (same_copies known to steps (below footprint known to steps planned deep));
}
