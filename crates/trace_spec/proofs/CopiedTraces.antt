-- A copy of the files that a generation looks at gives the trace that the tree gives.
use Rattle.std.proofs.Common.{◌≡◌, [], ℕ, List, Some, None, sym, ap, ◌∙◌, subst, inl, inr}
use Rattle.std.specs.FinMap.{get}
use Rattle.std.specs.Prelude.{Ok, Contains, if◌then◌else◌}
use Rattle.std.proofs.lemmas.Bool.{cond-true, cond_both}
use Rattle.asking_spec.specs.Laws.{AgreesOn}
use Rattle.tree_spec.proofs.Contained.{all_contained, contains_seen, seen_contained}
use Rattle.tree_spec.proofs.Copies.{copy_is_thinned}
use Rattle.tree_spec.proofs.Footprints.{same_by_footprint}
use Rattle.tree_spec.proofs.LeftOutFolders.{spared_same}
use Rattle.tree_spec.specs.LeftOutFolders.{IsThinned}
use Rattle.tree_spec.specs.LookAskings.{Sights, footprint, is_seen}
use Rattle.tree_spec.specs.LookLimits.{no_trail, look_limits}
use Rattle.tree_spec.specs.declared.Entry.{Entry}
use Rattle.tree_spec.specs.declared.Entry.TheVariants.{Stored}
use Rattle.node_spec.specs.Laws.{SeesBytes}
use Rattle.trace_spec.proofs.Generations.{result_is, looks_are_of_questions}
use Rattle.trace_spec.proofs.SparedWalks.{generation_spares}
use Rattle.trace_spec.specs.Copied.{SameGeneration}
use Rattle.trace_spec.specs.Traces.{traced, generation, result_of}

-- ---- the sights of these paths alone

abbrev only : Sights → List (List ℕ) → Sights
only sights paths path = if is_seen path paths then sights path else None

only_seen : (sights : Sights) (paths : List (List ℕ)) (path : List ℕ) → Contains paths path
    → only sights paths path ≡ sights path
only_seen sights paths path held = cond-true _ _ _ (seen_contained path paths held)

only_some : (sights : Sights) (paths : List (List ℕ)) (path : List ℕ) (entry : Entry)
    → only sights paths path ≡ Some entry → Contains paths path × (sights path ≡ Some entry)
only_some sights paths path entry =
    cond_both (is_seen path paths) (sights path) None (λ r. r ≡ Some entry → Contains paths path × (sights path ≡ Some entry))
    (λ held e. (contains_seen path paths held, e)) (λ other e. absurd (cc))

only_agrees : (sights : Sights) (paths : List (List ℕ)) → AgreesOn sights (only sights paths) paths
only_agrees sights paths = record {
  each = all_contained (λ path. sights path ≡ only sights paths path) paths
      (λ path held. sym (only_seen sights paths path held));
}

only_thinned : (one other : Sights) (paths : List (List ℕ)) → IsThinned one other paths
    → IsThinned (only one paths) other paths
only_thinned one other paths thinned = record {
  each = λ path held.
      let same : only one paths path ≡ one path = only_seen one paths path held in
      elim (thinned.each path held) [
        | inl alike ↦ inl (same ∙ alike)
        | inr left ↦ inr (record {
          was = same ∙ left.was;
          is = left.is;
          bare = λ has. left.bare (record {
            path = has.path;
            is_looked_at = has.is_looked_at;
            bytes = has.bytes;
            stored = (only_some one paths has.path (Stored has.bytes) has.stored).1;
            above = has.above;
          });
        })
      ];
}

-- ---- the whole

pub same_generation : SameGeneration
same_generation old copy config all is bytes is_copy e =
    let asking = generation config in
    let seen : List (List ℕ) = footprint (get old) asking in
    let one : Sights = only (get old) seen in
    let agrees : AgreesOn (get old) one seen = only_agrees (get old) seen in
    let alike = same_by_footprint (get old) one asking agrees in
    let traced_one : traced one config ≡ Ok all =
    sym ((looks_are_of_questions (get old) config).decided one agrees) ∙ e in
    let sees : SeesBytes one = record {
      small = λ path entry held. bytes.small path (only_some (get old) seen path entry held).0;
    } in
    let thinned : IsThinned one (get copy) (footprint one asking) =
    subst (IsThinned one (get copy)) alike.footprint
    (only_thinned (get old) (get copy) seen (copy_is_thinned old seen copy is is_copy)) in
    let same = spared_same one (get copy) asking thinned (generation_spares one sees [] config all traced_one) in
    result_is (get copy) config
    ∙ (ap result_of (sym (same.limited look_limits no_trail)) ∙ (sym (result_is one config) ∙ traced_one))
