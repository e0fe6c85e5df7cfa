-- The paths that a walk leaves on its trail are the footprint of the generation.
use Rattle.std.proofs.Common.{◌≡◌, ℕ, List, [], Option, Some, None, Result, Ok, Err, IfSome, refl, sym, ap, ◌∙◌, subst}
use Rattle.std.specs.Prelude.{Contains, IfOk}
use Rattle.asking_spec.specs.Evaluation.{Ended, ends, stopped, evaluated}
use Rattle.tree_spec.proofs.Contained.{contains_none}
use Rattle.tree_spec.specs.LookAskings.{Sights, footprint}
use Rattle.tree_spec.specs.LookLimits.{Trail, no_trail}
use Rattle.tree_spec.specs.States.{FolderState}
use Rattle.tree_spec.specs.Trees.{Tree}
use Rattle.tree_spec.specs.declared.LimitName.{LimitName}
use Rattle.trace_spec.proofs.Generations.{looks_are_of_questions}
use Rattle.trace_spec.specs.Checks.{Gathered}
use Rattle.trace_spec.specs.Modules.{Config}
use Rattle.trace_spec.specs.Questions.{answers}
use Rattle.trace_spec.specs.Traces.{result_of, state_of, trace, generation}
use Rattle.trace_spec.specs.declared.TraceFault.{TraceFault}
use Rattle.package_lookup.specs.Answered.{State, IsCovered}
use Rattle.package_lookup.specs.Looked.{Sees}
use Rattle.package_lookup.specs.declared.known.Known.{Known}
use Rattle.trace_walk.specs.Meeting.{Met}
use Rattle.trace_walk.specs.Shown.{traced_of, before_of}
use Rattle.trace_walk.specs.declared.tables.Tables.{Tables}
use Rattle.request_trace.specs.Answering.{Freshness, Keeping, Stays, told_by, answers_of}
use Rattle.request_trace.specs.Footprints.{IsFootprint}

ended_ok : {X : Type 0} (end : Ended (Result X TraceFault) Trail LimitName) (value : X) (after : Trail)
    → result_of end ≡ Ok value → state_of end ≡ after → end ≡ ends (Ok value) after
ended_ok (ends result state) value after is leaves = (λ i. ends (is i) (leaves i))
ended_ok (stopped limit state) value after is leaves = absurd (cc)

module _ (is_fresh later_fresh : Freshness) (keeping later_keeping : Keeping) (stays others : Stays) (taken spent : ℕ) (config : Config) (before after : State) (all : Gathered)
    (fresh : before.trail ≡ no_trail)
    (met : Met (answers_of is_fresh keeping stays taken before) (trace config) (Ok all) (answers_of later_fresh later_keeping others spent after)) where
  paths_are : (told : Option Tree) → before.folder.holds ≡ told
      → IfSome told (λ tree. (sights : Sights) → Sees tree before.known sights
      → after.trail.paths ≡ footprint sights (generation config))
  paths_are None holds = tt
  paths_are (Some tree) holds = λ sights sees.
      let comes = met.comes (told_by is_fresh sights)
      (record { tree = tree; sights = sights; holds = holds; sees = sees; are = refl }) ((λ e. cc), (λ e. cc)) in
      ((looks_are_of_questions sights config).counted (Ok all) after.trail
      (ap (λ trail. evaluated (answers sights) trail (trace config)) (sym fresh)
      ∙ ended_ok (evaluated (answers sights) before.trail (trace config)) all after.trail comes.is comes.leaves)).paths

  none_yet : IsCovered before
  none_yet path held = absurd (contains_none path (subst (λ (t : Trail). Contains t.paths path) fresh held))

  is_footprint : IsFootprint config before.folder before.known after.known after.trail.paths
  is_footprint = record {
    is = paths_are before.folder.holds refl;
    kept = met.covered (λ e. cc) none_yet;
  }

-- beside other names for what is known and for the trail afterwards
pub footprint_left : (is_fresh later_fresh : Freshness) (keeping later_keeping : Keeping) (stays others : Stays) (taken spent : ℕ) (config : Config) (before after : State) (later : Known)
    (paths : List (List ℕ)) (result : Result Tables TraceFault) → before.trail ≡ no_trail
    → Met (answers_of is_fresh keeping stays taken before) (trace config) (traced_of result) (answers_of later_fresh later_keeping others spent after)
    → after.known ≡ later → after.trail.paths ≡ paths
    → IfOk result (λ tables. IsFootprint config before.folder before.known later paths)
footprint_left is_fresh later_fresh keeping later_keeping stays others taken spent config before after later paths (Err fault) fresh met same alike = tt
footprint_left is_fresh later_fresh keeping later_keeping stays others taken spent config before after later paths (Ok tables) fresh met same alike =
    subst (λ k. IsFootprint config before.folder before.known k paths) same
    (subst (λ ps. IsFootprint config before.folder before.known after.known ps) alike
    (is_footprint is_fresh later_fresh keeping later_keeping stays others taken spent config before after (before_of tables) fresh met))
