-- The worked examples of steps.
use Rattle.std.proofs.Common.{◌≡◌, ◌≢◌, ◌∷◌, [], Option, Some, None, Result, refl, sym, ◌∙◌, subst, inr, ⊎_elim, arith}
use Rattle.std.specs.FinMap.{get}
use Rattle.std.specs.Prelude.{codes, OnErr}
use Rattle.std.specs.Str.{chars}
use Rattle.tree_spec.specs.declared.Entry.{Entry}
use Rattle.tree_spec.specs.declared.Entry.TheVariants.{Stored}
use Rattle.layout_spec.specs.WorkedExamples.{lines}
use Rattle.session_spec.specs.declared.EditFault.{EditFault}
use Rattle.session_spec.specs.Conversations.{map_reply}
use Rattle.session_spec.specs.Edits.{Draft}
use Rattle.session_spec.specs.SessionStates.{SessionState}
use Rattle.session_spec.specs.SessionDoings.{begun, collects, shows_it, stands}
use Rattle.session_spec.specs.Talks as talks
use Rattle.session_spec.specs.Talks.{Standing, behind}
use Rattle.session_spec.specs.WorkedExamples.{FrugalExamples, rest_of}
use Rattle.session_spec.proofs.SessionExamples.{q_not_linked}

other_files : (one other : Option Entry) → one ≡ Some (Stored []) → other ≡ Some (Stored (codes "1")) → one ≢ other
other_files one other is are same =
    (let both : Some (Stored []) ≡ Some (Stored (codes "1")) = sym is ∙ same ∙ are in absurd (cc))

abbrev talked : SessionState → Standing
talked state = talks.begun state (lines ("map" ∷ "begin" ∷ "map" ∷ []))

abbrev mapped : SessionState → Standing
mapped state = behind (talked state) state None (rest_of 1 (lines ("begin" ∷ "map" ∷ [])))

pub frugal_examples : FrugalExamples
unfolding chars lib.Utf8.encode
frugal_examples = record {
  same_tree = λ tree config question asked fresh. ⊎_elim (λ new. new asked) (λ changed. changed.other refl) fresh;
  other_bytes = λ tree later config is are. inr (record { path = codes "/m.mjs"; among = (0, omega arith, refl); other = other_files (get tree (codes "/m.mjs")) (get later (codes "/m.mjs")) is are });
  refused = λ state from to entries frugal. subst (λ (made : Result Draft EditFault). OnErr made (to ≡ from)) (q_not_linked state entries) frugal.refused;
  no_edit = λ state opened.
      stands (behind (mapped state) state (Some []) (rest_of 1 (lines ("map" ∷ [])))) (map_reply state.map) opened
      (collects (mapped state) (map_reply state.map) opened [] (rest_of 1 (lines ("map" ∷ []))) (shows_it (talked state) [] opened (rest_of 1 (lines ("begin" ∷ "map" ∷ []))) begun refl) refl);
}
