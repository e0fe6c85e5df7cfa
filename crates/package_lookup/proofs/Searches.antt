-- How the nearest folder is found, folder by folder.
--     seen_there, nothing_there, fault_there     whether a folder is accepted, by a look at its place
--     search_ends, search_accepts, search_fails, search_unfinished, search_tops, search_rises
--                                                what that says of the nearest folder
use Rattle.std.proofs.Common.{◌≡◌, ℕ, List, Option, Some, None, Bool, true, false, refl, sym, ap, ◌∙◌, subst}
use Rattle.std.specs.Prelude.{codes, option_map, if◌then◌else◌}
use Rattle.std.proofs.lemmas.Bool.{cond-true, cond-false, cases_Bool}
use Rattle.std.proofs.Common.{⊎_elim}
use Rattle.asking_spec.specs.Askings.{answered, and_then}
use Rattle.tree_spec.proofs.FolderLemmas.{folders_from_root, folders_from_parent, folders_climb}
use Rattle.tree_spec.specs.FoldersAbove.{folders_from, Climbs, at_root, from_parent}
use Rattle.tree_spec.specs.LookAskings.{LookAsking, look_at}
use Rattle.tree_spec.specs.Paths.{IsPath, IsParent}
use Rattle.tree_spec.specs.declared.Entry.{Entry}
use Rattle.url_spec.proofs.PathDecisions.{path_by_test, test_by_path}
use Rattle.url_spec.specs.PathTests.{is_path}
use Rattle.node_spec.specs.FileLooks.{look_at_text}
use Rattle.node_spec.specs.Nearest.{Search, is_accepted, nearest_in, nearest}
use Rattle.node_spec.specs.PackageResolve.{packages, package_at, package_folder}
use Rattle.package_lookup.specs.declared.fault.LookupFault.{LookupFault}
use Rattle.package_lookup.specs.Responses.{Response, given, fails, no_memory, never, by_fault}
use Rattle.package_lookup.specs.Answered.{State, Answered}
use Rattle.package_lookup.proofs.Questions.{then_given, now_given, unfinished, looked_on, left_goes, left_begins, Left, asking_as}

-- ---- looks at texts

look_at_path : (text : List ℕ) → IsPath text → look_at text ≡ look_at_text text
look_at_path text is = sym (cond-true _ _ _ (test_by_path text is))

no_path : (text : List ℕ) → (IsPath text → ⊥) → is_path text ≡ false
no_path text none = ⊎_elim (λ e. absurd (none (path_by_test text e))) (λ e. e) (cases_Bool (is_path text))

look_at_none : (text : List ℕ) → (IsPath text → ⊥) → answered None ≡ look_at_text text
look_at_none text none = sym (cond-false _ _ _ (no_path text none))

pub text_seen : (before after : State) (path text : List ℕ) (response : Response (Option Entry)) → path ≡ text
    → IsPath text → Answered before (look_at path) response after → Answered before (look_at_text text) response after
text_seen before after path text response same is a =
    asking_as before after (look_at path) (look_at_text text) response (ap look_at same ∙ look_at_path text is) a

pub text_unseen : (before : State) (text : List ℕ) → (IsPath text → ⊥)
    → Answered before (look_at_text text) (given None) before
text_unseen before text none =
    asking_as before before (answered None) (look_at_text text) (given None) (look_at_none text none)
    (now_given before None)

-- ---- one folder

module _ (search : Search) where
  accepts : Option Entry → LookAsking Bool
  accepts found = answered (search.accepts found)

  pub seen_there : (before after : State) (folder path : List ℕ) (found : Option Entry) → path ≡ search.place folder
      → IsPath (search.place folder) → Answered before (look_at path) (given found) after
      → Answered before (is_accepted search folder) (given (search.accepts found)) after
  seen_there before after folder path found same is a =
      then_given before after after (look_at_text (search.place folder)) (λ f. answered (search.accepts f)) found
      (given (search.accepts found)) (text_seen before after path (search.place folder) (given found) same is a)
      (now_given after (search.accepts found))

  pub nothing_there : (before : State) (folder : List ℕ) → (IsPath (search.place folder) → ⊥)
      → Answered before (is_accepted search folder) (given (search.accepts None)) before
  nothing_there before folder none =
      then_given before before before (look_at_text (search.place folder)) (λ f. answered (search.accepts f)) None
      (given (search.accepts None)) (text_unseen before (search.place folder) none)
      (now_given before (search.accepts None))

  pub fault_there : (before after : State) (folder path : List ℕ) (fault : LookupFault) → path ≡ search.place folder
      → IsPath (search.place folder)
      → Answered before (look_at path) (by_fault (fails never) (fails never) fault) after
      → Answered before (is_accepted search folder) (by_fault (fails never) (fails never) fault) after
  fault_there before after folder path fault same is a =
      looked_on before after (look_at_text (search.place folder)) (λ f. answered (search.accepts f)) fault
      (text_seen before after path (search.place folder) (by_fault (fails never) (fails never) fault) same is a)

  -- ---- the nearest one

  abbrev judged : List ℕ → LookAsking (Option (List ℕ)) → Bool → LookAsking (Option (List ℕ))
  judged folder above ended =
      if ended then answered None
      else and_then (is_accepted search folder) (λ accepted. if accepted then answered (Some folder) else above)

  nearest_root : (path : List ℕ) → path ≡ codes "/"
      → nearest search path ≡ judged path (answered None) (search.ends_at path)
  nearest_root path root = ap (nearest_in search) (folders_from_root path root)

  nearest_parent : (parent path : List ℕ) → IsParent parent path
      → nearest search path ≡ judged path (nearest search parent) (search.ends_at path)
  nearest_parent parent path is = ap (nearest_in search) (folders_from_parent parent path is)

  pub record IsJudged (path : List ℕ) : Type 0 where
    pub above : LookAsking (Option (List ℕ))
    pub is : nearest search path ≡ judged path above (search.ends_at path)

  judged_first : (path : List ℕ) (folders : List (List ℕ)) → Climbs path folders
      → (above : LookAsking (Option (List ℕ))) × (nearest_in search folders ≡ judged path above (search.ends_at path))
  judged_first _ _ (at_root path root) = (answered None, refl)
  judged_first _ _ (from_parent parent path folders is climbs) = (nearest_in search folders, refl)

  is_judged : (path : List ℕ) → IsPath path → IsJudged path
  is_judged path is =
      let first = judged_first path (folders_from path) (folders_climb path is) in
      record { above = first.0; is = first.1 }

  pub search_ends : (now : State) (at : List ℕ) → IsPath at → search.ends_at at ≡ true
      → Answered now (nearest search at) (given None) now
  search_ends now at is ended =
      let first = is_judged at is in
      asking_as now now (answered None) (nearest search at) (given None)
      (sym (first.is ∙ ap (judged at first.above) ended)) (now_given now None)

  judged_on : (now : State) (at : List ℕ) (above : LookAsking (Option (List ℕ)))
      → nearest search at ≡ judged at above (search.ends_at at) → search.ends_at at ≡ false
      → nearest search at
      ≡ and_then (is_accepted search at) (λ accepted. if accepted then answered (Some at) else above)
  judged_on now at above is free = is ∙ ap (judged at above) free

  pub search_accepts : (now later : State) (at : List ℕ) → IsPath at → search.ends_at at ≡ false
      → Answered now (is_accepted search at) (given true) later
      → Answered now (nearest search at) (given (Some at)) later
  search_accepts now later at is free a =
      let first = is_judged at is in
      let next : Bool → LookAsking (Option (List ℕ)) = λ accepted. if accepted then answered (Some at) else first.above in
      asking_as now later (and_then (is_accepted search at) next) (nearest search at) (given (Some at))
      (sym (judged_on now at first.above first.is free))
      (then_given now later later (is_accepted search at) next true (given (Some at)) a (now_given later (Some at)))

  pub search_fails : (now later : State) (at : List ℕ) (fault : LookupFault) → IsPath at → search.ends_at at ≡ false
      → Answered now (is_accepted search at) (by_fault (fails never) (fails never) fault) later
      → Answered now (nearest search at) (by_fault (fails never) (fails never) fault) later
  search_fails now later at fault is free a =
      let first = is_judged at is in
      let next : Bool → LookAsking (Option (List ℕ)) = λ accepted. if accepted then answered (Some at) else first.above in
      asking_as now later (and_then (is_accepted search at) next) (nearest search at)
      (by_fault (fails never) (fails never) fault) (sym (judged_on now at first.above first.is free))
      (looked_on now later (is_accepted search at) next fault a)

  pub search_unfinished : (now later : State) (at : List ℕ) → IsPath at → search.ends_at at ≡ false
      → Answered now (is_accepted search at) (given false) later
      → Answered {X = Option (List ℕ)} now (nearest search at) (fails no_memory) later
  search_unfinished now later at is free a =
      let first = is_judged at is in
      let next : Bool → LookAsking (Option (List ℕ)) = λ accepted. if accepted then answered (Some at) else first.above in
      asking_as now later (and_then (is_accepted search at) next) (nearest search at) (fails no_memory)
      (sym (judged_on now at first.above first.is free))
      (unfinished now later (is_accepted search at) next false a)

  pub search_tops : (now later : State) (at : List ℕ) → at ≡ codes "/" → search.ends_at at ≡ false
      → Answered now (is_accepted search at) (given false) later → Answered now (nearest search at) (given None) later
  search_tops now later at root free a =
      let next : Bool → LookAsking (Option (List ℕ)) = λ accepted. if accepted then answered (Some at) else answered None in
      asking_as now later (and_then (is_accepted search at) next) (nearest search at) (given None)
      (sym (judged_on now at (answered None) (nearest_root at root) free))
      (then_given now later later (is_accepted search at) next false (given None) a (now_given later None))

  pub search_rises : (now later : State) (parent at : List ℕ) → IsParent parent at → search.ends_at at ≡ false
      → Answered now (is_accepted search at) (given false) later
      → Left now (nearest search at) later (nearest search parent)
  search_rises now later parent at is free a =
      let next : Bool → LookAsking (Option (List ℕ)) = λ accepted. if accepted then answered (Some at) else nearest search parent in
      subst (λ whole. Left now whole later (nearest search parent))
      (sym (judged_on now at (nearest search parent) (nearest_parent parent at is) free))
      (left_goes now now later (and_then (is_accepted search at) next) (is_accepted search at) next false
      (left_begins now (and_then (is_accepted search at) next)) a)

-- ---- a package's folder

pub package_none : (before after : State) (from name : List ℕ)
    → Answered before (nearest (packages name) from) (given None) after
    → Answered before (package_folder from name) (given None) after
package_none before after from name a =
    then_given before after after (nearest (packages name) from) (λ found. answered (option_map (package_at name) found))
    None (given None) a (now_given after None)

pub package_found : (before after : State) (from name at : List ℕ)
    → Answered before (nearest (packages name) from) (given (Some at)) after
    → Answered before (package_folder from name) (given (Some (package_at name at))) after
package_found before after from name at a =
    then_given before after after (nearest (packages name) from) (λ found. answered (option_map (package_at name) found))
    (Some at) (given (Some (package_at name at))) a (now_given after (Some (package_at name at)))

pub package_fails : (before after : State) (from name : List ℕ) (fault : LookupFault)
    → Answered before (nearest (packages name) from) (by_fault (fails never) (fails never) fault) after
    → Answered before (package_folder from name) (by_fault (fails never) (fails never) fault) after
package_fails before after from name fault a =
    looked_on before after (nearest (packages name) from) (λ found. answered (option_map (package_at name) found)) fault a
