-- What an edit makes of a session.
use Rattle.std.proofs.Common.{◌≡◌, ℕ, List, Some, Result, Ok, Err, refl, sym, ap, ◌∙◌, subst}
use Rattle.std.specs.FinMap.{get}
use Rattle.std.specs.Prelude.{Contains}
use Rattle.tree_spec.specs.States.{FolderState}
use Rattle.tree_spec.specs.Trees.{Tree}
use Rattle.trace_spec.specs.Laws.{IsLookedAt}
use Rattle.trace_spec.specs.Modules.{Config}
use Rattle.config_spec.specs.declared.Command.TheVariants.{Refresh}
use Rattle.generator_spec.specs.Commands.{Refuses, IsRefusalOf}
use Rattle.package_lookup.specs.declared.over.Over.{Over}
use Rattle.package_lookup.specs.LaidTrees.{StandsBehind, IsLaid}
use Rattle.package_lookup.specs.Looked.{over_at}
use Rattle.package_lookup.proofs.Laying.{laid_alike}
use Rattle.generation.specs.declared.generated.Generated.{Generated}
use Rattle.generation.specs.declared.stop.Stop.{Stop}
use Rattle.generation.specs.declared.stop.Stop.TheVariants as map
use Rattle.request_trace.specs.Tracing.{StepsByFresh}
use Rattle.kept_trace.proofs.FreshQuestions.{fresh_is_by_trees}
use Rattle.kept_trace.specs.Ready.{AreAllRight, is_anew}
use Rattle.session_spec.specs.declared.Change.{Change}
use Rattle.session_spec.specs.EditLooks.{edit_looks, IsEditLook, of_change, of_generation}
use Rattle.session_spec.specs.Edits.{Draft, edited}
use Rattle.session_spec.specs.Replies.{accepted_line}
use Rattle.session_spec.specs.SessionStates.{SessionState, draft_of, config_with, IsGenerated}
use Rattle.kept_trace.specs.declared.kept.Kept.{Kept}
use Rattle.edit_session.specs.KeptAnswers.{AreAnswersOf}
use Rattle.edit_session.specs.LooksOn.{LooksOn}
use Rattle.edit_session.specs.Mapping.{IsKeptFor}
use Rattle.edit_session.specs.Making.{Work, work, IsDraftOf, LeavesDraft}
use Rattle.edit_session.specs.SessionTrees.{counts_in}
use Rattle.edit_session.specs.Sessions.{StopsEdit, CanStopEdit}
use Rattle.edit_session.specs.Steps.{LeadsTo, CanLackMap, IsAsBefore, GeneratesNext, MakesNext, TakesFreshOf}
use Rattle.edit_session.specs.Stopping.{stop_by, stop_for}
use Rattle.edit_session.specs.Shown.{Shows, KeepsShown, PlansFor}
use Rattle.edit_session.specs.Trying.{IfLaid, TriesMap}
use Rattle.edit_session.specs.SessionParts.{Parts, IsPartsOf}
use Rattle.edit_session.specs.declared.session.Pending.{Pending}
use Rattle.edit_session.specs.declared.stop.ChangeStop.{ChangeStop}
use Rattle.edit_session.specs.declared.stop.ChangeStop.TheVariants as change
use Rattle.edit_session.specs.declared.stop.EditStop.{EditStop}
use Rattle.edit_session.specs.declared.stop.EditStop.TheVariants.{Change as NoChange, Generation, ReadFault, Memory}
use Rattle.edit_session.proofs.DraftsMade.{MakesAll}
use Rattle.edit_session.proofs.FrugalEdits.{frugal}
use Rattle.edit_session.proofs.LookedOn.{looks_on_then, looks_on_as, looks_on_nothing}
use Rattle.edit_session.proofs.ShownTraces.{has_plan, keeps_itself, plans_as}

abbrev Next : Type 0
Next = Result Pending EditStop

abbrev stopped : EditStop → Next
stopped stop = Err stop

abbrev next_of : Pending → Next
next_of pending = Ok pending

abbrev all_made : Result (Unit {0}) ChangeStop
all_made = Ok tt

abbrev no_map : Stop → Result Generated Stop
no_map stop = Err stop

abbrev made_stop : ChangeStop → Result (Unit {0}) ChangeStop
made_stop stop = Err stop

-- ---- the map for what the changes leave

module _ (before after : FolderState) (old new : Parts) (over left : Over) (entries : List (List ℕ))
    (same : IsAsBefore old new) (keeps_shown : KeepsShown old.shown.links new.shown.links) where
  abbrev Right : Type 0
  Right = AreAllRight old.answers.kept

  abbrev Asked : Tree → List ℕ → Type 0
  Asked tree path =
      Right → (seen : Tree) → StandsBehind tree old.known → IsLaid tree over seen
      → IsLookedAt (get seen) (config_with old.config entries) path

  looks_so : (result : Result Generated Stop) (next : Next) → (next ≡ Err ReadFault → result ≡ Err map.ReadFault)
      → (result ≡ Err map.ReadFault → next ≡ Err ReadFault) → (result ≡ Err map.Memory → next ≡ Err Memory)
      → TriesMap Right before old.known old.config over entries result after new.known left
      → LooksOn before old.known after new.known (next ≡ Err ReadFault) (next ≡ Err Memory) Asked
  looks_so result next back on weaker tries =
      looks_on_as before after old.known new.known (result ≡ Err map.ReadFault) (result ≡ Err map.Memory)
      (next ≡ Err ReadFault) (next ≡ Err Memory) Asked Asked back on weaker (λ tree path e is. is) tries.looks

  pub no_next : (stop : Stop) → TriesMap Right before old.known old.config over entries (Err stop) after new.known left
      → GeneratesNext before old over entries (Err (stop_for stop)) after new
  no_next (map.Refused why) tries = record {
    same = same;
    looks = looks_so (no_map (map.Refused why)) (stopped (Generation why)) (λ e. absurd (cc)) (λ e. absurd (cc)) (λ e. absurd (cc)) tries;
    same_over = tt;
    same_entries = tt;
    generated = tt;
    refused = λ holds tree seen e behind laid. tries.refused holds tree seen e behind laid;
    kind = tries.kind;
    keeps = tt;
    shown = keeps_shown;
    plans = tt;
  }
  no_next map.ReadFault tries = record {
    same = same;
    looks = looks_so (no_map map.ReadFault) (stopped ReadFault) (λ e. refl) (λ e. refl) (λ e. absurd (cc)) tries;
    same_over = tt;
    same_entries = tt;
    generated = tt;
    refused = λ holds tree seen e behind laid. tt;
    kind = tt;
    keeps = tt;
    shown = keeps_shown;
    plans = tt;
  }
  no_next map.Memory tries = record {
    same = same;
    looks = looks_so (no_map map.Memory) (stopped Memory) (λ e. absurd (cc)) (λ e. absurd (cc)) (λ e. refl) tries;
    same_over = tt;
    same_entries = tt;
    generated = tt;
    refused = λ holds tree seen e behind laid. tt;
    kind = tt;
    keeps = tt;
    shown = keeps_shown;
    plans = tt;
  }

  pub has_next : (pending : Pending) → pending.over ≡ left → pending.entries ≡ entries
      → IfLaid Right before old.known over (IsKeptFor old.answers.kept (config_with old.config entries) new.answers.next)
      → PlansFor (IfLaid Right before old.known over) (config_with old.config entries) new.shown
      → TriesMap Right before old.known old.config over entries (Ok pending.generated) after new.known left
      → GeneratesNext before old over entries (Ok pending) after new
  has_next pending over_is entries_are keeps plans tries = record {
    same = same;
    looks = looks_so (Ok pending.generated) (next_of pending) (λ e. absurd (cc)) (λ e. absurd (cc)) (λ e. absurd (cc)) tries;
    same_over = λ path. ap (λ o. over_at o path) over_is ∙ tries.same_over path;
    same_entries = entries_are;
    generated = tries.generated;
    refused = tt;
    kind = tt;
    keeps = keeps;
    shown = keeps_shown;
    plans = plans;
  }

-- ---- an edit

module _ (before middle : FolderState) (old mid : Parts) (edit : List Change) (over between : Over)
    (entries later_entries : List (List ℕ)) (is_copy : (path : List ℕ) → over_at over path ≡ over_at old.known.laid path)
    (are_copied : entries ≡ old.config.entries) (same : IsAsBefore old mid) (same_shown : mid.shown ≡ old.shown) where
  keeps_so : KeepsShown old.shown.links mid.shown.links
  keeps_so = subst (λ (s : Shows). KeepsShown old.shown.links s.links) (sym same_shown) (keeps_itself old.shown.links)

  abbrev first : Work
  first = work before old.known over entries

  abbrev second : Work
  second = work middle mid.known between later_entries

  draft_is : (tree : Tree) (state : SessionState) → IsPartsOf tree old state → IsDraftOf tree first (draft_of state)
  draft_is tree state is = record {
    seen = record {
      stands = is.stands;
      laid = laid_alike tree state.tree old.known.laid over is_copy is.is_state.laid;
      is_tree = is.is_state.is_tree;
    };
    entries_are = ap (λ (config : Config). config.entries) is.is_state.config_is ∙ sym are_copied;
  }

  abbrev AsksChange : Tree → List ℕ → Type 0
  AsksChange tree path = (draft : Draft) → IsDraftOf tree first draft → Contains (edit_looks draft edit) path

  abbrev AsksEdit : Tree → List ℕ → Type 0
  AsksEdit tree path = (state : SessionState) → IsPartsOf tree old state → IsEditLook state edit path

  asks_change : (tree : Tree) (path : List ℕ) → before.holds ≡ Some tree → AsksChange tree path → AsksEdit tree path
  asks_change tree path e there state is = of_change (there (draft_of state) (draft_is tree state is))

  pub no_change : (stop : ChangeStop) → MakesAll edit first (Err stop) second
      → MakesNext before old edit (Err (stop_by stop)) middle mid
  no_change (change.Refused fault) makes = record {
    same = same;
    looks = looks_on_as before middle old.known mid.known (made_stop (change.Refused fault) ≡ Err change.ReadFault)
        (made_stop (change.Refused fault) ≡ Err change.Memory) (stopped (NoChange fault) ≡ Err ReadFault)
        (stopped (NoChange fault) ≡ Err Memory) AsksChange AsksEdit (λ e. absurd (cc)) (λ e. absurd (cc))
        (λ e. absurd (cc)) asks_change makes.looks;
    accepted = tt;
    refused = λ tree state e is. makes.leaves tree (draft_of state) e (draft_is tree state is);
    kind = makes.kind;
    shown = keeps_so;
    has_plan = tt;
  }
  no_change change.ReadFault makes = record {
    same = same;
    looks = looks_on_as before middle old.known mid.known (made_stop change.ReadFault ≡ Err change.ReadFault)
        (made_stop change.ReadFault ≡ Err change.Memory) (stopped ReadFault ≡ Err ReadFault)
        (stopped ReadFault ≡ Err Memory) AsksChange AsksEdit (λ e. refl) (λ e. refl)
        (λ e. absurd (cc)) asks_change makes.looks;
    accepted = tt;
    refused = λ tree state e is. tt;
    kind = tt;
    shown = keeps_so;
    has_plan = tt;
  }
  no_change change.Memory makes = record {
    same = same;
    looks = looks_on_as before middle old.known mid.known (made_stop change.Memory ≡ Err change.ReadFault)
        (made_stop change.Memory ≡ Err change.Memory) (stopped Memory ≡ Err ReadFault)
        (stopped Memory ≡ Err Memory) AsksChange AsksEdit (λ e. absurd (cc)) (λ e. absurd (cc))
        (λ e. refl) asks_change makes.looks;
    accepted = tt;
    refused = λ tree state e is. tt;
    kind = tt;
    shown = keeps_so;
    has_plan = tt;
  }

  -- ---- all changes are made

  module _ (makes : MakesAll edit first (Ok tt) second) (after : FolderState) (new : Parts) (result : Next)
      (generates : GeneratesNext middle mid between later_entries result after new) where
    told_on : (tree : Tree) → before.holds ≡ Some tree → middle.holds ≡ Some tree
    told_on tree e = makes.looks.looks.tree ∙ e

    left_by : (tree : Tree) (state : SessionState) → before.holds ≡ Some tree → IsPartsOf tree old state
        → LeavesDraft tree (edited (draft_of state) edit) (Ok tt) second
    left_by tree state e is = makes.leaves tree (draft_of state) e (draft_is tree state is)

    right_so : (tree : Tree) (state : SessionState) → IsPartsOf tree old state → AreAllRight mid.answers.kept
    right_so tree state is = subst AreAllRight (sym same.answers) is.answers.right

    under_so : (tree : Tree) (state : SessionState) → IsPartsOf tree old state
        → mid.answers.kept.requests.names ≡ mid.config.conditions
    under_so tree state is =
        ap (λ (kept : Kept). kept.requests.names) same.answers
        ∙ (is.answers.under ∙ ap (λ (config : Config). config.conditions) (is.is_state.config_is ∙ sym same.config))

    -- the config for which it is generated
    config_so : (state : SessionState) (draft : Draft) → state.config ≡ old.config → draft.entries ≡ later_entries
        → config_with mid.config later_entries ≡ config_with state.config draft.entries
    config_so state draft e f =
        ap (λ (config : Config). config_with config later_entries) (same.config ∙ sym e)
        ∙ ap (config_with state.config) (sym f)

    abbrev AsksMap : Tree → List ℕ → Type 0
    AsksMap tree path =
        AreAllRight mid.answers.kept → (seen : Tree) → StandsBehind tree mid.known → IsLaid tree between seen
        → IsLookedAt (get seen) (config_with mid.config later_entries) path

    asks_map : (tree : Tree) (path : List ℕ) → before.holds ≡ Some tree → AsksMap tree path → AsksEdit tree path
    asks_map tree path e there state is =
        (let next = left_by tree state e is in
        of_generation next.0 next.1
        (subst (λ config. IsLookedAt (get next.0.tree) config path)
        (config_so state next.0 is.is_state.config_is next.2.entries_are)
        (there (right_so tree state is) next.0.tree next.2.seen.stands next.2.seen.laid)))

    pub frugal_all : (from to : ℕ)
        → IfLaid (AreAllRight mid.answers.kept) middle mid.known between
        (λ seen. StepsByFresh (is_anew mid.answers.kept) (get seen) (config_with mid.config later_entries) from to)
        → TakesFreshOf before old edit from to
    frugal_all from to taken tree state e is =
        (let next = left_by tree state e is in
        frugal fresh_is_by_trees mid.answers.kept state
        (subst (λ (kept : Kept). AreAnswersOf kept state.tree state.config) (sym kept_so) is.answers) edit next.0 next.1
        from to
        (subst (λ config. StepsByFresh (is_anew mid.answers.kept) (get next.0.tree) config from to)
        (config_so state next.0 is.is_state.config_is next.2.entries_are)
        (taken (right_so tree state is) tree next.0.tree (told_on tree e) next.2.seen.stands next.2.seen.laid)))
      where
        kept_so : mid.answers.kept ≡ old.answers.kept
        kept_so = same.answers

    looks_all : LooksOn before old.known after new.known (result ≡ Err ReadFault) (result ≡ Err Memory) AsksEdit
    looks_all =
        looks_on_then before middle after old.known mid.known new.known
        (all_made ≡ Err change.ReadFault)
        (all_made ≡ Err change.Memory) (result ≡ Err ReadFault)
        (result ≡ Err Memory) AsksChange AsksMap AsksEdit (λ e. absurd (cc)) (λ e. absurd (cc)) asks_change asks_map
        makes.looks generates.looks

    shown_all : KeepsShown old.shown.links new.shown.links
    shown_all = subst (λ (s : Shows). KeepsShown s.links new.shown.links) same_shown generates.shown

    same_all : IsAsBefore old new
    same_all = record {
      config = generates.same.config ∙ same.config;
      generated = generates.same.generated ∙ same.generated;
      answers = generates.same.answers ∙ same.answers;
    }

  module _ (makes : MakesAll edit first (Ok tt) second) (after : FolderState) (new : Parts) where
    leads : (pending : Pending) → GeneratesNext middle mid between later_entries (Ok pending) after new → (tree : Tree)
        (state : SessionState) → before.holds ≡ Some tree → IsPartsOf tree old state
        → LeadsTo tree state edit old.config pending new.answers.next new.shown
    leads pending generates tree state e is =
        (let next = left_by makes after new (next_of pending) generates tree state e is in
        let entries_so : next.0.entries ≡ pending.entries = next.2.entries_are ∙ sym generates.same_entries in
        let config_is : config_with mid.config later_entries ≡ config_with old.config pending.entries =
        ap (λ (config : Config). config_with config later_entries) same.config
        ∙ ap (config_with old.config) (sym generates.same_entries) in
        let state_after : SessionState = record {
          tree = next.0.tree;
          config = config_with old.config pending.entries;
          map = pending.generated.map.items;
          counts = counts_in pending.generated;
        } in
        record {
          next = state_after;
          line = accepted_line (counts_in pending.generated);
          is_state = record {
            laid = laid_alike tree next.0.tree between pending.over generates.same_over next.2.seen.laid;
            is_tree = next.2.seen.is_tree;
            config_is = refl;
            map_is = refl;
            counts_are = refl;
          };
          accepted = record {
            made = next.1 ∙ (λ i. Ok (record { tree = next.0.tree; entries = entries_so i }));
            same_project = ap (λ (config : Config). config_with config pending.entries) (sym is.is_state.config_is);
            current = subst (λ config. IsGenerated next.0.tree config pending.generated.map.items (counts_in pending.generated))
                config_is
                (generates.generated (right_so makes after new (next_of pending) generates tree state is) tree next.0.tree (told_on makes after new (next_of pending) generates tree e) next.2.seen.stands next.2.seen.laid);
            said = refl;
          };
          answers = subst (λ config. AreAnswersOf new.answers.next next.0.tree config) config_is
              (generates.keeps (right_so makes after new (next_of pending) generates tree state is) tree next.0.tree
              (told_on makes after new (next_of pending) generates tree e) next.2.seen.stands next.2.seen.laid
              (under_so makes after new (next_of pending) generates tree state is));
          plans = subst (λ (config : Config). PlansFor (λ P. P next.0.tree) config new.shown) config_is
              (plans_as (IfLaid (AreAllRight mid.answers.kept) middle mid.known between) (λ P. P next.0.tree)
              (config_with mid.config later_entries) new.shown
              (λ l so.
              so (right_so makes after new (next_of pending) generates tree state is) tree next.0.tree
              (told_on makes after new (next_of pending) generates tree e) next.2.seen.stands next.2.seen.laid)
              generates.plans);
        })

    pub accepted_next : (pending : Pending) → GeneratesNext middle mid between later_entries (Ok pending) after new
        → MakesNext before old edit (Ok pending) after new
    accepted_next pending generates = record {
      same = same_all makes after new (next_of pending) generates;
      looks = looks_all makes after new (next_of pending) generates;
      accepted = λ tree state e is. leads pending generates tree state e is;
      refused = tt;
      kind = tt;
      shown = shown_all makes after new (next_of pending) generates;
      has_plan = has_plan (IfLaid (AreAllRight mid.answers.kept) middle mid.known between) (config_with mid.config later_entries)
          new.shown generates.plans;
    }

    refused_so : (stop : EditStop) → GeneratesNext middle mid between later_entries (Err stop) after new → (tree : Tree)
        (state : SessionState) → before.holds ≡ Some tree → IsPartsOf tree old state → StopsEdit state edit stop
    refused_so (NoChange fault) generates tree state e is =
        (let next = left_by makes after new (stopped (NoChange fault)) generates tree state e is in
        absurd
        (generates.refused (right_so makes after new (stopped (NoChange fault)) generates tree state is) tree next.0.tree
        (told_on makes after new (stopped (NoChange fault)) generates tree e) next.2.seen.stands next.2.seen.laid))
    refused_so (Generation why) generates tree state e is =
        (let stop = Generation why in
        let next = left_by makes after new (stopped stop) generates tree state e is in
        record {
          draft = next.0;
          made = next.1;
          refuses = subst (λ config. Refuses next.0.tree config Refresh why)
              (config_so makes after new (stopped stop) generates state next.0 is.is_state.config_is next.2.entries_are)
              (generates.refused (right_so makes after new (stopped stop) generates tree state is) tree next.0.tree
              (told_on makes after new (stopped stop) generates tree e) next.2.seen.stands next.2.seen.laid);
        })
    refused_so ReadFault generates tree state e is = tt
    refused_so Memory generates tree state e is = tt

    kind_so : (stop : EditStop) → CanLackMap (config_with mid.config later_entries) stop → CanStopEdit old.config edit stop
    kind_so (NoChange fault) is = absurd is
    kind_so (Generation why) is =
        (later_entries, subst (λ (config : Config). IsRefusalOf (config_with config later_entries) Refresh why) same.config is)
    kind_so ReadFault is = tt
    kind_so Memory is = tt

    pub refused_next : (stop : EditStop) → GeneratesNext middle mid between later_entries (Err stop) after new
        → MakesNext before old edit (Err stop) after new
    refused_next stop generates = record {
      same = same_all makes after new (stopped stop) generates;
      looks = looks_all makes after new (stopped stop) generates;
      accepted = tt;
      refused = refused_so stop generates;
      kind = kind_so stop generates.kind;
      shown = shown_all makes after new (stopped stop) generates;
      has_plan = tt;
    }

pub lacks_next : (before : FolderState) (old : Parts) (edit : List Change)
    → MakesNext before old edit (Err Memory) before old
lacks_next before old edit = record {
  same = record { config = refl; generated = refl; answers = refl };
  looks = looks_on_nothing before old.known (stopped Memory ≡ Err ReadFault) (stopped Memory ≡ Err Memory)
      (λ tree path. (state : SessionState) → IsPartsOf tree old state → IsEditLook state edit path) (λ e. absurd (cc));
  accepted = tt;
  refused = λ tree state e is. tt;
  kind = tt;
  shown = keeps_itself old.shown.links;
  has_plan = tt;
}

-- whatever comes of the map
module _ (before middle : FolderState) (old mid : Parts) (edit : List Change) (over between : Over)
    (entries later_entries : List (List ℕ)) (is_copy : (path : List ℕ) → over_at over path ≡ over_at old.known.laid path)
    (are_copied : entries ≡ old.config.entries) (same : IsAsBefore old mid) (same_shown : mid.shown ≡ old.shown)
    (makes : MakesAll edit (work before old.known over entries) (Ok tt) (work middle mid.known between later_entries))
    (after : FolderState) (new : Parts) where
  pub made_next : (result : Next) → GeneratesNext middle mid between later_entries result after new
      → MakesNext before old edit result after new
  made_next (Ok pending) generates =
      accepted_next before middle old mid edit over between entries later_entries is_copy are_copied same same_shown makes after new
      pending generates
  made_next (Err stop) generates =
      refused_next before middle old mid edit over between entries later_entries is_copy are_copied same same_shown makes after new
      stop generates
