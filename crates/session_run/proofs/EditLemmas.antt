-- What an edit of a session comes to, as it is told.
use Rattle.std.proofs.Common.{◌≡◌, ◌≤◌, [], ◌∷◌, ℕ, List, length, true, false, Option, Some, None, Result, Ok, Err, inl, inr, refl, sym, ap, ◌∙◌, subst, arith, one-mul}
use Rattle.std.proofs.lemmas.List.Elements.{All-weaker}
use Rattle.std.specs.Prelude.{◌+◌, ◌*◌, ◌⊎◌, All, IfSome, is_some}
use Rattle.tree_spec.specs.Counts.{Rose}
use Rattle.tree_spec.specs.States.{FolderState}
use Rattle.tree_spec.specs.Trees.{Tree}
use Rattle.tree_spec.specs.declared.Look.{Look}
use Rattle.tree_spec.proofs.ToldStates.{if_some, if_all}
use Rattle.slot_arena.specs.Slots.{Place, value_at}
use Rattle.slot_arena.specs.declared.slot.Slot.{Slot}
use Rattle.module_graph.specs.declared.module.Module as vertex
use Rattle.trace_graph.specs.Links.{Links, IsLive}
use Rattle.session_watch.specs.Seen.{Grows, showing_of, shown_at, vertex_shown}
use Rattle.generator_spec.specs.Lines.{line_of}
use Rattle.package_lookup.specs.Looked.{kept_at}
use Rattle.session_spec.specs.declared.Change.{Change}
use Rattle.session_spec.specs.EditLooks.{IsEditLook}
use Rattle.session_spec.specs.Edits.{edited}
use Rattle.session_spec.specs.Frugality.{IsFrugal}
use Rattle.session_spec.specs.Replies.{IsRefused, IsAccepted, fault_line, accepted_line}
use Rattle.session_spec.specs.SessionDoings.{SeesMore, Display, GraphGoes, goes_on, begins_anew, ShowsNext, ShowsSame, DoesEdit as does_edit, MayShow, MayShow as may}
use Rattle.session_spec.specs.SessionStates.{SessionState, draft_of}
use Rattle.session_spec.specs.Showings.{Shown, KeepsSlots, made_at_once}
use Rattle.session_spec.specs.SessionSteps.{generations, most_steps}
use Rattle.session_spec.proofs.SessionSpending.{few_by_none}
use Rattle.request_trace.specs.Tracing.{TakesSteps}
use Rattle.edit_session.specs.NewLooks.{AsksNew as LooksAsked, LooksNew}
use Rattle.edit_session.specs.Sessions.{Accepts, Prepares, BecomesBy, Commits}
use Rattle.edit_session.specs.Shown.{KeepsShown, SlotsGo}
use Rattle.edit_session.specs.SessionTrees.{IsSessionOf, IsPendingOf, shown_map, shown_counts, shown_in, showing_in, steps_in, pending_steps}
use Rattle.edit_session.specs.declared.session.Prepared.{Prepared}
use Rattle.edit_session.specs.declared.session.Prepared.TheVariants.{Same, Changed}
use Rattle.edit_session.specs.declared.session.Session.{Session}
use Rattle.edit_session.specs.declared.stop.EditStop.{EditStop}
use Rattle.edit_session.specs.declared.stop.EditStop.TheVariants as stop
use Rattle.session_talk.specs.EditorLooks.{LookState, AsksUnkept, AsksAndKeeps, AsksSome, AsksKeeping, EditAsks}
use Rattle.session_talk.specs.Editors.{EditorState, AsksFor, Seen, IsReplied, EditsTold, Comes, EditSpends, Edits, Shows}
use Rattle.session_talk.specs.declared.editor.EditorFault.{EditorFault}
use Rattle.session_talk.specs.declared.editor.EditorFault.TheVariants.{ReadFault, Memory}
use Rattle.session_talk.proofs.AskLemmas.{some_of_keeping}
use Rattle.session_talk.proofs.TalkLemmas.{sees_nothing}
use Rattle.session_run.specs.Editing.{IsToldBy, IsViewOf, display_of, look_state, SaysLine, SaysShown, unshown, shown, SaysStop}

pub at_tree : (P : Tree → Type 0) (told : Option Tree) (tree : Tree) → told ≡ Some tree → IfSome told P → P tree
at_tree P told tree e p = subst (λ (t : Option Tree). IfSome t P) e p

-- ---- steps

none_or_same : (pending : Option Prepared) → pending ≡ None → pending ≡ Some Same → ⊥
none_or_same pending none same = (let no : None ≡ Some Same = sym none ∙ same in absurd (cc))

pub few_steps : (before after : FolderState) (old new : Session) (edit : List Change) (result : Result (Unit {0}) EditStop) (spent spent_after : ℕ) → Prepares before old edit result after new
    → TakesSteps result (λ done. pending_steps new) spent spent_after → spent_after ≤ spent + generations edit * most_steps
few_steps before after old new [] (Ok done) spent spent_after prepares takes =
    few_by_none spent spent_after most_steps (let few : spent_after ≤ spent + 0 = subst (λ (pending : Option Prepared). spent_after ≤ spent + steps_in pending) (prepares.same.0 refl) takes.counted in omega (arith, few))
few_steps before after old new [] (Err stop) spent spent_after prepares takes = absurd (none_or_same new.pending prepares.nothing_pending (prepares.same.0 refl))
few_steps before after old new (change ∷ more) result spent spent_after prepares takes = subst (λ (n : ℕ). spent_after ≤ spent + n) (sym (one-mul most_steps)) takes.bounded

-- ---- what is shown

same_at : (graph other : List (Place vertex.Module)) → ((s : Slot) → value_at other s ≡ value_at graph s) → (slots : List Slot) → showing_of other slots ≡ showing_of graph slots
same_at graph other values [] = refl
same_at graph other values (s ∷ slots) = ap (λ (v : Shown). v ∷ showing_of other slots) (ap (vertex_shown s) (values s)) ∙ ap (λ (more : List Shown). shown_at graph s ∷ more) (same_at graph other values slots)

same_showing : (old new : Links) → KeepsShown old new → showing_of new.graph new.slots ≡ showing_of old.graph old.slots
same_showing old new keeps = ap (showing_of new.graph) keeps.same.slots ∙ same_at old.graph new.graph keeps.same.values old.slots

stays_shown : (old new : Session) (display : Display) → display ≡ display_of old → KeepsShown (shown_in old) (shown_in new) → ShowsSame display (display_of new)
stays_shown old new display is keeps = record {
  same = same_showing (shown_in old) (shown_in new) keeps ∙ sym (ap (λ (d : Display). d.shown) is);
  few = subst (λ (n : ℕ). length (shown_in new).graph ≤ n + made_at_once) (sym (ap (λ (d : Display). d.made) is)) keeps.few;
}

few_then : (before mid after more : ℕ) → mid ≤ before + more → (after ≡ mid) ⊎ (after ≤ more) → after ≤ before + more
few_then before mid after more few (inl same) = omega (arith, few, same)
few_then before mid after more few (inr fewer) = omega (arith, fewer)

places_then : (old new : Session) (prepared : Prepared) → BecomesBy old prepared new → (length (shown_in new).graph ≡ length (shown_in old).graph) ⊎ (length (shown_in new).graph ≤ made_at_once)
places_then old new Same stays = inl (ap (λ (l : Links). length l.graph) stays.shown)
places_then old new (Changed pending) steps = steps.places

-- to a watch the session's own slots and graph are handed
module _ (session : Session) (slots : List Slot) (same : slots ≡ (shown_in session).slots) (graph : List (Place vertex.Module)) (is : graph ≡ (shown_in session).graph) where
  pub watch_live : All (IsLive (shown_in session).graph) (shown_in session).slots → All (IsLive graph) slots
  watch_live live = subst (λ (l : List Slot). All (IsLive graph) l) (sym same) (subst (λ (g : List (Place vertex.Module)). All (IsLive g) (shown_in session).slots) (sym is) live)

  pub watch_shown : (seen seen_after : Option (List (List Shown))) → Grows seen seen_after (showing_of graph slots) → Grows seen seen_after (showing_in session)
  watch_shown seen seen_after grows =
      subst (λ (l : List Slot). Grows seen seen_after (showing_of (shown_in session).graph l)) same (subst (λ (g : List (Place vertex.Module)). Grows seen seen_after (showing_of g slots)) is grows)

-- ---- replies

module _ (before after : FolderState) (old new : Session) (edit : List Change) (view : EditorState) (seen : Option (List (List Shown))) (spent spent_after : ℕ) (few : spent_after ≤ spent + generations edit * most_steps)
    (fresh : IfSome before.holds (λ tree. (state : SessionState) → IsSessionOf tree old state → IsFrugal state edit spent spent_after)) (is : IsViewOf before old seen spent view) where
  abbrev left_view : EditorState
  left_view = record { told = view.told; faults = after.look_faults; asked = after.asked; spent = spent_after; display = display_of new; seen = seen }

  sees_none : SeesMore view.seen [] seen
  sees_none = subst (λ (s : Option (List (List Shown))). SeesMore s [] seen) (sym is.seen) (sees_nothing seen)

  abbrev TakesFresh : Tree → Type 0
  TakesFresh tree = (state : SessionState) → IsSessionOf tree old state → IsFrugal state edit spent spent_after

  frugal_told : (told : Option SessionState) → IsToldBy before old told → IfSome told (λ state. IsFrugal state edit spent spent_after)
  frugal_told None none = tt
  frugal_told (Some state) stands = at_tree TakesFresh before.holds stands.tree stands.holds fresh state stands.is_state

  spends : (told : Option SessionState) (display : Display) (seen : Option (List (List Shown))) → EditSpends view edit (record { told = told; faults = after.look_faults; asked = after.asked; spent = spent_after; display = display; seen = seen })
  spends told display seen = record {
    most = subst (λ (n : ℕ). spent_after ≤ n + generations edit * most_steps) (sym is.spent) few;
    frugal = subst (λ (n : ℕ). IfSome view.told (λ state. IsFrugal state edit n spent_after)) (sym is.spent) (frugal_told view.told is.told);
  }

  abbrev Stays : Tree → Type 0
  Stays tree = (state : SessionState) → IsSessionOf tree old state → IsSessionOf tree new state

  told_still : (result : Result (Unit {0}) EditStop) → Prepares before old edit result after new → (told : Option SessionState) → IsToldBy before old told → IsToldBy after new told
  told_still result prepares None none = prepares.looks.looks.tree ∙ none
  told_still result prepares (Some state) stands = record {
    tree = stands.tree;
    holds = prepares.looks.looks.tree ∙ stands.holds;
    is_state = at_tree Stays before.holds stands.tree stands.holds prepares.stays state stands.is_state;
  }

  abbrev LooksThere : List ℕ → Tree → Type 0
  LooksThere path tree = (state : SessionState) → IsSessionOf tree old state → IsEditLook state edit path

  looks_told : (result : Result (Unit {0}) EditStop) → Prepares before old edit result after new → (told : Option SessionState) → IsToldBy before old told
      → IfSome told (λ state. IfSome view.asked (λ list. AsksFor (IsEditLook state edit) list after.asked))
  looks_told result prepares None none = tt
  looks_told result prepares (Some state) stands =
      subst (λ (t : Option (List (List ℕ))). IfSome t (λ list. AsksFor (IsEditLook state edit) list after.asked)) (sym is.asked)
      (if_some before.asked (λ list asks. record {
        more = asks.more;
        is = asks.asked;
        among = All-weaker (λ path. IfSome before.holds (LooksThere path)) (IsEditLook state edit)
            (λ path seen. at_tree (LooksThere path) before.holds stands.tree stands.holds seen state stands.is_state) asks.more asks.among;
      }) prepares.looks.asked)

  -- ---- what is refused

  module _ (fault : EditStop) (prepares : Prepares before old edit (Err fault) after new) where
    abbrev IsWhyOf : List ℕ → Tree → Type 0
    IsWhyOf line tree = (state : SessionState) → IsSessionOf tree old state → IsRefused state (edited (draft_of state) edit) line

    abbrev IsWhy : List ℕ → Type 0
    IsWhy line = IfSome before.holds (IsWhyOf line)

    refused_replied : (line : List ℕ) → IsWhy line → (told : Option SessionState) → IsToldBy before old told
        → IfSome told (λ state. IsReplied state edit line view [] (record { told = told; faults = after.look_faults; asked = after.asked; spent = spent_after; display = display_of new; seen = seen }))
    refused_replied line why None none = tt
    refused_replied line why (Some state) stands = record {
      next = state;
      does = does_edit.refused line (at_tree (IsWhyOf line) before.holds stands.tree stands.holds why state stands.is_state) (stays_shown old new view.display is.display prepares.shown);
      is_told = refl;
    }

    says_why : (line : List ℕ) (result : Result (List ℕ) EditorFault) → IsWhy line → after.look_faults ≡ before.look_faults → SaysLine line result → Comes view edit [] result left_view
    says_why line (Ok text) why quiet says =
        subst (λ (l : List ℕ). EditsTold view edit l [] left_view) (sym says)
        (record { replied = refused_replied line why view.told is.told; untold = λ e. e; quiet = quiet ∙ sym is.faults })
    says_why line (Err ReadFault) why quiet says = absurd says
    says_why line (Err Memory) why quiet says = (quiet ∙ sym is.faults, if_all view.told (λ state. may.nothing))

  stopped_edits : (fault : EditStop) (result : Result (List ℕ) EditorFault) → Prepares before old edit (Err fault) after new → SaysStop fault result → Comes view edit [] result left_view
  stopped_edits (stop.Change fault) result prepares says =
      says_why (stop.Change fault) prepares (fault_line fault) result prepares.refused (prepares.looks.looks.quiet (λ e. cc)) says
  stopped_edits (stop.Generation why) result prepares says =
      says_why (stop.Generation why) prepares (line_of why) result prepares.refused (prepares.looks.looks.quiet (λ e. cc)) says
  stopped_edits stop.ReadFault result prepares says =
      subst (λ (r : Result (List ℕ) EditorFault). Comes view edit [] r left_view) (sym says)
      (subst (λ (n : ℕ). Rose n after.look_faults) (sym is.faults) (prepares.looks.looks.cause refl), refl)
  stopped_edits stop.Memory result prepares says =
      subst (λ (r : Result (List ℕ) EditorFault). Comes view edit [] r left_view) (sym says) (prepares.looks.looks.quiet (λ e. cc) ∙ sym is.faults, if_all view.told (λ state. may.nothing))

  pub stopped_seen : (fault : EditStop) (result : Result (List ℕ) EditorFault) → Prepares before old edit (Err fault) after new → SaysStop fault result
      → Seen (IsViewOf after new seen spent_after) (λ last. Edits view edit result last)
  stopped_seen fault result prepares says = record {
    at = left_view;
    is = record { told = told_still (Err fault) prepares view.told is.told; faults = refl; asked = refl; spent = refl; display = refl; seen = refl };
    holds = record { showings = []; sees = sees_none; comes = stopped_edits fault result prepares says; looks = looks_told (Err fault) prepares view.told is.told; steps = spends view.told (display_of new) seen };
  }

  -- ---- what is accepted

  module _ (closed : Session) (seen_after : Option (List (List Shown))) (prepares : Prepares before old edit (Ok tt) after new) (commits : Commits new closed) where
    abbrev Leads : Tree → Type 0
    Leads tree = (state : SessionState) → IsSessionOf tree old state → Accepts tree state edit new

    abbrev last_view : Option SessionState → EditorState
    last_view told = record { told = told; faults = after.look_faults; asked = after.asked; spent = spent_after; display = display_of closed; seen = seen_after }

    record IsNext (state : SessionState) (later : Option SessionState) : Type 0 where
      pub next : SessionState
      pub accepted : IsAccepted state edit next (accepted_line (shown_counts closed))
      pub shows : ShowsNext state next view.display (display_of closed)
      pub is_told : later ≡ Some next

    record NextTold (told : Option SessionState) : Type 0 where
      pub later : Option SessionState
      pub is_told : IsToldBy after closed later
      pub is_next : IfSome told (λ state. IsNext state later)
      pub untold : told ≡ None → later ≡ None

    made_before : view.display.made ≡ length (shown_in old).graph
    made_before = ap (λ (d : Display). d.made) is.display

    same_before : showing_in new ≡ view.display.shown
    same_before = (stays_shown old new view.display is.display prepares.shown).same

    graph_goes : (tree : Tree) (state next : SessionState) → IsSessionOf tree new state → IsPendingOf tree new next → GraphGoes state next view.display (display_of closed)
    graph_goes tree state next stands pending = goes (commits.slots tree state next stands pending)
      where
        places : length (shown_in new).graph ≤ view.display.made + made_at_once
        places = (stays_shown old new view.display is.display prepares.shown).few

        goes : SlotsGo (shown_in new) (shown_in closed) state.tree next.tree → GraphGoes state next view.display (display_of closed)
        goes (inl keeps) = goes_on (subst (λ (showing : List Shown). KeepsSlots state.tree showing next.tree (showing_in closed)) same_before keeps)
        goes (inr anew) = (let full = anew.full in let most = anew.most in let fewer = places in begins_anew (omega (arith, full, most, fewer)) anew.few)

    shows_next : (tree : Tree) (state next : SessionState) → IsSessionOf tree new state → (pending : IsPendingOf tree new next) → IsSessionOf tree closed next → ShowsNext state next view.display (display_of closed)
    shows_next tree state next stands pending later = record {
      is_of = later.shows;
      graph = graph_goes tree state next stands pending;
      few = few_then view.display.made (length (shown_in new).graph) (length (shown_in closed).graph) made_at_once ((stays_shown old new view.display is.display prepares.shown).few)
          (places_then new closed pending.prepared (commits.steps pending.prepared pending.is_there));
    }

    next_told : (told : Option SessionState) → IsToldBy before old told → NextTold told
    next_told None none = record { later = None; is_told = prepares.looks.looks.tree ∙ none; is_next = tt; untold = λ e. refl }
    next_told (Some state) stands =
        let tree = stands.tree in
        let accepts = at_tree Leads before.holds tree stands.holds prepares.accepted state stands.is_state in
        let stays = at_tree Stays before.holds tree stands.holds prepares.stays state stands.is_state in
        let stands_now = commits.becomes tree state accepts.next stays accepts.is_pending in
        let line = accepts.accepted.said ∙ ap accepted_line stands_now.is_state.counts_are in
        record {
          later = Some accepts.next;
          is_told = record { tree = tree; holds = prepares.looks.looks.tree ∙ stands.holds; is_state = stands_now };
          is_next = record {
            next = accepts.next;
            accepted = subst (λ (l : List ℕ). IsAccepted state edit accepts.next l) line accepts.accepted;
            shows = shows_next tree state accepts.next stays accepts.is_pending stands_now;
            is_told = refl;
          };
          untold = λ e. absurd (cc);
        }

    may_show : (told later : Option SessionState) → IfSome told (λ state. IsNext state later) → IfSome told (λ state. MayShow state edit view.display (showing_in closed ∷ []))
    may_show None later is_next = tt
    may_show (Some state) later is_next = may.accepted is_next.next (accepted_line (shown_counts closed)) (display_of closed) is_next.accepted is_next.shows

    shown_replied : (told later : Option SessionState) → IfSome told (λ state. IsNext state later) → IfSome told (λ state. IsReplied state edit (accepted_line (shown_counts closed)) view (showing_in closed ∷ []) (last_view later))
    shown_replied None later is_next = tt
    shown_replied (Some state) later is_next = record {
      next = is_next.next;
      does = does_edit.accepted is_next.next (accepted_line (shown_counts closed)) is_next.accepted is_next.shows;
      is_told = is_next.is_told;
    }

    quiet_after : after.look_faults ≡ view.faults
    quiet_after = prepares.looks.looks.quiet (λ e. cc) ∙ sym is.faults

    shown_edits : (result : Result (List ℕ) EditorFault) → SaysLine (accepted_line (shown_counts closed)) result → (next : NextTold view.told) → Comes view edit (showing_in closed ∷ []) result (last_view next.later)
    shown_edits (Ok text) says next =
        subst (λ (l : List ℕ). EditsTold view edit l (showing_in closed ∷ []) (last_view next.later)) (sym says)
        (record { replied = shown_replied view.told next.later next.is_next; untold = next.untold; quiet = quiet_after })
    shown_edits (Err ReadFault) says next = absurd says
    shown_edits (Err Memory) says next = (quiet_after, may_show view.told next.later next.is_next)

    edits_shown : (result : Result (List ℕ) EditorFault) → SaysShown (accepted_line (shown_counts closed)) seen (showing_in closed) seen_after result → (next : NextTold view.told) → Edits view edit result (last_view next.later)
    edits_shown result (unshown same lacks) next = record {
      showings = [];
      sees = subst (λ (s : Option (List (List Shown))). SeesMore view.seen [] s) (sym same) sees_none;
      comes = subst (λ (r : Result (List ℕ) EditorFault). Comes view edit [] r (last_view next.later)) (sym lacks) (quiet_after, if_all view.told (λ state. may.nothing));
      looks = looks_told (Ok tt) prepares view.told is.told;
      steps = spends next.later (display_of closed) seen_after;
    }
    edits_shown result (shown grows says) next = record {
      showings = showing_in closed ∷ [];
      sees = subst (λ (s : Option (List (List Shown))). SeesMore s (showing_in closed ∷ []) seen_after) (sym is.seen) grows;
      comes = shown_edits result says next;
      looks = looks_told (Ok tt) prepares view.told is.told;
      steps = spends next.later (display_of closed) seen_after;
    }

    pub accepted_seen : (result : Result (List ℕ) EditorFault) → SaysShown (accepted_line (shown_counts closed)) seen (showing_in closed) seen_after result → Seen (IsViewOf after closed seen_after spent_after) (λ last. Edits view edit result last)
    accepted_seen result says =
        let next = next_told view.told is.told in
        record {
          at = last_view next.later;
          is = record { told = next.is_told; faults = refl; asked = refl; spent = refl; display = refl; seen = refl };
          holds = edits_shown result says next;
        }

-- ---- what it asks

some_kept : (some other : Option Look) → ((look : Look) → some ≡ Some look → other ≡ Some look) → is_some some ≡ true → is_some other ≡ true
some_kept None other keeps e = absurd (cc)
some_kept (Some look) other keeps e = ap is_some (keeps look refl)

module _ (references : List ℕ) (before after : FolderState) (old new : Session) where
  abbrev first_looks : LookState
  first_looks = look_state references before old

  abbrev then_looks : LookState
  then_looks = look_state references after new

  module _ (failed unfinished : Type 0) (Among : List ℕ → Type 0) (looks : LooksNew before old.known after new.known failed unfinished Among) where
    abbrev asks_by : (list : List (List ℕ)) → LooksAsked list old.known after new.known unfinished Among → AsksUnkept list first_looks then_looks
    asks_by list asks = record {
      more = asks.more;
      asked = asks.asked;
      once = asks.once;
      new = All-weaker (λ path. kept_at old.known path ≡ None) (λ path. is_some (kept_at old.known path) ≡ false) (λ path none. ap is_some none) asks.more asks.new;
    }

    asks_some : AsksSome first_looks then_looks
    asks_some = record { references = refl; tree = looks.looks.tree; writes = looks.looks.writes; later = looks.looks.later; asked = if_some before.asked asks_by looks.asked }

    asks_keeping : (unfinished → ⊥) → AsksKeeping first_looks then_looks
    asks_keeping done = record {
      asks = record {
        references = refl;
        tree = looks.looks.tree;
        writes = looks.looks.writes;
        later = looks.looks.later;
        asked = if_some before.asked (λ list asks. record { asks = asks_by list asks; held = asks.held done }) looks.asked;
      };
      keeps = λ path held. some_kept (kept_at old.known path) (kept_at new.known path) (looks.kept path) held;
    }

  pub stopped_asks : (edit : List Change) (fault : EditStop) (result : Result (List ℕ) EditorFault) → Prepares before old edit (Err fault) after new → SaysStop fault result → EditAsks first_looks result then_looks
  stopped_asks edit (stop.Change fault) (Ok text) prepares says = asks_keeping _ _ _ prepares.looks (λ e. cc)
  stopped_asks edit (stop.Change fault) (Err why) prepares says = asks_some _ _ _ prepares.looks
  stopped_asks edit (stop.Generation why) (Ok text) prepares says = asks_keeping _ _ _ prepares.looks (λ e. cc)
  stopped_asks edit (stop.Generation why) (Err fault) prepares says = asks_some _ _ _ prepares.looks
  stopped_asks edit stop.ReadFault result prepares says = subst (λ (r : Result (List ℕ) EditorFault). EditAsks first_looks r then_looks) (sym says) (asks_some _ _ _ prepares.looks)
  stopped_asks edit stop.Memory result prepares says = subst (λ (r : Result (List ℕ) EditorFault). EditAsks first_looks r then_looks) (sym says) (asks_some _ _ _ prepares.looks)

  module _ (closed : Session) (kept : (path : List ℕ) → kept_at closed.known path ≡ kept_at new.known path) where
    abbrev last_looks : LookState
    last_looks = look_state references after closed

    abbrev asks_closed : (list : List (List ℕ)) → AsksAndKeeps list first_looks then_looks → AsksAndKeeps list first_looks last_looks
    asks_closed list both = record {
      asks = record { more = both.asks.more; asked = both.asks.asked; once = both.asks.once; new = both.asks.new };
      held = All-weaker (λ path. is_some (kept_at new.known path) ≡ true) (λ path. is_some (kept_at closed.known path) ≡ true) (λ path held. ap is_some (kept path) ∙ held) both.asks.more both.held;
    }

    keeping_closed : AsksKeeping first_looks then_looks → AsksKeeping first_looks last_looks
    keeping_closed is = record {
      asks = record { references = refl; tree = is.asks.tree; writes = is.asks.writes; later = is.asks.later; asked = if_some before.asked asks_closed is.asks.asked };
      keeps = λ path held. ap is_some (kept path) ∙ is.keeps path held;
    }

    accepted_keeping : (edit : List Change) → Prepares before old edit (Ok tt) after new → AsksKeeping first_looks last_looks
    accepted_keeping edit prepares = keeping_closed (asks_keeping _ _ _ prepares.looks (λ e. cc))

    pub accepted_asks : (edit : List Change) (result : Result (List ℕ) EditorFault) → Prepares before old edit (Ok tt) after new → EditAsks first_looks result last_looks
    accepted_asks edit (Ok text) prepares = accepted_keeping edit prepares
    accepted_asks edit (Err fault) prepares = some_of_keeping first_looks last_looks (accepted_keeping edit prepares)

-- ---- the map

shows_told : (folder : FolderState) (session : Session) (map : List ℕ) → map ≡ shown_map session → (told : Option SessionState) → IsToldBy folder session told → IfSome told (λ state. map ≡ state.map)
shows_told folder session map same None none = tt
shows_told folder session map same (Some state) stands = same ∙ sym stands.is_state.is_state.map_is

pub shows_view : (folder : FolderState) (session : Session) (seen : Option (List (List Shown))) (steps : ℕ) (map : List ℕ) (view : EditorState) → map ≡ shown_map session → IsViewOf folder session seen steps view → Shows view map
shows_view folder session seen steps map view same is = shows_told folder session map same view.told is.told
