-- How a session ends, by how it is opened and what is replied.
use Rattle.std.proofs.Common.{◌≡◌, ◌≤◌, ◌++◌, ◌∷◌, [], ℕ, List, length, true, false, Option, Some, None, Ok, Err, refl, sym, ap, ◌∙◌, subst, inl, inr, arith}
use Rattle.std.proofs.lemmas.Bool.{false≢true}
use Rattle.std.proofs.lemmas.List.{append-nil, append_assoc, append_cancel_left}
use Rattle.std.proofs.lemmas.List.Elements.{All-append, All-weaker}
use Rattle.std.specs.FinMap.{get}
use Rattle.std.specs.Prelude.{◌+◌, ◌*◌, ◌⊎◌, All, IfSome, is_some, option_map, take}
use Rattle.tree_spec.specs.Counts.{Rose}
use Rattle.tree_spec.specs.Limits.{limit_number}
use Rattle.tree_spec.specs.States.{FolderState, SourceState, SinkState}
use Rattle.tree_spec.specs.Trees.{Tree}
use Rattle.tree_spec.specs.declared.LimitName.TheVariants.{Session as Limited}
use Rattle.tree_spec.proofs.ToldStates.{if_some, if_two, if_all}
use Rattle.trace_spec.specs.Laws.{IsLookedAt}
use Rattle.trace_spec.specs.Modules.{Config}
use Rattle.config_spec.specs.Projects.{IsConfigOf}
use Rattle.config_spec.specs.declared.Command.{Command}
use Rattle.config_spec.specs.declared.Command.TheVariants.{Refresh}
use Rattle.generation.specs.Generating.{AsksNoPathTwice, AsksFootprint, StepsToEnd}
use Rattle.generation.specs.declared.stop.Stop.{Stop}
use Rattle.generation.specs.declared.stop.Stop.TheVariants as stop
use Rattle.generator_spec.proofs.Configs.{one_config}
use Rattle.generator_spec.proofs.CountedQuestions.{always_asked}
use Rattle.generator_spec.specs.Asked.{IsConfigAt}
use Rattle.generator_spec.specs.Commands.{IsMapping as mapping, Opens as openings}
use Rattle.generator_spec.specs.Ending.{Ends, CanRefuse as can}
use Rattle.generator_spec.specs.Lines.{status_of, line_of, memory_line, read_fault_line}
use Rattle.generator_spec.specs.Outcome.{RefusesRun, by_tree}
use Rattle.generator_spec.specs.Statuses.{memory_status, read_fault_status}
use Rattle.generator_spec.specs.Steps.{SpendsByTrace, TraceSpends}
use Rattle.package_lookup.specs.Looked.{kept_at}
use Rattle.soundness.proofs.SessionMaps.{session_maps_serve}
use Rattle.session_input.proofs.ReaderLemmas.{takes_none}
use Rattle.session_spec.specs.Conversations.{Answers}
use Rattle.session_spec.specs.Replies.{accepted_line}
use Rattle.session_spec.specs.SessionRuns as runs
use Rattle.session_spec.specs.Openings.{refresh_words, OpensAt, CanOpen, opens, opening_line}
use Rattle.session_spec.specs.SessionLooks.{IsTriedLook, IsSessionLook, of_opening, of_edit, AsksFresh, AsksWithin}
use Rattle.session_spec.specs.SessionRuns.{SessionComesTo, RepliesTo, unopened, RepliesToAll, NoFault, IsOpenedText, IsClosed, IsFrontShaped, IsAnswerShaped, SessionSays, SessionStops, SessionEnds}
use Rattle.session_spec.specs.SessionStates.{SessionState, IsGenerated}
use Rattle.session_spec.specs.TakenInput.{NoTake, IsAwaited}
use Rattle.session_spec.specs.SessionDoings as doings
use Rattle.session_spec.specs.SessionDoings.{SeesMore, Done, EditsDo, IsOpening, SessionDoes}
use Rattle.session_spec.specs.SessionSteps.{most_steps, SpendsFor, SessionSpends}
use Rattle.session_spec.specs.Showings.{Shown, IsShowingOf, made_at_once}
use Rattle.session_watch.specs.Seen.{Grows}
use Rattle.session_spec.proofs.SessionSpending.{spends_nothing}
use Rattle.session_spec.proofs.TakenFronts.{no_take}
use Rattle.session_spec.specs.Talks.{begun, still}
use Rattle.edit_session.specs.NewLooks.{AsksKept}
use Rattle.edit_session.specs.Sessions.{IsOpened, OpensSession}
use Rattle.edit_session.specs.SessionTrees.{shown_counts, shown_in, showing_in}
use Rattle.edit_session.specs.declared.session.Session.{Session}
use Rattle.session_talk.specs.EditorLooks.{LookState, AsksAndKeeps, AsksSome, AsksKeeping}
use Rattle.session_talk.specs.Editors.{EditorState, AsksFor}
use Rattle.session_talk.specs.Talking as talking
use Rattle.session_talk.specs.Talking.{Now, now_at, RepliesFront, RepliesAll, IsShaped, IsLastLine, IsQuiet, Says, Stops}
use Rattle.session_talk.proofs.AskLemmas.{some_then}
use Rattle.session_talk.proofs.LookLemmas.{for_weaker}
use Rattle.session_talk.proofs.TalkLemmas.{sees_then, sees_nothing, gives_then, ends_then, nothing_awaited}
use Rattle.session_run.specs.Editing.{IsToldBy, IsViewOf, display_of, look_state}
use Rattle.session_run.specs.Sessions.{fresh as fresh_reader, RefusedEnds, opened_line, ShownEnds, wants, cut_off, replies, OpenedEnds, unshown, shown, HoldsSession}
use Rattle.session_run.proofs.TalkLemmas.{begun_alone}

-- ---- what is asked

abbrev no_looks : FolderState → LookState
no_looks folder = record { folder = folder; kept = λ path. false; references = [] }

module _ (config : Config) (before mid : FolderState) (session : Session) (opening : OpensSession config before (Ok session) mid) where
  quiet_opening : mid.look_faults ≡ before.look_faults
  quiet_opening = opening.looks.quiet (λ e. cc)

  opening_keeps : AsksKeeping (no_looks before) (look_state [] mid session)
  opening_keeps = record {
    asks = record {
      references = refl;
      tree = opening.looks.tree;
      writes = opening.looks.writes;
      later = opening.looks.later;
      asked = kept_at_opening before.asked opening.asked opening.kept;
    };
    keeps = λ path held. absurd (false≢true held);
  }
    where
      kept_at_opening : (told : Option (List (List ℕ))) → IfSome told (λ old. AsksNoPathTwice old mid) → IfSome told (λ old. AsksKept old mid session.known)
          → IfSome told (λ old. AsksAndKeeps old (no_looks before) (look_state [] mid session))
      kept_at_opening None asked kept = tt
      kept_at_opening (Some old) asked kept =
          let held = kept asked.more asked.asked in
          record {
            asks = record {
              more = asked.more;
              asked = asked.asked;
              once = asked.once;
              new = All-weaker (λ path. is_some (kept_at session.known path) ≡ true) (λ path. false ≡ false) (λ path is. refl) asked.more held;
            };
            held = held;
          }

  pub asked_with : (after : FolderState) (closed : Session) → AsksSome (look_state [] mid session) (look_state [] after closed) → IfSome before.asked (λ old. AsksNoPathTwice old after)
  asked_with after closed asks =
      let all = some_then (no_looks before) (look_state [] mid session) (look_state [] after closed) opening_keeps asks in
      if_some before.asked (λ old new. record { more = new.more; asked = new.asked; once = new.once }) all.asked

  asked_same : (after : FolderState) → after ≡ mid → IfSome before.asked (λ old. AsksNoPathTwice old after)
  asked_same after same = subst (λ (state : FolderState). IfSome before.asked (λ old. AsksNoPathTwice old state)) (sym same) opening.asked

  asked_shown : (after : FolderState) (source later : SourceState) (out gone : SinkState) (seen seen_after : Option (List (List Shown))) (result spent spent_after : ℕ) → ShownEnds session mid after source later out gone seen seen_after result spent spent_after
      → IfSome before.asked (λ old. AsksNoPathTwice old after)
  asked_shown after source later out gone seen seen_after result spent spent_after (wants same taken watched rested is) = asked_same after same
  asked_shown after source later out gone seen seen_after result spent spent_after (cut_off same taken watched rested is gives rose) = asked_same after same
  asked_shown after source later out gone seen seen_after result spent spent_after (replies middle closed got quiet talks asks) = asked_with after closed asks

  pub asked_in : (after : FolderState) (source later : SourceState) (out gone : SinkState) (seen seen_after : Option (List (List Shown))) (result spent spent_after : ℕ) → OpenedEnds session mid after source later out gone seen seen_after result spent spent_after
      → IfSome before.asked (λ old. AsksNoPathTwice old after)
  asked_in after source later out gone seen seen_after result spent spent_after (unshown same taken watched rested is) = asked_same after same
  asked_in after source later out gone seen seen_after result spent spent_after (shown middle grows ends) = asked_shown after source later out gone middle seen_after result spent spent_after ends

module _ (config : Config) (before mid : FolderState) (asked : IfSome before.asked (λ old. AsksNoPathTwice old mid)) (footprint_of : IfSome before.asked (λ old. AsksFootprint config before.holds old mid))
    (is_config : IfSome before.holds (λ tree. IsConfigOf refresh_words tree Refresh config)) (taken : List ℕ) where
  opening_among : (more : List (List ℕ)) → IfSome before.holds (λ tree. All (IsLookedAt (get tree) config) more) → IfSome before.holds (λ tree. All (IsSessionLook tree taken) more)
  opening_among more all =
      if_two before.holds (λ tree is looks. All-weaker (IsLookedAt (get tree) config) (IsSessionLook tree taken) (λ path look. of_opening config is look) more looks) is_config all

  fresh_opening : IfSome before.asked (λ old. AsksFresh before.holds taken old mid)
  fresh_opening =
      if_two before.asked (λ old new looks. record { more = new.more; asked = new.asked; once = new.once; among = opening_among new.more (looks new.more new.asked) }) asked footprint_of

-- behind what the opening asked for the edits look
module _ (holds : Option Tree) (taken : List ℕ) (mid after : FolderState) where
  abbrev EditsAsk : Tree → Type 0
  EditsAsk tree = IfSome mid.asked (λ list. AsksFor (IsSessionLook tree taken) list after.asked)

  same_list : (one other : List (List ℕ)) → Some one ≡ Some other → one ≡ other
  same_list one other e = cc

  among_both : (old : List (List ℕ)) (new : AsksNoPathTwice old after) (first : AsksFresh holds taken old mid) → IfSome holds EditsAsk → IfSome holds (λ tree. All (IsSessionLook tree taken) new.more)
  among_both old new first edits =
      if_two holds (λ tree one ask.
      let last = subst (λ (t : Option (List (List ℕ))). IfSome t (λ list. AsksFor (IsSessionLook tree taken) list after.asked)) first.asked ask in
      let both = first.more ++ last.more in
      let same : old ++ new.more ≡ old ++ both = same_list (old ++ new.more) (old ++ both) (sym new.asked ∙ last.is ∙ ap Some (append_assoc old first.more last.more)) in
      subst (λ (more : List (List ℕ)). All (IsSessionLook tree taken) more) (sym (append_cancel_left old new.more both same))
      (All-append (IsSessionLook tree taken) first.more last.more one last.among)) first.among edits

  fresh_then : (told : Option (List (List ℕ))) → IfSome told (λ old. AsksNoPathTwice old after) → IfSome told (λ old. AsksFresh holds taken old mid) → IfSome holds EditsAsk → IfSome told (λ old. AsksFresh holds taken old after)
  fresh_then told asked first edits =
      if_two told (λ old new one. record { more = new.more; asked = new.asked; once = new.once; among = among_both old new one edits }) asked first

within_of : (told : Option (List (List ℕ))) (holds : Option Tree) (taken : List ℕ) (after : FolderState) → IfSome told (λ old. AsksFresh holds taken old after) → IfSome told (λ old. AsksWithin holds taken old after)
within_of told holds taken after fresh =
    if_some told (λ old new. record { first = []; is_first = inl refl; then = subst (λ (list : List (List ℕ)). AsksFresh holds taken list after) (sym (append-nil old)) new }) fresh

-- ---- the beginning

abbrev IsTakenOf : Tree → SourceState → List ℕ → SourceState → Type 0
IsTakenOf tree source taken later = NoTake source taken later ⊎ CanOpen tree

pub closed_yet : (source : SourceState) → IsClosed source [] source []
closed_yet source = record { untaken = no_take source; nothing = refl }

pub none_front : (source : SourceState) → IsFrontShaped source [] source []
none_front source = inr (closed_yet source)

pub none_awaited : (source : SourceState) → IsAwaited source [] source
none_awaited source = nothing_awaited source

abbrev state_on : Tree → Config → SessionState → SessionState
state_on tree config state = record { tree = tree; config = config; map = state.map; counts = state.counts }

module _ (config : Config) (session : Session) where
  abbrev begun_told : (holds : Option Tree) → IfSome holds (λ tree. IsOpened tree config session) → Option SessionState
  begun_told None opened = None
  begun_told (Some tree) opened = Some opened.state

  record Begins (tree : Tree) (state : SessionState) : Type 0 where
    pub opens_at : OpensAt tree state
    pub line : opening_line state ≡ opened_line session
    pub shows : IsShowingOf state.tree state.config (showing_in session)

  abbrev IsBegun : Option SessionState → Option Tree → Type 0
  IsBegun None None = Unit {0}
  IsBegun (Some state) (Some tree) = Begins tree state
  IsBegun None (Some tree) = ⊥
  IsBegun (Some state) None = ⊥

  begins_at : (tree : Tree) (opened : IsOpened tree config session) → IsConfigOf refresh_words tree Refresh config → Begins tree opened.state
  begins_at tree opened is =
      let state = opened.state in
      let tree_back = sym opened.tree_is in
      let config_back = sym opened.config_is in
      let same : state_on tree config state ≡ state = λ i. state_on (tree_back i) (config_back i) state in
      let generated = subst (λ (t : Tree). IsGenerated t config state.map state.counts) opened.tree_is (subst (λ (c : Config). IsGenerated state.tree c state.map state.counts) opened.config_is opened.is_state.current) in
      record {
        opens_at = subst (OpensAt tree) same (opens config state.map state.counts is generated);
        line = ap accepted_line opened.is_state.is_state.counts_are;
        shows = opened.is_state.shows;
      }

  begun_is : (holds : Option Tree) (opened : IfSome holds (λ tree. IsOpened tree config session)) → IfSome holds (λ tree. IsConfigOf refresh_words tree Refresh config) → IsBegun (begun_told holds opened) holds
  begun_is None opened is = tt
  begun_is (Some tree) opened is = begins_at tree opened is

  begun_stands : (mid : FolderState) (holds : Option Tree) (opened : IfSome holds (λ tree. IsOpened tree config session)) → mid.holds ≡ holds → IsToldBy mid session (begun_told holds opened)
  begun_stands mid None opened same = same
  begun_stands mid (Some tree) opened same = record { tree = tree; holds = same; is_state = opened.is_state }

  lifted : {P : SessionState → Type 0} {Q : Tree → Type 0} (told : Option SessionState) (holds : Option Tree) → IsBegun told holds → ((state : SessionState) (tree : Tree) → Begins tree state → P state → Q tree)
      → IfSome told P → IfSome holds Q
  lifted None None begun f p = tt
  lifted (Some state) (Some tree) begun f p = f state tree begun p
  lifted None (Some tree) begun f p = absurd begun
  lifted (Some state) None begun f p = absurd begun

  -- ---- what is said

  opened_text : (front : List ℕ) → IsOpenedText (opened_line session ++ front)
  opened_text front = record { counts = shown_counts session; replies = front; says = refl }

  last_then : (front text : List ℕ) (status : ℕ) (last : List ℕ) → text ≡ (opened_line session ++ front) ++ last → IsLastLine status last → IsAnswerShaped (opened_line session ++ front) status text
  last_then front text _ _ whole talking.at_end = runs.ended (opened_text front) refl whole
  last_then front text _ _ whole (talking.at_line number) = runs.refused_line number (opened_text front) refl whole
  last_then front text _ _ whole talking.at_limit = runs.too_long (opened_text front) refl whole

  with_line : (text front line : List ℕ) → text ≡ front ++ line → opened_line session ++ text ≡ (opened_line session ++ front) ++ line
  with_line text front line is = ap (λ (t : List ℕ). opened_line session ++ t) is ∙ sym (append_assoc (opened_line session) front line)

  shape_then : (front : List ℕ) (status : ℕ) (text : List ℕ) → IsShaped front status text → IsAnswerShaped (opened_line session ++ front) status (opened_line session ++ text)
  shape_then front status text shaped = last_then front (opened_line session ++ text) status shaped.last (with_line text front shaped.last shaped.whole) shaped.is_last

  front_then : (taken text : List ℕ) (state : SessionState) (tree : Tree) → Begins tree state → RepliesFront state taken text → RepliesTo tree taken (opened_line session ++ text)
  front_then taken text state tree begins front =
      subst (λ (line : List ℕ). RepliesTo tree taken (line ++ text)) begins.line (runs.opened state text front.later begins.opens_at front.talks)

  all_then : (taken text : List ℕ) (state : SessionState) (tree : Tree) → Begins tree state → RepliesAll state taken text → RepliesToAll tree taken (opened_line session ++ text)
  all_then taken text state tree begins all =
      subst (λ (line : List ℕ). RepliesToAll tree taken (line ++ text)) begins.line (runs.opened state text all.later begins.opens_at all.talks all.waits)

  comes_then : (input text : List ℕ) (status : ℕ) (state : SessionState) (tree : Tree) → Begins tree state → Answers state input text status → SessionComesTo tree input status (opened_line session ++ text)
  comes_then input text status state tree begins answers =
      subst (λ (line : List ℕ). SessionComesTo tree input status (line ++ text)) begins.line (runs.replied state status text begins.opens_at answers)

  module _ (holds : Option Tree) (told : Option SessionState) (begun : IsBegun told holds) (before mid after : FolderState) (same_tree : before.holds ≡ holds) (quiet_before : mid.look_faults ≡ before.look_faults)
      (view last : EditorState) (view_told : view.told ≡ told) (view_faults : view.faults ≡ mid.look_faults) (last_faults : last.faults ≡ after.look_faults) (source later : SourceState) (middle : SinkState) (taken : List ℕ) where
    abbrev first : Now
    first = now_at view fresh_reader None source middle

    up : {P : SessionState → Type 0} {Q : Tree → Type 0} → ((state : SessionState) (tree : Tree) → Begins tree state → P state → Q tree) → IfSome view.told P → IfSome before.holds Q
    up {P} {Q} f p = subst (λ (h : Option Tree). IfSome h Q) (sym same_tree) (lifted told holds begun f (subst (λ (t : Option SessionState). IfSome t P) view_told p))

    no_fault : IsQuiet first last later → NoFault before after source later
    no_fault quiet = (sym last_faults ∙ quiet.editor_is ∙ view_faults ∙ quiet_before, quiet.source_is)

    same_faults : last.faults ≡ view.faults → after.look_faults ≡ before.look_faults
    same_faults same = sym last_faults ∙ same ∙ view_faults ∙ quiet_before

    rose_then : Rose view.faults last.faults → Rose before.look_faults after.look_faults
    rose_then rose = subst (λ (n : ℕ). Rose before.look_faults n) last_faults (subst (λ (n : ℕ). Rose n last.faults) (view_faults ∙ quiet_before) rose)

    says_then : (front : List ℕ) (status : ℕ) (text : List ℕ) → Says first last later taken front status text → SessionSays before after source later taken (opened_line session ++ front) status (opened_line session ++ text)
    says_then front status text (talking.outcome shaped quiet here whole) =
        runs.outcome (inl (shape_then front status text shaped)) (no_fault quiet) (up (comes_then taken text status) here)
        (up (λ state tree begins answers. if_some source.left (λ input is. comes_then input text status state tree begins is) answers) whole)
    says_then front status text (talking.memory quiet told is_status is_text) =
        runs.memory (inl (opened_text front)) (no_fault quiet) (up (front_then taken front) told) is_status (with_line text front memory_line is_text)
    says_then front status text (talking.look_fault rose quiet told is_status is_text) =
        runs.look_fault (inl (opened_text front)) (rose_then rose) quiet (up (front_then taken front) told) is_status (with_line text front read_fault_line is_text)
    says_then front status text (talking.take_fault left_open quiet rose told is_status is_text) =
        runs.take_fault (opened_text front) left_open (same_faults quiet) rose (up (all_then taken front) told) is_status (with_line text front read_fault_line is_text)

    module _ (out gone : SinkState) (result : ℕ) (got : middle.got ≡ option_map (λ front. front ++ opened_line session) out.got) (quiet_out : middle.faults ≡ out.faults) where
      stops_then : (front : List ℕ) → Stops first last later gone taken front result → SessionStops before after source later taken (opened_line session ++ front) out gone result
      stops_then front (talking.said status text says is) =
          runs.said status (opened_line session ++ text) (says_then front status text says) (ends_then out middle gone (opened_line session) text status result got quiet_out is)
      stops_then front (talking.cut_off quiet told is_status gives rose) =
          runs.cut_off (opened_text front) (no_fault quiet) (up (front_then taken front) told) is_status (gives_then out.got middle.got gone.got (opened_line session) front got gives)
          (subst (λ (n : ℕ). Rose n gone.faults) quiet_out rose)

    taken_then : IfSome before.holds (λ tree. IsTakenOf tree source taken later)
    taken_then = up {P = λ state. Unit {0}} (λ state tree begins any. inr (record { state = state; opens_at = begins.opens_at })) (if_all view.told (λ state. tt))

-- ---- the steps

few_sum : (spent mid after most some : ℕ) → mid ≤ spent + most → after ≤ mid + some → after ≤ spent + most + some
few_sum spent mid after most some one other = omega (arith, one, other)

-- the words ask for one config, and need nothing before the trace
opening_spends : (config : Config) (before : FolderState) (spent mid : ℕ) → IfSome before.holds (λ tree. IsConfigOf refresh_words tree Refresh config) → StepsToEnd config before.holds spent mid
    → IfSome before.holds (λ tree. TraceSpends refresh_words tree spent mid)
opening_spends config before spent mid is_config few =
    if_two before.holds (λ tree is each. record {
      by_config = λ command other are.
          let same = one_config refresh_words tree Refresh command config other is are in
          let all = always_asked (get tree) config in
          let some = each all.asked all.are in
          let here : SpendsByTrace tree Refresh config spent mid =
          record { asked = all.asked; are = all.are; few = omega (arith, some); opened = inr (openings.nothing Refresh mapping.refresh) } in
          subst (λ (one : Command). SpendsByTrace tree one other spent mid) same.one_command
          (subst (λ (one : Config). SpendsByTrace tree Refresh one spent mid) same.one_config here);
      no_config = λ none no_measure. absurd (none Refresh config is);
    }) is_config few

module _ (spent mid : ℕ) (few : mid ≤ spent + most_steps) where
  spends_none : SessionSpends [] spent mid
  spends_none = spends_nothing (take (limit_number Limited) []) (spent + most_steps) mid few

  spends_more : (after last : ℕ) → last ≡ after → (taken : List ℕ) → SpendsFor (take (limit_number Limited) taken) mid last → SessionSpends taken spent after
  spends_more after last e taken is = record {
    edits = is.edits;
    held = is.held;
    behind = is.behind;
    made = is.made;
    few = few_sum spent mid after most_steps (is.edits * most_steps) few (subst (λ (n : ℕ). n ≤ mid + is.edits * most_steps) e is.few);
  }

-- ---- a session that is opened

nothing_taken : (told : Option Tree) (source : SourceState) → IfSome told (λ tree. IsTakenOf tree source [] source)
nothing_taken told source = if_all told (λ tree. inl (no_take source))

module _ (config : Config) (before mid : FolderState) (session : Session) (opening : OpensSession config before (Ok session) mid) (is_config : IsConfigAt refresh_words Refresh config before) (spent spent_mid : ℕ) (few : spent_mid ≤ spent + most_steps)
    (few_asked : StepsToEnd config before.holds spent spent_mid) where
  by_trace : IfSome before.holds (λ tree. TraceSpends refresh_words tree spent spent_mid)
  by_trace = opening_spends config before spent spent_mid is_config.told few_asked

  abbrev told_first : Option SessionState
  told_first = begun_told config session before.holds opening.opened

  abbrev view_first : Option (List (List Shown)) → EditorState
  view_first seen = record { told = told_first; faults = mid.look_faults; asked = mid.asked; spent = spent_mid; display = display_of session; seen = seen }

  is_begun : IsBegun config session told_first before.holds
  is_begun = begun_is config session before.holds opening.opened is_config.told

  view_is : (seen : Option (List (List Shown))) → IsViewOf mid session seen spent_mid (view_first seen)
  view_is seen = record { told = begun_stands config session mid before.holds opening.opened opening.looks.tree; faults = refl; asked = refl; spent = refl; display = refl; seen = refl }

  abbrev first_done : Done
  first_done = record { spent = spent_mid; display = display_of session; showings = [] }

  -- ---- what is done

  few_places : length (shown_in session).graph ≤ made_at_once
  few_places = opening.places

  is_opening : (state : SessionState) (tree : Tree) → Begins config session tree state → IsOpening state first_done
  is_opening state tree begins = record { is_of = begins.shows; few = few_places; none_behind = refl }

  unshown_does : IfSome before.holds (λ tree. SessionDoes tree [] spent [] spent_mid [])
  unshown_does = if_some before.holds (λ tree spends. doings.unshown spent_mid spends) by_trace

  told_opened : (P : Tree → Type 0) → ((state : SessionState) (tree : Tree) → Begins config session tree state → TraceSpends refresh_words tree spent spent_mid → P tree) → IfSome before.holds P
  told_opened P f =
      if_two before.holds (λ tree spends from. from spends) by_trace
      (lifted config session {P = λ state. Unit {0}} {Q = λ tree. TraceSpends refresh_words tree spent spent_mid → P tree} told_first before.holds is_begun
      (λ state tree begins any spends. f state tree begins spends) (if_all told_first (λ state. tt)))

  unsaid_does : IfSome before.holds (λ tree. SessionDoes tree [] spent [] spent_mid (showing_in session ∷ []))
  unsaid_does = told_opened (λ tree. SessionDoes tree [] spent [] spent_mid (showing_in session ∷ [])) (λ state tree begins spends. doings.unsaid state first_done begins.opens_at (is_opening state tree begins) spends)

  line_does : IfSome before.holds (λ tree. SessionDoes tree [] spent (opened_line session) spent_mid (showing_in session ∷ []))
  line_does =
      told_opened (λ tree. SessionDoes tree [] spent (opened_line session) spent_mid (showing_in session ∷ []))
      (λ state tree begins spends.
      subst (λ (line : List ℕ). SessionDoes tree [] spent line spent_mid (showing_in session ∷ [])) (append-nil (opening_line state) ∙ begins.line)
      (doings.opened state first_done [] spent_mid [] begins.opens_at (is_opening state tree begins) spends (doings.stands (begun_alone state) [] first_done doings.begun)))

  module _ (taken replied : List ℕ) (spent_after last : ℕ) (rested : last ≡ spent_after) (showings : List (List Shown)) where
    abbrev EditsDone : SessionState → Type 0
    EditsDone state = EditsDo state (take (limit_number Limited) taken) first_done replied last showings

    abbrev AllDone : Tree → Type 0
    AllDone tree = SessionDoes tree taken spent (opened_line session ++ replied) spent_after (showing_in session ∷ showings)

    does_then : IfSome told_first EditsDone → IfSome before.holds AllDone
    does_then does =
        if_two before.holds (λ tree spends from. from spends) by_trace
        (lifted config session {P = EditsDone} {Q = λ tree. TraceSpends refresh_words tree spent spent_mid → AllDone tree} told_first before.holds is_begun
        (λ state tree begins edits spends.
        subst (λ (n : ℕ). SessionDoes tree taken spent (opened_line session ++ replied) n (showing_in session ∷ showings)) rested
        (subst (λ (line : List ℕ). SessionDoes tree taken spent (line ++ replied) last (showing_in session ∷ showings)) begins.line
        (doings.opened state first_done replied last showings begins.opens_at (is_opening state tree begins) spends edits))) does)

  fresh_first : (taken : List ℕ) → IfSome before.asked (λ old. AsksFresh before.holds taken old mid)
  fresh_first taken = fresh_opening config before mid opening.asked opening.footprint is_config.told taken

  module _ (taken : List ℕ) (after : FolderState) (asked : Option (List (List ℕ))) (e : asked ≡ after.asked) where
    abbrev EditsTell : SessionState → Type 0
    EditsTell state = IfSome mid.asked (λ list. AsksFor (IsTriedLook state (take (limit_number Limited) taken)) list asked)

    told_looks : (state : SessionState) (tree : Tree) → Begins config session tree state → EditsTell state → EditsAsk before.holds taken mid after tree
    told_looks state tree begins ask =
        if_some mid.asked (λ list one.
        subst (λ (t : Option (List (List ℕ))). AsksFor (IsSessionLook tree taken) list t) e
        (for_weaker (IsTriedLook state (take (limit_number Limited) taken)) (IsSessionLook tree taken) (λ path look. of_edit state begins.opens_at look) list asked one)) ask

    edits_ask : IfSome told_first EditsTell → IfSome before.holds (EditsAsk before.holds taken mid after)
    edits_ask looks = lifted config session told_first before.holds is_begun told_looks looks

  line_alone : IsOpenedText (opened_line session)
  line_alone = record { counts = shown_counts session; replies = []; says = sym (append-nil (opened_line session)) }

  no_fault_yet : (source : SourceState) → NoFault before mid source source
  no_fault_yet source = (quiet_opening config before mid session opening, refl)

  front_line : IfSome before.holds (λ tree. RepliesTo tree [] (opened_line session))
  front_line =
      subst (λ (line : List ℕ). IfSome before.holds (λ tree. RepliesTo tree [] line)) (append-nil (opened_line session))
      (lifted config session told_first before.holds is_begun (λ state tree begins all. front_then config session [] [] state tree begins (record { later = begun_alone state; talks = still (begun_alone state) })) (all_told told_first))
    where
      all_told : (told : Option SessionState) → IfSome told (λ state. Unit {0})
      all_told None = tt
      all_told (Some state) = tt

  module _ (source : SourceState) (out gone : SinkState) (result : ℕ) (output_later : out.faults ≤ gone.faults) where
    -- own: nothing was taken, and nothing more was looked at
    at_once : (replied : List ℕ) (seen seen_after : Option (List (List Shown))) (showings : List (List Shown)) → SeesMore seen showings seen_after → IfSome before.holds (λ tree. SessionDoes tree [] spent replied spent_mid showings)
        → SessionStops before mid source source [] replied out gone result → HoldsSession before mid source source out gone seen seen_after result spent spent_mid
    at_once replied seen seen_after showings sees does stops = record {
      ends = record {
        tree = opening.looks.tree;
        writes = opening.looks.writes;
        looks_later = opening.looks.later;
        output_later = output_later;
        taken = [];
        takes = takes_none source;
        few = omega arith;
        awaited = none_awaited source;
        opened = nothing_taken before.holds source;
        asked = within_of before.asked before.holds [] mid (fresh_first []);
        steps = spends_none spent spent_mid few;
        replied = replied;
        showings = showings;
        sees = sees;
        does = does;
        stops = stops;
        serves = if_all before.holds (λ tree. session_maps_serve tree []);
      };
      fresh = fresh_first [];
    }

    module _ (after : FolderState) (later : SourceState) (spent_after : ℕ) (same : after ≡ mid) (taken : later ≡ source) (rested : spent_after ≡ spent_mid) (seen seen_after : Option (List (List Shown))) where
      as_left : HoldsSession before mid source source out gone seen seen_after result spent spent_mid → HoldsSession before after source later out gone seen seen_after result spent spent_after
      as_left held =
          subst (λ (n : ℕ). HoldsSession before after source later out gone seen seen_after result spent n) (sym rested)
          (subst (λ (s : SourceState). HoldsSession before after source s out gone seen seen_after result spent spent_mid) (sym taken)
          (subst (λ (f : FolderState). HoldsSession before f source source out gone seen seen_after result spent spent_mid) (sym same) held))

    wants_memory : Ends memory_status memory_line out gone result → SessionStops before mid source source [] [] out gone result
    wants_memory is = runs.said memory_status memory_line (runs.memory (none_front source) (no_fault_yet source) (if_all before.holds (λ tree. unopened)) refl refl) is

    shown_ends : (after : FolderState) (later : SourceState) (seen middle seen_after : Option (List (List Shown))) (spent_after : ℕ) → Grows seen middle (showing_in session)
        → ShownEnds session mid after source later out gone middle seen_after result spent_mid spent_after → HoldsSession before after source later out gone seen seen_after result spent spent_after
    shown_ends after later seen middle seen_after spent_after grows (wants same taken watched rested is) =
        as_left after later spent_after same taken rested seen seen_after
        (at_once [] seen seen_after (showing_in session ∷ []) (watched ∙ grows) unsaid_does (wants_memory is))
    shown_ends after later seen middle seen_after spent_after grows (cut_off same taken watched rested is_status gives rose) =
        as_left after later spent_after same taken rested seen seen_after
        (at_once (opened_line session) seen seen_after (showing_in session ∷ []) (watched ∙ grows) line_does (runs.cut_off line_alone (no_fault_yet source) front_line is_status gives rose))
    shown_ends after later seen middle seen_after spent_after grows (replies between closed got quiet talks asks) =
        let seen_last = talks (view_first middle) (view_is middle) in
        let done = seen_last.holds in
        let looks_later = asks.later in
        let first_later = opening.looks.later in
        let fresh = fresh_then before.holds done.taken mid after before.asked (asked_with config before mid session opening after closed asks) (fresh_first done.taken) (edits_ask done.taken after seen_last.at.asked seen_last.is.asked done.looks) in
        record {
          ends = record {
            tree = asks.tree ∙ opening.looks.tree;
            writes = asks.writes ∙ opening.looks.writes;
            looks_later = omega (arith, looks_later, first_later);
            output_later = output_later;
            taken = done.taken;
            takes = done.takes;
            few = done.few;
            awaited = done.awaited;
            opened = taken_then config session before.holds told_first is_begun before mid after refl (quiet_opening config before mid session opening) (view_first middle) seen_last.at refl refl seen_last.is.faults source later between done.taken;
            asked = within_of before.asked before.holds done.taken after fresh;
            steps = spends_more spent spent_mid few spent_after seen_last.at.spent seen_last.is.spent done.taken done.done.most;
            replied = opened_line session ++ done.replied;
            showings = showing_in session ∷ done.done.showings;
            sees = sees_then seen middle seen_after (showing_in session ∷ []) done.done.showings grows (subst (λ (o : Option (List (List Shown))). SeesMore middle done.done.showings o) seen_last.is.seen done.done.sees);
            does = does_then done.taken done.replied spent_after seen_last.at.spent seen_last.is.spent done.done.showings done.done.does;
            stops = stops_then config session before.holds told_first is_begun before mid after refl (quiet_opening config before mid session opening) (view_first middle) seen_last.at refl refl seen_last.is.faults source later between done.taken out gone result got quiet done.replied done.stops;
            serves = if_all before.holds (λ tree. session_maps_serve tree done.taken);
          };
          fresh = fresh;
        }

    pub opened_ends : (after : FolderState) (later : SourceState) (seen seen_after : Option (List (List Shown))) (spent_after : ℕ) → OpenedEnds session mid after source later out gone seen seen_after result spent_mid spent_after
        → HoldsSession before after source later out gone seen seen_after result spent spent_after
    opened_ends after later seen seen_after spent_after (unshown same taken watched rested is) =
        as_left after later spent_after same taken rested seen seen_after
        (at_once [] seen seen_after [] (watched ∙ sees_nothing seen) unshown_does (wants_memory is))
    opened_ends after later seen seen_after spent_after (shown middle grows ends) = shown_ends after later seen middle seen_after spent_after grows ends

-- ---- a session that isn't opened

module _ (config : Config) (before mid : FolderState) (source : SourceState) (out gone : SinkState) (result : ℕ) (output_later : out.faults ≤ gone.faults) (is_config : IsConfigAt refresh_words Refresh config before) (spent spent_mid : ℕ) (few : spent_mid ≤ spent + most_steps)
    (few_asked : StepsToEnd config before.holds spent spent_mid) where
  pub refused_ends : (seen : Option (List (List Shown))) (why : Stop) → OpensSession config before (Err why) mid → RefusedEnds why out gone result → HoldsSession before mid source source out gone seen seen result spent spent_mid
  refused_ends seen why opening is = record {
    ends = record {
      tree = opening.looks.tree;
      writes = opening.looks.writes;
      looks_later = opening.looks.later;
      output_later = output_later;
      taken = [];
      takes = takes_none source;
      few = omega arith;
      awaited = none_awaited source;
      opened = nothing_taken before.holds source;
      asked = within_of before.asked before.holds [] mid (fresh_opening config before mid opening.asked opening.footprint is_config.told []);
      steps = spends_none spent spent_mid few;
      replied = [];
      showings = [];
      sees = sees_nothing seen;
      does = if_some before.holds (λ tree spends. doings.unshown spent_mid spends) (opening_spends config before spent spent_mid is_config.told few_asked);
      stops = stopped why opening is;
      serves = if_all before.holds (λ tree. session_maps_serve tree []);
    };
    fresh = fresh_opening config before mid opening.asked opening.footprint is_config.told [];
  }
    where
      stopped : (why : Stop) → OpensSession config before (Err why) mid → RefusedEnds why out gone result → SessionStops before mid source source [] [] out gone result
      stopped (stop.Refused why) opening (inl is) =
          let refused : IfSome before.holds (λ tree. RefusesRun refresh_words tree why) = if_two before.holds (λ tree configured refuses. by_tree Refresh config why configured refuses) is_config.told opening.refused in
          runs.said (status_of why) (line_of why)
          (runs.outcome (inr (closed_yet source, record { why = why; can = can.by_tree Refresh config why is_config.can opening.kind; ends = refl; says = refl })) (opening.looks.quiet (λ e. cc), refl) (if_some before.holds (λ tree because. runs.refused why because) refused)
          (if_some before.holds (λ tree because. if_all source.left (λ input. runs.refused why because)) refused)) is
      stopped (stop.Refused why) opening (inr is) =
          runs.said memory_status memory_line (runs.memory (none_front source) (opening.looks.quiet (λ e. cc), refl) (if_all before.holds (λ tree. unopened)) refl refl) is
      stopped stop.ReadFault opening is =
          runs.said read_fault_status read_fault_line (runs.look_fault (none_front source) (opening.looks.cause refl) refl (if_all before.holds (λ tree. unopened)) refl refl) is
      stopped stop.Memory opening is =
          runs.said memory_status memory_line (runs.memory (none_front source) (opening.looks.quiet (λ e. cc), refl) (if_all before.holds (λ tree. unopened)) refl refl) is
