-- How a session ends that is held on the project of a folder.
use Rattle.std.proofs.Common.{◌≡◌, ◌≤◌, ◌++◌, [], ◌∷◌, ℕ, List, Option, Some, None, IfSome, ◌⊎◌, refl, sym, ap, ◌∙◌, subst, inl, inr, arith}
use Rattle.std.proofs.lemmas.List.{append-nil}
use Rattle.std.proofs.lemmas.List.Elements.{All-nil}
use Rattle.tree_spec.specs.Counts.{Rose}
use Rattle.tree_spec.specs.States.{FolderState, SourceState, SinkState, OnlyLooks}
use Rattle.tree_spec.specs.Trees.{Tree}
use Rattle.tree_spec.proofs.FootprintSets.{distinct_none}
use Rattle.tree_spec.proofs.ToldStates.{if_some, if_all}
use Rattle.words_spec.proofs.ReadIsPlain.{read_is_plain}
use Rattle.words_spec.specs.PlainWords.{editing, refreshing}
use Rattle.config_spec.proofs.Options.{no_settings_set}
use Rattle.config_spec.proofs.WordsJudged.{words_are_judged}
use Rattle.config_spec.specs.Projects.{project_path}
use Rattle.config_spec.specs.Words.{IsSession}
use Rattle.command_words.specs.declared.fault.WordsFault.{WordsFault}
use Rattle.command_words.specs.declared.fault.WordsFault.TheVariants as words_fault
use Rattle.command_words.specs.declared.order.Order.TheVariants as order
use Rattle.command_words.specs.Faults.{Explains}
use Rattle.command_words.specs.Orders.{IsOrder}
use Rattle.generation.specs.declared.stop.Stop.{Stop}
use Rattle.generator_spec.specs.Asked.{AsksOwn}
use Rattle.generator_spec.specs.declared.Refusal.{Refusal}
use Rattle.generator_spec.specs.declared.Refusal.TheVariants.{Config as Configured}
use Rattle.generator_spec.specs.Ending.{CanRefuse, CanRefuse as can_refuse, Ends, TellsRefusal}
use Rattle.generator_spec.specs.Lines.{status_of, line_of, memory_line, read_fault_line}
use Rattle.generator_spec.specs.Outcome.{RefusesRun, RefusesRun as refuses_run}
use Rattle.generator_spec.specs.Statuses.{memory_status, read_fault_status}
use Rattle.session_input.proofs.ReaderLemmas.{takes_none}
use Rattle.session_run.specs.Sessions.{HoldsSession}
use Rattle.session_run.proofs.SessionLemmas.{none_awaited, closed_yet, none_front}
use Rattle.soundness.proofs.SessionMaps.{session_maps_serve}
use Rattle.session_spec.specs.SessionRuns as runs
use Rattle.session_spec.specs.SessionRuns.{RepliesTo as replies_to}
use Rattle.session_spec.specs.Openings.{refresh_words, CanOpen}
use Rattle.session_spec.specs.SessionLooks.{IsSessionLook, AsksFresh, AsksWithin}
use Rattle.session_spec.specs.SessionRuns.{StatesServe, NoFault, RepliesTo, RepliesToAll, SessionComesTo, SessionSays, SessionStops, SessionEnds}
use Rattle.session_spec.specs.SessionDoings.{SessionDoes}
use Rattle.session_spec.specs.Showings.{Shown}
use Rattle.session_spec.proofs.SessionDoing.{none_done}
use Rattle.session_spec.proofs.SessionSpending.{none_spent}
use Rattle.session_talk.proofs.TalkLemmas.{sees_nothing}
use Rattle.session_spec.proofs.TakenFronts.{no_take}
use Rattle.session_spec.specs.TakenInput.{NoTake}
use Rattle.generator_core.specs.Configuring.{StopsConfig, StopsConfig as stops_config}
use Rattle.generator_core.specs.Writing.{TellsStop, TellsWords}
use Rattle.generator_core.proofs.Endings.{some_same, still}

-- ---- the project of a session is that of `refresh`

pub refreshes : IsOrder refresh_words order.Refresh
refreshes = record {
  asked = refreshing;
  asks = read_is_plain refresh_words refreshing refl;
  is_order = record { same = refl; is = refl; sets = no_settings_set };
}

-- ---- a session behind the look at the project

module _ (before middle after : FolderState) (same_tree : middle.holds ≡ before.holds) (quiet : middle.look_faults ≡ before.look_faults) (source later : SourceState) (taken : List ℕ) where
  of_before : (P : Tree → Type 0) → IfSome middle.holds P → IfSome before.holds P
  of_before P told = subst (λ (held : Option Tree). IfSome held P) same_tree told

  abbrev Comes : ℕ → List ℕ → Tree → Type 0
  Comes status text tree = SessionComesTo tree taken status text

  abbrev ComesWhole : ℕ → List ℕ → Tree → Type 0
  ComesWhole status text tree = IfSome source.left (λ input. SessionComesTo tree input status text)

  abbrev Replied : List ℕ → Tree → Type 0
  Replied front tree = RepliesTo tree taken front

  abbrev AllReplied : List ℕ → Tree → Type 0
  AllReplied front tree = RepliesToAll tree taken front

  no_fault : NoFault middle after source later → NoFault before after source later
  no_fault none = (none.0 ∙ quiet, none.1)

  says_before : (replied : List ℕ) (status : ℕ) (text : List ℕ) → SessionSays middle after source later taken replied status text → SessionSays before after source later taken replied status text
  says_before replied status text (runs.outcome shaped none here whole) = runs.outcome shaped (no_fault none) (of_before (Comes status text) here) (of_before (ComesWhole status text) whole)
  says_before replied status text (runs.memory shaped none told is_status is_text) = runs.memory shaped (no_fault none) (of_before (Replied replied) told) is_status is_text
  says_before replied status text (runs.look_fault shaped rose same told is_status is_text) =
      runs.look_fault shaped (subst (λ (n : ℕ). Rose n after.look_faults) quiet rose) same (of_before (Replied replied) told) is_status is_text
  says_before replied status text (runs.take_fault opened left_open same rose told is_status is_text) = runs.take_fault opened left_open (same ∙ quiet) rose (of_before (AllReplied replied) told) is_status is_text

  stops_before : (replied : List ℕ) (out gone : SinkState) (result : ℕ) → SessionStops middle after source later taken replied out gone result → SessionStops before after source later taken replied out gone result
  stops_before replied out gone result (runs.said status text says ends) = runs.said status text (says_before replied status text says) ends
  stops_before replied out gone result (runs.cut_off opened none told is_status gives rose) = runs.cut_off opened (no_fault none) (of_before (Replied replied) told) is_status gives rose

asks_both :
    (taken : List ℕ) (holds before_holds : Option Tree) → holds ≡ before_holds → (middle after : FolderState) (told : Option (List (List ℕ))) → IfSome told (λ old. AsksOwn (project_path ∷ []) old middle)
    → IfSome middle.asked (λ old. AsksFresh holds taken old after) → IfSome told (λ old. AsksWithin before_holds taken old after)
asks_both taken holds before_holds same middle after None own more = tt
asks_both taken holds before_holds same middle after (Some old) own more =
    let new : AsksFresh holds taken (old ++ own.first) after = subst (λ (asked : Option (List (List ℕ))). IfSome asked (λ old. AsksFresh holds taken old after)) own.asked more in
    record { first = own.first; is_first = own.is_own; then = subst (λ (h : Option Tree). AsksFresh h taken (old ++ own.first) after) same new }

pub ends_before :
    (before middle after : FolderState) (source later : SourceState) (out gone : SinkState) (seen seen_after : Option (List (List Shown))) (result spent spent_after : ℕ) → OnlyLooks before middle ⊥ → IfSome before.asked (λ old. AsksOwn (project_path ∷ []) old middle)
    → HoldsSession middle after source later out gone seen seen_after result spent spent_after → SessionEnds before after source later out gone seen seen_after result spent spent_after
ends_before before middle after source later out gone seen seen_after result spent spent_after looked own held =
    let is = held.ends in
    let quiet = looked.quiet (λ e. e) in
    let looks_later = is.looks_later in
    record {
      tree = is.tree ∙ looked.tree;
      writes = is.writes ∙ looked.writes;
      looks_later = omega (arith, looks_later, quiet);
      output_later = is.output_later;
      taken = is.taken;
      takes = is.takes;
      few = is.few;
      awaited = is.awaited;
      opened = of_before before middle after looked.tree quiet source later is.taken (λ tree. NoTake source is.taken later ⊎ CanOpen tree) is.opened;
      steps = is.steps;
      replied = is.replied;
      showings = is.showings;
      sees = is.sees;
      does = of_before before middle after looked.tree quiet source later is.taken (λ tree. SessionDoes tree is.taken spent is.replied spent_after is.showings) is.does;
      asked = asks_both is.taken middle.holds before.holds looked.tree middle after before.asked own held.fresh;
      stops = stops_before before middle after looked.tree quiet source later is.taken is.replied out gone result is.stops;
      serves = of_before before middle after looked.tree quiet source later is.taken (λ tree. StatesServe tree is.taken) is.serves;
    }

-- ---- a session that isn't opened

nothing_fresh : (holds : Option Tree) (after : FolderState) (old : List (List ℕ)) → after.asked ≡ Some old → AsksFresh holds [] old after
nothing_fresh holds after old is = record { more = []; asked = is ∙ ap Some (sym (append-nil old)); once = distinct_none; among = if_all holds (λ tree. All-nil (IsSessionLook tree [])) }

module _ (before after : FolderState) (source : SourceState) (out gone : SinkState) (seen : Option (List (List Shown))) (result spent : ℕ) where
  abbrev StopsAtOnce : Type 0
  StopsAtOnce = SessionStops before after source source [] [] out gone result

  nothing_said : IfSome before.holds (λ tree. RepliesTo tree [] [])
  nothing_said = if_all before.holds (λ tree. replies_to.unopened)

  unopened_ends : {P : Type 0} → OnlyLooks before after P → out.faults ≤ gone.faults → IfSome before.asked (λ old. AsksOwn (project_path ∷ []) old after) → StopsAtOnce → SessionEnds before after source source out gone seen seen result spent spent
  unopened_ends looks output_later own stops = record {
    tree = looks.tree;
    writes = looks.writes;
    looks_later = looks.later;
    output_later = output_later;
    taken = [];
    takes = takes_none source;
    few = omega arith;
    awaited = none_awaited source;
    opened = if_all before.holds (λ tree. inl (no_take source));
    asked = if_some before.asked (λ old is. record { first = is.first; is_first = is.is_own; then = nothing_fresh before.holds after (old ++ is.first) is.asked }) own;
    steps = none_spent [] spent;
    replied = [];
    showings = [];
    sees = sees_nothing seen;
    does = none_done before.holds [] spent;
    stops = stops;
    serves = if_all before.holds (λ tree. session_maps_serve tree []);
  }

  memory_at_once : after.look_faults ≡ before.look_faults → Ends memory_status memory_line out gone result → StopsAtOnce
  memory_at_once quiet told = runs.said memory_status memory_line (runs.memory (none_front source) (quiet, refl) nothing_said refl refl) told

  refused_at_once : (why : Refusal) → CanRefuse refresh_words why → after.look_faults ≡ before.look_faults → IfSome before.holds (λ tree. RefusesRun refresh_words tree why) → TellsRefusal why out gone result → StopsAtOnce
  refused_at_once why can quiet refuses (inl told) =
      runs.said (status_of why) (line_of why)
      (runs.outcome (inr (closed_yet source, record { why = why; can = can; ends = refl; says = refl })) (quiet, refl) (if_some before.holds (λ tree because. runs.refused why because) refuses)
      (if_some before.holds (λ tree because. if_all source.left (λ input. runs.refused why because)) refuses)) told
  refused_at_once why can quiet refuses (inr told) = memory_at_once quiet told

  abbrev IsOwn : Type 0
  IsOwn = IfSome before.asked (λ old. AsksOwn (project_path ∷ []) old after)

  pub stopped_ends : (stop : Stop) → StopsConfig refresh_words before after stop → IsOwn → TellsStop stop out gone result → out.faults ≤ gone.faults → SessionEnds before after source source out gone seen seen result spent spent
  stopped_ends stop (stops_config.refused fault same refuses can looks) own told later =
      unopened_ends looks later own
      (refused_at_once (Configured fault) (can_refuse.by_project fault can) (looks.quiet (λ e. e)) (if_some before.holds (λ tree because. refuses_run.by_project fault because) refuses) (subst (λ (s : Stop). TellsStop s out gone result) same told))
  stopped_ends stop (stops_config.read_fault same looks) own told later =
      unopened_ends looks later own
      (runs.said read_fault_status read_fault_line (runs.look_fault (none_front source) (looks.cause same) refl nothing_said refl refl) (subst (λ (s : Stop). TellsStop s out gone result) same told))
  stopped_ends stop (stops_config.memory same looks) own told later =
      unopened_ends looks later own (memory_at_once (looks.quiet (λ e. e)) (subst (λ (s : Stop). TellsStop s out gone result) same told))

-- ---- words that couldn't be read

own_of_nothing : (state : FolderState) → IfSome state.asked (λ old. AsksOwn (project_path ∷ []) old state)
own_of_nothing state = some_same state.asked _ (λ old is. record { first = []; is_own = inl refl; asked = is ∙ ap Some (sym (append-nil old)) })

-- words that ask for a session are refused for want of memory alone
pub unread_ends :
    (words : List (List ℕ)) (state : FolderState) (source : SourceState) (out gone : SinkState) (seen : Option (List (List Shown))) (result spent : ℕ) (fault : WordsFault) → Explains words fault → TellsWords fault out gone result → out.faults ≤ gone.faults → IsSession words
    → SessionEnds state state source source out gone seen seen result spent spent
unread_ends words state source out gone seen result spent (words_fault.Told text) why told later asks = absurd (why (record { asked = editing; asks = asks }))
unread_ends words state source out gone seen result spent words_fault.NotPlain why told later asks = absurd (why (record { asked = editing; asks = asks }))
unread_ends words state source out gone seen result spent (words_fault.Refused fault) why told later asks = absurd ((words_are_judged words).session_or_fault fault asks why)
unread_ends words state source out gone seen result spent words_fault.Memory why told later asks =
    unopened_ends state state source out gone seen result spent (still state) later (own_of_nothing state) (memory_at_once state state source out gone seen result spent refl told)
