-- What a turn comes to.
use Rattle.std.proofs.Common.{◌∷◌, [], ◌≡◌, ◌≤◌, ◌++◌, ℕ, List, length, Option, Some, None, refl, sym, ap, ◌∙◌, subst, inl, inr, arith, add-mul}
use Rattle.std.proofs.lemmas.List.{append-nil}
use Rattle.std.specs.Prelude.{◌+◌, ◌*◌, take, IfSome}
use Rattle.tree_spec.specs.Counts.{Rose}
use Rattle.tree_spec.specs.Limits.{limit_number}
use Rattle.tree_spec.specs.States.{SourceState, SinkState}
use Rattle.tree_spec.specs.declared.LimitName.TheVariants.{Session}
use Rattle.generator_spec.specs.Ending.{Ends}
use Rattle.generator_spec.specs.Lines.{memory_line}
use Rattle.generator_spec.specs.Statuses.{done_status, file_status, memory_status}
use Rattle.session_spec.specs.declared.Change.{Change}
use Rattle.session_spec.specs.Conversations.{Answers, Turn, turn, turn_at, makes, holds, shows, ends, refuses, map_reply, end_reply, bad_line}
use Rattle.session_spec.specs.Frugality.{IsFrugal}
use Rattle.session_spec.specs.SessionLines as lines
use Rattle.session_spec.specs.SessionLines.{Rest, reads, changes, begins, commits, shows_map, ends_session}
use Rattle.session_input.specs.Readers.{Waiting}
use Rattle.session_spec.specs.SessionLooks.{IsTriedLook}
use Rattle.session_spec.specs.SessionStates.{SessionState}
use Rattle.session_spec.specs.SessionDoings as doings
use Rattle.session_spec.specs.SessionDoings.{SeesMore, MayShow, EditsDo}
use Rattle.session_spec.specs.SessionSteps.{generations, MakesEdits, most_steps}
use Rattle.session_spec.specs.SessionSteps as spending
use Rattle.session_spec.specs.Showings.{Shown}
use Rattle.session_spec.specs.Talks.{turn_of}
use Rattle.session_spec.proofs.SessionDoing.{edits_do_here}
use Rattle.session_spec.proofs.SessionSpending.{spends_here}
use Rattle.session_spec.proofs.Standings.{answers_ended, answers_refused}
use Rattle.session_talk.specs.Editors.{EditorState, AsksFor, EditsLook, EditSpends, IsReplied}
use Rattle.session_talk.specs.Talking.{Now, now_at, done_of, StandsAt, OrderedAt, Looks, GoesOn, IsOrdered}
use Rattle.session_talk.specs.Talking.{RepliesFront, DoesFor, IsLastLine, at_end, at_line, IsQuiet, Converses, GivesReply, TellsEnd, Makes, replied, fails, wants, ShowsMap, shown, lost, Turns}
use Rattle.session_talk.proofs.LookLemmas.{looks_here, looks_then}
use Rattle.session_talk.proofs.TalkLemmas.{if_told, two_told, sees_then, sees_nothing, give_then, replies_front, ends_memory, ends_look_fault, ends_outcome, ends_cut_off, answers_input, answers_taken, stands_made, stands_shown, stands_collected, held_turn}

sum_more : (spent now after some more all : ℕ) → all ≡ some + more → now ≤ spent + some → after ≤ now + more → after ≤ spent + all
sum_more spent now after some more all e one other = omega (arith, e, one, other)

more_edits : (spent now after edits more most : ℕ) → now ≤ spent + edits * most → after ≤ now + more * most → after ≤ spent + (edits + more) * most
more_edits spent now after edits more most one other = sum_more spent now after (edits * most) (more * most) ((edits + more) * most) (add-mul edits more most) one other

module _ (first now : Now) (number : ℕ) (order : lines.Order) (goes : IsOrdered number order first now) where
  abbrev Ordering : SessionState → Type 0
  Ordering state = OrderedAt (done_of first.editor []) number order state goes.taken goes.text goes.showings now

  abbrev DoneWith : List ℕ → EditorState → Type 0
  DoneWith text editor = DoesFor first (take (limit_number Session) goes.taken) text editor

  few : length goes.taken ≤ limit_number Session
  few = let room = goes.room in let limit = goes.limit in omega (arith, room, limit)

  few_taken : length goes.taken ≤ limit_number Session + 1
  few_taken = let fewer = few in omega (arith, fewer)

  looks_here_now : Looks first (take (limit_number Session) goes.taken) now.editor.asked
  looks_here_now = looks_here first goes.taken now.editor.asked few goes.looks

  abbrev DoesTold : EditorState → List ℕ → List (List Shown) → Type 0
  DoesTold editor text showings = IfSome first.editor.told (λ state. EditsDo state goes.taken (done_of first.editor []) text editor.spent showings)

  done_as : (editor : EditorState) (text : List ℕ) (showings : List (List Shown)) → SeesMore first.editor.seen showings editor.seen → (count : ℕ) (held : Option (List Change)) (behind : List ℕ) → MakesEdits goes.taken count held behind
      → editor.spent ≤ first.editor.spent + count * most_steps → DoesTold editor text showings → DoneWith text editor
  done_as editor text showings sees count held behind made steps told = record {
    most = spends_here goes.taken first.editor.spent editor.spent few (record { edits = count; held = held; behind = behind; made = made; few = steps });
    showings = showings;
    sees = sees;
    does = if_told first.editor.told (λ state. EditsDo state goes.taken (done_of first.editor []) text editor.spent showings)
        (λ state. EditsDo state (take (limit_number Session) goes.taken) (done_of first.editor []) text editor.spent showings)
        (λ state is. edits_do_here state goes.taken (done_of first.editor []) text editor.spent showings few is) told;
  }

  done_now : DoneWith goes.text now.editor
  done_now =
      done_as now.editor goes.text goes.showings goes.sees goes.edits now.held goes.made.from goes.made.made goes.steps
      (if_told first.editor.told Ordering (λ state. EditsDo state goes.taken (done_of first.editor []) goes.text now.editor.spent goes.showings)
      (λ state is. doings.stands is.at goes.text (done_of now.editor goes.showings) is.does) goes.stands)

  turn_here : (wanted : Turn) → turn now.held (reads order goes.made.rest) ≡ wanted → turn_at now.held goes.made.from ≡ wanted
  turn_here wanted e = ap (turn now.held) goes.made.order_is ∙ e

  does_at : (wanted : Rest → Turn) → ((rest : Rest) → turn now.held (reads order rest) ≡ wanted rest) → (state : SessionState) (is : Ordering state) → turn_of is.at ≡ wanted is.rest
  does_at wanted does state is = held_turn (done_of first.editor []) state goes.taken goes.text goes.showings number order now is ∙ does is.rest

  made_edit : (edit : List Change) → ((rest : Rest) → turn now.held (reads order rest) ≡ makes edit rest) → MakesEdits goes.taken (goes.edits + generations edit) None now.waiting.unread
  made_edit edit does =
      subst (λ (bytes : List ℕ). MakesEdits goes.taken (goes.edits + generations edit) None bytes) (sym goes.made.input)
      (spending.edits goes.edits now.held goes.made.from edit goes.made.rest goes.made.made (turn_here (makes edit goes.made.rest) (does goes.made.rest)))

  frugal_here : (edit : List Change) (editor : EditorState) → EditSpends now.editor edit editor → (state : SessionState) (is : Ordering state) → IsFrugal is.at.state edit now.editor.spent editor.spent
  frugal_here edit editor steps state is = subst (λ (t : Option SessionState). IfSome t (λ s. IsFrugal s edit now.editor.spent editor.spent)) is.told steps.frugal

  done_edit : (edit : List Change) → ((rest : Rest) → turn now.held (reads order rest) ≡ makes edit rest) → (editor : EditorState) (more : List (List Shown)) → SeesMore now.editor.seen more editor.seen
      → IfSome now.editor.told (λ state. MayShow state edit now.editor.display more) → EditSpends now.editor edit editor → DoneWith goes.text editor
  done_edit edit does editor more sees may steps =
      done_as editor goes.text (goes.showings ++ more) (sees_then first.editor.seen now.editor.seen editor.seen goes.showings more goes.sees sees) (goes.edits + generations edit) None now.waiting.unread (made_edit edit does)
      (more_edits first.editor.spent now.editor.spent editor.spent goes.edits (generations edit) most_steps goes.steps steps.most)
      (if_told first.editor.told Ordering (λ state. EditsDo state goes.taken (done_of first.editor []) goes.text editor.spent (goes.showings ++ more))
      (λ state is. doings.stops is.at goes.text (done_of now.editor goes.showings) edit is.rest editor.spent more is.does (does_at (makes edit) does state is) (frugal_here edit editor steps state is)
      (subst (λ (t : Option SessionState). IfSome t (λ s. MayShow s edit now.editor.display more)) is.told may)) goes.stands)

  looks_made : (edit : List Change) → ((state : SessionState) (is : Ordering state) → turn_of is.at ≡ makes edit is.rest) → (editor : EditorState) → EditsLook now.editor edit editor → Looks first goes.taken editor.asked
  looks_made edit does editor edits =
      two_told first.editor.told Ordering (λ state. IfSome first.editor.asked (λ old. AsksFor (IsTriedLook state goes.taken) old now.editor.asked))
      (λ state. IfSome first.editor.asked (λ old. AsksFor (IsTriedLook state goes.taken) old editor.asked))
      (λ state at looks. looks_then (done_of first.editor []) state goes.taken goes.text goes.showings number order now at edit (does state at) first.editor.asked editor edits looks) goes.stands goes.looks

  quiet : IsQuiet first now.editor now.source
  quiet = record { editor_is = goes.quiet_editor; source_is = goes.quiet_source }

  front_told : IfSome first.editor.told (λ state. RepliesFront state goes.taken goes.text)
  front_told = if_told first.editor.told Ordering (λ state. RepliesFront state goes.taken goes.text) (λ state is. replies_front state goes.text is.at goes.taken few is.talks) goes.stands

  pub memory_turns : (after : SinkState) (status : ℕ) → Ends memory_status memory_line now.out after status → Converses first now.editor now.source after status
  memory_turns after status is = ends_memory first now.editor now.source goes.taken goes.takes goes.awaited few_taken looks_here_now now.out after goes.text goes.said goes.quiet_out done_now status quiet front_told is

  -- a line that ends the session, whatever comes behind it
  ended_by : (line : List ℕ) (status result : ℕ) (after : SinkState) → IsLastLine status line → ((state : SessionState) → Ordering state → (more : List ℕ) → Answers state (goes.taken ++ more) (goes.text ++ line) status)
      → Ends status line now.out after result → Converses first now.editor now.source after result
  ended_by line status result after last answers is =
      ends_outcome first now.editor now.source goes.taken goes.takes goes.awaited few_taken looks_here_now now.out after goes.text goes.said goes.quiet_out done_now line status result last quiet
      (if_told first.editor.told Ordering (λ state. Answers state goes.taken (goes.text ++ line) status) (λ state at. answers_taken goes.taken (goes.text ++ line) status state (answers state at)) goes.stands)
      (if_told first.editor.told Ordering (λ state. IfSome first.source.left (λ input. Answers state input (goes.text ++ line) status))
      (λ state at. answers_input first.source.left now.source.left goes.taken (goes.text ++ line) status state (answers state at) goes.takes.came) goes.stands)
      is

  pub refuse_turns : ((state : SessionState) (is : Ordering state) → turn_of is.at ≡ refuses) → (after : SinkState) (status : ℕ) → TellsEnd file_status (bad_line number) now.out after status
      → Converses first now.editor now.source after status
  refuse_turns does after status (inl is) =
      ended_by (bad_line number) file_status status after (at_line number)
      (λ state at more. subst (λ (n : ℕ). Answers state (goes.taken ++ more) (goes.text ++ bad_line n) file_status) (sym at.line) (answers_refused state goes.taken goes.text at.at at.talks more few (does state at)))
      is
  refuse_turns does after status (inr is) = memory_turns after status is

  pub end_turns : ((state : SessionState) (is : Ordering state) → turn_of is.at ≡ ends) → (after : SinkState) (status : ℕ) → Ends done_status end_reply now.out after status
      → Converses first now.editor now.source after status
  end_turns does after status is =
      ended_by end_reply done_status status after at_end (λ state at more. answers_ended state goes.taken goes.text at.at at.talks more few (does state at)) is

  pub collect_turns : (held : List Change) → ((rest : Rest) → turn now.held (reads order rest) ≡ holds held rest) → GoesOn first (now_at now.editor now.waiting (Some held) now.source now.out)
  collect_turns held does = record {
    taken = goes.taken;
    takes = goes.takes;
    limit = goes.limit;
    room = goes.room;
    awaited = goes.awaited;
    text = goes.text;
    said = goes.said;
    showings = goes.showings;
    sees = goes.sees;
    stands = if_told first.editor.told Ordering (λ state. StandsAt (done_of first.editor []) state goes.taken goes.text goes.showings (now_at now.editor now.waiting (Some held) now.source now.out))
        (λ state at. stands_collected (done_of first.editor []) state goes.taken goes.text goes.showings number order now at now.out held (does_at (holds held) does state at)) goes.stands;
    looks = goes.looks;
    edits = goes.edits;
    made = subst (λ (bytes : List ℕ). MakesEdits goes.taken goes.edits (Some held) bytes) (sym goes.made.input)
        (spending.collects goes.edits now.held goes.made.from held goes.made.rest goes.made.made (turn_here (holds held goes.made.rest) (does goes.made.rest)));
    steps = goes.steps;
    untold = goes.untold;
    quiet_editor = goes.quiet_editor;
    quiet_source = goes.quiet_source;
    quiet_out = goes.quiet_out;
  }

  -- ---- a reply, and then it goes on

  module _ (editor : EditorState) (out : SinkState) (line : List ℕ) (more : List (List Shown)) (sees : SeesMore now.editor.seen more editor.seen) (told : first.editor.told ≡ None → editor.told ≡ None) (calm : editor.faults ≡ now.editor.faults)
      (looked : Looks first goes.taken editor.asked) (count : ℕ) (made : MakesEdits goes.taken count None now.waiting.unread) (spent : editor.spent ≤ first.editor.spent + count * most_steps)
      (standing : (state : SessionState) → Ordering state → StandsAt (done_of first.editor []) state goes.taken (goes.text ++ line) (goes.showings ++ more) (now_at editor now.waiting None now.source out)) where
    sees_all : SeesMore first.editor.seen (goes.showings ++ more) editor.seen
    sees_all = sees_then first.editor.seen now.editor.seen editor.seen goes.showings more goes.sees sees

    done_told : DoesTold editor (goes.text ++ line) (goes.showings ++ more)
    done_told =
        if_told first.editor.told Ordering (λ state. EditsDo state goes.taken (done_of first.editor []) (goes.text ++ line) editor.spent (goes.showings ++ more))
        (λ state at. let then = standing state at in doings.stands then.at (goes.text ++ line) (done_of editor (goes.showings ++ more)) then.does) goes.stands

    replied_turns : (result : Option ℕ) → GivesReply line now.out out result → Turns first editor now.waiting None now.source out result
    replied_turns None gave = record {
      taken = goes.taken;
      takes = goes.takes;
      limit = goes.limit;
      room = goes.room;
      awaited = goes.awaited;
      text = goes.text ++ line;
      said = give_then first.out.got now.out.got out.got goes.text line goes.said gave.got;
      showings = goes.showings ++ more;
      sees = sees_all;
      stands = if_told first.editor.told Ordering (λ state. StandsAt (done_of first.editor []) state goes.taken (goes.text ++ line) (goes.showings ++ more) (now_at editor now.waiting None now.source out)) standing goes.stands;
      looks = looked;
      edits = count;
      made = made;
      steps = spent;
      untold = told;
      quiet_editor = calm ∙ goes.quiet_editor;
      quiet_source = goes.quiet_source;
      quiet_out = gave.quiet ∙ goes.quiet_out;
    }
    replied_turns (Some status) cut =
        ends_cut_off first editor now.source goes.taken goes.takes goes.awaited few_taken (looks_here first goes.taken editor.asked few looked) now.out out goes.text goes.said goes.quiet_out line
        (done_as editor (goes.text ++ line) (goes.showings ++ more) sees_all count None now.waiting.unread made spent done_told) status
        (record { editor_is = calm ∙ goes.quiet_editor; source_is = goes.quiet_source })
        (if_told first.editor.told Ordering (λ state. RepliesFront state goes.taken (goes.text ++ line))
        (λ state at. let then = standing state at in replies_front state (goes.text ++ line) then.at goes.taken few then.talks) goes.stands)
        cut

  pub make_turns : (edit : List Change) → ((rest : Rest) → turn now.held (reads order rest) ≡ makes edit rest) → (editor : EditorState) (out : SinkState) (result : Option ℕ)
      → Makes now.editor edit now.out editor out result → Turns first editor now.waiting None now.source out result
  make_turns edit does editor out result (replied line more sees edits looks steps gives) =
      replied_turns editor out line more sees (λ e. edits.untold (goes.untold e)) edits.quiet (looks_made edit (does_at (makes edit) does) editor looks) (goes.edits + generations edit) (made_edit edit does)
      (more_edits first.editor.spent now.editor.spent editor.spent goes.edits (generations edit) most_steps goes.steps steps.most)
      (λ state at. stands_made (done_of first.editor []) state goes.taken goes.text goes.showings number order now at editor out edit line more (does_at (makes edit) does state at)
      (subst (λ (t : Option SessionState). IfSome t (λ s. IsReplied s edit line now.editor more editor)) at.told edits.replied) (frugal_here edit editor steps state at))
      result gives
  make_turns edit does editor out result (fails status more sees may e rose looks steps is) =
      subst (λ (r : Option ℕ). Turns first editor now.waiting None now.source out r) (sym e)
      (ends_look_fault first editor now.source goes.taken goes.takes goes.awaited few_taken (looks_here first goes.taken editor.asked few (looks_made edit (does_at (makes edit) does) editor looks)) now.out out goes.text goes.said goes.quiet_out
      (done_edit edit does editor more sees may steps) status (subst (λ (n : ℕ). Rose n editor.faults) goes.quiet_editor rose) goes.quiet_source front_told is)
  make_turns edit does editor out result (wants status more sees may e calm looks steps is) =
      subst (λ (r : Option ℕ). Turns first editor now.waiting None now.source out r) (sym e)
      (ends_memory first editor now.source goes.taken goes.takes goes.awaited few_taken (looks_here first goes.taken editor.asked few (looks_made edit (does_at (makes edit) does) editor looks)) now.out out goes.text goes.said goes.quiet_out
      (done_edit edit does editor more sees may steps) status (record { editor_is = calm ∙ goes.quiet_editor; source_is = goes.quiet_source }) front_told is)

  made_shown : ((rest : Rest) → turn now.held (reads order rest) ≡ shows rest) → MakesEdits goes.taken goes.edits None now.waiting.unread
  made_shown does =
      subst (λ (bytes : List ℕ). MakesEdits goes.taken goes.edits None bytes) (sym goes.made.input)
      (spending.shows_it goes.edits now.held goes.made.from goes.made.rest goes.made.made (turn_here (shows goes.made.rest) (does goes.made.rest)))

  pub show_turns : ((rest : Rest) → turn now.held (reads order rest) ≡ shows rest) → (out : SinkState) (result : Option ℕ) → ShowsMap now.editor now.out out result
      → Turns first now.editor now.waiting None now.source out result
  show_turns does out result (shown map is gives) =
      replied_turns now.editor out (map_reply map) [] (sees_nothing now.editor.seen) goes.untold refl goes.looks goes.edits (made_shown does) goes.steps
      (λ state at. subst (λ (l : List (List Shown)). StandsAt (done_of first.editor []) state goes.taken (goes.text ++ map_reply map) l (now_at now.editor now.waiting None now.source out)) (sym (append-nil goes.showings))
      (stands_shown (done_of first.editor []) state goes.taken goes.text goes.showings number order now at out map (does_at shows does state at)
      (subst (λ (t : Option SessionState). IfSome t (λ s. map ≡ s.map)) at.told is)))
      result gives
  show_turns does out result (lost status e is) =
      subst (λ (r : Option ℕ). Turns first now.editor now.waiting None now.source out r) (sym e) (memory_turns out status is)

-- ---- each order at its place

module _ (first : Now) (number : ℕ) (editor : EditorState) (waiting : Waiting) (source : SourceState) (out : SinkState) where
  pub alone_change : (change : Change) (later : EditorState) (after : SinkState) (result : Option ℕ) → IsOrdered number (changes change) first (now_at editor waiting None source out) → Makes editor (change ∷ []) out later after result
      → Turns first later waiting None source after result
  alone_change change later after result goes made =
      make_turns first (now_at editor waiting None source out) number (changes change) goes (change ∷ [])
      (λ rest. refl) later after result made

  pub alone_begin : IsOrdered number begins first (now_at editor waiting None source out) → GoesOn first (now_at editor waiting (Some []) source out)
  alone_begin goes =
      collect_turns first (now_at editor waiting None source out) number begins goes []
      (λ rest. refl)

  pub alone_commit : (after : SinkState) (status : ℕ) → IsOrdered number commits first (now_at editor waiting None source out) → TellsEnd file_status (bad_line number) out after status → Converses first editor source after status
  alone_commit after status goes is =
      refuse_turns first (now_at editor waiting None source out) number commits goes
      (λ state at. held_turn (done_of first.editor []) state goes.taken goes.text goes.showings number commits (now_at editor waiting None source out) at) after status is

  pub alone_map : (after : SinkState) (result : Option ℕ) → IsOrdered number shows_map first (now_at editor waiting None source out) → ShowsMap editor out after result → Turns first editor waiting None source after result
  alone_map after result goes is =
      show_turns first (now_at editor waiting None source out) number shows_map goes
      (λ rest. refl) after result is

  pub alone_end : (after : SinkState) (status : ℕ) → IsOrdered number ends_session first (now_at editor waiting None source out) → Ends done_status end_reply out after status → Converses first editor source after status
  alone_end after status goes is =
      end_turns first (now_at editor waiting None source out) number ends_session goes
      (λ state at. held_turn (done_of first.editor []) state goes.taken goes.text goes.showings number ends_session (now_at editor waiting None source out) at) after status is

  module _ (held : List Change) where
    pub within_change : (change : Change) → IsOrdered number (changes change) first (now_at editor waiting (Some held) source out) → GoesOn first (now_at editor waiting (Some (held ++ change ∷ [])) source out)
    within_change change goes =
        collect_turns first (now_at editor waiting (Some held) source out) number (changes change) goes (held ++ change ∷ [])
        (λ rest. refl)

    pub within_commit : (later : EditorState) (after : SinkState) (result : Option ℕ) → IsOrdered number commits first (now_at editor waiting (Some held) source out) → Makes editor held out later after result
        → Turns first later waiting None source after result
    within_commit later after result goes made =
        make_turns first (now_at editor waiting (Some held) source out) number commits goes held
        (λ rest. refl) later after result made

    pub within_begin : (after : SinkState) (status : ℕ) → IsOrdered number begins first (now_at editor waiting (Some held) source out) → TellsEnd file_status (bad_line number) out after status → Converses first editor source after status
    within_begin after status goes is =
        refuse_turns first (now_at editor waiting (Some held) source out) number begins goes
        (λ state at. held_turn (done_of first.editor []) state goes.taken goes.text goes.showings number begins (now_at editor waiting (Some held) source out) at) after status is

    pub within_map : (after : SinkState) (status : ℕ) → IsOrdered number shows_map first (now_at editor waiting (Some held) source out) → TellsEnd file_status (bad_line number) out after status → Converses first editor source after status
    within_map after status goes is =
        refuse_turns first (now_at editor waiting (Some held) source out) number shows_map goes
        (λ state at. held_turn (done_of first.editor []) state goes.taken goes.text goes.showings number shows_map (now_at editor waiting (Some held) source out) at) after status is

    pub within_end : (after : SinkState) (status : ℕ) → IsOrdered number ends_session first (now_at editor waiting (Some held) source out) → TellsEnd file_status (bad_line number) out after status → Converses first editor source after status
    within_end after status goes is =
        refuse_turns first (now_at editor waiting (Some held) source out) number ends_session goes
        (λ state at. held_turn (done_of first.editor []) state goes.taken goes.text goes.showings number ends_session (now_at editor waiting (Some held) source out) at) after status is

  pub memory_ordered : (held : Option (List Change)) (order : lines.Order) (after : SinkState) (status : ℕ) → IsOrdered number order first (now_at editor waiting held source out) → Ends memory_status memory_line out after status
      → Converses first editor source after status
  memory_ordered held order after status goes is = memory_turns first (now_at editor waiting held source out) number order goes after status is

-- ---- as the code has it

pub none_held : (first : Now) (editor : EditorState) (waiting : Waiting) (held : Option (List Change)) (source : SourceState) (out : SinkState) (result : Option ℕ) → held ≡ None
    → Turns first editor waiting None source out result → Turns first editor waiting held source out result
none_held first editor waiting held source out result e turns = subst (λ (h : Option (List Change)). Turns first editor waiting h source out result) (sym e) turns

pub ruleset turning = (alone_change, alone_begin, alone_commit, alone_map, alone_end, within_change, within_commit, within_begin, within_map, within_end, memory_ordered)
