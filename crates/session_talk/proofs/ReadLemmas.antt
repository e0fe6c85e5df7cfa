-- What a line that is read comes to, and an input that gives none.
use Rattle.std.proofs.Common.{◌≡◌, ◌≤◌, ◌<◌, ◌++◌, ◌∷◌, [], ℕ, List, length, Option, Some, None, Ok, Err, sym, ap, ◌∙◌, subst, inl, inr, arith}
use Rattle.std.proofs.lemmas.List.{append-nil, append_assoc, length-append}
use Rattle.std.specs.Prelude.{◌+◌, take, IfSome, IfNone}
use Rattle.tree_spec.specs.Counts.{Rose}
use Rattle.tree_spec.specs.Limits.{limit_number}
use Rattle.tree_spec.specs.States.{SourceState, SinkState}
use Rattle.tree_spec.specs.declared.LimitName.TheVariants.{Session}
use Rattle.generator_spec.specs.Ending.{Ends}
use Rattle.generator_spec.specs.Lines.{memory_line, read_fault_line, limit_line}
use Rattle.generator_spec.specs.Statuses.{file_status, limit_status, memory_status, read_fault_status}
use Rattle.session_spec.specs.declared.Change.{Change}
use Rattle.session_spec.specs.Conversations.{Answers, bad_line}
use Rattle.session_spec.specs.SessionLines as lines
use Rattle.session_spec.specs.SessionLines.{malformed, unfinished}
use Rattle.session_spec.specs.SessionStates.{SessionState}
use Rattle.session_spec.specs.SessionDoings.{EditsDo, stands}
use Rattle.session_spec.specs.TakenInput.{IsFront, Takes, IsSpent, IsAwaited}
use Rattle.session_spec.proofs.SessionDoing.{edits_do_allowed}
use Rattle.session_spec.proofs.SessionSpending.{edits_on, spends_allowed}
use Rattle.session_spec.proofs.SomeAnswer.{read_shorter}
use Rattle.session_spec.proofs.Standings.{answers_refused, answers_short, answers_long}
use Rattle.session_spec.proofs.Talking.{with_more}
use Rattle.session_input.specs.declared.reading.Order.{Order}
use Rattle.session_input.specs.declared.reading.InputFault.TheVariants.{ReadFault, Memory}
use Rattle.session_input.specs.declared.reading.Reading.TheVariants as reading
use Rattle.session_input.specs.Readers.{Waiting, order_of, IsWithin, IsBeyond, IsRead, IsNeeded, ReadsNext}
use Rattle.session_input.proofs.ReaderLemmas.{takes_then}
use Rattle.session_talk.specs.Editors.{EditorState}
use Rattle.session_talk.specs.Talking.{Now, now_at, done_of, StandsAt, OrderedAt, Looks, GoesOn, IsOrdered, RepliesFront, RepliesAll, DoesFor, at_line, at_limit, IsQuiet, Converses, TellsEnd}
use Rattle.session_talk.proofs.LookLemmas.{looks_with, looks_within}
use Rattle.session_talk.proofs.TalkLemmas.{if_told, replies_with, replies_all, ends_memory, ends_take_fault, ends_outcome, answers_input, answers_taken, talks_with, turns_with, ordered_with, open_with, awaited_with}

answers_spent : (left last : Option (List ℕ)) (taken text : List ℕ) (status : ℕ) (state : SessionState) → Answers state taken text status → IfSome left (λ input. IsFront taken input last) → IfSome last (λ rest. rest ≡ [])
    → IfSome left (λ input. Answers state input text status)
answers_spent None last taken text status state answers came spent = tt
answers_spent (Some input) last taken text status state answers came spent =
    let none : came.rest ≡ [] = subst (λ (l : Option (List ℕ)). IfSome l (λ rest. rest ≡ [])) came.told spent in
    let whole : taken ≡ input = sym (append-nil taken) ∙ ap (λ (rest : List ℕ). taken ++ rest) (sym none) ∙ sym came.whole in
    subst (λ (bytes : List ℕ). Answers state bytes text status) whole answers

module _ (first : Now) (editor : EditorState) (before : Waiting) (held : Option (List Change)) (source later : SourceState) (out : SinkState)
    (goes : GoesOn first (now_at editor before held source out)) (more : List ℕ) (takes : Takes source more later) (needed : IsNeeded before source more later) (few_more : length more ≤ before.room + 1) where
  abbrev here : Now
  here = now_at editor before held source out

  abbrev Standing : SessionState → Type 0
  Standing state = StandsAt (done_of first.editor []) state goes.taken goes.text goes.showings here

  abbrev all : List ℕ
  all = goes.taken ++ more

  takes_all : Takes first.source all later
  takes_all = takes_then first.source source later goes.taken more goes.takes takes

  most : length goes.taken + length more ≤ limit_number Session + 1
  most = let limit = goes.limit in let room = goes.room in omega (arith, limit, room, few_more)

  awaited_all : IsAwaited first.source all later
  awaited_all =
      let limit = goes.limit in
      let room = goes.room in
      awaited_with first.source source later goes.taken more before goes.edits held goes.made (omega (arith, limit, room)) goes.awaited needed

  long_all : length all ≡ length goes.taken + length more
  long_all = length-append goes.taken more

  few_all : length all ≤ limit_number Session + 1
  few_all = let both = most in let long = long_all in omega (arith, both, long)

  few_taken : length goes.taken ≤ limit_number Session
  few_taken = let limit = goes.limit in let room = goes.room in omega (arith, limit, room)

  looks_all : Looks first (take (limit_number Session) all) editor.asked
  looks_all = looks_within first goes.taken editor.asked more few_taken goes.looks

  done_all : DoesFor first (take (limit_number Session) all) goes.text editor
  done_all = record {
    most = spends_allowed goes.taken more first.editor.spent editor.spent few_taken
        (record { edits = goes.edits; held = held; behind = before.unread; made = goes.made; few = goes.steps });
    showings = goes.showings;
    sees = goes.sees;
    does = if_told first.editor.told Standing (λ state. EditsDo state (take (limit_number Session) all) (done_of first.editor []) goes.text editor.spent goes.showings)
        (λ state at. edits_do_allowed state goes.taken (done_of first.editor []) goes.text editor.spent goes.showings few_taken (stands at.at goes.text (done_of editor goes.showings) at.does) more) goes.stands;
  }

  few : (wanted : lines.Reading) → IsWithin before more wanted → length all ≤ limit_number Session
  few wanted within =
      let limit = goes.limit in
      let room = goes.room in
      let few = within.few in
      let long = long_all in
      omega (arith, limit, room, few, long)

  quiet : later.faults ≡ source.faults → IsQuiet first editor later
  quiet e = record { editor_is = goes.quiet_editor; source_is = e ∙ goes.quiet_source }

  pub memory_read : (after : SinkState) (status : ℕ) → later.faults ≡ source.faults → Ends memory_status memory_line out after status → Converses first editor later after status
  memory_read after status e is =
      ends_memory first editor later all takes_all awaited_all few_all looks_all out after goes.text goes.said goes.quiet_out done_all status (quiet e)
      (if_told first.editor.told Standing (λ state. RepliesFront state all goes.text) (λ state at. replies_with state goes.text at.at goes.taken more few_taken at.talks) goes.stands) is

  pub fault_read : (after : SinkState) (status : ℕ) → IsWithin before more unfinished → Rose source.faults later.faults → Ends read_fault_status read_fault_line out after status
      → Converses first editor later after status
  fault_read after status within rose is =
      ends_take_fault first editor later all takes_all awaited_all few_all looks_all out after goes.text goes.said goes.quiet_out done_all status (open_with goes.taken more before.unread goes.edits held goes.made (few unfinished within) within.is)
      goes.quiet_editor (subst (λ (n : ℕ). Rose n later.faults) goes.quiet_source rose)
      (if_told first.editor.told Standing (λ state. RepliesAll state all goes.text)
      (λ state at. replies_all state goes.text (with_more more at.at) all (few unfinished within) (talks_with (done_of first.editor []) state goes.taken goes.text more goes.showings here at)
      (turns_with (done_of first.editor []) state goes.taken goes.text more goes.showings here at unfinished within.is)) goes.stands) is

  numbered : (state : SessionState) (at : Standing state) (taken : List ℕ) (status : ℕ) → Answers state taken (goes.text ++ bad_line at.at.number) status → Answers state taken (goes.text ++ bad_line before.number) status
  numbered state at taken status answers = subst (λ (n : ℕ). Answers state taken (goes.text ++ bad_line n) status) (sym at.number) answers

  pub refused_read : (after : SinkState) (status : ℕ) → IsWithin before more malformed → later.faults ≡ source.faults → TellsEnd file_status (bad_line before.number) out after status
      → Converses first editor later after status
  refused_read after status within e (inr is) = memory_read after status e is
  refused_read after status within e (inl is) =
      let line = bad_line before.number in
      let answers : (state : SessionState) → Standing state → (rest : List ℕ) → Answers state (all ++ rest) (goes.text ++ line) file_status =
      λ state at rest. numbered state at (all ++ rest) file_status
      (answers_refused state all goes.text (with_more more at.at) (talks_with (done_of first.editor []) state goes.taken goes.text more goes.showings here at) rest (few malformed within) (turns_with (done_of first.editor []) state goes.taken goes.text more goes.showings here at malformed within.is)) in
      ends_outcome first editor later all takes_all awaited_all few_all looks_all out after goes.text goes.said goes.quiet_out done_all line file_status status (at_line before.number) (quiet e)
      (if_told first.editor.told Standing (λ state. Answers state all (goes.text ++ line) file_status) (λ state at. answers_taken all (goes.text ++ line) file_status state (answers state at)) goes.stands)
      (if_told first.editor.told Standing (λ state. IfSome first.source.left (λ input. Answers state input (goes.text ++ line) file_status))
      (λ state at. answers_input first.source.left later.left all (goes.text ++ line) file_status state (answers state at) takes_all.came) goes.stands)
      is

  pub short_read : (after : SinkState) (status : ℕ) → IsWithin before more unfinished → IsSpent later → later.faults ≡ source.faults → TellsEnd file_status (bad_line before.number) out after status
      → Converses first editor later after status
  short_read after status within spent e (inr is) = memory_read after status e is
  short_read after status within spent e (inl is) =
      let line = bad_line before.number in
      let answers : (state : SessionState) → Standing state → Answers state all (goes.text ++ line) file_status =
      λ state at. numbered state at all file_status
      (answers_short state all goes.text (with_more more at.at) (talks_with (done_of first.editor []) state goes.taken goes.text more goes.showings here at) (few unfinished within) (turns_with (done_of first.editor []) state goes.taken goes.text more goes.showings here at unfinished within.is)) in
      ends_outcome first editor later all takes_all awaited_all few_all looks_all out after goes.text goes.said goes.quiet_out done_all line file_status status (at_line before.number) (quiet e)
      (if_told first.editor.told Standing (λ state. Answers state all (goes.text ++ line) file_status) answers goes.stands)
      (if_told first.editor.told Standing (λ state. IfSome first.source.left (λ input. Answers state input (goes.text ++ line) file_status))
      (λ state at. answers_spent first.source.left later.left all (goes.text ++ line) file_status state (answers state at) takes_all.came spent) goes.stands)
      is

  pub long_read : (after : SinkState) (status : ℕ) → IsBeyond before more → later.faults ≡ source.faults → TellsEnd limit_status (limit_line Session) out after status → Converses first editor later after status
  long_read after status beyond e (inr is) = memory_read after status e is
  long_read after status beyond e (inl is) =
      let line = limit_line Session in
      let front = goes.taken ++ beyond.front in
      let byte = beyond.byte in
      let full : length front ≡ limit_number Session =
      (let long = length-append goes.taken beyond.front in let full = beyond.full in let room = goes.room in let limit = goes.limit in omega (arith, long, full, room, limit)) in
      let whole : all ≡ front ++ byte ∷ [] = ap (λ (m : List ℕ). goes.taken ++ m) beyond.whole ∙ sym (append_assoc goes.taken beyond.front (byte ∷ [])) in
      let answers : (state : SessionState) → Standing state → (rest : List ℕ) → Answers state (all ++ rest) (goes.text ++ line) limit_status =
      λ state at rest.
      subst (λ (bytes : List ℕ). Answers state bytes (goes.text ++ line) limit_status) (sym (ap (λ (a : List ℕ). a ++ rest) whole ∙ append_assoc front (byte ∷ []) rest))
      (answers_long state front goes.text (with_more beyond.front at.at) (talks_with (done_of first.editor []) state goes.taken goes.text beyond.front goes.showings here at) byte rest full
      (turns_with (done_of first.editor []) state goes.taken goes.text beyond.front goes.showings here at unfinished beyond.is)) in
      ends_outcome first editor later all takes_all awaited_all few_all looks_all out after goes.text goes.said goes.quiet_out done_all line limit_status status at_limit (quiet e)
      (if_told first.editor.told Standing (λ state. Answers state all (goes.text ++ line) limit_status) (λ state at. answers_taken all (goes.text ++ line) limit_status state (answers state at)) goes.stands)
      (if_told first.editor.told Standing (λ state. IfSome first.source.left (λ input. Answers state input (goes.text ++ line) limit_status))
      (λ state at. answers_input first.source.left later.left all (goes.text ++ line) limit_status state (answers state at) takes_all.came) goes.stands)
      is

  pub ordered_read : (after : Waiting) (order : Order) → IsRead (lines.read_line (before.unread ++ more)) before more order after → later.faults ≡ source.faults
      → IsOrdered before.number (order_of order) first (now_at editor after held later out)
  ordered_read after order read e = record {
    taken = all;
    takes = takes_all;
    limit = goes.limit;
    room = let first_room = goes.room in let room = read.room in let long = long_all in omega (arith, first_room, room, long);
    awaited = awaited_all;
    text = goes.text;
    said = goes.said;
    showings = goes.showings;
    sees = goes.sees;
    stands = if_told first.editor.told Standing (λ state. OrderedAt (done_of first.editor []) before.number (order_of order) state all goes.text goes.showings (now_at editor after held later out))
        (λ state at. ordered_with (done_of first.editor []) state goes.taken goes.text more goes.showings here at (order_of order) after later read.rest read.is read.unread read.number) goes.stands;
    looks = looks_with first goes.taken editor.asked more goes.looks;
    edits = goes.edits;
    made = record { from = before.unread ++ more; made = edits_on goes.taken more goes.edits held before.unread goes.made; rest = read.rest; order_is = read.is; input = read.unread };
    steps = goes.steps;
    untold = goes.untold;
    quiet_editor = goes.quiet_editor;
    quiet_source = e ∙ goes.quiet_source;
    quiet_out = goes.quiet_out;
  }

-- ---- by what the reader answers

module _ (first : Now) (editor : EditorState) (before after : Waiting) (held : Option (List Change)) (source later : SourceState) (out : SinkState) where
  pub turn_ordered : (number : ℕ) (order : Order) → number ≡ before.number → GoesOn first (now_at editor before held source out) → ReadsNext before after source later (Ok (reading.Ordered order))
      → IsOrdered number (order_of order) first (now_at editor after held later out)
  turn_ordered number order e goes next =
      subst (λ (n : ℕ). IsOrdered n (order_of order) first (now_at editor after held later out)) (sym e)
      (ordered_read first editor before held source later out goes next.taken next.takes next.needed next.few after order next.reads next.faults)

  pub turn_malformed : (number : ℕ) (gone : SinkState) (status : ℕ) → number ≡ before.number → GoesOn first (now_at editor before held source out) → ReadsNext before after source later (Ok reading.Malformed)
      → TellsEnd file_status (bad_line number) out gone status → Converses first editor later gone status
  turn_malformed number gone status e goes next is =
      refused_read first editor before held source later out goes next.taken next.takes next.needed next.few gone status next.reads next.faults
      (subst (λ (n : ℕ). TellsEnd file_status (bad_line n) out gone status) e is)

  pub turn_ended : (number : ℕ) (gone : SinkState) (status : ℕ) → number ≡ before.number → GoesOn first (now_at editor before held source out) → ReadsNext before after source later (Ok reading.Ended)
      → TellsEnd file_status (bad_line number) out gone status → Converses first editor later gone status
  turn_ended number gone status e goes next is =
      short_read first editor before held source later out goes next.taken next.takes next.needed next.few gone status next.reads.0 next.reads.1 next.faults
      (subst (λ (n : ℕ). TellsEnd file_status (bad_line n) out gone status) e is)

  pub turn_long : (gone : SinkState) (status : ℕ) → GoesOn first (now_at editor before held source out) → ReadsNext before after source later (Ok reading.TooLong)
      → TellsEnd limit_status (limit_line Session) out gone status → Converses first editor later gone status
  turn_long gone status goes next is =
      long_read first editor before held source later out goes next.taken next.takes next.needed next.few gone status next.reads next.faults is

  pub turn_fault : (gone : SinkState) (status : ℕ) → GoesOn first (now_at editor before held source out) → ReadsNext before after source later (Err ReadFault)
      → Ends read_fault_status read_fault_line out gone status → Converses first editor later gone status
  turn_fault gone status goes next is =
      fault_read first editor before held source later out goes next.taken next.takes next.needed next.few gone status next.reads next.faults is

  pub turn_memory : (gone : SinkState) (status : ℕ) → GoesOn first (now_at editor before held source out) → ReadsNext before after source later (Err Memory)
      → Ends memory_status memory_line out gone status → Converses first editor later gone status
  turn_memory gone status goes next is =
      memory_read first editor before held source later out goes next.taken next.takes next.needed next.few gone status next.faults is

-- each line that is read leaves fewer bytes to be read
pub turn_less : (before after : Waiting) (source later : SourceState) (order : Order) → ReadsNext before after source later (Ok (reading.Ordered order))
    → length after.unread + after.room < length before.unread + before.room
turn_less before after source later order next =
    let shorter = read_shorter (before.unread ++ next.taken) (order_of order) next.reads.rest next.reads.is in
    let long = length-append before.unread next.taken in
    let same = ap length next.reads.unread in
    let room = next.reads.room in
    omega (arith, shorter, long, same, room)

pub less_if : {P : Type 0} (result : Option ℕ) → P → IfNone result P
less_if None p = p
less_if (Some status) p = tt

pub ruleset reading_lines = (turn_ordered, turn_malformed, turn_ended, turn_long, turn_fault, turn_memory, turn_less)
