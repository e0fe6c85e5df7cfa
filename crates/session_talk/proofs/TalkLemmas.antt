-- Where replies stand behind a line, and how they end.
use Rattle.std.proofs.Common.{◌≡◌, ◌≤◌, ◌++◌, [], ℕ, List, length, Option, Some, None, refl, sym, ap, ◌∙◌, subst, arith}
use Rattle.std.proofs.lemmas.List.{append-nil, append_assoc, take_all, length-append}
use Rattle.std.proofs.Math.Seq.{take-append-add}
use Rattle.std.specs.Prelude.{◌+◌, take, option_map, IfSome}
use Rattle.tree_spec.specs.Counts.{Rose}
use Rattle.tree_spec.specs.Limits.{limit_number}
use Rattle.tree_spec.specs.declared.LimitName.TheVariants.{Session}
use Rattle.tree_spec.specs.States.{SourceState, SinkState}
use Rattle.generator_spec.specs.Ending.{Ends, Gives}
use Rattle.generator_spec.specs.Ending as ending
use Rattle.generator_spec.specs.Lines.{memory_line, read_fault_line}
use Rattle.generator_spec.specs.Statuses.{memory_status, read_fault_status}
use Rattle.session_spec.specs.declared.Change.{Change}
use Rattle.session_spec.specs.Conversations.{Answers, turn, makes, holds, shows, stops, map_reply}
use Rattle.session_spec.specs.Frugality.{IsFrugal}
use Rattle.session_spec.specs.SessionDoings as doings
use Rattle.session_spec.specs.SessionDoings.{SeesMore, Done, Does}
use Rattle.session_spec.specs.SessionLines as lines
use Rattle.session_spec.specs.SessionLines.{Rest, reads, unfinished, read_line}
use Rattle.session_spec.specs.SessionLooks.{IsTriedLook}
use Rattle.session_spec.specs.SessionStates.{SessionState}
use Rattle.session_spec.specs.SessionSteps.{MakesEdits, most_steps}
use Rattle.session_spec.specs.Showings.{Shown}
use Rattle.session_spec.specs.SessionSteps as spending
use Rattle.session_spec.specs.TakenInput.{IsFront, Takes, LeavesOpen, IsAwaited}
use Rattle.session_spec.specs.Talks.{Standing, begun, behind, turn_of, Talks, still, edits, collects, shows_it}
use Rattle.session_spec.proofs.SessionDoing.{does_on, does_replies}
use Rattle.session_spec.proofs.SessionSpending.{few_by_none, edits_on}
use Rattle.session_spec.proofs.TakenFronts.{untaken, takes_behind}
use Rattle.session_spec.proofs.Talking.{with_more, talks_on, talks_then, allowed_front}
use Rattle.session_input.specs.Readers.{Waiting, IsWithin, IsNeeded}
use Rattle.session_input.proofs.ReaderLemmas.{takes_none}
use Rattle.session_talk.specs.Editors.{EditorState, AsksFor, IsReplied}
use Rattle.session_talk.specs.Talking.{Now, now_at, done_of, StandsAt, OrderedAt, Looks, GoesOn}
use Rattle.session_talk.specs.Talking.{RepliesFront, RepliesAll, DoesFor, IsLastLine, IsQuiet, Says, outcome, memory, look_fault, take_fault, said, cut_off, Converses}
use Rattle.session_talk.specs.Talking.{CutOff}
use Rattle.session_talk.proofs.LookLemmas.{nothing_for}

-- ---- what is told

pub if_told : (told : Option SessionState) (P Q : SessionState → Type 0) → ((state : SessionState) → P state → Q state) → IfSome told P → IfSome told Q
if_told None P Q f p = tt
if_told (Some state) P Q f p = f state p

pub two_told : (told : Option SessionState) (P Q R : SessionState → Type 0) → ((state : SessionState) → P state → Q state → R state) → IfSome told P → IfSome told Q → IfSome told R
two_told None P Q R f p q = tt
two_told (Some state) P Q R f p q = f state p q

-- ---- what is shown

pub sees_then : (first now after : Option (List (List Shown))) (showings more : List (List Shown)) → SeesMore first showings now → SeesMore now more after → SeesMore first (showings ++ more) after
sees_then None now after showings more e g = g ∙ ap (option_map (λ (earlier : List (List Shown)). earlier ++ more)) e
sees_then (Some seen) now after showings more e g = g ∙ ap (option_map (λ (earlier : List (List Shown)). earlier ++ more)) e ∙ ap Some (append_assoc seen showings more)

pub sees_nothing : (seen : Option (List (List Shown))) → SeesMore seen [] seen
sees_nothing None = refl
sees_nothing (Some seen) = ap Some (sym (append-nil seen))

-- ---- what goes out

pub give_then : (first now after : Option (List ℕ)) (text line : List ℕ) → now ≡ option_map (λ front. front ++ text) first → after ≡ option_map (λ front. front ++ line) now
    → after ≡ option_map (λ front. front ++ (text ++ line)) first
give_then None now after text line e g = g ∙ ap (option_map (λ (front : List ℕ). front ++ line)) e
give_then (Some got) now after text line e g = g ∙ ap (option_map (λ (front : List ℕ). front ++ line)) e ∙ ap Some (append_assoc got text line)

pub gives_then : (first now after : Option (List ℕ)) (text line : List ℕ) → now ≡ option_map (λ front. front ++ text) first → Gives now after line → Gives first after (text ++ line)
gives_then first now after text line e gives = record {
  count = length text + gives.count;
  given = give_then first now after text (take gives.count line) e gives.given
      ∙ ap (λ (t : List ℕ). option_map (λ front. front ++ t) first) (sym (take-append-add text line gives.count));
}

pub ends_then : (first now after : SinkState) (text line : List ℕ) (status result : ℕ) → now.got ≡ option_map (λ front. front ++ text) first.got → now.faults ≡ first.faults → Ends status line now after result
    → Ends status (text ++ line) first after result
ends_then first now after text line status result e quiet (ending.said is got same) = ending.said is (give_then first.got now.got after.got text line e got) (same ∙ quiet)
ends_then first now after text line status result e quiet (ending.output_fault is gives rose) =
    ending.output_fault is (gives_then first.got now.got after.got text line e gives) (subst (λ (n : ℕ). Rose n after.faults) quiet rose)

-- ---- ends

module _ (first : Now) (editor : EditorState) (source : SourceState) (taken : List ℕ) (takes : Takes first.source taken source) (awaited : IsAwaited first.source taken source) (few : length taken ≤ limit_number Session + 1)
    (looks : Looks first (take (limit_number Session) taken) editor.asked) where
  abbrev DoneWith : List ℕ → Type 0
  DoneWith text = DoesFor first (take (limit_number Session) taken) text editor

  module _ (out after : SinkState) (text : List ℕ) (got : out.got ≡ option_map (λ front. front ++ text) first.out.got) (quiet_out : out.faults ≡ first.out.faults) where
    ends_as : DoneWith text → (line : List ℕ) (status result : ℕ) → Says first editor source taken text status (text ++ line) → Ends status line out after result → Converses first editor source after result
    ends_as done line status result says is =
        record { taken = taken; takes = takes; few = few; awaited = awaited; looks = looks; replied = text; done = done; stops = said status (text ++ line) says (ends_then first.out out after text line status result got quiet_out is) }

    pub ends_memory : DoneWith text → (result : ℕ) → IsQuiet first editor source → IfSome first.editor.told (λ state. RepliesFront state taken text) → Ends memory_status memory_line out after result
        → Converses first editor source after result
    ends_memory done result quiet front is = ends_as done memory_line memory_status result (memory quiet front refl refl) is

    pub ends_look_fault : DoneWith text → (result : ℕ) → Rose first.editor.faults editor.faults → source.faults ≡ first.source.faults → IfSome first.editor.told (λ state. RepliesFront state taken text)
        → Ends read_fault_status read_fault_line out after result → Converses first editor source after result
    ends_look_fault done result rose quiet front is = ends_as done read_fault_line read_fault_status result (look_fault rose quiet front refl refl) is

    pub ends_take_fault : DoneWith text → (result : ℕ) → LeavesOpen taken → editor.faults ≡ first.editor.faults → Rose first.source.faults source.faults → IfSome first.editor.told (λ state. RepliesAll state taken text)
        → Ends read_fault_status read_fault_line out after result → Converses first editor source after result
    ends_take_fault done result left_open quiet rose all is = ends_as done read_fault_line read_fault_status result (take_fault left_open quiet rose all refl refl) is

    pub ends_outcome : DoneWith text → (line : List ℕ) (status result : ℕ) → IsLastLine status line → IsQuiet first editor source → IfSome first.editor.told (λ state. Answers state taken (text ++ line) status)
        → IfSome first.editor.told (λ state. IfSome first.source.left (λ input. Answers state input (text ++ line) status)) → Ends status line out after result → Converses first editor source after result
    ends_outcome done line status result last quiet here whole is =
        ends_as done line status result (outcome (record { last = line; whole = refl; is_last = last }) quiet here whole) is

    pub ends_cut_off : (reply : List ℕ) → DoneWith (text ++ reply) → (result : ℕ) → IsQuiet first editor source → IfSome first.editor.told (λ state. RepliesFront state taken (text ++ reply)) → CutOff reply out after result
        → Converses first editor source after result
    ends_cut_off reply done result quiet front cut = record {
      taken = taken;
      takes = takes;
      few = few;
      awaited = awaited;
      looks = looks;
      replied = text ++ reply;
      done = done;
      stops = cut_off quiet front cut.is_status (gives_then first.out.got out.got after.got text reply got cut.gives) (subst (λ (n : ℕ). Rose n after.faults) quiet_out cut.rose);
    }

-- ---- what was replied until then

module _ (state : SessionState) (text : List ℕ) (later : Standing) where
  pub replies_front : (taken : List ℕ) → length taken ≤ limit_number Session → Talks (begun state taken) text later → RepliesFront state taken text
  replies_front taken few talks = record {
    later = later;
    talks = subst (λ (bytes : List ℕ). Talks (begun state bytes) text later) (sym (take_all (limit_number Session) taken few)) talks;
  }

  pub replies_all : (taken : List ℕ) → length taken ≤ limit_number Session → Talks (begun state taken) text later → turn_of later ≡ stops → RepliesAll state taken text
  replies_all taken few talks waits = record {
    later = later;
    talks = subst (λ (bytes : List ℕ). Talks (begun state bytes) text later) (sym (take_all (limit_number Session) taken few)) talks;
    waits = waits;
  }

-- however much was taken behind these bytes
pub replies_with : (state : SessionState) (text : List ℕ) (later : Standing) (taken more : List ℕ) → length taken ≤ limit_number Session → Talks (begun state taken) text later
    → RepliesFront state (taken ++ more) text
replies_with state text later taken more few talks =
    let allowed = allowed_front taken more few in
    record {
      later = with_more allowed.0 later;
      talks = subst (λ (bytes : List ℕ). Talks (begun state bytes) text (with_more allowed.0 later)) (sym allowed.1) (talks_on allowed.0 (begun state taken) later text talks);
    }

-- ---- the whole input

pub answers_input : (left last : Option (List ℕ)) (taken text : List ℕ) (status : ℕ) (state : SessionState) → ((more : List ℕ) → Answers state (taken ++ more) text status)
    → IfSome left (λ input. IsFront taken input last) → IfSome left (λ input. Answers state input text status)
answers_input None last taken text status state answers came = tt
answers_input (Some input) last taken text status state answers came =
    subst (λ (bytes : List ℕ). Answers state bytes text status) (sym came.whole) (answers came.rest)

pub answers_taken : (taken text : List ℕ) (status : ℕ) (state : SessionState) → ((more : List ℕ) → Answers state (taken ++ more) text status) → Answers state taken text status
answers_taken taken text status state answers = subst (λ (bytes : List ℕ). Answers state bytes text status) (append-nil taken) (answers [])

-- ---- behind a line

module _ (opened : Done) (state : SessionState) (taken text : List ℕ) (showings : List (List Shown)) (number : ℕ) (order : lines.Order) (now : Now) (is : OrderedAt opened number order state taken text showings now) where
  pub order_turn : turn_of is.at ≡ turn is.at.held (reads order is.rest)
  order_turn = ap (turn is.at.held) is.order_is

  pub held_turn : turn_of is.at ≡ turn now.held (reads order is.rest)
  held_turn = order_turn ∙ ap (λ (held : Option (List Change)). turn held (reads order is.rest)) (sym is.held)

  module _ (editor : EditorState) (out : SinkState) where
    abbrev after_line : Option (List Change) → Now
    after_line held = now_at editor now.waiting held now.source out

    pub stands_made : (edit : List Change) (line : List ℕ) (more : List (List Shown)) → turn_of is.at ≡ makes edit is.rest → IsReplied is.at.state edit line now.editor more editor → IsFrugal is.at.state edit now.editor.spent editor.spent
        → StandsAt opened state taken (text ++ line) (showings ++ more) (after_line None)
    stands_made edit line more does reply frugal =
        let later = behind is.at reply.next None is.rest in
        let replies = does_replies is.at.state edit now.editor.display editor.display reply.next line more reply.does in
        let one = subst (λ (t : List ℕ). Talks is.at t later) (append-nil line) (edits is.at later edit is.rest reply.next line [] does replies (still later)) in
        record {
          at = later;
          talks = talks_then (begun state taken) is.at later text line is.talks one;
          does = doings.edits is.at text (done_of now.editor showings) edit is.rest reply.next line editor.spent editor.display more is.does does frugal reply.does;
          told = reply.is_told;
          number = is.number_is;
          held = refl;
          input = is.input;
        }

  pub stands_shown : (out : SinkState) (map : List ℕ) → turn_of is.at ≡ shows is.rest → map ≡ is.at.state.map → StandsAt opened state taken (text ++ map_reply map) showings (now_at now.editor now.waiting None now.source out)
  stands_shown out map does same =
      let later = behind is.at is.at.state None is.rest in
      let line = map_reply is.at.state.map in
      let one = subst (λ (t : List ℕ). Talks is.at t later) (append-nil line) (shows_it is.at later is.rest [] does (still later)) in
      let talks = talks_then (begun state taken) is.at later text line is.talks one in
      record {
        at = later;
        talks = subst (λ (m : List ℕ). Talks (begun state taken) (text ++ map_reply m) later) (sym same) talks;
        does = subst (λ (m : List ℕ). Does state taken opened later (text ++ map_reply m) (done_of now.editor showings)) (sym same) (doings.shows_it is.at text (done_of now.editor showings) is.rest is.does does);
        told = is.told;
        number = is.number_is;
        held = refl;
        input = is.input;
      }

  pub stands_collected : (out : SinkState) (held : List Change) → turn_of is.at ≡ holds held is.rest → StandsAt opened state taken text showings (now_at now.editor now.waiting (Some held) now.source out)
  stands_collected out held does =
      let later = behind is.at is.at.state (Some held) is.rest in
      let one = collects is.at later held is.rest [] does (still later) in
      record {
        at = later;
        talks = subst (λ (t : List ℕ). Talks (begun state taken) t later) (append-nil text) (talks_then (begun state taken) is.at later text [] is.talks one);
        does = doings.collects is.at text (done_of now.editor showings) held is.rest is.does does;
        told = is.told;
        number = is.number_is;
        held = refl;
        input = is.input;
      }

-- ---- a line is read

-- where no line is whole in what waits
pub open_with : (taken more unread : List ℕ) (count : ℕ) (held : Option (List Change)) → MakesEdits taken count held unread → length (taken ++ more) ≤ limit_number Session → read_line (unread ++ more) ≡ unfinished
    → LeavesOpen (taken ++ more)
open_with taken more unread count held made few needed = record {
  few = few;
  edits = count;
  held = held;
  behind = unread ++ more;
  made = edits_on taken more count held unread made;
  waits = ap (turn held) needed;
}

module _ (opened : Done) (state : SessionState) (front text more : List ℕ) (showings : List (List Shown)) (now : Now) (stands : StandsAt opened state front text showings now) where
  pub standing_with : Standing
  standing_with = with_more more stands.at

  pub talks_with : Talks (begun state (front ++ more)) text (with_more more stands.at)
  talks_with = talks_on more (begun state front) stands.at text stands.talks

  same_input : (wanted : lines.Reading) → read_line (now.waiting.unread ++ more) ≡ wanted → read_line (stands.at.input ++ more) ≡ wanted
  same_input wanted e = ap (λ (bytes : List ℕ). read_line (bytes ++ more)) (sym stands.input) ∙ e

  pub turns_with : (wanted : lines.Reading) → read_line (now.waiting.unread ++ more) ≡ wanted → turn_of (with_more more stands.at) ≡ turn stands.at.held wanted
  turns_with wanted e = ap (turn stands.at.held) (same_input wanted e)

  pub ordered_with : (order : lines.Order) (waiting : Waiting) (source : SourceState) (rest : Rest) → read_line (now.waiting.unread ++ more) ≡ reads order rest → waiting.unread ≡ rest.behind
      → waiting.number ≡ now.waiting.number + rest.lines
      → OrderedAt opened now.waiting.number order state (front ++ more) text showings (now_at now.editor waiting now.held source now.out)
  ordered_with order waiting source rest e unread number = record {
    at = with_more more stands.at;
    talks = talks_with;
    does = does_on state front more opened stands.at text (done_of now.editor showings) stands.does;
    told = stands.told;
    line = stands.number;
    held = stands.held;
    rest = rest;
    order_is = same_input (reads order rest) e;
    number_is = number ∙ ap (λ (n : ℕ). n + rest.lines) stands.number;
    input = unread;
  }

pub awaited_with : (first source later : SourceState) (taken more : List ℕ) (waits : Waiting) (count : ℕ) (held : Option (List Change)) → MakesEdits taken count held waits.unread → length taken + waits.room ≤ limit_number Session
    → IsAwaited first taken source → IsNeeded waits source more later → IsAwaited first (taken ++ more) later
awaited_with first source later taken more waits count held made room =
    takes_behind LeavesOpen (λ front. IsWithin waits front unfinished) first source later taken more
    (λ front is.
    let long = length-append taken front in
    let few = is.few in
    open_with taken front waits.unread count held made (omega (arith, long, few, room)) is.is)

-- ---- the beginning

nothing_said : (got : Option (List ℕ)) → got ≡ option_map (λ front. front ++ []) got
nothing_said None = refl
nothing_said (Some got) = ap Some (sym (append-nil got))

stands_begun : (told : Option SessionState) (editor : EditorState) (waiting : Waiting) (source : SourceState) (out : SinkState) → editor.told ≡ told → waiting.unread ≡ [] → waiting.number ≡ 1
    → IfSome told (λ state. StandsAt (done_of editor []) state [] [] [] (now_at editor waiting None source out))
stands_begun None editor waiting source out is unread number = tt
stands_begun (Some state) editor waiting source out is unread number =
    record { at = begun state []; talks = still (begun state []); does = doings.begun; told = is; number = number; held = refl; input = unread }

pub nothing_awaited : (source : SourceState) → IsAwaited source [] source
nothing_awaited source = untaken LeavesOpen source

none_looked : (told : Option SessionState) (asked : Option (List (List ℕ))) → IfSome told (λ state. IfSome asked (λ old. AsksFor (IsTriedLook state []) old asked))
none_looked None asked = tt
none_looked (Some state) asked = nothing_for (IsTriedLook state []) asked asked refl

pub goes_begun : (editor : EditorState) (waiting : Waiting) (source : SourceState) (out : SinkState) → waiting.unread ≡ [] → waiting.number ≡ 1 → waiting.room ≡ limit_number Session
    → GoesOn (now_at editor waiting None source out) (now_at editor waiting None source out)
goes_begun editor waiting source out unread number room = record {
  taken = [];
  takes = takes_none source;
  limit = room;
  room = omega arith;
  awaited = nothing_awaited source;
  text = [];
  said = nothing_said out.got;
  showings = [];
  sees = sees_nothing editor.seen;
  stands = stands_begun editor.told editor waiting source out refl unread number;
  looks = none_looked editor.told editor.asked;
  edits = 0;
  made = subst (λ (bytes : List ℕ). MakesEdits [] 0 None bytes) (sym unread) spending.begun;
  steps = few_by_none editor.spent editor.spent most_steps (omega arith);
  untold = λ e. e;
  quiet_editor = refl;
  quiet_source = refl;
  quiet_out = refl;
}

pub ruleset talking = (held_turn, goes_begun)
