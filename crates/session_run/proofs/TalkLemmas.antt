-- Replies to the lines of an input, from the first on.
use Rattle.std.proofs.Common.{◌≡◌, ◌++◌, [], ◌∷◌, ℕ, List, Option, None, Ok, Err, refl, ap, ◌∙◌, subst, arith}
use Rattle.std.specs.Prelude.{option_map, take}
use Rattle.tree_spec.specs.Limits.{limit_number}
use Rattle.tree_spec.specs.States.{FolderState, SourceState, SinkState, IsGiven}
use Rattle.tree_spec.specs.declared.LimitName.TheVariants.{Session as Limited}
use Rattle.tree_spec.proofs.ToldStates.{if_some, if_all}
use Rattle.generator_spec.specs.Ending.{Ends}
use Rattle.generator_spec.specs.Lines.{memory_line}
use Rattle.generator_spec.specs.Statuses.{memory_status, write_fault_status}
use Rattle.session_input.specs.declared.reader.SessionInput.{SessionInput}
use Rattle.session_input.specs.Readers.{Waiting, waiting, IsFresh}
use Rattle.session_input.proofs.ReaderLemmas.{takes_none}
use Rattle.session_spec.specs.SessionLooks.{IsTriedLook}
use Rattle.session_spec.specs.SessionStates.{SessionState}
use Rattle.session_spec.specs.SessionDoings as doings
use Rattle.session_spec.specs.Showings.{Shown}
use Rattle.session_spec.proofs.SessionSpending.{spends_nothing}
use Rattle.session_spec.specs.Talks.{Standing, begun, still}
use Rattle.edit_session.specs.declared.session.Session.{Session}
use Rattle.session_talk.specs.EditorLooks.{AsksSome}
use Rattle.session_talk.specs.Editors.{EditorState, Seen}
use Rattle.session_talk.specs.Talking as talking
use Rattle.session_talk.specs.Talking.{now_at, done_of, Converses}
use Rattle.session_talk.proofs.LookLemmas.{nothing_for}
use Rattle.session_talk.proofs.TalkLemmas.{nothing_awaited, sees_nothing}
use Rattle.session_run.specs.Editing.{IsViewOf, look_state, LooksSome}
use Rattle.session_run.specs.Sessions.{fresh, TalksOn, opened_line, ShownEnds, cut_off, replies}

pub first_name : {a b c d x y z w : ℕ} → (a ∷ b ∷ c ∷ d ∷ []) ≡ (x ∷ y ∷ z ∷ w ∷ []) → a ≡ x
first_name e = cc

pub second_name : {a b c d x y z w : ℕ} → (a ∷ b ∷ c ∷ d ∷ []) ≡ (x ∷ y ∷ z ∷ w ∷ []) → b ≡ y
second_name e = cc

pub third_name : {a b c d x y z w : ℕ} → (a ∷ b ∷ c ∷ d ∷ []) ≡ (x ∷ y ∷ z ∷ w ∷ []) → c ≡ z
third_name e = cc

pub fourth_name : {a b c d x y z w : ℕ} → (a ∷ b ∷ c ∷ d ∷ []) ≡ (x ∷ y ∷ z ∷ w ∷ []) → d ≡ w
fourth_name e = cc

begins_fresh : (reader : SessionInput) → IsFresh reader → waiting reader ≡ fresh
begins_fresh reader is = λ i. record { unread = is.unread i; number = is.number i; room = is.room i }

module _ (before : EditorState) (source later : SourceState) (out gone : SinkState) (result : ℕ) where
  abbrev TalkedFrom : Waiting → FolderState → Session → Option (List (List Shown)) → ℕ → Type 0
  TalkedFrom waits folder session seen steps =
      Seen (IsViewOf folder session seen steps) (λ after. Converses (now_at before waits None source out) after later gone result)

  pub talks_from : (reader : SessionInput) → IsFresh reader → (folder folder_last : FolderState) → folder ≡ folder_last → (session session_last : Session) → session ≡ session_last
      → (seen seen_last : Option (List (List Shown))) → seen ≡ seen_last → (steps steps_last : ℕ) → steps ≡ steps_last → TalkedFrom (waiting reader) folder session seen steps
      → Seen (IsViewOf folder_last session_last seen_last steps_last) (λ after. TalksOn before source out after later gone result)
  talks_from reader is folder folder_last same_folder session session_last same_session seen seen_last same_seen steps steps_last same_steps talked =
      subst (λ (n : ℕ). TalkedFrom fresh folder_last session_last seen_last n) same_steps
      (subst (λ (o : Option (List (List Shown))). TalkedFrom fresh folder_last session_last o steps) same_seen
      (subst (λ (s : Session). TalkedFrom fresh folder_last s seen steps) same_session
      (subst (λ (f : FolderState). TalkedFrom fresh f session seen steps) same_folder
      (subst (λ (w : Waiting). TalkedFrom w folder session seen steps) (begins_fresh reader is) talked))))

-- the references aside
module _ (references : List ℕ) (before folder folder_last : FolderState) (old session session_last : Session) where
  pub asks_from : (names names_last : List ℕ) → folder ≡ folder_last → session ≡ session_last → AsksSome (look_state names before old) (look_state names_last folder session)
      → LooksSome references before old folder_last session_last
  asks_from names names_last same_folder same_session asks =
      subst (λ (s : Session). LooksSome references before old folder_last s) same_session
      (subst (λ (f : FolderState). LooksSome references before old f session) same_folder
      (record { asks = renamed }))
    where
      renamed : AsksSome (look_state references before old) (look_state references folder session)
      renamed = record { references = refl; tree = asks.tree; writes = asks.writes; later = asks.later; asked = if_some before.asked (λ list new. record { more = new.more; asked = new.asked; once = new.once; new = new.new }) asks.asked }

-- ---- nothing is taken

abbrev pub begun_alone : SessionState → Standing
begun_alone state = begun state (take (limit_number Limited) [])

pub wants_reader : (before : EditorState) (source : SourceState) (out gone : SinkState) (result : ℕ) → Ends memory_status memory_line out gone result → TalksOn before source out before source gone result
wants_reader before source out gone result is = record {
  taken = [];
  takes = takes_none source;
  few = omega arith;
  awaited = nothing_awaited source;
  looks = if_all before.told (λ state. nothing_for (IsTriedLook state (take (limit_number Limited) [])) before.asked before.asked refl);
  replied = [];
  done = record {
    most = spends_nothing (take (limit_number Limited) []) before.spent before.spent (omega arith);
    showings = [];
    sees = sees_nothing before.seen;
    does = if_all before.told (λ state. doings.stands (begun_alone state) [] (done_of before []) doings.begun);
  };
  stops = talking.said memory_status memory_line
      (talking.memory (record { editor_is = refl; source_is = refl }) (if_all before.told (λ state. record { later = begun_alone state; talks = still (begun_alone state) })) refl refl) is;
}

-- ---- a session that is opened

module _ (session : Session) (before : FolderState) (source : SourceState) (out : SinkState) (seen : Option (List (List Shown))) (line : List ℕ) (is : line ≡ opened_line session) (spent : ℕ) where
  pub opened_cut : {E : Type 0} (fault : E) (gone : SinkState) → IsGiven out line (Err fault) gone → ShownEnds session before before source source out gone seen seen write_fault_status spent spent
  opened_cut fault gone given =
      cut_off refl refl refl refl refl
      (record { count = given.part.0; given = given.part.1 ∙ ap (λ (l : List ℕ). option_map (λ front. front ++ take given.part.0 l) out.got) is })
      given.failed

  pub opened_replies : {E : Type 0} (middle gone : SinkState) (after : FolderState) (closed : Session) (later : SourceState) (seen_after : Option (List (List Shown))) (result spent_after : ℕ) → IsGiven {E = E} out line (Ok tt) middle
      → ((view : EditorState) → IsViewOf before session seen spent view → Seen (IsViewOf after closed seen_after spent_after) (λ last. TalksOn view source middle last later gone result))
      → AsksSome (look_state [] before session) (look_state [] after closed) → ShownEnds session before after source later out gone seen seen_after result spent spent_after
  opened_replies middle gone after closed later seen_after result spent_after given talks asks =
      replies middle closed (given.given ∙ ap (λ (l : List ℕ). option_map (λ front. front ++ l) out.got) is) given.quiet talks asks
