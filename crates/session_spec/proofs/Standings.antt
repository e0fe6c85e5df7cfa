-- Where a session stands behind what it took, and how it ends there.
use Rattle.std.proofs.Common.{◌≡◌, ◌≤◌, ◌++◌, ◌∷◌, [], ℕ, List, length, Bool, true, false, None, Some, refl, sym, ap, ◌∙◌, subst, arith}
use Rattle.std.proofs.lemmas.List.{append-nil, append_assoc, take_all, take_at, length-append}
use Rattle.std.specs.Prelude.{nat_lt, take}
use Rattle.std.proofs.lemmas.Bool.{lt-ltb, le-ltb}
use Rattle.tree_spec.specs.declared.LimitName.TheVariants.{Session}
use Rattle.tree_spec.specs.Limits.{limit_number}
use Rattle.tree_spec.specs.Trees.{Tree}
use Rattle.generator_spec.specs.Lines.{limit_line}
use Rattle.generator_spec.specs.Statuses.{done_status, file_status, limit_status}
use Rattle.session_spec.specs.declared.Change.{Change}
use Rattle.session_spec.specs.Conversations.{Turn, makes, holds, shows, ends, refuses, stops, turn_at, map_reply, end_reply, bad_line, stop_line, stop_status}
use Rattle.session_spec.specs.Conversations.{Conversation, Answers}
use Rattle.session_spec.specs.Conversations as conversation
use Rattle.session_spec.specs.Replies.{Replies}
use Rattle.session_spec.specs.SessionLines.{Rest}
use Rattle.session_spec.specs.Openings.{OpensAt, opening_line}
use Rattle.session_spec.specs.SessionRuns.{SessionComesTo, RepliesTo, RepliesToAll, IsStanding}
use Rattle.session_spec.specs.Laws.{SessionsEnd}
use Rattle.session_spec.specs.SessionRuns as session
use Rattle.session_spec.specs.SessionStates.{SessionState}
use Rattle.session_spec.specs.Talks.{Standing, begun, behind, turn_of, Talks, still, edits, collects, shows_it}
use Rattle.session_spec.proofs.Conversing.{turn_on}
use Rattle.session_spec.proofs.LinesWhole.{turn_in}
use Rattle.session_spec.proofs.Talking.{with_more, talks_on, talks_then, talks_end, allowed_front}

-- ---- the ends of what is replied to an input

module _ (state : SessionState) (taken out : List ℕ) (at : Standing) (talks : Talks (begun state taken) out at) where
  answers_by : (input rest last : List ℕ) (status : ℕ) → take (limit_number Session) input ≡ taken ++ rest
      → Conversation (nat_lt (limit_number Session) (length input)) at.state at.number (turn_of (with_more rest at)) last status → Answers state input (out ++ last) status
  answers_by input rest last status allowed goes =
      let is_more = nat_lt (limit_number Session) (length input) in
      let whole = talks_end is_more (begun state (taken ++ rest)) (with_more rest at) out last status (talks_on rest (begun state taken) at out talks) goes in
      subst (λ (bytes : List ℕ). Conversation is_more state 1 (turn_at None bytes) (out ++ last) status) (sym allowed) whole

  turned : (rest : List ℕ) (turn : Turn) → turn_of at ≡ turn → (turn ≡ stops → ⊥) → turn_of (with_more rest at) ≡ turn_on rest turn
  turned rest turn is whole = turn_in rest at.held at.input (λ short. whole (sym is ∙ short)) ∙ ap (turn_on rest) is

  -- whatever comes behind `end`
  pub answers_ended : (more : List ℕ) → length taken ≤ limit_number Session → turn_of at ≡ ends → Answers state (taken ++ more) (out ++ end_reply) done_status
  answers_ended more few is =
      let allowed = allowed_front taken more few in
      let is_more = nat_lt (limit_number Session) (length (taken ++ more)) in
      answers_by (taken ++ more) allowed.0 end_reply done_status allowed.1
      (subst (λ (t : Turn). Conversation is_more at.state at.number t end_reply done_status) (sym (turned allowed.0 ends is (λ e. absurd (cc)))) (conversation.ended at.state at.number))

  -- whatever comes behind a line that has no meaning or stands in the wrong place
  pub answers_refused : (more : List ℕ) → length taken ≤ limit_number Session → turn_of at ≡ refuses → Answers state (taken ++ more) (out ++ bad_line at.number) file_status
  answers_refused more few is =
      let allowed = allowed_front taken more few in
      let is_more = nat_lt (limit_number Session) (length (taken ++ more)) in
      answers_by (taken ++ more) allowed.0 (bad_line at.number) file_status allowed.1
      (subst (λ (t : Turn). Conversation is_more at.state at.number t (bad_line at.number) file_status) (sym (turned allowed.0 refuses is (λ e. absurd (cc)))) (conversation.bad at.state at.number))

  stopped_by : (is_more other : Bool) → other ≡ is_more → turn_of at ≡ stops → Conversation other at.state at.number (turn_of (with_more [] at)) (stop_line is_more at.number) (stop_status is_more)
  stopped_by is_more other same is =
      let none : turn_of (with_more [] at) ≡ stops = ap (turn_at at.held) (append-nil at.input) ∙ is in
      subst (λ (b : Bool). Conversation b at.state at.number (turn_of (with_more [] at)) (stop_line is_more at.number) (stop_status is_more)) (sym same)
      (subst (λ (t : Turn). Conversation is_more at.state at.number t (stop_line is_more at.number) (stop_status is_more)) (sym none) (conversation.stopped at.state at.number))

  -- the input ends within a line
  pub answers_short : length taken ≤ limit_number Session → turn_of at ≡ stops → Answers state taken (out ++ bad_line at.number) file_status
  answers_short few is =
      answers_by taken [] (bad_line at.number) file_status (take_all (limit_number Session) taken few ∙ sym (append-nil taken))
      (stopped_by false (nat_lt (limit_number Session) (length taken)) (le-ltb (limit_number Session) (length taken) few) is)

  -- as many bytes as the limit allows end within a line, and more come
  pub answers_long : (byte : ℕ) (more : List ℕ) → length taken ≡ limit_number Session → turn_of at ≡ stops → Answers state (taken ++ byte ∷ more) (out ++ limit_line Session) limit_status
  answers_long byte more full is =
      let input = taken ++ byte ∷ more in
      let long = length-append taken (byte ∷ more) in
      answers_by input [] (limit_line Session) limit_status (take_at taken (byte ∷ more) (limit_number Session) full ∙ sym (append-nil taken))
      (stopped_by true (nat_lt (limit_number Session) (length input)) (lt-ltb (limit_number Session) (length input) (omega (arith, long, full))) is)

-- ---- a session

module _ (tree : Tree) where
  pub stands_opened : (state : SessionState) → OpensAt tree state → IsStanding tree [] (opening_line state) (begun state [])
  stands_opened state is =
      record { state = state; opens = is; out = []; talks = still (begun state []); said = sym (append-nil (opening_line state)) }

  module _ (taken text : List ℕ) (at : Standing) (stands : IsStanding tree taken text at) where
    pub stands_with_more : (more : List ℕ) → IsStanding tree (taken ++ more) text (with_more more at)
    stands_with_more more = record {
      state = stands.state;
      opens = stands.opens;
      out = stands.out;
      talks = talks_on more (begun stands.state taken) at stands.out stands.talks;
      said = stands.said;
    }

    stands_then : (line : List ℕ) (later : Standing) → Talks at line later → IsStanding tree taken (text ++ line) later
    stands_then line later then = record {
      state = stands.state;
      opens = stands.opens;
      out = stands.out ++ line;
      talks = talks_then (begun stands.state taken) at later stands.out line stands.talks then;
      said = ap (λ (t : List ℕ). t ++ line) stands.said ∙ append_assoc (opening_line stands.state) stands.out line;
    }

    pub stands_edited : (edit : List Change) (rest : Rest) (next : SessionState) (line : List ℕ) → turn_of at ≡ makes edit rest → Replies at.state edit next line
        → IsStanding tree taken (text ++ line) (behind at next None rest)
    stands_edited edit rest next line is replies =
        let later = behind at next None rest in
        stands_then line later (subst (λ (t : List ℕ). Talks at t later) (append-nil line) (edits at later edit rest next line [] is replies (still later)))

    pub stands_shown : (rest : Rest) → turn_of at ≡ shows rest → IsStanding tree taken (text ++ map_reply at.state.map) (behind at at.state None rest)
    stands_shown rest is =
        let later = behind at at.state None rest in
        let line = map_reply at.state.map in
        stands_then line later (subst (λ (t : List ℕ). Talks at t later) (append-nil line) (shows_it at later rest [] is (still later)))

    pub stands_collected : (held : List Change) (rest : Rest) → turn_of at ≡ holds held rest → IsStanding tree taken text (behind at at.state (Some held) rest)
    stands_collected held rest is =
        let later = behind at at.state (Some held) rest in
        subst (λ (t : List ℕ). IsStanding tree taken t later) (append-nil text) (stands_then [] later (collects at later held rest [] is (still later)))

    -- ---- what was replied until then

    allowed_talks : length taken ≤ limit_number Session → Talks (begun stands.state (take (limit_number Session) taken)) stands.out at
    allowed_talks few =
        subst (λ (bytes : List ℕ). Talks (begun stands.state bytes) stands.out at) (sym (take_all (limit_number Session) taken few)) stands.talks

    pub replies_front : length taken ≤ limit_number Session → RepliesTo tree taken text
    replies_front few = subst (RepliesTo tree taken) (sym stands.said) (session.opened stands.state stands.out at stands.opens (allowed_talks few))

    pub replies_all : length taken ≤ limit_number Session → turn_of at ≡ stops → RepliesToAll tree taken text
    replies_all few is =
        subst (RepliesToAll tree taken) (sym stands.said) (session.opened stands.state stands.out at stands.opens (allowed_talks few) is)

    -- ---- ends

    ends_by : (input out : List ℕ) (status : ℕ) (last : List ℕ) → out ≡ stands.out ++ last → Answers stands.state input out status → SessionComesTo tree input status (text ++ last)
    ends_by input out status last e answers =
        let said = ap (λ (t : List ℕ). t ++ last) stands.said ∙ append_assoc (opening_line stands.state) stands.out last ∙ ap (λ (t : List ℕ). opening_line stands.state ++ t) (sym e) in
        subst (λ (t : List ℕ). SessionComesTo tree input status t) (sym said) (session.replied stands.state status out stands.opens answers)

    pub comes_ended : (more : List ℕ) → length taken ≤ limit_number Session → turn_of at ≡ ends → SessionComesTo tree (taken ++ more) done_status (text ++ end_reply)
    comes_ended more few is =
        ends_by (taken ++ more) (stands.out ++ end_reply) done_status end_reply refl (answers_ended stands.state taken stands.out at stands.talks more few is)

    pub comes_refused : (more : List ℕ) → length taken ≤ limit_number Session → turn_of at ≡ refuses → SessionComesTo tree (taken ++ more) file_status (text ++ bad_line at.number)
    comes_refused more few is =
        ends_by (taken ++ more) (stands.out ++ bad_line at.number) file_status (bad_line at.number) refl (answers_refused stands.state taken stands.out at stands.talks more few is)

    pub comes_short : length taken ≤ limit_number Session → turn_of at ≡ stops → SessionComesTo tree taken file_status (text ++ bad_line at.number)
    comes_short few is =
        ends_by taken (stands.out ++ bad_line at.number) file_status (bad_line at.number) refl (answers_short stands.state taken stands.out at stands.talks few is)

    pub comes_long : (byte : ℕ) (more : List ℕ) → length taken ≡ limit_number Session → turn_of at ≡ stops → SessionComesTo tree (taken ++ byte ∷ more) limit_status (text ++ limit_line Session)
    comes_long byte more full is =
        ends_by (taken ++ byte ∷ more) (stands.out ++ limit_line Session) limit_status (limit_line Session) refl
        (answers_long stands.state taken stands.out at stands.talks byte more full is)

pub sessions_end : SessionsEnd
sessions_end tree taken text at few stands = record {
  ended = λ more is. comes_ended tree taken text at stands more few is;
  refused = λ more is. comes_refused tree taken text at stands more few is;
  short = λ is. comes_short tree taken text at stands few is;
  long = λ byte more full is. comes_long tree taken text at stands byte more full is;
}
