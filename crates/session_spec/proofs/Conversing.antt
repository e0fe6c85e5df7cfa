-- The lines of an input have one answer, and what comes behind `end` changes nothing.
use Rattle.std.proofs.Common.{◌≡◌, ◌≤◌, ◌<◌, ◌⊎◌, ◌++◌, [], ℕ, List, length, Bool, true, false, Option, Some, None, refl, sym, ap, ◌∙◌, subst, inl, inr, arith}
use Rattle.std.proofs.lemmas.Bool.{cases_lt}
use Rattle.std.proofs.lemmas.List.{append-nil, take-append-le, take_all}
use Rattle.std.proofs.Math.Seq.{take-append-add}
use Rattle.std.specs.Prelude.{◌+◌, ◌-◌, nat_lt, take}
use Rattle.tree_spec.specs.declared.LimitName.TheVariants.{Session}
use Rattle.tree_spec.specs.Limits.{limit_number}
use Rattle.generator_spec.specs.Statuses.{done_status}
use Rattle.session_spec.specs.declared.Change.{Change}
use Rattle.session_spec.specs.Conversations.{Turn, makes, holds, shows, ends, refuses, stops, ordered, turn, turn_at, map_reply, stop_status}
use Rattle.session_spec.specs.Conversations.{Conversation, edits, collects, shows_it, ended, bad, stopped}
use Rattle.session_spec.specs.Laws.{SameAnswer, OneAnswer, NothingBehindEnd}
use Rattle.session_spec.specs.SessionLines.{Order, changes, begins, commits, shows_map, ends_session, Rest, Reading, reads, malformed, unfinished, read_line}
use Rattle.session_spec.specs.SessionStates.{SessionState}
use Rattle.session_spec.proofs.LinesOn.{rest_on, IsReadOn, read_on}
use Rattle.session_spec.proofs.Replying.{one_reply}

-- ---- one answer

pub one_conversation : (is_more : Bool) (state : SessionState) (number : ℕ) (at : Turn) (out other : List ℕ) (status second : ℕ)
    → Conversation is_more state number at out status → Conversation is_more state number at other second → SameAnswer out other status second
one_conversation is_more _ _ _ _ _ _ _ (edits state next number status edit rest line out replies goes) (edits _ last _ second _ _ said other replies_too goes_too) =
    let same = one_reply state next last edit line said replies replies_too in
    let as_same = subst (λ (s : SessionState). Conversation is_more s (number + rest.lines) (turn_at None rest.behind) other second) (sym same.one_state) goes_too in
    let later = one_conversation is_more next (number + rest.lines) (turn_at None rest.behind) out other status second goes as_same in
    record { one_text = λ i. same.one_line i ++ later.one_text i; one_status = later.one_status }
one_conversation is_more _ _ _ _ _ _ _ (collects state number status held rest out goes) (collects _ _ second _ _ other goes_too) =
    one_conversation is_more state (number + rest.lines) (turn_at (Some held) rest.behind) out other status second goes goes_too
one_conversation is_more _ _ _ _ _ _ _ (shows_it state number status rest out goes) (shows_it _ _ second _ other goes_too) =
    let later = one_conversation is_more state (number + rest.lines) (turn_at None rest.behind) out other status second goes goes_too in
    record { one_text = ap (λ (text : List ℕ). map_reply state.map ++ text) later.one_text; one_status = later.one_status }
one_conversation is_more _ _ _ _ _ _ _ (ended state number) (ended _ _) = record { one_text = refl; one_status = refl }
one_conversation is_more _ _ _ _ _ _ _ (bad state number) (bad _ _) = record { one_text = refl; one_status = refl }
one_conversation is_more _ _ _ _ _ _ _ (stopped state number) (stopped _ _) = record { one_text = refl; one_status = refl }

pub one_answer : OneAnswer
one_answer state input out other status second a b =
    one_conversation (nat_lt (limit_number Session) (length input)) state 1 (turn_at None (take (limit_number Session) input)) out other status second a b

-- ---- behind `end`

module _ (more : List ℕ) where
  abbrev pub turn_on : Turn → Turn
  turn_on (makes edit rest) = makes edit (rest_on more rest)
  turn_on (holds held rest) = holds held (rest_on more rest)
  turn_on (shows rest) = shows (rest_on more rest)
  turn_on ends = ends
  turn_on refuses = refuses
  turn_on stops = stops

  abbrev GoesOn : Turn → Type 0
  GoesOn (makes edit rest) = Unit {0}
  GoesOn (holds held rest) = Unit {0}
  GoesOn (shows rest) = Unit {0}
  GoesOn ends = Unit {0}
  GoesOn refuses = ⊥
  GoesOn stops = ⊥

  pub ordered_on : (held : Option (List Change)) (order : Order) (rest : Rest) → ordered held order (rest_on more rest) ≡ turn_on (ordered held order rest)
  ordered_on None (changes change) rest = refl
  ordered_on None begins rest = refl
  ordered_on None commits rest = refl
  ordered_on None shows_map rest = refl
  ordered_on None ends_session rest = refl
  ordered_on (Some held) (changes change) rest = refl
  ordered_on (Some held) begins rest = refl
  ordered_on (Some held) commits rest = refl
  ordered_on (Some held) shows_map rest = refl
  ordered_on (Some held) ends_session rest = refl

  taken_on : (held : Option (List Change)) (some other : Reading) → IsReadOn more some other → GoesOn (turn held some) → turn held other ≡ turn_on (turn held some)
  taken_on held (reads order rest) other is goes = ap (turn held) (is order rest refl) ∙ ordered_on held order rest
  taken_on held malformed other is goes = absurd goes
  taken_on held unfinished other is goes = absurd goes

  pub at_on : (held : Option (List Change)) (input : List ℕ) (at : Turn) → at ≡ turn_at held input → GoesOn at → turn_at held (input ++ more) ≡ turn_on at
  at_on held input at e goes =
      taken_on held (read_line input) (read_line (input ++ more)) (read_on more input) (subst GoesOn e goes) ∙ ap turn_on (sym e)

  not_cut : (is_more : Bool) → stop_status is_more ≡ done_status → ⊥
  not_cut true e = absurd (omega (arith, e))
  not_cut false e = absurd (omega (arith, e))

  module _ (is_more longer : Bool) where
    moved : (state : SessionState) (number status : ℕ) (at other : Turn) (out : List ℕ) → other ≡ at → Conversation longer state number at out status → Conversation longer state number other out status
    moved state number status at other out e goes = subst (λ (t : Turn). Conversation longer state number t out status) (sym e) goes

    behind_end : (state : SessionState) (number : ℕ) (at : Turn) (out : List ℕ) (status : ℕ) → Conversation is_more state number at out status → status ≡ done_status
        → (held : Option (List Change)) (input : List ℕ) → at ≡ turn_at held input → Conversation longer state number (turn_at held (input ++ more)) out status
    behind_end _ _ _ _ _ (edits state next number status edit rest line out replies goes) done held input e =
        let later = behind_end next (number + rest.lines) (turn_at None rest.behind) out status goes done None rest.behind refl in
        moved state number status (makes edit (rest_on more rest)) (turn_at held (input ++ more)) (line ++ out) (at_on held input (makes edit rest) e tt)
        (edits state next number status edit (rest_on more rest) line out replies later)
    behind_end _ _ _ _ _ (collects state number status kept rest out goes) done held input e =
        let later = behind_end state (number + rest.lines) (turn_at (Some kept) rest.behind) out status goes done (Some kept) rest.behind refl in
        moved state number status (holds kept (rest_on more rest)) (turn_at held (input ++ more)) out (at_on held input (holds kept rest) e tt)
        (collects state number status kept (rest_on more rest) out later)
    behind_end _ _ _ _ _ (shows_it state number status rest out goes) done held input e =
        let later = behind_end state (number + rest.lines) (turn_at None rest.behind) out status goes done None rest.behind refl in
        moved state number status (shows (rest_on more rest)) (turn_at held (input ++ more)) (map_reply state.map ++ out) (at_on held input (shows rest) e tt)
        (shows_it state number status (rest_on more rest) out later)
    behind_end _ _ _ out status (ended state number) done held input e =
        moved state number status ends (turn_at held (input ++ more)) out (at_on held input ends e tt) (ended state number)
    behind_end _ _ _ _ _ (bad state number) done held input e = absurd (omega (arith, done))
    behind_end _ _ _ _ _ (stopped state number) done held input e = absurd (not_cut is_more done)

pub taken_by : (n : ℕ) (front back : List ℕ) → (length front < n) ⊎ (n ≤ length front) → (rest : List ℕ) × (take n (front ++ back) ≡ take n front ++ rest)
taken_by n front back (inr short) = ([], take-append-le n front back short ∙ sym (append-nil (take n front)))
taken_by n front back (inl long) =
    let k = n - length front in
    let sum : n ≡ length front + k = omega (arith, long) in
    (take k back, ap (λ (m : ℕ). take m (front ++ back)) sum ∙ (take-append-add front back k ∙ ap (λ (xs : List ℕ). xs ++ take k back) (sym (take_all n front (omega (arith, long))))))

behind_any : (n : ℕ) (state : SessionState) (input more out : List ℕ) (is_more longer : Bool) → Conversation is_more state 1 (turn_at None (take n input)) out done_status
    → Conversation longer state 1 (turn_at None (take n (input ++ more))) out done_status
behind_any n state input more out is_more longer goes =
    let found = taken_by n input more (cases_lt (length input) n) in
    subst (λ (taken : List ℕ). Conversation longer state 1 (turn_at None taken) out done_status) (sym found.1)
    (behind_end found.0 is_more longer state 1 (turn_at None (take n input)) out done_status goes refl None (take n input) refl)

pub nothing_behind_end : NothingBehindEnd
nothing_behind_end state input more out goes =
    behind_any (limit_number Session) state input more out (nat_lt (limit_number Session) (length input)) (nat_lt (limit_number Session) (length (input ++ more))) goes
