-- What a session does at the lines of an input, however much comes behind them.
use Rattle.std.proofs.Common.{◌≤◌, ◌++◌, [], ℕ, List, length, Option, None, sym, subst}
use Rattle.std.proofs.lemmas.List.{append-nil}
use Rattle.std.specs.Prelude.{take, IfSome}
use Rattle.tree_spec.specs.Limits.{limit_number}
use Rattle.tree_spec.specs.Trees.{Tree}
use Rattle.tree_spec.specs.declared.LimitName.TheVariants.{Session}
use Rattle.tree_spec.proofs.ToldStates.{if_all}
use Rattle.session_spec.specs.declared.Change.{Change}
use Rattle.session_spec.specs.Conversations.{makes, holds, shows, map_reply}
use Rattle.session_spec.specs.Edits.{edited}
use Rattle.session_spec.specs.Laws.{DoingsTalk}
use Rattle.session_spec.specs.Replies as replies
use Rattle.session_spec.specs.Replies.{Replies}
use Rattle.generator_spec.proofs.CountedQuestions.{none_by_words}
use Rattle.session_spec.specs.SessionDoings.{Display, DoesEdit, DoesEdit as does_edit, Done, Does, begun, edits, collects, shows_it, EditsDo, stands, stops, SessionDoes, unshown}
use Rattle.session_spec.specs.Openings.{refresh_words}
use Rattle.session_spec.specs.SessionStates.{SessionState, draft_of}
use Rattle.session_spec.specs.Showings.{Shown}
use Rattle.session_spec.specs.Talks as talks
use Rattle.session_spec.specs.Talks.{Standing, behind, turn_of, Talks, still}
use Rattle.session_spec.proofs.Conversing.{at_on}
use Rattle.session_spec.proofs.LinesOn.{rest_on}
use Rattle.session_spec.proofs.Replying.{replies_accepted}
use Rattle.session_spec.proofs.Talking.{with_more, talks_then, allowed_front}

nothing_done : (tree : Tree) (taken : List ℕ) (spent : ℕ) → SessionDoes tree taken spent [] spent []
nothing_done tree taken spent = unshown spent (none_by_words refresh_words tree spent)

pub none_done : (told : Option Tree) (taken : List ℕ) (spent : ℕ) → IfSome told (λ tree. SessionDoes tree taken spent [] spent [])
none_done told taken spent = if_all told (λ tree. nothing_done tree taken spent)

-- ---- what is replied

pub does_replies : (state : SessionState) (edit : List Change) (before after : Display) (next : SessionState) (line : List ℕ) (showings : List (List Shown)) → DoesEdit state edit before after next line showings → Replies state edit next line
does_replies state edit before after _ _ _ (does_edit.accepted next line is displays) = replies_accepted state next edit line is
does_replies state edit before after _ _ _ (does_edit.refused line is displays) = replies.refused (edited (draft_of state) edit) line is

pub doings_talk : DoingsTalk
doings_talk first input opened _ _ _ begun = still (talks.begun first input)
doings_talk first input opened _ _ _ (edits at text so_far edit rest next line spent display showings goes is frugal does) =
    let later = behind at next None rest in
    talks_then (talks.begun first input) at later text line (doings_talk first input opened at text so_far goes)
    (subst (λ (t : List ℕ). Talks at t later) (append-nil line) (talks.edits at later edit rest next line [] is (does_replies at.state edit so_far.display display next line showings does) (still later)))
doings_talk first input opened _ _ _ (collects at text done held rest goes is) =
    let later = behind at at.state (Option.Some held) rest in
    subst (λ (t : List ℕ). Talks (talks.begun first input) t later) (append-nil text)
    (talks_then (talks.begun first input) at later text [] (doings_talk first input opened at text done goes) (talks.collects at later held rest [] is (still later)))
doings_talk first input opened _ _ _ (shows_it at text done rest goes is) =
    let later = behind at at.state None rest in
    let line = map_reply at.state.map in
    talks_then (talks.begun first input) at later text line (doings_talk first input opened at text done goes)
    (subst (λ (t : List ℕ). Talks at t later) (append-nil line) (talks.shows_it at later rest [] is (still later)))

-- ---- more input

module _ (first : SessionState) (input more : List ℕ) (opened : Done) where
  pub does_on : (at : Standing) (text : List ℕ) (done : Done) → Does first input opened at text done → Does first (input ++ more) opened (with_more more at) text done
  does_on _ _ _ begun = begun
  does_on _ _ _ (edits at text so_far edit rest next line spent display showings goes is frugal does) =
      edits (with_more more at) text so_far edit (rest_on more rest) next line spent display showings (does_on at text so_far goes) (at_on more at.held at.input (makes edit rest) (sym is) tt) frugal does
  does_on _ _ _ (collects at text done held rest goes is) =
      collects (with_more more at) text done held (rest_on more rest) (does_on at text done goes) (at_on more at.held at.input (holds held rest) (sym is) tt)
  does_on _ _ _ (shows_it at text done rest goes is) =
      shows_it (with_more more at) text done (rest_on more rest) (does_on at text done goes) (at_on more at.held at.input (shows rest) (sym is) tt)

  edits_do_on : (text : List ℕ) (spent : ℕ) (showings : List (List Shown)) → EditsDo first input opened text spent showings → EditsDo first (input ++ more) opened text spent showings
  edits_do_on _ _ _ (stands at text done goes) = stands (with_more more at) text done (does_on at text done goes)
  edits_do_on _ _ _ (stops at text done edit rest spent showings goes is frugal may) =
      stops (with_more more at) text done edit (rest_on more rest) spent showings (does_on at text done goes) (at_on more at.held at.input (makes edit rest) (sym is) tt) frugal may

module _ (first : SessionState) (taken : List ℕ) (opened : Done) (text : List ℕ) (spent : ℕ) (showings : List (List Shown)) (few : length taken ≤ limit_number Session) (is : EditsDo first taken opened text spent showings) where
  pub edits_do_allowed : (more : List ℕ) → EditsDo first (take (limit_number Session) (taken ++ more)) opened text spent showings
  edits_do_allowed more =
      let allowed = allowed_front taken more few in
      subst (λ (bytes : List ℕ). EditsDo first bytes opened text spent showings) (sym allowed.1) (edits_do_on first taken allowed.0 opened text spent showings is)

  pub edits_do_here : EditsDo first (take (limit_number Session) taken) opened text spent showings
  edits_do_here = subst (λ (bytes : List ℕ). EditsDo first (take (limit_number Session) bytes) opened text spent showings) (append-nil taken) (edits_do_allowed [])
