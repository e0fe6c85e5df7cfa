-- What a session does beside what it replies. own.
--     SeesMore before showings after  what was seen, where it is told, has these showings more
--     Display                         what is shown of the modules, and how many places their graph has
--     GraphGoes state next before after       the same graph goes on; or another one is begun, since the places of this
--                                     one, those that an edit makes and the modules of a trace may reach the most
--     ShowsNext state next before after       the modules of the next state are shown
--     ShowsSame before after          what is shown stays
--     DoesEdit state edit before after next line showings     an edit that is replied to so shows this
--     MayShow state edit before showings      so much was shown of an edit to which nothing was replied
--     Done                            the steps that were taken, what is shown, and what was shown behind the opening,
--                                     one after another
--     Does first input opened at text done    a session that began so stands there, replied this text and did this
--     anew_of first input opened at text done does            at which of its edits it began another graph, one after
--                                     another
--     EditsDo first input opened text spent showings          so it is somewhere, or while an edit is made to which the
--                                     input comes
--     anew_to_end first input opened text spent showings does the same of all edits, the one with it that is made then
--     IsOpening first opened          what is shown at the opening
--     SessionDoes tree taken before text after showings       a session on this tree that said this took its steps for
--                                     the opening and these edits, as far as the limit allows, and showed this
use Rattle.std.specs.Prelude.{◌≡◌, ◌≤◌, ◌+◌, ◌++◌, ◌∷◌, [], ℕ, List, take, Option, Some, None, option_map}
use Rattle.std.specs.Prelude.{Bool, true, false}
use Rattle.tree_spec.specs.Limits.{limit_number}
use Rattle.tree_spec.specs.Trees.{Tree}
use Rattle.tree_spec.specs.declared.LimitName.TheVariants.{Modules, Session}
use Rattle.generator_spec.specs.Steps.{TraceSpends}
use Rattle.session_spec.specs.declared.Change.{Change}
use Rattle.session_spec.specs.Conversations.{makes, holds, shows, map_reply}
use Rattle.session_spec.specs.Edits.{edited}
use Rattle.session_spec.specs.Frugality.{IsFrugal}
use Rattle.session_spec.specs.Openings.{refresh_words, OpensAt, opening_line}
use Rattle.session_spec.specs.Replies.{IsRefused, IsAccepted}
use Rattle.session_spec.specs.SessionLines.{Rest}
use Rattle.session_spec.specs.SessionStates.{SessionState, draft_of}
use Rattle.session_spec.specs.Showings.{Shown, IsShowingOf, KeepsSlots, most_made, made_at_once}
use Rattle.session_spec.specs.Talks as talks
use Rattle.session_spec.specs.Talks.{Standing, behind, turn_of}

abbrev pub SeesMore : Option (List (List Shown)) → List (List Shown) → Option (List (List Shown)) → Type 0
SeesMore before showings after = after ≡ option_map (λ earlier. earlier ++ showings) before

-- ---- one edit

pub record Display : Type 0 where
  pub made : ℕ
  pub shown : List Shown

-- own: while it goes on, no slot stands for two modules
pub data GraphGoes (state next : SessionState) (before after : Display) : Type 0 where
  goes_on : KeepsSlots state.tree before.shown next.tree after.shown → GraphGoes state next before after
  begins_anew :
      most_made ≤ before.made + made_at_once + limit_number Modules → after.made ≤ made_at_once
      → GraphGoes state next before after

pub record ShowsNext (state next : SessionState) (before after : Display) : Type 0 where
  pub is_of : IsShowingOf next.tree next.config after.shown
  pub graph : GraphGoes state next before after
  pub few : after.made ≤ before.made + made_at_once

pub record ShowsSame (before after : Display) : Type 0 where
  pub same : after.shown ≡ before.shown
  pub few : after.made ≤ before.made + made_at_once

-- own: where it is accepted, the modules of its state, once; where it is refused, nothing
pub data DoesEdit (state : SessionState) (edit : List Change) (before after : Display) :
    SessionState → List ℕ → List (List Shown) → Type 0 where
  accepted :
      (next : SessionState) (line : List ℕ) → IsAccepted state edit next line → ShowsNext state next before after
      → DoesEdit state edit before after next line (after.shown ∷ [])
  refused :
      (line : List ℕ) → IsRefused state (edited (draft_of state) edit) line → ShowsSame before after
      → DoesEdit state edit before after state line []

-- own: nothing yet, or all that is shown of one that is accepted
pub data MayShow (state : SessionState) (edit : List Change) (before : Display) : List (List Shown) → Type 0 where
  nothing : MayShow state edit before []
  accepted :
      (next : SessionState) (line : List ℕ) (after : Display) → IsAccepted state edit next line
      → ShowsNext state next before after → MayShow state edit before (after.shown ∷ [])

-- ---- all lines

pub record Done : Type 0 where
  pub spent : ℕ
  pub display : Display
  pub showings : List (List Shown)

abbrev pub done_then : Done → ℕ → Display → List (List Shown) → Done
done_then so_far spent display showings =
    record { spent = spent; display = display; showings = so_far.showings ++ showings }

-- own: as in a talk. An edit takes what is fresh behind it, whether it is accepted or refused; other lines take nothing
-- and show nothing
pub data Does (first : SessionState) (input : List ℕ) (opened : Done) : Standing → List ℕ → Done → Type 0 where
  begun : Does first input opened (talks.begun first input) [] opened
  edits :
      (at : Standing) (text : List ℕ) (so_far : Done) (edit : List Change) (rest : Rest) (next : SessionState)
      (line : List ℕ) (spent : ℕ) (display : Display) (showings : List (List Shown))
      → Does first input opened at text so_far → turn_of at ≡ makes edit rest
      → IsFrugal at.state edit so_far.spent spent → DoesEdit at.state edit so_far.display display next line showings
      → Does first input opened (behind at next None rest) (text ++ line) (done_then so_far spent display showings)
  collects :
      (at : Standing) (text : List ℕ) (done : Done) (held : List Change) (rest : Rest)
      → Does first input opened at text done → turn_of at ≡ holds held rest
      → Does first input opened (behind at at.state (Some held) rest) text done
  shows_it :
      (at : Standing) (text : List ℕ) (done : Done) (rest : Rest) → Does first input opened at text done
      → turn_of at ≡ shows rest
      → Does first input opened (behind at at.state None rest) (text ++ map_reply at.state.map) done

abbrev pub is_anew : (state next : SessionState) (before after : Display) → GraphGoes state next before after → Bool
is_anew state next before after (goes_on keeps) = false
is_anew state next before after (begins_anew full few) = true

abbrev pub anew_at :
    (state : SessionState) (edit : List Change) (before after : Display) (next : SessionState) (line : List ℕ)
    (showings : List (List Shown)) → DoesEdit state edit before after next line showings → Bool
anew_at state edit before after _ _ _ (accepted next line is displays) = is_anew state next before after displays.graph
anew_at state edit before after _ _ _ (refused line is displays) = false

abbrev pub anew_of :
    (first : SessionState) (input : List ℕ) (opened : Done) (at : Standing) (text : List ℕ) (done : Done)
    → Does first input opened at text done → List Bool
anew_of first input opened _ _ _ begun = []
anew_of first input opened _ _ _
    (edits at text so_far edit rest next line spent display showings goes is frugal does) =
    anew_of first input opened at text so_far goes
    ++ anew_at at.state edit so_far.display display next line showings does ∷ []
anew_of first input opened _ _ _ (collects at text done held rest goes is) =
    anew_of first input opened at text done goes
anew_of first input opened _ _ _ (shows_it at text done rest goes is) = anew_of first input opened at text done goes

-- own: an edit may end the session by a fault or for want of memory, and then nothing is replied to it
pub data EditsDo (first : SessionState) (input : List ℕ) (opened : Done) :
    List ℕ → ℕ → List (List Shown) → Type 0 where
  stands :
      (at : Standing) (text : List ℕ) (done : Done) → Does first input opened at text done
      → EditsDo first input opened text done.spent done.showings
  stops :
      (at : Standing) (text : List ℕ) (done : Done) (edit : List Change) (rest : Rest) (spent : ℕ)
      (showings : List (List Shown)) → Does first input opened at text done → turn_of at ≡ makes edit rest
      → IsFrugal at.state edit done.spent spent → MayShow at.state edit done.display showings
      → EditsDo first input opened text spent (done.showings ++ showings)

abbrev pub shown_anew :
    (state : SessionState) (edit : List Change) (before : Display) (showings : List (List Shown))
    → MayShow state edit before showings → List Bool
shown_anew state edit before _ nothing = []
shown_anew state edit before _ (accepted next line after is displays) =
    is_anew state next before after displays.graph ∷ []

abbrev pub anew_to_end :
    (first : SessionState) (input : List ℕ) (opened : Done) (text : List ℕ) (spent : ℕ) (showings : List (List Shown))
    → EditsDo first input opened text spent showings → List Bool
anew_to_end first input opened _ _ _ (stands at text done goes) = anew_of first input opened at text done goes
anew_to_end first input opened _ _ _ (stops at text done edit rest spent showings goes is frugal displays) =
    anew_of first input opened at text done goes ++ shown_anew at.state edit done.display showings displays

-- ---- a whole session

pub record IsOpening (first : SessionState) (opened : Done) : Type 0 where
  pub is_of : IsShowingOf first.tree first.config opened.display.shown
  pub few : opened.display.made ≤ made_at_once
  pub none_behind : opened.showings ≡ []

-- own: at most one step for each question of the opening's trace until it ends. Nothing is shown where that is refused,
-- a look fails or memory is wanting. What is opened is shown before it is said, and where there is no memory to say it,
-- there are no edits
pub data SessionDoes (tree : Tree) (taken : List ℕ) (before : ℕ) :
    List ℕ → ℕ → List (List Shown) → Type 0 where
  unshown : (after : ℕ) → TraceSpends refresh_words tree before after → SessionDoes tree taken before [] after []
  unsaid :
      (first : SessionState) (opened : Done) → OpensAt tree first → IsOpening first opened
      → TraceSpends refresh_words tree before opened.spent
      → SessionDoes tree taken before [] opened.spent (opened.display.shown ∷ [])
  opened :
      (first : SessionState) (opened : Done) (text : List ℕ) (after : ℕ) (showings : List (List Shown))
      → OpensAt tree first → IsOpening first opened → TraceSpends refresh_words tree before opened.spent
      → EditsDo first (take (limit_number Session) taken) opened text after showings
      → SessionDoes tree taken before (opening_line first ++ text) after (opened.display.shown ∷ showings)
