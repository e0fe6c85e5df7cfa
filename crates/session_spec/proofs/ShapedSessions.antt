-- What a session says has one of its shapes, whatever tree and input it is of.
use Rattle.std.proofs.Common.{◌≡◌, ◌++◌, [], ℕ, List, Bool, true, false, Ok, refl, sym, subst, inl, inr}
use Rattle.std.proofs.lemmas.List.{append_assoc}
use Rattle.std.specs.FinMap.{get}
use Rattle.tree_spec.specs.Trees.{Tree}
use Rattle.tree_spec.specs.declared.LimitName.TheVariants.{Session}
use Rattle.trace_spec.proofs.RefusalKinds.{refuses_by_kind}
use Rattle.trace_spec.specs.Modules.{Config}
use Rattle.config_spec.proofs.ConfigsFit.{configs_are_projects}
use Rattle.config_spec.proofs.FaultsOfWords.{faults_are_of_words}
use Rattle.config_spec.proofs.WordsJudged.{words_are_judged}
use Rattle.config_spec.specs.Projects.{IsConfigOf}
use Rattle.config_spec.specs.declared.Command.{Command}
use Rattle.config_spec.specs.declared.Command.TheVariants.{Refresh, Vendor}
use Rattle.generator_spec.proofs.Configs.{command_is}
use Rattle.generator_spec.specs.Commands.{IsChecking, IsChecking as checking, IsRefusalOf, IsRefusalOf as kind, Refuses, Refuses as refuses}
use Rattle.generator_spec.specs.Ending.{CanRefuse, CanRefuse as can}
use Rattle.generator_spec.specs.Lines.{limit_line}
use Rattle.generator_spec.specs.Outcome.{RefusesRun, RefusesRun as runs}
use Rattle.generator_spec.specs.Statuses.{done_status, file_status, limit_status}
use Rattle.generator_spec.specs.declared.Refusal.{Refusal}
use Rattle.session_spec.specs.Conversations.{Turn, end_reply, bad_line, map_reply, stop_line, stop_status}
use Rattle.session_spec.specs.Conversations.{Conversation, edits, collects, shows_it, ended, bad, stopped}
use Rattle.session_spec.specs.Laws.{SessionsAreShaped}
use Rattle.session_spec.specs.SessionRuns as session
use Rattle.session_spec.specs.Openings.{refresh_words, opening_line}
use Rattle.session_spec.specs.SessionRuns.{SessionComesTo, IsOpenedText, IsAnswerShaped}
use Rattle.session_spec.specs.SessionStates.{SessionState}
use Rattle.session_spec.proofs.WholeSessions.{asks_anew}

-- ---- a refusal

no_check : (command : Command) → IsChecking command → command ≡ Refresh → ⊥
no_check _ checking.plainly same = absurd (cc)
no_check _ checking.strictly same = absurd (cc)

refuses_by : (tree : Tree) (config : Config) (command : Command) (why : Refusal) → command ≡ Refresh → Refuses tree config command why → IsRefusalOf config Refresh why
refuses_by tree config _ _ same (refuses.page fault is) = absurd (cc)
refuses_by tree config _ _ same (refuses.map_file command fault checks is) = absurd (no_check command checks same)
refuses_by tree config _ _ same (refuses.nested map all answers holds traces are deep) = absurd (cc)
refuses_by tree config _ _ same (refuses.trace command fault opens is) = kind.trace Refresh fault (refuses_by_kind (get tree) config fault is)
refuses_by tree config _ _ same (refuses.many_choices command generating opens is) = kind.many_choices Refresh tt
refuses_by tree config _ _ same (refuses.large_map command generating opens is) = kind.large_map Refresh tt

can_refuse : (tree : Tree) (why : Refusal) → RefusesRun refresh_words tree why → CanRefuse refresh_words why
can_refuse tree _ (runs.by_words fault is) = can.by_words fault is
can_refuse tree _ (runs.by_project fault is) = can.by_project fault (faults_are_of_words refresh_words tree is.command fault is.configures)
can_refuse tree _ (runs.by_tree command config why is refuses_it) =
    let same = (words_are_judged refresh_words).one_command command Refresh (command_is refresh_words tree command (Ok config) is) asks_anew in
    let anew : IsConfigOf refresh_words tree Refresh config = subst (λ (c : Command). IsConfigOf refresh_words tree c config) same is in
    can.by_tree Refresh config why (configs_are_projects refresh_words tree Refresh config anew) (refuses_by tree config command why same refuses_it)
can_refuse tree _ (runs.by_copies to config map why asks is generates refuses_it) =
    let same : Vendor ≡ Refresh = (words_are_judged refresh_words).one_command Vendor Refresh (command_is refresh_words tree Vendor (Ok config) is) asks_anew in
    absurd (cc)
can_refuse tree _ (runs.by_measure number why asks is) = absurd ((words_are_judged refresh_words).no_command number Refresh asks asks_anew)

-- ---- replies

-- a text that ends with a line of some kind, with the status of that line
data EndsAsLine : List ℕ → ℕ → Type 0 where
  at_end : (front : List ℕ) → EndsAsLine (front ++ end_reply) done_status
  at_line : (front : List ℕ) (number : ℕ) → EndsAsLine (front ++ bad_line number) file_status
  at_limit : (front : List ℕ) → EndsAsLine (front ++ limit_line Session) limit_status

behind_line : (line out : List ℕ) (status : ℕ) → EndsAsLine out status → EndsAsLine (line ++ out) status
behind_line line _ _ (at_end front) = subst (λ (t : List ℕ). EndsAsLine t done_status) (append_assoc line front end_reply) (at_end (line ++ front))
behind_line line _ _ (at_line front number) = subst (λ (t : List ℕ). EndsAsLine t file_status) (append_assoc line front (bad_line number)) (at_line (line ++ front) number)
behind_line line _ _ (at_limit front) = subst (λ (t : List ℕ). EndsAsLine t limit_status) (append_assoc line front (limit_line Session)) (at_limit (line ++ front))

stops_as : (is_more : Bool) (number : ℕ) → EndsAsLine (stop_line is_more number) (stop_status is_more)
stops_as true number = at_limit []
stops_as false number = at_line [] number

ends_as : (is_more : Bool) (state : SessionState) (number : ℕ) (at : Turn) (out : List ℕ) (status : ℕ) → Conversation is_more state number at out status → EndsAsLine out status
ends_as is_more _ _ _ _ _ (edits state next number status edit rest line out replies goes) = behind_line line out status (ends_as is_more next _ _ out status goes)
ends_as is_more _ _ _ _ _ (collects state number status held rest out goes) = ends_as is_more state _ _ out status goes
ends_as is_more _ _ _ _ _ (shows_it state number status rest out goes) = behind_line (map_reply state.map) out status (ends_as is_more state _ _ out status goes)
ends_as is_more _ _ _ _ _ (ended state number) = at_end []
ends_as is_more _ _ _ _ _ (bad state number) = at_line [] number
ends_as is_more _ _ _ _ _ (stopped state number) = stops_as is_more number

-- ---- a session

module _ (state : SessionState) where
  opened_with : (front : List ℕ) → IsOpenedText (opening_line state ++ front)
  opened_with front = record { counts = state.counts; replies = front; says = refl }

  abbrev Shaped : ℕ → List ℕ → Type 0
  Shaped status text = (replied : List ℕ) × IsAnswerShaped replied status text

  shaped_by : (out : List ℕ) (status : ℕ) → EndsAsLine out status → Shaped status (opening_line state ++ out)
  shaped_by _ _ (at_end front) =
      (opening_line state ++ front, session.ended (opened_with front) refl (sym (append_assoc (opening_line state) front end_reply)))
  shaped_by _ _ (at_line front number) =
      (opening_line state ++ front, session.refused_line number (opened_with front) refl (sym (append_assoc (opening_line state) front (bad_line number))))
  shaped_by _ _ (at_limit front) =
      (opening_line state ++ front, session.too_long (opened_with front) refl (sym (append_assoc (opening_line state) front (limit_line Session))))

pub sessions_are_shaped : SessionsAreShaped
sessions_are_shaped tree input _ _ (session.refused why is) = inr (record { why = why; can = can_refuse tree why is; ends = refl; says = refl })
sessions_are_shaped tree input _ _ (session.replied state status out opened answers) =
    inl (shaped_by state out status (ends_as _ state 1 _ out status answers))
