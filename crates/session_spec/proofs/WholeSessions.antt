-- A session says one text, and some text.
use Rattle.std.proofs.Common.{◌≡◌, ◌++◌, ℕ, List, Result, Ok, Err, refl, sym, ap, subst, inl, inr}
use Rattle.std.specs.FinMap.{get}
use Rattle.tree_spec.specs.Trees.{Tree}
use Rattle.tree_spec.specs.declared.LimitName.TheVariants.{Map, Choices}
use Rattle.trace_spec.specs.Modules.{Config}
use Rattle.trace_spec.specs.Checks.{Gathered}
use Rattle.trace_spec.specs.declared.TraceFault.{TraceFault}
use Rattle.trace_spec.specs.Traces.{traced}
use Rattle.words_spec.specs.PlainWords as plain
use Rattle.config_spec.specs.Projects.{Configures, IsConfigOf}
use Rattle.config_spec.specs.Words.{IsCommandOf, no_settings}
use Rattle.config_spec.specs.declared.Command.TheVariants.{Refresh}
use Rattle.config_spec.specs.declared.ConfigFault.{ConfigFault}
use Rattle.generator_spec.specs.declared.Refusal.{Refusal}
use Rattle.generator_spec.specs.declared.Refusal.TheVariants.{Config as Configured, Trace, Limit}
use Rattle.generator_spec.specs.Commands as commands
use Rattle.generator_spec.specs.Commands.{nothing, refresh}
use Rattle.generator_spec.specs.Generation.{Generates}
use Rattle.generator_spec.specs.Lines.{status_of, line_of}
use Rattle.generator_spec.specs.Outcome.{RefusesRun}
use Rattle.generator_spec.specs.Outcome as runs
use Rattle.config_spec.proofs.Configs.{configs_are_judged}
use Rattle.config_spec.proofs.Options.{no_settings_set}
use Rattle.generator_spec.proofs.Configs.{one_config}
use Rattle.generator_spec.proofs.Generations.{some_generation, one_text}
use Rattle.generator_spec.proofs.Outcomes.{one_run_refusal, refused_or_written}
use Rattle.session_spec.specs.Conversations.{Answers}
use Rattle.session_spec.specs.Laws.{SameAnswer, OneSession, SomeSession, HasSession}
use Rattle.session_spec.specs.Openings.{refresh_words, OpensAt, opens, opening_line}
use Rattle.session_spec.specs.SessionRuns.{SessionComesTo, refused, replied}
use Rattle.session_spec.specs.SessionStates.{SessionState, Counts, counts_of, IsGenerated}
use Rattle.session_spec.proofs.Conversing.{one_answer}
use Rattle.session_spec.proofs.Replying.{one_count}
use Rattle.session_spec.proofs.SomeAnswer.{some_answer}

-- ---- one

module _ (tree : Tree) where
  abbrev state_with : Config → List ℕ → Counts → SessionState
  state_with config map counts = record { tree = tree; config = config; map = map; counts = counts }

  same_state : (config second : Config) (map other : List ℕ) (counts others : Counts) → config ≡ second → IsGenerated tree config map counts → IsGenerated tree second other others
      → state_with config map counts ≡ state_with second other others
  same_state config second map other counts others same is is_too =
      let too = subst (λ (c : Config). IsGenerated tree c other others) (sym same) is_too in
      let maps = one_text tree config config map other refl is.generates too.generates in
      let counted = one_count tree config map other counts others is too in
      λ i. state_with (same i) (maps i) (counted i)

  pub one_opening : (state other : SessionState) → OpensAt tree state → OpensAt tree other → state ≡ other
  one_opening _ _ (opens config map counts is generated) (opens second other others is_too generated_too) =
      same_state config second map other counts others (one_config refresh_words tree Refresh Refresh config second is is_too).one_config generated generated_too

  pub refused_or_opened : (why : Refusal) (state : SessionState) → RefusesRun refresh_words tree why → OpensAt tree state → ⊥
  refused_or_opened why _ refuses (opens config map counts is generated) =
      refused_or_written refresh_words tree why Refresh config map refuses is (nothing Refresh refresh) generated.generates tt

  same_replies : (input : List ℕ) (state other : SessionState) (out said : List ℕ) (status second : ℕ) → state ≡ other → Answers state input out status → Answers other input said second
      → SameAnswer (opening_line state ++ out) (opening_line other ++ said) status second
  same_replies input state other out said status second same answers answers_too =
      let too = subst (λ (s : SessionState). Answers s input said second) (sym same) answers_too in
      let one = one_answer state input out said status second answers too in
      record { one_text = λ i. opening_line (same i) ++ one.one_text i; one_status = one.one_status }

  one_coming : (input out other : List ℕ) (status second : ℕ) → SessionComesTo tree input status out → SessionComesTo tree input second other → SameAnswer out other status second
  one_coming input _ _ _ _ (refused why is) (refused because too) =
      let same = one_run_refusal refresh_words tree why because is too in
      record { one_text = ap line_of same; one_status = ap status_of same }
  one_coming input _ _ _ _ (refused why is) (replied state status out opened answers) = absurd (refused_or_opened why state is opened)
  one_coming input _ _ _ _ (replied state status out opened answers) (refused why is) = absurd (refused_or_opened why state is opened)
  one_coming input _ _ _ _ (replied state status out opened answers) (replied other second said opened_too answers_too) =
      same_replies input state other out said status second (one_opening state other opened opened_too) answers answers_too

pub one_session : OneSession
one_session tree input out other status second a b = one_coming tree input out other status second a b

-- ---- some

module _ (tree : Tree) (input : List ℕ) where
  refuses : (why : Refusal) → RefusesRun refresh_words tree why → HasSession tree input
  refuses why is = record { out = line_of why; status = status_of why; comes = refused why is }

  opened : (state : SessionState) → OpensAt tree state → HasSession tree input
  opened state is =
      let goes = some_answer state input in
      record { out = opening_line state ++ goes.out; status = goes.status; comes = replied state goes.status goes.out is goes.answers }

  module _ (config : Config) (is_config : IsConfigOf refresh_words tree Refresh config) where
    by_tree : (why : Refusal) → commands.Refuses tree config Refresh why → HasSession tree input
    by_tree why is = refuses why (runs.by_tree Refresh config why is_config is)

    generated : (map : List ℕ) → Generates tree config map → HasSession tree input
    generated map generates =
        let counts = counts_of generates.all generates.layout in
        opened (state_with tree config map counts) (opens config map counts is_config (record { generates = generates; counted = refl }))

    by_trace : (found : Result Gathered TraceFault) → traced (get tree) config ≡ found → HasSession tree input
    by_trace (Err fault) e = by_tree (Trace fault) (commands.trace Refresh fault (nothing Refresh refresh) e)
    by_trace (Ok all) e =
        let found = some_generation tree config all e in
        elim found.2 [
          | inl generates ↦ generated found.0 generates
          | inr (inl wide) ↦ by_tree (Limit Choices) (commands.many_choices Refresh tt (nothing Refresh refresh) wide)
          | inr (inr large) ↦ by_tree (Limit Map) (commands.large_map Refresh tt (nothing Refresh refresh) large)
        ]

  by_outcome : (outcome : Result Config ConfigFault) → Configures refresh_words tree Refresh outcome → HasSession tree input
  by_outcome (Ok config) is = by_trace config is (traced (get tree) config) refl
  by_outcome (Err fault) is = refuses (Configured fault) (runs.by_project fault (record { command = Refresh; configures = is }))

pub asks_anew : IsCommandOf refresh_words Refresh
asks_anew = record { asked = plain.refreshing; asks = plain.refresh; is = refl; settings = no_settings; sets = no_settings_set }

pub some_session : SomeSession
some_session tree input =
    let found = (configs_are_judged refresh_words tree).some Refresh asks_anew in
    by_outcome tree input found.0 found.1
