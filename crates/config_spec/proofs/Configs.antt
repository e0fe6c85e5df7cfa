-- Words and a tree have one config or one fault.
use Rattle.std.proofs.Common.{◌≡◌, ℕ, List, refl, sym, ◌∙◌, subst}
use Rattle.std.specs.Prelude.{Result}
use Rattle.tree_spec.specs.Trees.{Tree}
use Rattle.trace_spec.specs.Modules.{Config}
use Rattle.words_spec.proofs.PlainIsRead.{one_asked}
use Rattle.config_spec.proofs.Options.{one_settings}
use Rattle.config_spec.proofs.ProjectsRead.{one_held, some_held}
use Rattle.config_spec.proofs.WordsJudged.{same_command}
use Rattle.config_spec.specs.Laws.{ConfigsAreJudged, SameConfiguring}
use Rattle.config_spec.specs.Projects.{Configures, config_by}
use Rattle.config_spec.specs.Words.{IsCommandOf, options_of, Sets}
use Rattle.config_spec.specs.declared.Command.{Command}
use Rattle.config_spec.specs.declared.ConfigFault.{ConfigFault}

pub one_configuring :
    (words : List (List ℕ)) (tree : Tree) (some other : Command) (outcome second : Result Config ConfigFault)
    → Configures words tree some outcome → Configures words tree other second
    → SameConfiguring some other outcome second
one_configuring words tree some other outcome second a b =
    let asked = one_asked words a.asked b.asked a.asks b.asks in
    let sets = subst (λ x. Sets (options_of x) b.settings) (sym asked) b.sets in
    let settings = one_settings (options_of a.asked) a.settings b.settings a.sets sets in
    let found = one_held tree a.found b.found a.holds b.holds in
    let same : config_by a.asked a.settings a.found ≡ config_by b.asked b.settings b.found =
    (λ i. config_by (asked i) (settings i) (found i)) in
    record {
      one_command = same_command a.asked b.asked some other asked a.is b.is;
      one_outcome = a.comes ∙ (same ∙ sym b.comes);
    }

some_configuring :
    (words : List (List ℕ)) (tree : Tree) (command : Command) → IsCommandOf words command
    → (outcome : Result Config ConfigFault) × Configures words tree command outcome
some_configuring words tree command is =
    let held = some_held tree in (
      config_by is.asked is.settings held.0,
      record {
        asked = is.asked;
        asks = is.asks;
        is = is.is;
        settings = is.settings;
        sets = is.sets;
        found = held.0;
        holds = held.1;
        comes = refl;
      },
    )

pub configs_are_judged : ConfigsAreJudged
configs_are_judged words tree = record { one = one_configuring words tree; some = some_configuring words tree }
