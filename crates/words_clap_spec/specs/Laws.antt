-- The laws of the program's words by `clap`. Each is the contract of a function of this crate.
use Rattle.clap.specs.Words.{fault_of, is_simple, is_simple_and_free, subcommand_of, takes}
use Rattle.clap.specs.declared.error.kind.ErrorKind.TheVariants.{DisplayHelp, DisplayHelpOnMissingArgumentOrSubcommand}
use Rattle.clap.specs.declared.error.kind.ErrorKind.TheVariants.{InvalidSubcommand}
use Rattle.std.specs.Prelude.{◌≡◌, ℕ, List, [], ◌∷◌, codes, true}
use Rattle.words_clap_spec.specs.Holding.{Holds}
use Rattle.words_clap_spec.specs.Program.{program}
use Rattle.words_spec.specs.PlainWords.{Asked, Asks}

-- own law: the program is one of those of which `clap` says exactly what it finds, and why it refuses
abbrev pub ProgramIsSimple : Type 0
ProgramIsSimple = (is_simple program ≡ true) × (is_simple_and_free program ≡ true)

-- own law: `clap` takes plain words, so it fails for want of memory alone
abbrev pub PlainWordsPass : Type 0
PlainWordsPass = (words : List (List ℕ)) (asked : Asked) → Asks words asked → takes program words ≡ true

-- own law: what it finds in plain words is what they ask for
abbrev pub PlainWordsAreHeld : Type 0
PlainWordsAreHeld =
    (words : List (List ℕ)) (asked : Asked) → Asks words asked → Holds asked (subcommand_of program words)

-- own law: `--help`, `-h` and no words ask for help; so does `help`, of which `clap` says only that it is that or the
-- fault of a command that isn't there
abbrev pub HelpIsAskedFor : Type 0
HelpIsAskedFor =
    (fault_of program (codes "--help" ∷ []) ≡ DisplayHelp ∷ [])
    × (fault_of program (codes "-h" ∷ []) ≡ DisplayHelp ∷ [])
    × (fault_of program (codes "help" ∷ []) ≡ DisplayHelp ∷ InvalidSubcommand ∷ [])
    × (fault_of program [] ≡ DisplayHelpOnMissingArgumentOrSubcommand ∷ [])
