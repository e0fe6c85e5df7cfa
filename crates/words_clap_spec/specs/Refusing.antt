-- Which words `clap` takes. All of it is this project's own.
--     IsTaken words       `clap` finds no fault in the words
--     IsRefused words     it finds one, or is asked for help
use Rattle.clap.specs.Words.{Text, fault_of}
use Rattle.std.specs.Prelude.{◌≡◌, ◌≢◌, List, []}
use Rattle.words_clap_spec.specs.Program.{program}

abbrev pub IsTaken : List Text → Type 0
IsTaken words = fault_of program words ≡ []

abbrev pub IsRefused : List Text → Type 0
IsRefused words = fault_of program words ≢ []
