-- What the reader's types stand for.
--     shown command             what the command asks for
--     options_of values         the options of `link`
--     spelling_shown spelling   what a word spells
--     AsksNothing words         the words aren't plain
use Rattle.std.specs.Prelude.{ℕ, List, map, string_bytes, option_map}
use Rattle.words_parse.specs.declared.command.LinkValues.{LinkValues}
use Rattle.words_parse.specs.declared.command.Command.{Command}
use Rattle.words_parse.specs.declared.command.Command.TheVariants as command
use Rattle.words_parse.specs.declared.spelling.Spelling.{Spelling}
use Rattle.words_parse.specs.declared.spelling.Spelling.TheVariants as spelling
use Rattle.words_spec.specs.PlainWords.{Asked, Asks, LinkOptions, linking, unlinking, refreshing, checking, listing}
use Rattle.words_spec.specs.PlainWords.{checking_strictly, injecting, editing, explaining, vendoring, measuring}
use Rattle.words_spec.specs.Reading as reading

abbrev pub options_of : LinkValues → LinkOptions
options_of values = record {
  base = option_map (λ text. text.now) values.base;
  page = option_map (λ text. text.now) values.page;
  conditions = option_map (λ text. text.now) values.conditions;
}

abbrev pub spelling_shown : Spelling → reading.Spelling
spelling_shown spelling.NoOption = reading.no_option
spelling_shown (spelling.Alone option) = reading.alone option
spelling_shown (spelling.Joined option value) = reading.joined option value.now

abbrev pub shown : Command → Asked
shown (command.Link values entries) = linking (options_of values) (map string_bytes entries.now)
shown (command.Unlink entries) = unlinking (map string_bytes entries.now)
shown command.Refresh = refreshing
shown command.Check = checking
shown command.CheckStrictly = checking_strictly
shown command.List = listing
shown command.Inject = injecting
shown command.Session = editing
shown (command.Why path) = explaining path.now
shown (command.Vendor path) = vendoring path.now
shown (command.Measure number) = measuring number

abbrev pub AsksNothing : List (List ℕ) → Type 0
AsksNothing words = (asked : Asked) → Asks words asked → ⊥
