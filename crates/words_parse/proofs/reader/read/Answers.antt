use Rattle.std.proofs.Common.{◌≡◌, ◌∙◌, sym, ℕ, List, MatchOption, Option, Some, None, option_map, map}
use Rattle.std.specs.Prelude.{string_bytes}
use Rattle.words_parse.specs.declared.command.Command.{Command}
use Rattle.words_parse.specs.Shown.{AsksNothing, shown}
use Rattle.words_spec.specs.PlainWords.{Asks}
use Rattle.words_spec.specs.Reading.{reading_of}
use Rattle.words_spec.proofs.PlainIsRead.{plain_is_read}
use Rattle.words_spec.proofs.ReadIsPlain.{read_is_plain}
use Rattle.words_parse.proofs.reader.read.Goals as goal

as_read : (words : List (List ℕ)) (found : Option Command) → option_map shown found ≡ reading_of words → MatchOption found (AsksNothing words) (λ command. Asks words (shown command))
as_read words None is = λ asked plain. absurd (let bad : None ≡ Some asked = is ∙ plain_is_read plain in cc)
as_read words (Some command) is = read_is_plain words (shown command) (sym is)

pub returns : goal.returns
returns c = as_read (map string_bytes c.args.words.now) c.reading_of.result c.reading_of.ensures
