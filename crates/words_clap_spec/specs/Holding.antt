-- What the matches of a parse by `clap` hold of a command and its values. All of it is this project's own.
--     Holds asked found      the subcommand that was found, with its rows, is what is asked for
--     HoldsLink options entries rows      the rows are those of `link` with these options and entries
--     row id values          the row of an argument that the words give
--     flag_row given      the row of `--strict`, by whether the words give it
--     is_row id row      the row has this id
--     option_name option      the id of the option's rows
--     entries_row entries      the row of the entries, where there are any
use Rattle.clap.specs.Walk.{reading_by}
use Rattle.clap.specs.Words.{Row, Text}
use Rattle.clap.specs.declared.builder.value_parser.Reading.{Reading}
use Rattle.clap.specs.declared.parser.matches.ValueSource.TheVariants.{CommandLine, DefaultValue}
use Rattle.clap.specs.declared.builder.value_parser.ValueParser.TheVariants as parser
use Rattle.std.specs.Fmt.{decimal}
use Rattle.std.specs.Prelude.{◌≡◌, ℕ, List, [], ◌∷◌, codes, Bool, true, false, bytes_eq, find, Option, Some, None}
use Rattle.std.specs.Prelude.{if◌then◌else◌, option_map}
use Rattle.words_spec.specs.declared.LinkOption.{LinkOption}
use Rattle.words_spec.specs.declared.LinkOption.TheVariants.{Base, Page, Conditions}
use Rattle.words_spec.specs.PlainWords.{Asked, LinkOptions, value_of, linking, unlinking, refreshing, checking}
use Rattle.words_spec.specs.PlainWords.{checking_strictly, listing, injecting, editing, explaining, vendoring, measuring}
use Rattle.words_clap_spec.specs.Program.{entries_rule, strict_rule}

-- values are read as the texts that they are
abbrev pub as_text : Reading
as_text = reading_by entries_rule

abbrev pub row : Text → List Text → Row
row id values = record { id = id; values = values; count = None; source = Some CommandLine; reading = as_text }

-- where the words don't give a flag, its row holds `false` by default
abbrev pub flag_row : Bool → Row
flag_row given = record {
  id = codes "strict";
  values = (if given then codes "true" else codes "false") ∷ [];
  count = None;
  source = Some (if given then CommandLine else DefaultValue);
  reading = reading_by (record strict_rule { parser = Some parser.Bool });
}

abbrev pub is_row : Text → Row → Bool
is_row id r = bytes_eq r.id id

abbrev pub option_name : LinkOption → Text
option_name Base = codes "base"
option_name Page = codes "page"
option_name Conditions = codes "conditions"

abbrev pub entries_row : List Text → Option Row
entries_row [] = None
entries_row (entry ∷ entries) = Some (row (codes "entries") (entry ∷ entries))

-- own: each option's value where it is given, and the entries where there are any
pub record HoldsLink (options : LinkOptions) (entries : List Text) (rows : List Row) : Type 0 where
  pub option_rows : (option : LinkOption) → find (is_row (option_name option)) rows
      ≡ option_map (λ value. row (option_name option) (value ∷ [])) (value_of option options)
  pub entry_row : find (is_row (codes "entries")) rows ≡ entries_row entries

abbrev pub Holds : Asked → Option (Text × List Row) → Type 0
Holds (linking options entries) found =
    (rows : List Row) × (found ≡ Some (codes "link", rows)) × HoldsLink options entries rows
Holds (unlinking entries) found = found ≡ Some (codes "unlink", row (codes "entries") entries ∷ [])
Holds refreshing found = found ≡ Some (codes "refresh", [])
Holds checking found = found ≡ Some (codes "check", flag_row false ∷ [])
Holds checking_strictly found = found ≡ Some (codes "check", flag_row true ∷ [])
Holds listing found = found ≡ Some (codes "list", [])
Holds injecting found = found ≡ Some (codes "inject", [])
Holds editing found = found ≡ Some (codes "session", [])
Holds (explaining path) found = found ≡ Some (codes "why", row (codes "path") (path ∷ []) ∷ [])
Holds (vendoring path) found = found ≡ Some (codes "vendor", row (codes "path") (path ∷ []) ∷ [])
Holds (measuring number) found = found ≡ Some (codes "measure", row (codes "number") (decimal number ∷ []) ∷ [])
