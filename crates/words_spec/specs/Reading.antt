-- The meaning of words as a function, which reads them from the first to the last.
--     reading_of words      what the words ask for, where they are plain
--     link_reading words waiting options      the same of the words after `link` and these options
--     spelling_of word      whether a word after `link` spells an option, with its value or without
--     spelling_as option word      the same of this option alone
--     number_in text number      the number that the digits of a text go on to
--     is_value text      the text isn't empty and doesn't begin with `-`
--     or_else spelling other      what a word is by the first; where it is no option by the first, what it is by the
--         other
--     entries_reading options words      `link` with these options and with the words as its entries, where each can be
--         one
--     by_spelling spelling options entries next      `entries`, where the word is no option; else `next` reads the
--         rest, waiting for the option's value, or with that among the options, where it may be there
--     with_number number next      what comes of a number, where there is one
--     measure_reading words, unlink_reading words, path_reading asked words      what is asked for by the words after
--         `measure`, after `unlink`, after a command that takes one path
--     check_reading words      what is asked for by the words after `check`
--     without_more words asked      what is asked for, where no word is left
--     command_reading command rest      what is asked for by a command's name and the words behind it
use Rattle.std.specs.List.{list_all}
use Rattle.std.specs.Prelude.{◌==◌, ◌+◌, ◌-◌, ◌*◌, ◌&&◌, ◌||◌, not, false, Bool, ℕ, List, [], ◌∷◌, codes, bytes_eq}
use Rattle.std.specs.Prelude.{Option, Some, None, if◌then◌else◌, nat_lt, is_some, option_map, option_and_then}
use Rattle.words_spec.specs.declared.LinkOption.{LinkOption}
use Rattle.words_spec.specs.declared.LinkOption.TheVariants.{Base, Page, Conditions}
use Rattle.words_spec.specs.PlainWords.{Asked, LinkOptions, no_options, spelled, value_of, with_value, linking}
use Rattle.words_spec.specs.PlainWords.{unlinking, refreshing, checking, checking_strictly, listing, injecting}
use Rattle.words_spec.specs.PlainWords.{editing, explaining, vendoring, measuring, most_packages}

abbrev pub is_value : List ℕ → Bool
is_value [] = false
is_value (byte ∷ rest) = not (byte == 45)

-- the text behind a front, where it begins with that
abbrev pub behind : List ℕ → List ℕ → Option (List ℕ)
behind [] text = Some text
behind (first ∷ front) [] = None
behind (first ∷ front) (byte ∷ text) = if byte == first then behind front text else None

-- what a word after `link` is: no option, an option whose value is the next word, or one with its value
pub data Spelling : Type 0 where
  no_option : Spelling
  alone : LinkOption → Spelling
  joined : LinkOption → List ℕ → Spelling

-- by what stands behind the option's name
abbrev pub spelling_by : LinkOption → Option (List ℕ) → Spelling
spelling_by option None = no_option
spelling_by option (Some []) = alone option
spelling_by option (Some (byte ∷ value)) = if byte == 61 then joined option value else no_option

abbrev pub or_else : Spelling → Spelling → Spelling
or_else no_option other = other
or_else (alone option) other = alone option
or_else (joined option value) other = joined option value

abbrev pub spelling_as : LinkOption → List ℕ → Spelling
spelling_as option word = spelling_by option (behind (spelled option) word)

abbrev pub spelling_of : List ℕ → Spelling
spelling_of word = or_else (spelling_as Base word) (or_else (spelling_as Page word) (spelling_as Conditions word))

-- the options with one more, where this is a value and the option isn't there already
abbrev pub one_more : LinkOptions → LinkOption → List ℕ → Option LinkOptions
one_more options option value =
    if is_value value && not (is_some (value_of option options)) then Some (with_value option value options) else None

abbrev pub entries_reading : LinkOptions → List (List ℕ) → Option Asked
entries_reading options words = if list_all is_value words then Some (linking options words) else None

abbrev pub by_spelling :
    Spelling → LinkOptions → Option Asked → (Option LinkOption → LinkOptions → Option Asked) → Option Asked
by_spelling no_option options entries next = entries
by_spelling (alone option) options entries next = next (Some option) options
by_spelling (joined option value) options entries next = option_and_then (next None) (one_more options option value)

-- an option that was spelled alone waits for its value
abbrev pub link_reading : List (List ℕ) → Option LinkOption → LinkOptions → Option Asked
link_reading [] None options = Some (linking options [])
link_reading [] (Some option) options = None
link_reading (word ∷ rest) None options =
    by_spelling (spelling_of word) options (entries_reading options (word ∷ rest)) (link_reading rest)
link_reading (value ∷ rest) (Some option) options =
    option_and_then (link_reading rest None) (one_more options option value)

-- one more digit, where it is one and the number stays from 1 to the most
abbrev pub next_number : ℕ → ℕ → Option ℕ
next_number number digit =
    if nat_lt digit 48 || nat_lt 57 digit then None
    else (if (number * 10 + (digit - 48)) == 0 || nat_lt most_packages (number * 10 + (digit - 48)) then None
    else Some (number * 10 + (digit - 48)))

abbrev pub with_number : Option ℕ → (ℕ → Option ℕ) → Option ℕ
with_number None next = None
with_number (Some number) next = next number

abbrev pub number_in : List ℕ → ℕ → Option ℕ
number_in [] number = if number == 0 then None else Some number
number_in (digit ∷ rest) number = with_number (next_number number digit) (number_in rest)

abbrev pub measure_reading : List (List ℕ) → Option Asked
measure_reading [] = None
measure_reading (text ∷ []) = option_map measuring (number_in text 0)
measure_reading (text ∷ more ∷ rest) = None

abbrev pub unlink_reading : List (List ℕ) → Option Asked
unlink_reading [] = None
unlink_reading (word ∷ rest) = if list_all is_value (word ∷ rest) then Some (unlinking (word ∷ rest)) else None

abbrev pub path_reading : (List ℕ → Asked) → List (List ℕ) → Option Asked
path_reading asked [] = None
path_reading asked (path ∷ []) = if is_value path then Some (asked path) else None
path_reading asked (path ∷ more ∷ rest) = None

abbrev pub check_reading : List (List ℕ) → Option Asked
check_reading [] = Some checking
check_reading (word ∷ []) = if bytes_eq word (codes "--strict") then Some checking_strictly else None
check_reading (word ∷ more ∷ rest) = None

-- the commands that take nothing
abbrev pub plain_command : List ℕ → Option Asked
plain_command command =
    if bytes_eq command (codes "refresh") then Some refreshing
    else (if bytes_eq command (codes "list") then Some listing
    else (if bytes_eq command (codes "inject") then Some injecting
    else (if bytes_eq command (codes "session") then Some editing else None)))

abbrev pub without_more : List (List ℕ) → Option Asked → Option Asked
without_more [] asked = asked
without_more (word ∷ rest) asked = None

abbrev pub command_reading : List ℕ → List (List ℕ) → Option Asked
command_reading command rest =
    if bytes_eq command (codes "link") then link_reading rest None no_options
    else (if bytes_eq command (codes "unlink") then unlink_reading rest
    else (if bytes_eq command (codes "measure") then measure_reading rest
    else (if bytes_eq command (codes "why") then path_reading explaining rest
    else (if bytes_eq command (codes "vendor") then path_reading vendoring rest
    else (if bytes_eq command (codes "check") then check_reading rest
    else without_more rest (plain_command command))))))

abbrev pub reading_of : List (List ℕ) → Option Asked
reading_of [] = None
reading_of (command ∷ rest) = command_reading command rest
