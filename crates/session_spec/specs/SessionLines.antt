-- The lines of a session's input. own.
--     Order                           what a line asks for
--     Rest                            how many lines of input were taken, and what comes behind them
--     Reading                         an order; a line that has no meaning; or the input ends within the line
--     Cut                             a text before and behind a byte
--     cut_first b text, cut_last b text       at the first such byte, at the last
--     behind_word word text           what stands behind this word, where the text begins with it
--     number_of text                  the number of bytes that a line puts
--     order_of line behind            how a line without its end is read, with what comes behind it
--     read_line input                 how the first line of an input is read
use Rattle.std.specs.Str.{is_utf8}
use Rattle.std.specs.Prelude.{◌&&◌, ◌==◌, ◌+◌, ◌-◌, ◌*◌, ◌∷◌, [], not, nat_lt, ℕ, Bool, List, take, drop, bytes_eq}
use Rattle.std.specs.Prelude.{codes, Option, Some, None, option_map, if◌then◌else◌}
use Rattle.tree_spec.specs.declared.LimitName.TheVariants.{File}
use Rattle.tree_spec.specs.Limits.{limit_number}
use Rattle.url_spec.specs.PathTests.{is_path}
use Rattle.session_spec.specs.declared.Change.{Change}
use Rattle.session_spec.specs.declared.Change.TheVariants.{Link, Unlink, Put, Drop}

pub data Order : Type 0 where
  changes : Change → Order
  begins : Order
  commits : Order
  shows_map : Order
  ends_session : Order

pub record Rest : Type 0 where
  pub lines : ℕ
  pub behind : List ℕ

pub data Reading : Type 0 where
  reads : Order → Rest → Reading
  malformed : Reading
  unfinished : Reading

-- ---- texts

pub record Cut : Type 0 where
  pub front : List ℕ
  pub behind : List ℕ

abbrev pub with_front : ℕ → Cut → Cut
with_front b cut = record { front = b ∷ cut.front; behind = cut.behind }

abbrev pub cut_here : List ℕ → Cut
cut_here behind = record { front = []; behind = behind }

abbrev pub cut_first : ℕ → List ℕ → Option Cut
cut_first b [] = None
cut_first b (x ∷ rest) = if x == b then Some (cut_here rest) else option_map (with_front x) (cut_first b rest)

abbrev pub first_of_two : Option Cut → Option Cut → Option Cut
first_of_two None other = other
first_of_two (Some cut) other = Some cut

abbrev pub cut_last : ℕ → List ℕ → Option Cut
cut_last b [] = None
cut_last b (x ∷ rest) =
    first_of_two (option_map (with_front x) (cut_last b rest)) (if x == b then Some (cut_here rest) else None)

abbrev pub behind_word : List ℕ → List ℕ → Option (List ℕ)
behind_word [] text = Some text
behind_word (w ∷ word) [] = None
behind_word (w ∷ word) (x ∷ text) = if w == x then behind_word word text else None

abbrev pub is_digit : ℕ → Bool
is_digit b = nat_lt 47 b && nat_lt b 58

abbrev pub number_on : ℕ → List ℕ → Option ℕ
number_on front [] = Some front
number_on front (b ∷ rest) =
    if is_digit b && not (nat_lt (limit_number File) (front * 10 + (b - 48)))
    then number_on (front * 10 + (b - 48)) rest
    else None

-- own: decimal, without leading zeros, at most 16,777,216
abbrev pub number_of : List ℕ → Option ℕ
number_of [] = None
number_of (b ∷ []) = number_on 0 (b ∷ [])
number_of (b ∷ (c ∷ rest)) = if b == 48 then None else number_on 0 (b ∷ (c ∷ rest))

abbrev pub line_ends : List ℕ → ℕ
line_ends [] = 0
line_ends (b ∷ rest) = (if b == 10 then 1 else 0) + line_ends rest

-- ---- lines

abbrev pub one_line : Order → List ℕ → Reading
one_line order behind = reads order (record { lines = 1; behind = behind })

-- own: an entry is a text of one byte at least
abbrev pub if_text : List ℕ → Order → List ℕ → Reading
if_text [] order behind = malformed
if_text (b ∷ text) order behind = if is_utf8 (b ∷ text) then one_line order behind else malformed

abbrev pub if_path : List ℕ → Reading → Reading
if_path text reading = if is_utf8 text && is_path text then reading else malformed

-- own: behind the bytes of a file the line ends; the lines of the bytes count too
abbrev pub put_behind : List ℕ → List ℕ → List ℕ → Reading
put_behind path bytes [] = unfinished
put_behind path bytes (b ∷ behind) =
    if b == 10
    then reads (changes (Put path bytes)) (record { lines = 2 + line_ends bytes; behind = behind })
    else malformed

abbrev pub put_number : List ℕ → Option ℕ → List ℕ → Reading
put_number path None behind = malformed
put_number path (Some number) behind = if_path path (put_behind path (take number behind) (drop number behind))

-- own: the path ends before the last space
abbrev pub put_line : Option Cut → List ℕ → Reading
put_line None behind = malformed
put_line (Some cut) behind = put_number cut.front (number_of cut.behind) behind

abbrev pub if_word : Option (List ℕ) → (List ℕ → Reading) → Reading → Reading
if_word None next other = other
if_word (Some text) next other = next text

abbrev pub alone : List ℕ → Order → List ℕ → List ℕ → Reading → Reading
alone word order line behind other = if bytes_eq word line then one_line order behind else other

abbrev pub order_of : List ℕ → List ℕ → Reading
order_of line behind =
    if_word (behind_word (codes "link ") line) (λ text. if_text text (changes (Link text)) behind)
    (if_word (behind_word (codes "unlink ") line) (λ text. if_text text (changes (Unlink text)) behind)
    (if_word (behind_word (codes "put ") line) (λ text. put_line (cut_last 32 text) behind)
    (if_word (behind_word (codes "drop ") line) (λ text. if_path text (one_line (changes (Drop text)) behind))
    (alone (codes "begin") begins line behind
    (alone (codes "commit") commits line behind
    (alone (codes "map") shows_map line behind
    (alone (codes "end") ends_session line behind malformed)))))))

abbrev pub line_at : Option Cut → Reading
line_at None = unfinished
line_at (Some cut) = order_of cut.front cut.behind

-- own: a line ends with LF
abbrev pub read_line : List ℕ → Reading
read_line input = line_at (cut_first 10 input)
