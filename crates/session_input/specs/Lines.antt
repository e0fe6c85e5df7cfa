-- What a line says, as the code holds it.
--     reading_of said behind          how it is read with what comes behind the line
--     file_reading path count behind  how the bytes of a file are read
--     is_entry text                   the bytes are an entry's
--     word_reading line behind, last_word_reading line behind     how a line is read that is one word, one of the last
--                                     two
use Rattle.std.specs.Str.{is_utf8}
use Rattle.std.specs.Prelude.{◌∷◌, [], ℕ, Bool, false, List, take, drop, codes}
use Rattle.session_spec.specs.declared.Change.TheVariants.{Link, Unlink, Drop}
use Rattle.session_spec.specs.SessionLines.{changes, begins, commits, shows_map, ends_session, Reading, malformed}
use Rattle.session_spec.specs.SessionLines.{one_line, put_behind, alone}
use Rattle.session_input.specs.declared.line.Line.{Line}
use Rattle.session_input.specs.declared.line.Line.TheVariants as said

abbrev pub file_reading : List ℕ → ℕ → List ℕ → Reading
file_reading path count behind = put_behind path (take count behind) (drop count behind)

abbrev pub reading_of : Line → List ℕ → Reading
reading_of (said.Link entry) behind = one_line (changes (Link entry)) behind
reading_of (said.Unlink entry) behind = one_line (changes (Unlink entry)) behind
reading_of (said.Put path count) behind = file_reading path count behind
reading_of (said.Drop path) behind = one_line (changes (Drop path)) behind
reading_of said.Begin behind = one_line begins behind
reading_of said.Commit behind = one_line commits behind
reading_of said.Map behind = one_line shows_map behind
reading_of said.End behind = one_line ends_session behind
reading_of said.Malformed behind = malformed

abbrev pub is_entry : List ℕ → Bool
is_entry [] = false
is_entry (b ∷ text) = is_utf8 (b ∷ text)

abbrev pub last_word_reading : List ℕ → List ℕ → Reading
last_word_reading line behind =
    alone (codes "map") shows_map line behind (alone (codes "end") ends_session line behind malformed)

abbrev pub word_reading : List ℕ → List ℕ → Reading
word_reading line behind =
    alone (codes "begin") begins line behind
    (alone (codes "commit") commits line behind (last_word_reading line behind))
