-- What comes behind a line that is whole changes nothing of how it is read, also where it has no meaning.
use Rattle.std.proofs.Common.{◌≡◌, ◌≤◌, ◌<◌, ◌⊎◌, ◌++◌, ◌∷◌, [], ◌==◌, ℕ, List, length, Bool, true, false, Option, Some, None, refl, sym, ap, ◌∙◌, subst, inl, inr, arith}
use Rattle.std.proofs.lemmas.Bool.{cases_lt}
use Rattle.std.proofs.lemmas.List.{take-append-le, drop-append-le, drop_all}
use Rattle.std.specs.Prelude.{codes, ◌+◌, ◌&&◌, bytes_eq, take, drop, if◌then◌else◌}
use Rattle.std.specs.Str.{is_utf8}
use Rattle.url_spec.specs.PathTests.{is_path}
use Rattle.session_spec.specs.declared.Change.{Change}
use Rattle.session_spec.specs.declared.Change.TheVariants.{Link, Unlink, Put, Drop}
use Rattle.session_spec.specs.Conversations.{turn, turn_at, stops}
use Rattle.session_spec.specs.SessionLines.{Order, changes, begins, commits, shows_map, ends_session, Reading, reads, malformed, unfinished}
use Rattle.session_spec.specs.SessionLines.{Cut, cut_first, cut_last, behind_word, number_of, line_ends}
use Rattle.session_spec.specs.SessionLines.{one_line, if_text, if_path, put_behind, put_number, put_line, if_word, order_of, line_at, read_line}
use Rattle.session_spec.proofs.Conversing.{turn_on, ordered_on}
use Rattle.session_spec.proofs.LinesOn.{reading_on, cut_on, first_on}

module _ (more : List ℕ) where
  -- what is read in the first, where it isn't short of bytes, is read in the second too
  abbrev IsWholeIn : Reading → Reading → Type 0
  IsWholeIn some other = (some ≡ unfinished → ⊥) → other ≡ reading_on more some

  short_in : (other : Reading) → IsWholeIn unfinished other
  short_in other whole = absurd (whole refl)

  if_in : (b : Bool) (some other : Reading) → IsWholeIn some other → IsWholeIn (if b then some else malformed) (if b then other else malformed)
  if_in true some other is = is
  if_in false some other is = λ _. refl

  text_in : (text : List ℕ) (order : Order) (behind : List ℕ) → IsWholeIn (if_text text order behind) (if_text text order (behind ++ more))
  text_in [] order behind = λ _. refl
  text_in (b ∷ text) order behind = if_in (is_utf8 (b ∷ text)) (one_line order behind) (one_line order (behind ++ more)) (λ _. refl)

  bytes_in : (path bytes left : List ℕ) → IsWholeIn (put_behind path bytes left) (put_behind path bytes (left ++ more))
  bytes_in path bytes [] = short_in (put_behind path bytes more)
  bytes_in path bytes (b ∷ left) =
      let some = reads (changes (Put path bytes)) (record { lines = 2 + line_ends bytes; behind = left }) in
      if_in (b == 10) some (reading_on more some) (λ _. refl)

  put_in : (path : List ℕ) (number : ℕ) (behind : List ℕ) → (length behind < number) ⊎ (number ≤ length behind)
      → IsWholeIn (put_behind path (take number behind) (drop number behind)) (put_behind path (take number (behind ++ more)) (drop number (behind ++ more)))
  put_in path number behind (inl short) =
      let none : drop number behind ≡ [] = drop_all number behind (omega (arith, short)) in
      let other = put_behind path (take number (behind ++ more)) (drop number (behind ++ more)) in
      subst (λ (left : List ℕ). IsWholeIn (put_behind path (take number behind) left) other) (sym none) (short_in other)
  put_in path number behind (inr long) =
      let some = put_behind path (take number behind) (drop number behind) in
      subst (λ (bytes : List ℕ). IsWholeIn some (put_behind path bytes (drop number (behind ++ more)))) (sym (take-append-le number behind more long))
      (subst (λ (left : List ℕ). IsWholeIn some (put_behind path (take number behind) left)) (sym (drop-append-le number behind more long))
      (bytes_in path (take number behind) (drop number behind)))

  number_in : (path : List ℕ) (number : Option ℕ) (behind : List ℕ) → IsWholeIn (put_number path number behind) (put_number path number (behind ++ more))
  number_in path None behind = λ _. refl
  number_in path (Some number) behind =
      if_in (is_utf8 path && is_path path) (put_behind path (take number behind) (drop number behind)) (put_behind path (take number (behind ++ more)) (drop number (behind ++ more)))
      (put_in path number behind (cases_lt (length behind) number))

  parts_in : (cut : Option Cut) (behind : List ℕ) → IsWholeIn (put_line cut behind) (put_line cut (behind ++ more))
  parts_in None behind = λ _. refl
  parts_in (Some cut) behind = number_in cut.front (number_of cut.behind) behind

  word_in : (found : Option (List ℕ)) (next next_too : List ℕ → Reading) (some other : Reading)
      → ((text : List ℕ) → IsWholeIn (next text) (next_too text)) → IsWholeIn some other → IsWholeIn (if_word found next some) (if_word found next_too other)
  word_in None next next_too some other is is_too = is_too
  word_in (Some text) next next_too some other is is_too = is text

  chosen_in : (b : Bool) (order : Order) (behind : List ℕ) (some other : Reading) → IsWholeIn some other
      → IsWholeIn (if b then one_line order behind else some) (if b then one_line order (behind ++ more) else other)
  chosen_in true order behind some other is = λ _. refl
  chosen_in false order behind some other is = is

  order_in : (line behind : List ℕ) → IsWholeIn (order_of line behind) (order_of line (behind ++ more))
  order_in line behind =
      let on = behind ++ more in
      let is_end = chosen_in (bytes_eq (codes "end") line) ends_session behind malformed malformed (λ _. refl) in
      let is_map = chosen_in (bytes_eq (codes "map") line) shows_map behind _ _ is_end in
      let is_commit = chosen_in (bytes_eq (codes "commit") line) commits behind _ _ is_map in
      let is_begin = chosen_in (bytes_eq (codes "begin") line) begins behind _ _ is_commit in
      let is_drop = word_in (behind_word (codes "drop ") line) (λ text. if_path text (one_line (changes (Drop text)) behind)) (λ text. if_path text (one_line (changes (Drop text)) on)) _ _
      (λ text. if_in (is_utf8 text && is_path text) (one_line (changes (Drop text)) behind) (one_line (changes (Drop text)) on) (λ _. refl)) is_begin in
      let is_put = word_in (behind_word (codes "put ") line) (λ text. put_line (cut_last 32 text) behind) (λ text. put_line (cut_last 32 text) on) _ _
      (λ text. parts_in (cut_last 32 text) behind) is_drop in
      let is_unlink = word_in (behind_word (codes "unlink ") line) (λ text. if_text text (changes (Unlink text)) behind) (λ text. if_text text (changes (Unlink text)) on) _ _
      (λ text. text_in text (changes (Unlink text)) behind) is_put in
      word_in (behind_word (codes "link ") line) (λ text. if_text text (changes (Link text)) behind) (λ text. if_text text (changes (Link text)) on) _ _
      (λ text. text_in text (changes (Link text)) behind) is_unlink

  line_in : (found again : Option Cut) → ((c : Cut) → found ≡ Some c → again ≡ Some (cut_on more c)) → IsWholeIn (line_at found) (line_at again)
  line_in None again on = short_in (line_at again)
  line_in (Some cut) again on =
      subst (λ (a : Option Cut). IsWholeIn (order_of cut.front cut.behind) (line_at a)) (sym (on cut refl)) (order_in cut.front cut.behind)

  read_in : (input : List ℕ) → IsWholeIn (read_line input) (read_line (input ++ more))
  read_in input = line_in (cut_first 10 input) (cut_first 10 (input ++ more)) (λ c is. first_on more 10 input c is)

  -- ---- turns

  turned_in : (held : Option (List Change)) (reading : Reading) → turn held (reading_on more reading) ≡ turn_on more (turn held reading)
  turned_in held (reads order rest) = ordered_on more held order rest
  turned_in held malformed = refl
  turned_in held unfinished = refl

  pub turn_in : (held : Option (List Change)) (input : List ℕ) → (turn_at held input ≡ stops → ⊥) → turn_at held (input ++ more) ≡ turn_on more (turn_at held input)
  turn_in held input whole =
      ap (turn held) (read_in input (λ short. whole (ap (turn held) short))) ∙ turned_in held (read_line input)
