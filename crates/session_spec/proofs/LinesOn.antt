-- What comes behind a line changes nothing of how it is read.
use Rattle.std.proofs.Common.{◌≡◌, ◌≤◌, ◌<◌, ◌⊎◌, ◌++◌, ◌∷◌, [], ◌==◌, ℕ, List, length, Bool, true, false, Option, Some, None, refl, sym, ap, ◌∙◌, subst, inl, inr, arith}
use Rattle.std.proofs.lemmas.Bool.{cases_lt}
use Rattle.std.proofs.lemmas.List.{take-append-le, drop-append-le, drop_all}
use Rattle.std.specs.Prelude.{codes, ◌+◌, ◌&&◌, bytes_eq, take, drop, option_map, if◌then◌else◌}
use Rattle.std.specs.Str.{is_utf8}
use Rattle.url_spec.specs.PathTests.{is_path}
use Rattle.session_spec.specs.declared.Change.TheVariants.{Link, Unlink, Put, Drop}
use Rattle.session_spec.specs.SessionLines.{Order, changes, begins, commits, shows_map, ends_session, Rest, Reading, reads, malformed, unfinished}
use Rattle.session_spec.specs.SessionLines.{Cut, with_front, cut_here, cut_first, cut_last, behind_word, number_of, line_ends}
use Rattle.session_spec.specs.SessionLines.{one_line, if_text, if_path, put_behind, put_number, put_line, if_word, order_of, line_at, read_line}

module _ (more : List ℕ) where
  abbrev pub rest_on : Rest → Rest
  rest_on rest = record { lines = rest.lines; behind = rest.behind ++ more }

  abbrev pub reading_on : Reading → Reading
  reading_on (reads order rest) = reads order (rest_on rest)
  reading_on malformed = malformed
  reading_on unfinished = unfinished

  -- what is read in the first is read in the second too
  abbrev pub IsReadOn : Reading → Reading → Type 0
  IsReadOn some other = (order : Order) (rest : Rest) → some ≡ reads order rest → other ≡ reads order (rest_on rest)

  line_on : (order : Order) (behind : List ℕ) → IsReadOn (one_line order behind) (one_line order (behind ++ more))
  line_on some behind order rest e = ap reading_on e

  nothing_on : (other : Reading) → IsReadOn malformed other
  nothing_on other order rest e = absurd (cc)

  unfinished_on : (other : Reading) → IsReadOn unfinished other
  unfinished_on other order rest e = absurd (cc)

  if_on : (b : Bool) (some other : Reading) → IsReadOn some other → IsReadOn (if b then some else malformed) (if b then other else malformed)
  if_on true some other is = is
  if_on false some other is = nothing_on malformed

  text_on : (text : List ℕ) (order : Order) (behind : List ℕ) → IsReadOn (if_text text order behind) (if_text text order (behind ++ more))
  text_on [] order behind = nothing_on malformed
  text_on (b ∷ text) order behind = if_on (is_utf8 (b ∷ text)) (one_line order behind) (one_line order (behind ++ more)) (line_on order behind)

  bytes_on : (path bytes left : List ℕ) → IsReadOn (put_behind path bytes left) (put_behind path bytes (left ++ more))
  bytes_on path bytes [] = unfinished_on (put_behind path bytes more)
  bytes_on path bytes (b ∷ left) =
      let some = reads (changes (Put path bytes)) (record { lines = 2 + line_ends bytes; behind = left }) in
      if_on (b == 10) some (reading_on some) (λ order rest e. ap reading_on e)

  put_on : (path : List ℕ) (number : ℕ) (behind : List ℕ) → (length behind < number) ⊎ (number ≤ length behind)
      → IsReadOn (put_behind path (take number behind) (drop number behind)) (put_behind path (take number (behind ++ more)) (drop number (behind ++ more)))
  put_on path number behind (inl short) =
      let none : drop number behind ≡ [] = drop_all number behind (omega (arith, short)) in
      let other = put_behind path (take number (behind ++ more)) (drop number (behind ++ more)) in
      subst (λ (left : List ℕ). IsReadOn (put_behind path (take number behind) left) other) (sym none) (unfinished_on other)
  put_on path number behind (inr long) =
      let some = put_behind path (take number behind) (drop number behind) in
      subst (λ (bytes : List ℕ). IsReadOn some (put_behind path bytes (drop number (behind ++ more)))) (sym (take-append-le number behind more long))
      (subst (λ (left : List ℕ). IsReadOn some (put_behind path (take number behind) left)) (sym (drop-append-le number behind more long))
      (bytes_on path (take number behind) (drop number behind)))

  number_on : (path : List ℕ) (number : Option ℕ) (behind : List ℕ) → IsReadOn (put_number path number behind) (put_number path number (behind ++ more))
  number_on path None behind = nothing_on malformed
  number_on path (Some number) behind =
      if_on (is_utf8 path && is_path path) (put_behind path (take number behind) (drop number behind)) (put_behind path (take number (behind ++ more)) (drop number (behind ++ more)))
      (put_on path number behind (cases_lt (length behind) number))

  parts_on : (cut : Option Cut) (behind : List ℕ) → IsReadOn (put_line cut behind) (put_line cut (behind ++ more))
  parts_on None behind = nothing_on malformed
  parts_on (Some cut) behind = number_on cut.front (number_of cut.behind) behind

  word_on : (found : Option (List ℕ)) (next next_too : List ℕ → Reading) (some other : Reading)
      → ((text : List ℕ) → IsReadOn (next text) (next_too text)) → IsReadOn some other → IsReadOn (if_word found next some) (if_word found next_too other)
  word_on None next next_too some other is is_too = is_too
  word_on (Some text) next next_too some other is is_too = is text

  chosen_on : (b : Bool) (order : Order) (behind : List ℕ) (some other : Reading) → IsReadOn some other
      → IsReadOn (if b then one_line order behind else some) (if b then one_line order (behind ++ more) else other)
  chosen_on true order behind some other is = line_on order behind
  chosen_on false order behind some other is = is

  order_on : (line behind : List ℕ) → IsReadOn (order_of line behind) (order_of line (behind ++ more))
  order_on line behind =
      let on = behind ++ more in
      let is_end = chosen_on (bytes_eq (codes "end") line) ends_session behind malformed malformed (nothing_on malformed) in
      let is_map = chosen_on (bytes_eq (codes "map") line) shows_map behind _ _ is_end in
      let is_commit = chosen_on (bytes_eq (codes "commit") line) commits behind _ _ is_map in
      let is_begin = chosen_on (bytes_eq (codes "begin") line) begins behind _ _ is_commit in
      let is_drop = word_on (behind_word (codes "drop ") line) (λ text. if_path text (one_line (changes (Drop text)) behind)) (λ text. if_path text (one_line (changes (Drop text)) on)) _ _
      (λ text. if_on (is_utf8 text && is_path text) _ _ (line_on (changes (Drop text)) behind)) is_begin in
      let is_put = word_on (behind_word (codes "put ") line) (λ text. put_line (cut_last 32 text) behind) (λ text. put_line (cut_last 32 text) on) _ _
      (λ text. parts_on (cut_last 32 text) behind) is_drop in
      let is_unlink = word_on (behind_word (codes "unlink ") line) (λ text. if_text text (changes (Unlink text)) behind) (λ text. if_text text (changes (Unlink text)) on) _ _
      (λ text. text_on text (changes (Unlink text)) behind) is_put in
      word_on (behind_word (codes "link ") line) (λ text. if_text text (changes (Link text)) behind) (λ text. if_text text (changes (Link text)) on) _ _
      (λ text. text_on text (changes (Link text)) behind) is_unlink

  -- ---- the first line

  abbrev pub cut_on : Cut → Cut
  cut_on cut = record { front = cut.front; behind = cut.behind ++ more }

  same_cut : (cut other : Cut) → Some cut ≡ Some other → cut ≡ other
  same_cut cut other e = cc

  cut_further : (here : Bool) (x : ℕ) (rest : List ℕ) (found again : Option Cut) (cut : Cut) → ((c : Cut) → found ≡ Some c → again ≡ Some (cut_on c))
      → (if here then Some (cut_here rest) else option_map (with_front x) found) ≡ Some cut
      → (if here then Some (cut_here (rest ++ more)) else option_map (with_front x) again) ≡ Some (cut_on cut)
  cut_further true x rest found again cut on e = ap (λ (c : Cut). Some (cut_on c)) (same_cut (cut_here rest) cut e)
  cut_further false x rest None again cut on e = absurd (cc)
  cut_further false x rest (Some c) again cut on e =
      ap (option_map (with_front x)) (on c refl) ∙ ap (λ (c : Cut). Some (cut_on c)) (same_cut (with_front x c) cut e)

  pub first_on : (b : ℕ) (text : List ℕ) (cut : Cut) → cut_first b text ≡ Some cut → cut_first b (text ++ more) ≡ Some (cut_on cut)
  first_on b [] cut e = absurd (cc)
  first_on b (x ∷ rest) cut e = cut_further (x == b) x rest (cut_first b rest) (cut_first b (rest ++ more)) cut (λ c is. first_on b rest c is) e

  line_read_on : (found again : Option Cut) → ((c : Cut) → found ≡ Some c → again ≡ Some (cut_on c)) → IsReadOn (line_at found) (line_at again)
  line_read_on None again on = unfinished_on (line_at again)
  line_read_on (Some cut) again on =
      subst (λ (a : Option Cut). IsReadOn (order_of cut.front cut.behind) (line_at a)) (sym (on cut refl)) (order_on cut.front cut.behind)

  pub read_on : (input : List ℕ) → IsReadOn (read_line input) (read_line (input ++ more))
  read_on input = line_read_on (cut_first 10 input) (cut_first 10 (input ++ more)) (λ c is. first_on 10 input c is)
