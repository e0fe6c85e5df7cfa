-- How lines are read, by what they begin with.
use Rattle.std.proofs.Common.{◌≡◌, ◌∷◌, [], ℕ, List, Bool, true, false, Option, Some, None, refl, sym, ap, ◌∙◌}
use Rattle.std.specs.Prelude.{◌&&◌, codes, take, drop, bytes_eq, if◌then◌else◌}
use Rattle.std.specs.Str.{is_utf8}
use Rattle.url_spec.specs.PathTests.{is_path}
use Rattle.session_spec.specs.declared.Change.TheVariants.{Link, Unlink, Drop}
use Rattle.session_spec.specs.SessionLines.{Order, changes, begins, commits, shows_map, ends_session, Reading, malformed, Cut}
use Rattle.session_spec.specs.SessionLines.{behind_word, cut_last, number_of, one_line, if_text, if_path, put_behind, put_number, put_line, if_word, alone, order_of}
use Rattle.session_input.specs.Lines.{is_entry, word_reading, last_word_reading}

-- ---- entries and paths

entry_reads : (text : List ℕ) (order : Order) (behind : List ℕ) → is_entry text ≡ true → if_text text order behind ≡ one_line order behind
entry_reads [] order behind e = absurd (cc)
entry_reads (b ∷ text) order behind e = ap (λ (is : Bool). if is then one_line order behind else malformed) e

pub no_entry : (text : List ℕ) (order : Order) (behind : List ℕ) → is_entry text ≡ false → if_text text order behind ≡ malformed
no_entry [] order behind e = refl
no_entry (b ∷ text) order behind e = ap (λ (is : Bool). if is then one_line order behind else malformed) e

pub links : (text entry behind : List ℕ) → is_entry text ≡ true → entry ≡ text → if_text text (changes (Link text)) behind ≡ one_line (changes (Link entry)) behind
links text entry behind is same = entry_reads text (changes (Link text)) behind is ∙ ap (λ (e : List ℕ). one_line (changes (Link e)) behind) (sym same)

pub unlinks : (text entry behind : List ℕ) → is_entry text ≡ true → entry ≡ text → if_text text (changes (Unlink text)) behind ≡ one_line (changes (Unlink entry)) behind
unlinks text entry behind is same = entry_reads text (changes (Unlink text)) behind is ∙ ap (λ (e : List ℕ). one_line (changes (Unlink e)) behind) (sym same)

path_reads : (text : List ℕ) (reading : Reading) → (is_utf8 text && is_path text) ≡ true → if_path text reading ≡ reading
path_reads text reading e = ap (λ (is : Bool). if is then reading else malformed) e

pub no_path : (text : List ℕ) (reading : Reading) → (is_utf8 text && is_path text) ≡ false → if_path text reading ≡ malformed
no_path text reading e = ap (λ (is : Bool). if is then reading else malformed) e

pub drops : (text path behind : List ℕ) → (is_utf8 text && is_path text) ≡ true → path ≡ text → if_path text (one_line (changes (Drop text)) behind) ≡ one_line (changes (Drop path)) behind
drops text path behind is same = path_reads text (one_line (changes (Drop text)) behind) is ∙ ap (λ (p : List ℕ). one_line (changes (Drop p)) behind) (sym same)

-- ---- files

pub no_space : (text behind : List ℕ) → None ≡ cut_last 32 text → put_line (cut_last 32 text) behind ≡ malformed
no_space text behind e = ap (λ (cut : Option Cut). put_line cut behind) (sym e)

cut_reads : (text behind : List ℕ) (cut : Cut) → Some cut ≡ cut_last 32 text → put_line (cut_last 32 text) behind ≡ put_number cut.front (number_of cut.behind) behind
cut_reads text behind cut e = ap (λ (c : Option Cut). put_line c behind) (sym e)

pub no_number : (text behind : List ℕ) (cut : Cut) → Some cut ≡ cut_last 32 text → None ≡ number_of cut.behind → put_line (cut_last 32 text) behind ≡ malformed
no_number text behind cut e none = cut_reads text behind cut e ∙ ap (λ (n : Option ℕ). put_number cut.front n behind) (sym none)

number_reads : (text behind : List ℕ) (cut : Cut) (count : ℕ) → Some cut ≡ cut_last 32 text → Some count ≡ number_of cut.behind
    → put_line (cut_last 32 text) behind ≡ if_path cut.front (put_behind cut.front (take count behind) (drop count behind))
number_reads text behind cut count e is = cut_reads text behind cut e ∙ ap (λ (n : Option ℕ). put_number cut.front n behind) (sym is)

pub no_file : (text behind : List ℕ) (cut : Cut) (count : ℕ) → Some cut ≡ cut_last 32 text → Some count ≡ number_of cut.behind
    → (is_utf8 cut.front && is_path cut.front) ≡ false → put_line (cut_last 32 text) behind ≡ malformed
no_file text behind cut count e is none = number_reads text behind cut count e is ∙ no_path cut.front (put_behind cut.front (take count behind) (drop count behind)) none

pub puts : (text behind path : List ℕ) (cut : Cut) (count : ℕ) → Some cut ≡ cut_last 32 text → Some count ≡ number_of cut.behind
    → (is_utf8 cut.front && is_path cut.front) ≡ true → path ≡ cut.front → put_line (cut_last 32 text) behind ≡ put_behind path (take count behind) (drop count behind)
puts text behind path cut count e is some same =
    number_reads text behind cut count e is ∙ path_reads cut.front (put_behind cut.front (take count behind) (drop count behind)) some
    ∙ ap (λ (p : List ℕ). put_behind p (take count behind) (drop count behind)) (sym same)

-- ---- first words

module _ (line behind : List ℕ) where
  reads_word : (found : Option (List ℕ)) (text : List ℕ) (next : List ℕ → Reading) (other said : Reading) → Some text ≡ found → next text ≡ said → if_word found next other ≡ said
  reads_word found text next other said e is = ap (λ (f : Option (List ℕ)). if_word f next other) (sym e) ∙ is

  reads_other : (found : Option (List ℕ)) (next : List ℕ → Reading) (other said : Reading) → None ≡ found → other ≡ said → if_word found next other ≡ said
  reads_other found next other said e is = ap (λ (f : Option (List ℕ)). if_word f next other) (sym e) ∙ is

  pub by_link : (text : List ℕ) (said : Reading) → Some text ≡ behind_word (codes "link ") line → if_text text (changes (Link text)) behind ≡ said → order_of line behind ≡ said
  by_link text said e is = reads_word (behind_word (codes "link ") line) text (λ text. if_text text (changes (Link text)) behind) _ said e is

  pub by_unlink : (text : List ℕ) (said : Reading) → None ≡ behind_word (codes "link ") line → Some text ≡ behind_word (codes "unlink ") line → if_text text (changes (Unlink text)) behind ≡ said → order_of line behind ≡ said
  by_unlink text said no_link e is =
      reads_other (behind_word (codes "link ") line) (λ text. if_text text (changes (Link text)) behind) _ said no_link
      (reads_word (behind_word (codes "unlink ") line) text (λ text. if_text text (changes (Unlink text)) behind) _ said e is)

  pub by_put : (text : List ℕ) (said : Reading) → None ≡ behind_word (codes "link ") line → None ≡ behind_word (codes "unlink ") line → Some text ≡ behind_word (codes "put ") line → put_line (cut_last 32 text) behind ≡ said → order_of line behind ≡ said
  by_put text said no_link no_unlink e is =
      reads_other (behind_word (codes "link ") line) (λ text. if_text text (changes (Link text)) behind) _ said no_link
      (reads_other (behind_word (codes "unlink ") line) (λ text. if_text text (changes (Unlink text)) behind) _ said no_unlink
      (reads_word (behind_word (codes "put ") line) text (λ text. put_line (cut_last 32 text) behind) _ said e is))

  pub by_drop : (text : List ℕ) (said : Reading) → None ≡ behind_word (codes "link ") line → None ≡ behind_word (codes "unlink ") line → None ≡ behind_word (codes "put ") line → Some text ≡ behind_word (codes "drop ") line
      → if_path text (one_line (changes (Drop text)) behind) ≡ said → order_of line behind ≡ said
  by_drop text said no_link no_unlink no_put e is =
      reads_other (behind_word (codes "link ") line) (λ text. if_text text (changes (Link text)) behind) _ said no_link
      (reads_other (behind_word (codes "unlink ") line) (λ text. if_text text (changes (Unlink text)) behind) _ said no_unlink
      (reads_other (behind_word (codes "put ") line) (λ text. put_line (cut_last 32 text) behind) _ said no_put
      (reads_word (behind_word (codes "drop ") line) text (λ text. if_path text (one_line (changes (Drop text)) behind)) _ said e is)))

  pub by_word : (said : Reading) → None ≡ behind_word (codes "link ") line → None ≡ behind_word (codes "unlink ") line → None ≡ behind_word (codes "put ") line → None ≡ behind_word (codes "drop ") line
      → word_reading line behind ≡ said → order_of line behind ≡ said
  by_word said no_link no_unlink no_put no_drop is =
      reads_other (behind_word (codes "link ") line) (λ text. if_text text (changes (Link text)) behind) _ said no_link
      (reads_other (behind_word (codes "unlink ") line) (λ text. if_text text (changes (Unlink text)) behind) _ said no_unlink
      (reads_other (behind_word (codes "put ") line) (λ text. put_line (cut_last 32 text) behind) _ said no_put
      (reads_other (behind_word (codes "drop ") line) (λ text. if_path text (one_line (changes (Drop text)) behind)) _ said no_drop is)))

-- ---- lines of one word

word_alone : (word line behind : List ℕ) (order : Order) (other : Reading) → bytes_eq word line ≡ true → alone word order line behind other ≡ one_line order behind
word_alone word line behind order other e = ap (λ (is : Bool). if is then one_line order behind else other) e

other_alone : (word line behind : List ℕ) (order : Order) (other said : Reading) → bytes_eq word line ≡ false → other ≡ said → alone word order line behind other ≡ said
other_alone word line behind order other said e is = ap (λ (is : Bool). if is then one_line order behind else other) e ∙ is

pub begin_reads : (line behind : List ℕ) → bytes_eq (codes "begin") line ≡ true → word_reading line behind ≡ one_line begins behind
begin_reads line behind e = word_alone (codes "begin") line behind begins (alone (codes "commit") commits line behind (last_word_reading line behind)) e

pub commit_reads : (line behind : List ℕ) → bytes_eq (codes "begin") line ≡ false → bytes_eq (codes "commit") line ≡ true → word_reading line behind ≡ one_line commits behind
commit_reads line behind other e =
    other_alone (codes "begin") line behind begins (alone (codes "commit") commits line behind (last_word_reading line behind)) (one_line commits behind) other
    (word_alone (codes "commit") line behind commits (last_word_reading line behind) e)

pub other_reads : (line behind : List ℕ) (said : Reading) → bytes_eq (codes "begin") line ≡ false → bytes_eq (codes "commit") line ≡ false → last_word_reading line behind ≡ said
    → word_reading line behind ≡ said
other_reads line behind said other none is =
    other_alone (codes "begin") line behind begins (alone (codes "commit") commits line behind (last_word_reading line behind)) said other
    (other_alone (codes "commit") line behind commits (last_word_reading line behind) said none is)

pub map_reads : (line behind : List ℕ) → bytes_eq (codes "map") line ≡ true → last_word_reading line behind ≡ one_line shows_map behind
map_reads line behind e = word_alone (codes "map") line behind shows_map (alone (codes "end") ends_session line behind malformed) e

pub end_reads : (line behind : List ℕ) → bytes_eq (codes "map") line ≡ false → bytes_eq (codes "end") line ≡ true → last_word_reading line behind ≡ one_line ends_session behind
end_reads line behind other e =
    other_alone (codes "map") line behind shows_map (alone (codes "end") ends_session line behind malformed) (one_line ends_session behind) other
    (word_alone (codes "end") line behind ends_session malformed e)

pub no_reads : (line behind : List ℕ) → bytes_eq (codes "map") line ≡ false → bytes_eq (codes "end") line ≡ false → last_word_reading line behind ≡ malformed
no_reads line behind other none =
    other_alone (codes "map") line behind shows_map (alone (codes "end") ends_session line behind malformed) malformed other
    (other_alone (codes "end") line behind ends_session malformed malformed none refl)

pub ruleset word_rules = (begin_reads, commit_reads, other_reads, map_reads, end_reads, no_reads)

pub ruleset line_rules = (no_entry, links, unlinks, no_path, drops, no_space, no_number, no_file, puts, by_link, by_unlink, by_put, by_drop, by_word)
