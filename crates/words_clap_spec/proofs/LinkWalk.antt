-- The words after `link`: `clap` takes them, and ends with the rows of their options and entries.
use Rattle.clap.proofs.OnLiterals.{clap_on_literals}
use Rattle.clap.specs.Takes.{level_passes, turn_passes}
use Rattle.clap.specs.Walk.{Held, Walk, finished, nothing_held, rows_after, settled, walked}
use Rattle.clap.specs.Words.{Row, Text}
use Rattle.std.specs.List.{All}
use Rattle.std.proofs.Common.{◌≡◌, ◌≢◌, ◌&&◌, ℕ, List, [], ◌∷◌, ◌++◌, codes, find, true, false, option_map, refl, ap₂, ◌∙◌}
use Rattle.std.proofs.lemmas.List.Elements.{All-head}
use Rattle.words_spec.specs.declared.LinkOption.{LinkOption}
use Rattle.words_spec.specs.declared.LinkOption.TheVariants.{Base, Page, Conditions}
use Rattle.words_spec.specs.PlainWords.{Asked, IsValue, LinkOptions, LinkWords, no_options, spelled, value_of, with_value, linking, entries, two_words, one_word}
use Rattle.words_spec.proofs.Values.{no_hyphen_first}
use Rattle.words_clap_spec.specs.Holding.{HoldsLink, is_row, option_name, row}
use Rattle.words_clap_spec.proofs.Entries.{entries_end}
use Rattle.words_clap_spec.proofs.LinkRows.{HoldsOptions, entries_found, free_row, holds_joined, holds_value, options_beside}
use Rattle.words_clap_spec.proofs.LinkTurns.{after_joined, after_value, joined_step, joined_turn, link_shape, link_takes_entries, name_step, name_turn, link_rules, value_step, value_turn, waits}
use Rattle.words_clap_spec.proofs.Rows.{has_row-none, no_defaults}
use Rattle.words_clap_spec.proofs.Turns.{Ends, begun, ends_step}

-- a walk over the words ends with what they ask for
pub record LinkEnds (w : Walk) (words : List Text) (asked : Asked) : Type 0 where
  pub options : LinkOptions
  pub entries : List Text
  pub rows : List Row
  pub is : asked ≡ linking options entries
  pub ends : Ends link_shape w words rows
  pub holds : HoldsLink options entries rows

with_entries : (options : LinkOptions) (words : List Text) → All IsValue words → (held : Held) → HoldsOptions options held → LinkEnds (begun held) words (linking options words)
unfolding clap_on_literals
with_entries options [] all held has = record {
  options = options;
  entries = [];
  rows = (settled link_rules held).rows;
  is = refl;
  ends = record { passes = refl; settles = has.settles; found = refl };
  holds = record { option_rows = has.rows; entry_row = has.no_entries };
}
with_entries options ([] ∷ words) all held has = absurd ((All-head IsValue [] words all).nonempty refl)
with_entries options ((b ∷ bs) ∷ words) all held has = record {
  options = options;
  entries = (b ∷ bs) ∷ words;
  rows = (settled link_rules held).rows ++ row (codes "entries") ((b ∷ bs) ∷ words) ∷ [];
  is = refl;
  ends = entries_end link_shape false link_takes_entries b bs words all held has.no_entries has.settles;
  holds = record {
    option_rows = options_beside options (settled link_rules held).rows ((b ∷ bs) ∷ words) has.rows;
    entry_row = entries_found (settled link_rules held).rows ((b ∷ bs) ∷ words) has.no_entries;
  };
}

step_before : (w next : Walk) (word : Text) (words : List Text) (asked : Asked) → turn_passes link_shape [] w word ≡ true → walked link_rules [] w word ≡ next → LinkEnds next words asked → LinkEnds w (word ∷ words) asked
step_before w next word words asked turn step e = record {
  options = e.options;
  entries = e.entries;
  rows = e.rows;
  is = e.is;
  ends = ends_step link_shape w next word words e.rows turn step e.ends;
  holds = e.holds;
}

two_words_before : (options : LinkOptions) (o : LinkOption) (value : Text) (rest : List Text) (asked : Asked) (held : Held) → IsValue value → HoldsOptions options held → LinkEnds (begun (after_value o value (settled link_rules held))) rest asked → LinkEnds (begun held) (spelled o ∷ value ∷ rest) asked
two_words_before options o [] rest asked held is has e = absurd (is.nonempty refl)
two_words_before options o (b ∷ bs) rest asked held is has e =
    let ne = no_hyphen_first b bs is in
    step_before (begun held) (waits o (settled link_rules held)) (spelled o) ((b ∷ bs) ∷ rest) asked (name_turn o held has.settles) (name_step o held)
    (step_before (waits o (settled link_rules held)) (begun (after_value o (b ∷ bs) (settled link_rules held))) (b ∷ bs) rest asked
    (value_turn o (settled link_rules held) b bs ne) (value_step o (settled link_rules held) b bs ne) e)

link_ends : {options : LinkOptions} {words : List Text} {asked : Asked} → LinkWords options words asked → (held : Held) → HoldsOptions options held → LinkEnds (begun held) words asked
link_ends (entries all) held has = with_entries _ _ all held has
link_ends (two_words o value rest is free more) held has =
    two_words_before _ o value rest _ held is has
    (link_ends more (after_value o value (settled link_rules held)) (holds_value _ held o value has free))
link_ends (one_word o value rest is free more) held has =
    step_before (begun held) (begun (after_joined o value held)) (spelled o ++ 61 ∷ value) rest _
    (joined_turn o held value has.settles (has_row-none (option_name o) (settled link_rules held).rows (free_row _ held o has free)))
    (joined_step o held value)
    (link_ends more (after_joined o value held) (holds_joined _ held o value has free))

-- ---- the whole command

no_rows : (o : LinkOption) → find (is_row (option_name o)) (settled link_rules nothing_held).rows ≡ option_map (λ value. row (option_name o) (value ∷ [])) (value_of o no_options)
no_rows Base = refl
no_rows Page = refl
no_rows Conditions = refl

pub link_words_end : {words : List Text} {asked : Asked} → LinkWords no_options words asked → LinkEnds (begun nothing_held) words asked
link_words_end plain = link_ends plain nothing_held (record { rows = no_rows; no_entries = refl; settles = refl })

pub link_level : (words : List Text) (asked : Asked) → LinkEnds (begun nothing_held) words asked → level_passes link_shape [] nothing_held words false ≡ true
unfolding clap_on_literals
link_level words asked e = ap₂ (λ a b. a && (b && true)) e.ends.passes e.ends.settles

pub link_rows : (words : List Text) (asked : Asked) (e : LinkEnds (begun nothing_held) words asked) → rows_after link_rules [] words ≡ e.rows
unfolding clap_on_literals
link_rows words asked e = no_defaults link_rules _ refl ∙ e.ends.found
