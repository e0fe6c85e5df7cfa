-- Entries, wherever a command takes them: they are the values of its one positional.
use Rattle.clap.proofs.OnLiterals.{clap_on_literals}
use Rattle.clap.specs.Simple.{filled, with_index}
use Rattle.clap.specs.Takes.{positional_passes, settle_passes, step_passes, turn_passes, use_passes}
use Rattle.clap.specs.Walk.{Held, Waiting, Walk, idle, positional, after_step, arg_by_id, arg_by_index, is_pending, more_values, plain_word, pushed, settled, subcommand_or_other, to_positional, used_by_id, walked, with_values}
use Rattle.clap.specs.Words.{Row, Rule, Shape, Text}
use Rattle.clap.specs.declared.parser.matches.ValueSource.TheVariants.{CommandLine}
use Rattle.std.specs.List.{All}
use Rattle.std.specs.Option.{option_map_or}
use Rattle.std.proofs.Common.{◌≡◌, ◌≢◌, ◌&&◌, ◌||◌, ℕ, List, [], ◌∷◌, ◌++◌, append-nil, append_assoc, codes, find, Bool, true, false, Some, None, if◌then◌else◌, refl, sym, ap, ◌∙◌}
use Rattle.std.proofs.Math.Bool.{and-false}
use Rattle.std.proofs.lemmas.List.Elements.{All-head, All-tail}
use Rattle.words_spec.specs.PlainWords.{IsValue}
use Rattle.words_spec.proofs.Values.{no_hyphen_first}
use Rattle.words_clap_spec.specs.Holding.{as_text, is_row, row}
use Rattle.words_clap_spec.specs.Program.{entries_rule}
use Rattle.words_clap_spec.proofs.Rows.{at_row-none, at_row-append}
use Rattle.words_clap_spec.proofs.Turns.{Ends, among, begun, ends_step, ends_with, plain_met, plain_passes}

-- the argument as it is built
abbrev pub entries_argument : Bool → Rule
entries_argument required = with_index 1 (filled (record entries_rule { required = required }))

pub record TakesEntries (rules : List Rule) (required : Bool) : Type 0 where
  pub by_index : arg_by_index rules 1 ≡ Some (entries_argument required)
  pub by_id : arg_by_id rules (codes "entries") ≡ Some (entries_argument required)

abbrev pub after_entry : List Rule → Text → Held → Held
after_entry rules word held = pushed (codes "entries") word (settled rules held)

pub entry_first : (rules : List Rule) (required : Bool) → TakesEntries rules required → (held : Held) (b : ℕ) (bs : List ℕ) → b ≢ 45 → walked rules [] (begun held) (b ∷ bs) ≡ among (after_entry rules (b ∷ bs) held)
unfolding clap_on_literals
entry_first rules required has held b bs ne =
    let met : walked rules [] (begun held) (b ∷ bs) ≡ to_positional rules (arg_by_index rules 1) (b ∷ bs) (begun held) held =
    ap (λ met. after_step rules (b ∷ bs) (begun held) met.0 met.1) (plain_met rules idle b bs held ne) in
    let taken : to_positional rules (arg_by_index rules 1) (b ∷ bs) (begun held) held ≡ to_positional rules (Some (entries_argument required)) (b ∷ bs) (begun held) held =
    ap (λ found. to_positional rules found (b ∷ bs) (begun held) held) has.by_index in
    let pushes : to_positional rules (Some (entries_argument required)) (b ∷ bs) (begun held) held ≡ among (after_entry rules (b ∷ bs) held) =
    ap (λ test. among (pushed (codes "entries") (b ∷ bs) (if test then held else settled rules held))) (and-false (is_pending (entries_argument required) held.pending)) in
    met ∙ taken ∙ pushes

entry_more : (rules : List Rule) (required : Bool) → TakesEntries rules required → (held : Held) (b : ℕ) (bs : List ℕ) → b ≢ 45 → walked rules [] (among held) (b ∷ bs) ≡ among (after_entry rules (b ∷ bs) held)
unfolding clap_on_literals
entry_more rules required has held b bs ne =
    let met : walked rules [] (among held) (b ∷ bs) ≡ to_positional rules (arg_by_index rules 1) (b ∷ bs) (among held) held =
    ap (λ met. after_step rules (b ∷ bs) (among held) met.0 met.1) (plain_met rules positional b bs held ne) in
    let taken : to_positional rules (arg_by_index rules 1) (b ∷ bs) (among held) held ≡ to_positional rules (Some (entries_argument required)) (b ∷ bs) (among held) held =
    ap (λ found. to_positional rules found (b ∷ bs) (among held) held) has.by_index in
    let pushes : to_positional rules (Some (entries_argument required)) (b ∷ bs) (among held) held ≡ among (after_entry rules (b ∷ bs) held) =
    ap (λ test. among (pushed (codes "entries") (b ∷ bs) (if test then held else settled rules held))) (and-false (is_pending (entries_argument required) held.pending)) in
    met ∙ taken ∙ pushes

-- a word that is no flag passes where what is held before it does
entry_passes : (s : Shape) (required : Bool) → TakesEntries s.rules required → (held : Held) → settle_passes s.rules s.args_override_self held ≡ true → option_map_or (λ a. positional_passes s.rules s.args_override_self a held) (arg_by_index s.rules 1) false ≡ true
entry_passes s required has held passes =
    ap (λ found. option_map_or (λ a. positional_passes s.rules s.args_override_self a held) found false) has.by_index
    ∙ ap (λ test. test || settle_passes s.rules s.args_override_self held) (and-false (is_pending (entries_argument required) held.pending))
    ∙ passes

pub entry_turn_first : (s : Shape) (required : Bool) → TakesEntries s.rules required → (held : Held) (b : ℕ) (bs : List ℕ) → b ≢ 45 → settle_passes s.rules s.args_override_self held ≡ true → turn_passes s [] (begun held) (b ∷ bs) ≡ true
unfolding clap_on_literals
entry_turn_first s required has held b bs ne passes =
    let met = subcommand_or_other s.rules None idle 1 (b ∷ bs) held in
    ap (λ test. test && step_passes s 1 met.0 met.1) (plain_passes s b bs held ne)
    ∙ ap (λ met. step_passes s 1 met.0 met.1) (plain_met s.rules idle b bs held ne)
    ∙ entry_passes s required has held passes

entry_turn_more : (s : Shape) (required : Bool) → TakesEntries s.rules required → (held : Held) (b : ℕ) (bs : List ℕ) → b ≢ 45 → settle_passes s.rules s.args_override_self held ≡ true → turn_passes s [] (among held) (b ∷ bs) ≡ true
unfolding clap_on_literals
entry_turn_more s required has held b bs ne passes =
    let met = subcommand_or_other s.rules None positional 1 (b ∷ bs) held in
    ap (λ test. test && step_passes s 1 met.0 met.1) (plain_passes s b bs held ne)
    ∙ ap (λ met. step_passes s 1 met.0 met.1) (plain_met s.rules positional b bs held ne)
    ∙ entry_passes s required has held passes

entry_settled : (rules : List Rule) (required : Bool) → TakesEntries rules required → (held : Held) (word : Text) → (settled rules (after_entry rules word held)).rows ≡ with_values (codes "entries") as_text CommandLine (word ∷ []) (settled rules held).rows
entry_settled rules required has held word = ap (λ found. used_by_id found (word ∷ []) (settled rules held).rows) has.by_id

pub entry_settles : (s : Shape) (required : Bool) → TakesEntries s.rules required → (held : Held) (word : Text) → settle_passes s.rules s.args_override_self (after_entry s.rules word held) ≡ true
entry_settles s required has held word =
    ap (λ found. option_map_or (λ a. use_passes s.args_override_self a (word ∷ []) (settled s.rules held).rows) found true) has.by_id

pub first_settled : (rules : List Rule) (required : Bool) → TakesEntries rules required → (held : Held) (word : Text) → find (is_row (codes "entries")) (settled rules held).rows ≡ None → (settled rules (after_entry rules word held)).rows ≡ (settled rules held).rows ++ row (codes "entries") (word ∷ []) ∷ []
first_settled rules required has held word none =
    entry_settled rules required has held word
    ∙ at_row-none (codes "entries") (more_values CommandLine (word ∷ [])) (row (codes "entries") (word ∷ []) ∷ []) (settled rules held).rows none

more_settled : (rules : List Rule) (required : Bool) → TakesEntries rules required → (held : Held) (word : Text) (rows : List Row) (entries : List Text) → find (is_row (codes "entries")) rows ≡ None → (settled rules held).rows ≡ rows ++ row (codes "entries") entries ∷ [] → (settled rules (after_entry rules word held)).rows ≡ rows ++ row (codes "entries") (entries ++ word ∷ []) ∷ []
more_settled rules required has held word rows entries none is =
    entry_settled rules required has held word
    ∙ ap (with_values (codes "entries") as_text CommandLine (word ∷ [])) is
    ∙ at_row-append (codes "entries") (more_values CommandLine (word ∷ [])) (row (codes "entries") (word ∷ []) ∷ []) rows (row (codes "entries") entries ∷ []) none

pub more_entries : (s : Shape) (required : Bool) → TakesEntries s.rules required → (words : List Text) → All IsValue words → (held : Held) (rows : List Row) (entries : List Text) → find (is_row (codes "entries")) rows ≡ None → (settled s.rules held).rows ≡ rows ++ row (codes "entries") entries ∷ [] → settle_passes s.rules s.args_override_self held ≡ true → Ends s (among held) words (rows ++ row (codes "entries") (entries ++ words) ∷ [])
unfolding clap_on_literals
more_entries s required has [] all held rows entries none is passes = record {
  passes = refl;
  settles = passes;
  found = is ∙ ap (λ values. rows ++ row (codes "entries") values ∷ []) (sym (append-nil entries));
}
more_entries s required has ([] ∷ words) all held rows entries none is passes = absurd ((All-head IsValue [] words all).nonempty refl)
more_entries s required has ((b ∷ bs) ∷ words) all held rows entries none is passes =
    let ne = no_hyphen_first b bs (All-head IsValue (b ∷ bs) words all) in
    let next : Held = after_entry s.rules (b ∷ bs) held in
    ends_step s (among held) (among next) (b ∷ bs) words (rows ++ row (codes "entries") (entries ++ (b ∷ bs) ∷ words) ∷ [])
    (entry_turn_more s required has held b bs ne passes) (entry_more s.rules required has held b bs ne)
    (ends_with s (among next) words (rows ++ row (codes "entries") ((entries ++ (b ∷ bs) ∷ []) ++ words) ∷ []) (rows ++ row (codes "entries") (entries ++ (b ∷ bs) ∷ words) ∷ [])
    (ap (λ values. rows ++ row (codes "entries") values ∷ []) (append_assoc entries ((b ∷ bs) ∷ []) words))
    (more_entries s required has words (All-tail IsValue (b ∷ bs) words all) next rows (entries ++ (b ∷ bs) ∷ []) none
    (more_settled s.rules required has held (b ∷ bs) rows entries none is) (entry_settles s required has held (b ∷ bs))))

-- the first entry and all behind it
pub entries_end : (s : Shape) (required : Bool) → TakesEntries s.rules required → (b : ℕ) (bs : List ℕ) (words : List Text) → All IsValue ((b ∷ bs) ∷ words) → (held : Held) → find (is_row (codes "entries")) (settled s.rules held).rows ≡ None → settle_passes s.rules s.args_override_self held ≡ true → Ends s (begun held) ((b ∷ bs) ∷ words) ((settled s.rules held).rows ++ row (codes "entries") ((b ∷ bs) ∷ words) ∷ [])
entries_end s required has b bs words all held none passes =
    let ne = no_hyphen_first b bs (All-head IsValue (b ∷ bs) words all) in
    let next : Held = after_entry s.rules (b ∷ bs) held in
    ends_step s (begun held) (among next) (b ∷ bs) words ((settled s.rules held).rows ++ row (codes "entries") ((b ∷ bs) ∷ words) ∷ [])
    (entry_turn_first s required has held b bs ne passes) (entry_first s.rules required has held b bs ne)
    (more_entries s required has words (All-tail IsValue (b ∷ bs) words all) next (settled s.rules held).rows ((b ∷ bs) ∷ []) none
    (first_settled s.rules required has held (b ∷ bs) none) (entry_settles s required has held (b ∷ bs)))
