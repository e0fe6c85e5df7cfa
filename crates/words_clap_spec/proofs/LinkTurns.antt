-- The options of `link`, word by word.
use Rattle.clap.proofs.OnLiterals.{clap_on_literals}
use Rattle.clap.specs.Takes.{settle_passes, step_passes, turn_passes}
use Rattle.clap.specs.Walk.{Held, Walk, idle, option, after_step, has_row, settled, subcommand_or_other, walked, with_values, without}
use Rattle.clap.specs.Words.{Row, Rule, Shape, Text, built}
use Rattle.clap.specs.declared.parser.matches.ValueSource.TheVariants.{CommandLine}
use Rattle.std.proofs.Common.{◌≡◌, ◌≢◌, ◌&&◌, ◌||◌, ℕ, List, [], ◌∷◌, ◌++◌, codes, true, false, not, Some, None, refl, ap, ap₂, ◌∙◌}
use Rattle.words_spec.specs.declared.LinkOption.{LinkOption}
use Rattle.words_spec.specs.declared.LinkOption.TheVariants.{Base, Page, Conditions}
use Rattle.words_spec.specs.PlainWords.{spelled}
use Rattle.words_clap_spec.specs.Holding.{as_text, option_name}
use Rattle.words_clap_spec.specs.Program.{link_command}
use Rattle.words_clap_spec.proofs.Entries.{TakesEntries}
use Rattle.words_clap_spec.proofs.Turns.{begun, plain_met, plain_passes}

-- the command as it is built below the program
abbrev pub link_shape : Shape
link_shape = record (built link_command).top { no_binary_name = true }

abbrev pub link_rules : List Rule
link_rules = link_shape.rules

pub link_takes_entries : TakesEntries link_rules false
link_takes_entries = record { by_index = refl; by_id = refl }

-- an option was spelled alone, and the next word is its value
abbrev pub waits : LinkOption → Held → Walk
waits o held = record {
  held = record held { pending = Some (option_name o, []) };
  waiting = option (option_name o);
  position = 1;
  is_trailing = false;
  stopped = None;
}

abbrev pub after_value : LinkOption → Text → Held → Held
after_value o value held = record held { pending = Some (option_name o, value ∷ []) }

abbrev pub put_value : LinkOption → Text → List Row → List Row
put_value o value rows = with_values (option_name o) as_text CommandLine (value ∷ []) (without (option_name o) rows)

abbrev pub after_joined : LinkOption → Text → Held → Held
after_joined o value held = record (settled link_rules held) { rows = put_value o value (settled link_rules held).rows }

pub name_step : (o : LinkOption) (held : Held)
    → walked link_rules [] (begun held) (spelled o) ≡ waits o (settled link_rules held)
unfolding clap_on_literals
name_step Base held = refl
name_step Page held = refl
name_step Conditions held = refl

pub joined_step : (o : LinkOption) (held : Held) (value : Text) → walked link_rules [] (begun held) (spelled o ++ 61 ∷ value) ≡ begun (after_joined o value held)
unfolding clap_on_literals
joined_step Base held value = refl
joined_step Page held value = refl
joined_step Conditions held value = refl

pub value_step : (o : LinkOption) (held : Held) (b : ℕ) (bs : List ℕ) → b ≢ 45 → walked link_rules [] (waits o held) (b ∷ bs) ≡ begun (after_value o (b ∷ bs) held)
unfolding clap_on_literals
value_step Base held b bs ne =
    ap (λ met. after_step link_rules (b ∷ bs) (waits Base held) met.0 met.1)
    (plain_met link_rules (option (codes "base")) b bs (record held { pending = Some (codes "base", []) }) ne)
value_step Page held b bs ne =
    ap (λ met. after_step link_rules (b ∷ bs) (waits Page held) met.0 met.1)
    (plain_met link_rules (option (codes "page")) b bs (record held { pending = Some (codes "page", []) }) ne)
value_step Conditions held b bs ne =
    ap (λ met. after_step link_rules (b ∷ bs) (waits Conditions held) met.0 met.1)
    (plain_met link_rules (option (codes "conditions")) b bs
    (record held { pending = Some (codes "conditions", []) }) ne)

pub name_turn : (o : LinkOption) (held : Held) → settle_passes link_rules false held ≡ true → turn_passes link_shape [] (begun held) (spelled o) ≡ true
unfolding clap_on_literals
name_turn Base held passes = ap (λ b. b && true) passes
name_turn Page held passes = ap (λ b. b && true) passes
name_turn Conditions held passes = ap (λ b. b && true) passes

pub joined_turn : (o : LinkOption) (held : Held) (value : Text) → settle_passes link_rules false held ≡ true → has_row (option_name o) (settled link_rules held).rows ≡ false → turn_passes link_shape [] (begun held) (spelled o ++ 61 ∷ value) ≡ true
unfolding clap_on_literals
joined_turn Base held value passes none = ap₂ (λ b there. (b && ((not there || false) && true)) && true) passes none
joined_turn Page held value passes none = ap₂ (λ b there. (b && ((not there || false) && true)) && true) passes none
joined_turn Conditions held value passes none = ap₂ (λ b there. (b && ((not there || false) && true)) && true) passes none

pub value_turn : (o : LinkOption) (held : Held) (b : ℕ) (bs : List ℕ) → b ≢ 45 → turn_passes link_shape [] (waits o held) (b ∷ bs) ≡ true
unfolding clap_on_literals
value_turn Base held b bs ne =
    let now : Held = record held { pending = Some (codes "base", []) } in
    ap (λ test. test && step_passes link_shape 1 (subcommand_or_other link_rules None (option (codes "base")) 1 (b ∷ bs) now).0 (subcommand_or_other link_rules None (option (codes "base")) 1 (b ∷ bs) now).1) (plain_passes link_shape b bs now ne)
    ∙ ap (λ met. step_passes link_shape 1 met.0 met.1) (plain_met link_rules (option (codes "base")) b bs now ne)
value_turn Page held b bs ne =
    let now : Held = record held { pending = Some (codes "page", []) } in
    ap (λ test. test && step_passes link_shape 1 (subcommand_or_other link_rules None (option (codes "page")) 1 (b ∷ bs) now).0 (subcommand_or_other link_rules None (option (codes "page")) 1 (b ∷ bs) now).1) (plain_passes link_shape b bs now ne)
    ∙ ap (λ met. step_passes link_shape 1 met.0 met.1) (plain_met link_rules (option (codes "page")) b bs now ne)
value_turn Conditions held b bs ne =
    let now : Held = record held { pending = Some (codes "conditions", []) } in
    ap (λ test. test && step_passes link_shape 1 (subcommand_or_other link_rules None (option (codes "conditions")) 1 (b ∷ bs) now).0 (subcommand_or_other link_rules None (option (codes "conditions")) 1 (b ∷ bs) now).1) (plain_passes link_shape b bs now ne)
    ∙ ap (λ met. step_passes link_shape 1 met.0 met.1) (plain_met link_rules (option (codes "conditions")) b bs now ne)

-- ---- the value of an option that waited is used when the next word comes

pub value_settled : (o : LinkOption) (held : Held) (value : Text) → (settled link_rules (after_value o value (settled link_rules held))).rows ≡ put_value o value (settled link_rules held).rows
unfolding clap_on_literals
value_settled Base held value = refl
value_settled Page held value = refl
value_settled Conditions held value = refl

pub value_settles : (o : LinkOption) (held : Held) (value : Text) → has_row (option_name o) (settled link_rules held).rows ≡ false → settle_passes link_rules false (after_value o value (settled link_rules held)) ≡ true
unfolding clap_on_literals
value_settles Base held value none = ap (λ there. (not there || false) && true) none
value_settles Page held value none = ap (λ there. (not there || false) && true) none
value_settles Conditions held value none = ap (λ there. (not there || false) && true) none
