-- The word after `measure`.
use Rattle.clap.proofs.OnLiterals.{clap_on_literals}
use Rattle.clap.specs.Takes.{is_valid, level_passes, settle_passes, step_passes, turn_passes}
use Rattle.clap.specs.Walk.{Walk, idle, after_step, finished, nothing_held, pushed, rows_after, settled, subcommand_or_other, walked}
use Rattle.clap.specs.Words.{Rule, Shape, Text, built}
use Rattle.std.proofs.Common.{◌≡◌, ◌≢◌, ◌&&◌, ℕ, List, [], ◌∷◌, codes, true, false, None, refl, ap, ap₂, ◌∙◌}
use Rattle.words_clap_spec.specs.Holding.{row}
use Rattle.words_clap_spec.specs.Program.{measure_command}
use Rattle.words_clap_spec.proofs.Turns.{begun, plain_met, plain_passes}

abbrev pub measure_shape : Shape
measure_shape = record (built measure_command).top { no_binary_name = true }

abbrev pub measure_rules : List Rule
measure_rules = measure_shape.rules

abbrev after_number : Text → Walk
after_number word = record {
  held = pushed (codes "number") word (settled measure_rules nothing_held);
  waiting = idle;
  position = 2;
  is_trailing = false;
  stopped = None;
}

number_step : (b : ℕ) (bs : List ℕ) → b ≢ 45
    → walked measure_rules [] (begun nothing_held) (b ∷ bs) ≡ after_number (b ∷ bs)
unfolding clap_on_literals
number_step b bs ne =
    ap (λ met. after_step measure_rules (b ∷ bs) (begun nothing_held) met.0 met.1)
    (plain_met measure_rules idle b bs nothing_held ne)

number_turn : (b : ℕ) (bs : List ℕ) → b ≢ 45 → turn_passes measure_shape [] (begun nothing_held) (b ∷ bs) ≡ true
unfolding clap_on_literals
number_turn b bs ne =
    ap (λ test. test && step_passes measure_shape 1 (subcommand_or_other measure_rules None idle 1 (b ∷ bs) nothing_held).0 (subcommand_or_other measure_rules None idle 1 (b ∷ bs) nothing_held).1) (plain_passes measure_shape b bs nothing_held ne)
    ∙ ap (λ met. step_passes measure_shape 1 met.0 met.1) (plain_met measure_rules idle b bs nothing_held ne)

pub measure_rows : (b : ℕ) (bs : List ℕ) → b ≢ 45 → rows_after measure_rules [] ((b ∷ bs) ∷ []) ≡ row (codes "number") ((b ∷ bs) ∷ []) ∷ []
unfolding clap_on_literals
measure_rows b bs ne = ap (λ w. finished measure_rules w.held) (number_step b bs ne)

pub measure_level : (b : ℕ) (bs : List ℕ) → b ≢ 45 → level_passes measure_shape [] nothing_held ((b ∷ bs) ∷ []) false ≡ true
unfolding clap_on_literals
measure_level b bs ne =
    ap₂ (λ t w. (t && true) && (settle_passes measure_rules false w.held && (true && is_valid measure_shape (finished measure_rules w.held) false)))
    (number_turn b bs ne) (number_step b bs ne)
