-- The word after a command that takes a path.
use Rattle.clap.proofs.OnLiterals.{clap_on_literals}
use Rattle.clap.specs.Takes.{is_valid, level_passes, settle_passes, step_passes, turn_passes}
use Rattle.clap.specs.Walk.{Walk, idle, after_step, finished, nothing_held, pushed, rows_after, settled, subcommand_or_other, walked}
use Rattle.clap.specs.Words.{Rule, Shape, Text, built}
use Rattle.std.proofs.Common.{◌≡◌, ◌≢◌, ◌&&◌, ℕ, List, [], ◌∷◌, codes, true, false, None, refl, ap, ap₂, ◌∙◌}
use Rattle.words_clap_spec.specs.Holding.{row}
use Rattle.words_clap_spec.specs.Program.{path_command}
use Rattle.words_clap_spec.proofs.Turns.{begun, plain_met, plain_passes}

abbrev pub path_shape : Text → Shape
path_shape name = record (built (path_command name)).top { no_binary_name = true }

abbrev pub path_rules : Text → List Rule
path_rules name = (path_shape name).rules

abbrev after_path : Text → Text → Walk
after_path name word = record {
  held = pushed (codes "path") word (settled (path_rules name) nothing_held);
  waiting = idle;
  position = 2;
  is_trailing = false;
  stopped = None;
}

path_step : (name : Text) (b : ℕ) (bs : List ℕ) → b ≢ 45
    → walked (path_rules name) [] (begun nothing_held) (b ∷ bs) ≡ after_path name (b ∷ bs)
unfolding clap_on_literals
path_step name b bs ne =
    ap (λ met. after_step (path_rules name) (b ∷ bs) (begun nothing_held) met.0 met.1)
    (plain_met (path_rules name) idle b bs nothing_held ne)

path_turn : (name : Text) (b : ℕ) (bs : List ℕ) → b ≢ 45 → turn_passes (path_shape name) [] (begun nothing_held) (b ∷ bs) ≡ true
unfolding clap_on_literals
path_turn name b bs ne =
    ap (λ test. test && step_passes (path_shape name) 1 (subcommand_or_other (path_rules name) None idle 1 (b ∷ bs) nothing_held).0 (subcommand_or_other (path_rules name) None idle 1 (b ∷ bs) nothing_held).1) (plain_passes (path_shape name) b bs nothing_held ne)
    ∙ ap (λ met. step_passes (path_shape name) 1 met.0 met.1) (plain_met (path_rules name) idle b bs nothing_held ne)

pub path_rows_found : (name : Text) (b : ℕ) (bs : List ℕ) → b ≢ 45 → rows_after (path_rules name) [] ((b ∷ bs) ∷ []) ≡ row (codes "path") ((b ∷ bs) ∷ []) ∷ []
unfolding clap_on_literals
path_rows_found name b bs ne = ap (λ w. finished (path_rules name) w.held) (path_step name b bs ne)

pub path_level : (name : Text) (b : ℕ) (bs : List ℕ) → b ≢ 45 → level_passes (path_shape name) [] nothing_held ((b ∷ bs) ∷ []) false ≡ true
unfolding clap_on_literals
path_level name b bs ne =
    ap₂ (λ t w. (t && true) && (settle_passes (path_rules name) false w.held && (true && is_valid (path_shape name) (finished (path_rules name) w.held) false)))
    (path_turn name b bs ne) (path_step name b bs ne)
