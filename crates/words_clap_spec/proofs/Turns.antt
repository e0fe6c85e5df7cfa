-- Words that are no flags, since they don't begin with `-`, and the walk over words.
use Rattle.clap.proofs.OnLiterals.{clap_on_literals}
use Rattle.clap.specs.Lexer.{long_of, short_of}
use Rattle.clap.specs.Takes.{bundle_passes, flag_word_passes, other_passes, settle_passes, turn_passes, walk_passes}
use Rattle.clap.specs.Walk.{Held, Waiting, Walk, idle, positional, long_or_other, plain_word, settled, short_or_plain, subcommand_or_other, trailing, walked}
use Rattle.clap.specs.Words.{Row, Rule, Shape, Text}
use Rattle.std.specs.List.{fold}
use Rattle.std.specs.Option.{option_map_or}
use Rattle.std.specs.Str.{bytes_eq}
use Rattle.std.proofs.Common.{◌≡◌, ◌≢◌, ◌&&◌, ◌||◌, ℕ, List, [], ◌∷◌, Bool, true, false, None, if◌then◌else◌, refl, ap, ap₂, ◌∙◌}
use Rattle.std.proofs.lemmas.Bool.{ne_eqb}

-- before the first positional
abbrev pub begun : Held → Walk
begun held = record { held = held; waiting = idle; position = 1; is_trailing = false; stopped = None }

-- among the values of the first positional
abbrev pub among : Held → Walk
among held = record { held = held; waiting = positional; position = 1; is_trailing = false; stopped = None }

no_long : (b : ℕ) (bs : List ℕ) → b ≢ 45 → long_of (b ∷ bs) ≡ None
no_long b bs ne = rw (ne_eqb b 45 ne) refl

no_short : (b : ℕ) (bs : List ℕ) → b ≢ 45 → short_of (b ∷ bs) ≡ None
no_short b bs ne = rw (ne_eqb b 45 ne) refl

no_hyphens : (b : ℕ) (bs : List ℕ) → b ≢ 45 → bytes_eq (b ∷ bs) (45 ∷ 45 ∷ []) ≡ false
no_hyphens b bs ne = rw (ne_eqb b 45 ne) refl

pub plain_met : (rules : List Rule) (waiting : Waiting) (b : ℕ) (bs : List ℕ) (held : Held) → b ≢ 45 → subcommand_or_other rules None waiting 1 (b ∷ bs) held ≡ plain_word rules waiting (b ∷ bs) held
plain_met rules waiting b bs held ne =
    ap (λ test. if test then (held, trailing 1) else long_or_other rules waiting (b ∷ bs) (long_of (b ∷ bs)) held) (no_hyphens b bs ne)
    ∙ ap (λ long. long_or_other rules waiting (b ∷ bs) long held) (no_long b bs ne)
    ∙ ap (λ short. short_or_plain rules waiting (b ∷ bs) short held) (no_short b bs ne)

pub plain_passes : (s : Shape) (b : ℕ) (bs : List ℕ) (held : Held) → b ≢ 45 → other_passes s None (b ∷ bs) held ≡ true
plain_passes s b bs held ne =
    ap (λ test. test || flag_word_passes s.rules s.args_override_self (long_of (b ∷ bs)) (b ∷ bs) held) (no_hyphens b bs ne)
    ∙ ap (λ long. flag_word_passes s.rules s.args_override_self long (b ∷ bs) held) (no_long b bs ne)
    ∙ ap (λ short. option_map_or (λ flags. bundle_passes s.rules s.args_override_self flags held) short true) (no_short b bs ne)

-- the walk passes all the words, and ends with these rows
pub record Ends (s : Shape) (w : Walk) (words : List Text) (rows : List Row) : Type 0 where
  pub passes : walk_passes s [] w words ≡ true
  pub settles : settle_passes s.rules s.args_override_self (fold (walked s.rules []) w words).held ≡ true
  pub found : (settled s.rules (fold (walked s.rules []) w words).held).rows ≡ rows

-- one more word before
pub ends_step : (s : Shape) (w next : Walk) (word : Text) (words : List Text) (rows : List Row) → turn_passes s [] w word ≡ true → walked s.rules [] w word ≡ next → Ends s next words rows → Ends s w (word ∷ words) rows
unfolding clap_on_literals
ends_step s w next word words rows turn step ends = record {
  passes = ap₂ (λ a b. a && b) turn (ap (λ x. walk_passes s [] x words) step ∙ ends.passes);
  settles = ap (λ x. settle_passes s.rules s.args_override_self (fold (walked s.rules []) x words).held) step ∙ ends.settles;
  found = ap (λ x. (settled s.rules (fold (walked s.rules []) x words).held).rows) step ∙ ends.found;
}

pub ends_with : (s : Shape) (w : Walk) (words : List Text) (rows same : List Row) → rows ≡ same → Ends s w words rows → Ends s w words same
ends_with s w words rows same is ends = record { passes = ends.passes; settles = ends.settles; found = ends.found ∙ is }
