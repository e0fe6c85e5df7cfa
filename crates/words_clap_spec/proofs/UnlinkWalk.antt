-- The words after `unlink`.
use Rattle.clap.proofs.OnLiterals.{clap_on_literals}
use Rattle.clap.specs.Takes.{is_valid, level_passes}
use Rattle.clap.specs.Walk.{finished, nothing_held, rows_after, walked}
use Rattle.clap.specs.Words.{Rule, Shape, Text, built}
use Rattle.std.specs.List.{All, fold}
use Rattle.std.proofs.Common.{◌≡◌, ◌&&◌, ℕ, List, [], ◌∷◌, codes, true, false, refl, ap, ap₂, ◌∙◌}
use Rattle.std.proofs.lemmas.List.Elements.{All-head}
use Rattle.words_spec.specs.PlainWords.{IsValue}
use Rattle.words_clap_spec.specs.Holding.{row}
use Rattle.words_clap_spec.specs.Program.{unlink_command}
use Rattle.words_clap_spec.proofs.Entries.{TakesEntries, entries_end}
use Rattle.words_clap_spec.proofs.Rows.{no_defaults}
use Rattle.words_clap_spec.proofs.Turns.{Ends, begun}

abbrev pub unlink_shape : Shape
unlink_shape = record (built unlink_command).top { no_binary_name = true }

abbrev pub unlink_rules : List Rule
unlink_rules = unlink_shape.rules

unlink_takes_entries : TakesEntries unlink_rules true
unlink_takes_entries = record { by_index = refl; by_id = refl }

unlink_ends : (word : Text) (words : List Text) → All IsValue (word ∷ words) → Ends unlink_shape (begun nothing_held) (word ∷ words) (row (codes "entries") (word ∷ words) ∷ [])
unlink_ends [] words all = absurd ((All-head IsValue [] words all).nonempty refl)
unlink_ends (b ∷ bs) words all = entries_end unlink_shape true unlink_takes_entries b bs words all nothing_held refl refl

pub unlink_rows : (word : Text) (words : List Text) → All IsValue (word ∷ words) → rows_after unlink_rules [] (word ∷ words) ≡ row (codes "entries") (word ∷ words) ∷ []
unfolding clap_on_literals
unlink_rows word words all = no_defaults unlink_rules _ refl ∙ (unlink_ends word words all).found

pub unlink_level : (word : Text) (words : List Text) → All IsValue (word ∷ words) → level_passes unlink_shape [] nothing_held (word ∷ words) false ≡ true
unfolding clap_on_literals
unlink_level word words all =
    let e = unlink_ends word words all in
    let valid : is_valid unlink_shape (finished unlink_rules (fold (walked unlink_rules []) (begun nothing_held) (word ∷ words)).held) false ≡ true =
    ap (λ found. is_valid unlink_shape found false) (unlink_rows word words all) in
    ap₂ (λ a b. a && (b && (true && is_valid unlink_shape (finished unlink_rules (fold (walked unlink_rules []) (begun nothing_held) (word ∷ words)).held) false))) e.passes e.settles
    ∙ valid
