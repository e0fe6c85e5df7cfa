-- The laws of plain words. Each is the contract of a function of this crate.
use Rattle.std.specs.Prelude.{◌≡◌, ◌↔◌, ℕ, List, Some}
use Rattle.words_spec.specs.PlainWords.{Asked, Asks}
use Rattle.words_spec.specs.Reading.{reading_of}

-- own law: plain words ask for one thing
abbrev pub OneAsked : Type 0
OneAsked = (words : List (List ℕ)) (some other : Asked) → Asks words some → Asks words other → some ≡ other

-- own law: reading gives what plain words ask for, and nothing for all others
abbrev pub ReadingIsExact : Type 0
ReadingIsExact = (words : List (List ℕ)) (asked : Asked) → (reading_of words ≡ Some asked) ↔ Asks words asked
