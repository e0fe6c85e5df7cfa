-- What a fault of words says of them.
--     Explains words fault      the fault is right of the words: `clap` refuses them, or it takes them and they
--         aren't plain
use Rattle.std.specs.Prelude.{ℕ, List, ⊤}
use Rattle.words_clap_spec.specs.Refusing.{IsRefused, IsTaken}
use Rattle.words_parse.specs.Shown.{AsksNothing}
use Rattle.words_parse.specs.declared.WordsFault.{WordsFault}
use Rattle.words_parse.specs.declared.WordsFault.TheVariants.{Told, NotPlain, Memory}

-- own: want of memory can come with any words
abbrev pub Explains : List (List ℕ) → WordsFault → Type 0
Explains words (Told text) = IsRefused words
Explains words NotPlain = IsTaken words × AsksNothing words
Explains words Memory = ⊤
