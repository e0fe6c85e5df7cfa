-- The bytes of a text that is kept.
use Rattle.std.specs.Prelude.{ℕ, List}
use Rattle.std.specs.String.{string_bytes}
use Rattle.shared_types.specs.declared.text.Kept.{Kept}

abbrev pub kept_bytes : Kept → List ℕ
kept_bytes (Kept.Short text) = text
kept_bytes (Kept.Long text) = string_bytes text.value
