-- What is put at the end of a list of bytes.
use Rattle.std.specs.Prelude.{◌≡◌, ℕ, List, ◌++◌}

-- own: to `old` was appended what `text` writes before any rest
pub record Appends (old new : List ℕ) (text : List ℕ → List ℕ) : Type 0 where
  pub whole : (rest : List ℕ) → new ++ rest ≡ old ++ text rest
