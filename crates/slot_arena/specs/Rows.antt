-- A row of places, and the rows of all chunks as one.
--
-- IsFilled row i         the i-th place has a value
-- joined rows            the rows one after another
-- AreChunks rows         each row has 64 places
-- with_chunks rows n     n rows more at the end, each of 64 places without a value
-- EndsEmpty rows n       the last n rows are such
use Rattle.std.specs.Prelude.{◌≡◌, ℕ, ⊤, List, [], ◌∷◌, ◌++◌, length, get_or, replicate, Option, Some, None}

module _ {X : Type 0} where
  abbrev pub IsFilled : List (Option X) → ℕ → Type 0
  IsFilled row i = (x : X) × (get_or row i None ≡ Some x)

  abbrev pub joined : List (List X) → List X
  joined [] = []
  joined (row ∷ rows) = row ++ joined rows

  abbrev pub AreChunks : List (List X) → Type 0
  AreChunks [] = ⊤
  AreChunks (row ∷ rows) = (length row ≡ 64) × AreChunks rows

  abbrev pub with_chunks : List (List (Option X)) → ℕ → List (List (Option X))
  with_chunks rows n = rows ++ replicate n (replicate 64 None)

  abbrev pub EndsEmpty : List (List (Option X)) → ℕ → Type 0
  EndsEmpty rows n = (rest : List (List (Option X))) × (rows ≡ with_chunks rest n)
