-- What a reader of the front of some bytes answers.
--     Taken A E      what was taken and the bytes after it, or why nothing is
--     Read A      the same inside one token, where a refusal has no place of its own
--     and_then, or_else, behind_piece      one reader behind another, one in place of another, a piece before what
--         was taken
use Rattle.std.specs.Prelude.{ℕ, List, ⊤, ◌++◌}

-- what was taken and the bytes after it, or why nothing is
pub data Taken (A E : Type 0) : Type 0 where
  taken : A → List ℕ → Taken A E
  refused : E → Taken A E

-- a reader inside one token, whose refusals have no place of their own
abbrev pub Read : Type 0 → Type 0
Read A = Taken A ⊤

abbrev pub and_then : {A B E : Type 0} → Taken A E → (A → List ℕ → Taken B E) → Taken B E
and_then (taken x rest) next = next x rest
and_then (refused e) next = refused e

abbrev pub or_else : {A E : Type 0} → Taken A E → Taken A E → Taken A E
or_else (taken x rest) other = taken x rest
or_else (refused e) other = other

-- what was taken, with a piece before it
abbrev pub behind_piece : {E : Type 0} → List ℕ → Taken (List ℕ) E → Taken (List ℕ) E
behind_piece piece out = and_then out (λ text rest. taken (piece ++ text) rest)
