-- How a slice is filled.
--     IsFilled into rest count filled      its front is a front of other bytes, as long as both allow
use Rattle.std.specs.Prelude.{◌≡◌, ℕ, List, length, take, drop, min}

-- own: as many bytes as both allow stand at the front, and behind them what stood there
pub record IsFilled (into rest : List ℕ) (count : ℕ) (filled : List ℕ) : Type 0 where
  pub most : count ≡ min (length rest) (length into)
  pub front : take count filled ≡ take count rest
  pub behind : drop count filled ≡ drop count into
