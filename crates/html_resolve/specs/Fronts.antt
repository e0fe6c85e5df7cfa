-- The fronts of a text that end in `/`, one after another.
--     HasNoFront text n      no front of at most n bytes does
--     IsNextFront text n front rest before      of those of at most n bytes, this is the longest one, with what follows
--         it and with what stands before its `/`
use Rattle.std.specs.Prelude.{◌≡◌, ◌<◌, ◌≤◌, ◌++◌, ◌+◌, ℕ, false, true, List, length, take}
use Rattle.url_spec.specs.Specifiers.{ends_in_slash}

-- no front of more than m bytes, and of at most n, ends in `/`
abbrev pub NoneBetween : List ℕ → ℕ → ℕ → Type 0
NoneBetween text m n = (j : ℕ) → m < j → j ≤ n → ends_in_slash (take j text) ≡ false

pub record HasNoFront (text : List ℕ) (n : ℕ) : Type 0 where
  pub none : NoneBetween text 0 n

pub record IsNextFront (text : List ℕ) (n : ℕ) (front rest before : List ℕ) : Type 0 where
  pub whole : text ≡ front ++ rest
  pub slash : ends_in_slash front ≡ true
  pub within : length front ≤ n
  pub none : NoneBetween text (length front) n
  pub left : before ≡ take (length before) text
  pub shorter : length front ≡ length before + 1
