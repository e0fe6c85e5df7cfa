-- What a source takes from its reader.
--     IsReadInto before into filled result after      what was moved from the reader's bytes into a slice
use Rattle.std.specs.Prelude.{◌≡◌, ◌≤◌, ◌<◌, ℕ, List, length, take, drop, Option, Result, IfOk, OnErr}
use Rattle.std.specs.Io.KnownBytes.{Consumes, IsAtEnd, Keeps}

-- own: what came next, where the reader tells it, stands at the beginning of the slice, and nothing else in the slice
-- changed; none came only at the end, and nothing from a call that failed
pub record IsReadInto {E : Type 0} (before : Option (List ℕ)) (into filled : List ℕ) (result : Result ℕ E)
    (after : Option (List ℕ)) : Type 0 where
  pub taken : IfOk result (λ count. Consumes before after (take count filled))
  pub end : IfOk result (λ count. count ≡ 0 → 0 < length into → IsAtEnd after)
  pub within : IfOk result (λ count. count ≤ length into)
  pub behind : IfOk result (λ count. drop count filled ≡ drop count into)
  pub untouched : OnErr result (filled ≡ into)
  pub stays : OnErr result (Keeps before after)
