-- Paths that are shared, or else owned.
--     shared_or own shared      the shared ones, else the own
--     AreDistinct shared        those that are shared are distinct
use Rattle.std.specs.Prelude.{ℕ, List, Option, Some, None, bytes_eq, IfSome}
use Rattle.std.specs.List.{IsDistinct}
use Rattle.std.specs.declared.rc.Rc.{Rc}
use Rattle.std.specs.declared.alloc.Global.{Global}

abbrev pub shared_or : List (List ℕ) → Option (Rc (List (List ℕ)) Global) → List (List ℕ)
shared_or own None = own
shared_or own (Some paths) = paths.value

abbrev pub AreDistinct : Option (Rc (List (List ℕ)) Global) → Type 0
AreDistinct shared = IfSome shared (λ paths. IsDistinct bytes_eq paths.value)
