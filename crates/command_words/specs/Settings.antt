-- What options set, as a command keeps it.
--     IsFilePage page      a page that is given isn't the root
use Rattle.std.specs.Prelude.{◌≢◌, ℕ, List, codes, Option, Some, None, ⊤}

abbrev pub IsFilePage : Option (List ℕ) → Type 0
IsFilePage None = ⊤
IsFilePage (Some page) = page ≢ codes "/"
