-- What a printed map is to whoever has its lists.
--     IsPrinted base layout integrity bytes      the bytes are the text of each map whose entries the lists are
use Rattle.std.specs.Prelude.{◌≡◌, ◌≤◌, ◌==◌, ℕ, false, List, length, Ok, All, IsUtf8}
use Rattle.tree_spec.specs.Limits.{limit_number}
use Rattle.tree_spec.specs.declared.LimitName.TheVariants.{Map}
use Rattle.import_map_spec.specs.ParsedMap.{ParsedMap}
use Rattle.import_map_spec.specs.Parsing.{ParsesMap}
use Rattle.layout_spec.specs.PrintedMap.{IsKept, map_text}
use Rattle.scope_builder.specs.declared.keyed.Layout.{Layout}
use Rattle.scope_builder.specs.Lists.{Lists}

-- own: the text is within its limit; read against the map base, where the map's keys and addresses stand as parsing
-- leaves them, it is that map, and no tag of a page is read in it
pub record IsPrinted (base : List ℕ) (layout : Layout) (integrity : List (List ℕ × List ℕ)) (bytes : List ℕ)
    : Type 0 where
  pub text : (m : ParsedMap) → Lists layout integrity m → bytes ≡ map_text base m
  pub within : length bytes ≤ limit_number Map
  pub reads_back : (m : ParsedMap) → Lists layout integrity m → IsKept base m → ParsesMap base bytes (Ok m)
  pub plain :
      (m : ParsedMap) → Lists layout integrity m → IsKept base m → IsUtf8 bytes × All (λ b. (b == 60) ≡ false) bytes
