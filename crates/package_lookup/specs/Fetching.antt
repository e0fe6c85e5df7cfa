-- A look that is held for a path, by a look at the folder where none was.
--     LooksNow before path result after             a look at the folder
--     Fetches before old path result after new      what that does
use Rattle.std.specs.Prelude.{◌≡◌, ◌⊎◌, ◌++◌, [], ◌∷◌, ℕ, List, Some, Result, Ok, Err, IfOk, IfErr, IfSome, is_some}
use Rattle.std.specs.Prelude.{is_ok, ⊤, if◌then◌else◌}
use Rattle.std.specs.FinMap.{get}
use Rattle.tree_spec.specs.States.{FolderState, OnlyLooks}
use Rattle.tree_spec.specs.declared.Look.{Look}
use Rattle.package_lookup.specs.declared.known.Known.{Known}
use Rattle.package_lookup.specs.declared.fault.LookupFault.{LookupFault}
use Rattle.package_lookup.specs.declared.fault.LookupFault.TheVariants.{ReadFault, Limit, InvalidConfig, Memory}
use Rattle.package_lookup.specs.SeenLooks.{within_limit, seen_as}
use Rattle.package_lookup.specs.Looked.{known_at, look_in, Grows}

-- the path, where it isn't known
abbrev pub unknown : Known → List ℕ → List (List ℕ)
unknown known path = if is_some (known_at known path) then [] else path ∷ []

-- without memory an answer may be lost
abbrev pub IsAsked : Known → List ℕ → Result Look LookupFault → List (List ℕ) → Type 0
IsAsked known path (Ok look) more = more ≡ unknown known path
IsAsked known path (Err Memory) more = (more ≡ []) ⊎ (more ≡ unknown known path)
IsAsked known path (Err ReadFault) more = more ≡ []
IsAsked known path (Err (Limit which)) more = ⊥
IsAsked known path (Err InvalidConfig) more = ⊥

abbrev pub IsOutside : LookupFault → Type 0
IsOutside ReadFault = ⊤
IsOutside Memory = ⊤
IsOutside (Limit which) = ⊥
IsOutside InvalidConfig = ⊥

pub record LooksNow (before : FolderState) (path : List ℕ) (result : Result Look LookupFault)
    (after : FolderState) : Type 0 where
  pub seen :
      IfOk result (λ look. IfSome before.holds (λ tree. within_limit look ≡ seen_as (get tree path)))
  pub asked : IfSome before.asked (λ list. after.asked ≡ Some (list ++ (if is_ok result then path ∷ [] else [])))
  pub folder : OnlyLooks before after (result ≡ Err ReadFault)
  pub outside : IfErr result IsOutside

pub record Fetches (before : FolderState) (old : Known) (path : List ℕ) (result : Result Look LookupFault)
    (after : FolderState) (new : Known) : Type 0 where
  pub known : IfOk result (λ look. known_at new path ≡ Some look)
  pub grows : Grows old new
  pub same : IfSome before.holds (λ tree. (other : List ℕ) → look_in tree new other ≡ look_in tree old other)
  pub asked :
      IfSome before.asked
      (λ list. (more : List (List ℕ)) × (after.asked ≡ Some (list ++ more)) × IsAsked old path result more)
  pub folder : OnlyLooks before after (result ≡ Err ReadFault)
  pub outside : IfErr result IsOutside
