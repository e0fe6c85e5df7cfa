-- What is known of a folder by looks, and what stands there as far as that tells.
--     over_at over path            the look that is to be laid over a path
--     laid_at known path           the look that is laid over a path
--     kept_at known path           the look at a path that the folder gave
--     known_at known path          what is known of a path: the look that is laid over it, else the one that was kept
--     look_in tree known path      what a look at a path answers: what is known of it, else what the tree holds
--     Sees tree known sights       what stands at each path, as far as a look tells, is that
--     Grows before after           laid looks are as before, what was kept is kept, and nothing is kept under a laid look
--     IsSameKnown before after     all that is known is as before
--     Puts old path look new       one more look is there, in the place of one that was
--     Follows old path other new   at this path there is what another has there, and elsewhere what was
--     SomeSights                   something can stand at each path so that this is so
use Rattle.std.specs.Prelude.{◌≡◌, ℕ, List, Option, Some, None, bytes_eq, if◌then◌else◌}
use Rattle.std.specs.FinMap.{get}
use Rattle.std.specs.Option.{option_or}
use Rattle.std.specs.HashMap as map
use Rattle.tree_spec.specs.LookAskings.{Sights}
use Rattle.tree_spec.specs.Trees.{Tree}
use Rattle.tree_spec.specs.declared.Entry.{Entry}
use Rattle.tree_spec.specs.declared.Look.{Look}
use Rattle.package_lookup.specs.declared.known.Known.{Known}
use Rattle.package_lookup.specs.declared.over.Over.{Over}
use Rattle.package_lookup.specs.SeenLooks.{within_limit, seen_as}

abbrev pub over_at : Over → List ℕ → Option Look
over_at over path = map.get bytes_eq over.looks path

abbrev pub laid_at : Known → List ℕ → Option Look
laid_at known path = over_at known.laid path

abbrev pub kept_at : Known → List ℕ → Option Look
kept_at known path = map.get bytes_eq known.kept path

abbrev pub known_at : Known → List ℕ → Option Look
known_at known path = option_or (laid_at known path) (kept_at known path)

abbrev pub look_or : Option Look → Option Entry → Look
look_or None found = seen_as found
look_or (Some look) found = within_limit look

abbrev pub look_in : Tree → Known → List ℕ → Look
look_in tree known path = look_or (known_at known path) (get tree path)

-- own: of a file above the limit nothing is told but that
pub record Sees (tree : Tree) (known : Known) (sights : Sights) : Type 0 where
  pub each : (path : List ℕ) → seen_as (sights path) ≡ look_in tree known path

pub record Grows (before after : Known) : Type 0 where
  pub laid : (path : List ℕ) → laid_at after path ≡ laid_at before path
  pub kept : (path : List ℕ) (look : Look) → kept_at before path ≡ Some look → kept_at after path ≡ Some look
  pub under :
      (path : List ℕ) (look : Look) → laid_at before path ≡ Some look → kept_at after path ≡ kept_at before path

pub record IsSameKnown (before after : Known) : Type 0 where
  pub laid : (path : List ℕ) → laid_at after path ≡ laid_at before path
  pub kept : (path : List ℕ) → kept_at after path ≡ kept_at before path

abbrev pub Puts : Over → List ℕ → Look → Over → Type 0
Puts old path look new =
    (other : List ℕ) → over_at new other ≡ (if bytes_eq path other then Some look else over_at old other)

abbrev pub Follows : Over → List ℕ → Over → Over → Type 0
Follows old path other new =
    (at : List ℕ) → over_at new at ≡ (if bytes_eq path at then over_at other path else over_at old at)

abbrev pub SomeSights : Type 0
SomeSights = (tree : Tree) (known : Known) → (sights : Sights) × Sees tree known sights
