-- Looks that are counted as a whole.
--     AreLooksOf paths looks             looks at these paths, no two at one
--     total_size looks                   how many bytes they saw together
--     AreShown known looks most          the same is known to stand there, and so many bytes at most
--     HasSpaceFor trail looks            they pass no limit, were none of them counted before
--     AreCountable known trail looks paths       so they may be counted as looks at these paths
--     counted_all trail looks            the trail behind them, in no question
use Rattle.std.specs.Prelude.{◌≡◌, ◌≤◌, ◌+◌, [], ◌∷◌, ℕ, List, length, All, bytes_eq}
use Rattle.std.specs.List.{IsDistinct}
use Rattle.tree_spec.specs.LookLimits.{Trail, size_at}
use Rattle.package_lookup.specs.Space.{HasSpace}
use Rattle.package_lookup.specs.Trails.{passed}
use Rattle.package_lookup.specs.declared.known.Known.{Known}
use Rattle.kept_spec.specs.Certificates.{LookSeen, paths_of}
use Rattle.kept_answers.specs.KnownLooks.{IsAsKnown}

pub record AreLooksOf (paths : List (List ℕ)) (looks : List LookSeen) : Type 0 where
  pub paths_are : paths_of looks ≡ paths
  pub distinct : IsDistinct bytes_eq paths

abbrev pub total_size : List LookSeen → ℕ
total_size [] = 0
total_size (look ∷ looks) = size_at look.found + total_size looks

pub record AreShown (known : Known) (looks : List LookSeen) (most : ℕ) : Type 0 where
  pub each : All (IsAsKnown known) looks
  pub size : total_size looks ≤ most

abbrev pub HasSpaceFor : Trail → List LookSeen → Type 0
HasSpaceFor trail looks = HasSpace trail (length looks) (total_size looks)

pub record AreCountable (known : Known) (trail : Trail) (looks : List LookSeen) (paths : List (List ℕ)) : Type 0 where
  pub at : AreLooksOf paths looks
  pub each : All (IsAsKnown known) looks
  pub space : HasSpaceFor trail looks

abbrev pub counted_all : Trail → List LookSeen → Trail
counted_all trail [] = trail
counted_all trail (look ∷ looks) = counted_all (passed trail look.path (size_at look.found)) looks
