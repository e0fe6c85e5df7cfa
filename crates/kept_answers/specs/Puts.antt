-- Looks that are put into a table.
--     PutsLooks test key old new known paths      looks at these paths, as what stands there is known, are put into the
--                                                 table under this key
use Rattle.std.specs.Prelude.{◌≡◌, ℕ, Bool, List, Option}
use Rattle.package_lookup.specs.declared.known.Known.{Known}
use Rattle.kept_spec.specs.Certificates.{LookSeen}
use Rattle.kept_answers.specs.Freshness.{put_looks}
use Rattle.kept_answers.specs.KnownLooks.{AreLooksAt}

pub record PutsLooks {Key : Type 0} (test : Key → Key → Bool) (key : Key) (old new : Key → Option (List LookSeen))
    (known : Known) (paths : List (List ℕ)) : Type 0 where
  pub looks : List LookSeen
  pub are : AreLooksAt known paths looks
  pub set : (other : Key) → new other ≡ put_looks test key looks old other
