-- Answers with the looks that decided them.
--     LookSeen                               a path, and what was seen there
--     paths_of looks                         their paths
--     looks_seen sights paths                looks at these paths, with what stands there
--     AreSeen sights looks                   what was seen stands at each of these paths
--     IsShown looks                          something shows these looks
--     IsAnswered sights asking value looks   where this stands, the asking comes to this value, and its footprint is
--                                            the paths of these looks
--     IsCertified asking value looks         so it is wherever what was seen stands at these paths
use Rattle.std.specs.Prelude.{◌≡◌, ℕ, List, map, All, Option}
use Rattle.asking_spec.specs.Askings.{outcome}
use Rattle.tree_spec.specs.LookAskings.{Sights, LookAsking, footprint}
use Rattle.tree_spec.specs.declared.Entry.{Entry}

pub record LookSeen : Type 0 where
  pub path : List ℕ
  pub found : Option Entry

abbrev pub paths_of : List LookSeen → List (List ℕ)
paths_of looks = map (λ (look : LookSeen). look.path) looks

abbrev pub looks_seen : Sights → List (List ℕ) → List LookSeen
looks_seen sights paths = map (λ (path : List ℕ). record { path = path; found = sights path }) paths

abbrev pub AreSeen : Sights → List LookSeen → Type 0
AreSeen sights looks = All (λ look. sights look.path ≡ look.found) looks

abbrev pub IsShown : List LookSeen → Type 0
IsShown looks = (sights : Sights) × AreSeen sights looks

pub record IsAnswered {X : Type 0} (sights : Sights) (asking : LookAsking X) (value : X)
    (looks : List LookSeen) : Type 0 where
  pub comes : outcome sights asking ≡ value
  pub paths : footprint sights asking ≡ paths_of looks

-- own: it says nothing of one tree, so that it stays true whatever changes
pub record IsCertified {X : Type 0} (asking : LookAsking X) (value : X) (looks : List LookSeen) : Type 0 where
  pub each : (sights : Sights) → AreSeen sights looks → IsAnswered sights asking value looks
