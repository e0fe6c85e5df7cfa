-- Worked examples of looks with limits and of folders, each proved by computation. At most two paths may be looked at,
-- a file may have three bytes, and all files together four.
--     told_sights path                 what stands there
--     trail paths size question      the trail with these
--     Ends before paths after, Stops before paths name after      looks at these paths end so
--     LimitExamples, FootprintExamples, FolderExamples      the examples
use Rattle.std.specs.Prelude.{◌≡◌, ℕ, List, [], ◌∷◌, codes, map, bytes_eq, replicate, Some, None, if◌then◌else◌}
use Rattle.asking_spec.specs.Evaluation.{ends, stopped, evaluated}
use Rattle.tree_spec.specs.FoldersAbove.{folders_from, folder_of}
use Rattle.tree_spec.specs.LookAskings.{Sights, look_at_each, footprint}
use Rattle.tree_spec.specs.LookLimits.{LookLimits, Trail, begun, limited}
use Rattle.tree_spec.specs.declared.Entry.{Entry}
use Rattle.tree_spec.specs.declared.Entry.TheVariants.{Stored, Directory}
use Rattle.tree_spec.specs.declared.LimitName.{LimitName}
use Rattle.tree_spec.specs.declared.LimitName.TheVariants.{Looks, File, Bytes}
use Prim.Native.String.{String}

abbrev pub few : LookLimits
few = record { looks = 2; file = 3; bytes = 4 }

abbrev pub stands : List (String × Entry) → Sights
stands [] path = None
stands (first ∷ more) path = if bytes_eq (codes first.0) path then Some first.1 else stands more path

abbrev pub told_sights : Sights
told_sights =
    stands
    (("/", Directory)
    ∷ ("/one", Stored (replicate 1 7))
    ∷ ("/two", Stored (replicate 2 7))
    ∷ ("/three", Stored (replicate 3 7))
    ∷ ("/four", Stored (replicate 4 7))
    ∷ [])

abbrev pub trail : List String → ℕ → List String → Trail
trail paths size question = record { paths = map codes paths; size = size; question = map codes question }

abbrev pub Ends : Trail → List String → Trail → Type 0
Ends before paths after = evaluated (limited few told_sights) before (look_at_each (map codes paths)) ≡ ends tt after

abbrev pub Stops : Trail → List String → LimitName → Trail → Type 0
Stops before paths name after =
    evaluated (limited few told_sights) before (look_at_each (map codes paths)) ≡ stopped name after

pub record LimitExamples : Type 0 where
  pub nothing : Ends (trail [] 0 []) [] (trail [] 0 [])
  pub largest_file : Ends (trail [] 0 []) ("/three" ∷ []) (trail ("/three" ∷ []) 3 ("/three" ∷ []))
  pub too_large : Stops (trail [] 0 []) ("/four" ∷ []) File (trail [] 0 [])
  pub most_looks : Ends (trail [] 0 []) ("/a" ∷ "/" ∷ []) (trail ("/a" ∷ "/" ∷ []) 0 ("/a" ∷ "/" ∷ []))
  pub third_path :
      Stops (trail [] 0 []) ("/a" ∷ "/" ∷ "/b" ∷ []) Looks (trail ("/a" ∷ "/" ∷ []) 0 ("/a" ∷ "/" ∷ []))
  pub known_path : Ends (trail [] 0 []) ("/a" ∷ "/" ∷ "/a" ∷ []) (trail ("/a" ∷ "/" ∷ []) 0 ("/a" ∷ "/" ∷ []))
  -- the number of paths is judged before the file
  pub looks_first :
      Stops (trail [] 0 []) ("/a" ∷ "/" ∷ "/four" ∷ []) Looks (trail ("/a" ∷ "/" ∷ []) 0 ("/a" ∷ "/" ∷ []))
  pub most_bytes :
      Ends (trail [] 0 []) ("/three" ∷ "/one" ∷ []) (trail ("/three" ∷ "/one" ∷ []) 4 ("/three" ∷ "/one" ∷ []))
  pub too_many_bytes :
      Stops (trail [] 0 []) ("/three" ∷ "/two" ∷ []) Bytes (trail ("/three" ∷ []) 3 ("/three" ∷ []))
  -- the file is judged before all files together
  pub file_first : Stops (trail [] 0 []) ("/three" ∷ "/four" ∷ []) File (trail ("/three" ∷ []) 3 ("/three" ∷ []))
  pub counted_once :
      Ends (trail [] 0 []) ("/three" ∷ "/three" ∷ []) (trail ("/three" ∷ []) 3 ("/three" ∷ []))
  -- also at a path that was counted
  pub large_again : Stops (trail ("/four" ∷ []) 0 []) ("/four" ∷ []) File (trail ("/four" ∷ []) 0 [])
  pub next_question :
      Ends (begun (trail ("/three" ∷ "/a" ∷ []) 3 ("/a" ∷ []))) ("/three" ∷ [])
      (trail ("/three" ∷ "/a" ∷ []) 3 ("/three" ∷ []))

pub record FootprintExamples : Type 0 where
  pub each_once :
      footprint told_sights (look_at_each (map codes ("/b" ∷ "/a" ∷ "/b" ∷ []))) ≡ map codes ("/b" ∷ "/a" ∷ [])
  pub none : footprint told_sights (look_at_each []) ≡ []

pub record FolderExamples : Type 0 where
  pub of_root : folders_from (codes "/") ≡ map codes ("/" ∷ [])
  pub of_file : folders_from (codes "/a/b.c/d") ≡ map codes ("/a/b.c/d" ∷ "/a/b.c" ∷ "/a" ∷ "/" ∷ [])
  pub root_of_root : folder_of (codes "/") ≡ codes "/"
  pub in_root : folder_of (codes "/a") ≡ codes "/"
  pub below : folder_of (codes "/a/b") ≡ codes "/a"

abbrev pub LookExamples : Type 0
LookExamples = LimitExamples × FootprintExamples × FolderExamples
