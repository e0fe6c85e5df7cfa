-- What a call that asks about a folder does.
--     State                                 the folder, what is known of it, and what was looked at
--     Comes end response after              the evaluation of an asking ends as the call does
--     IsLookOf before asking path           where a tree is told, the asking looks at the path, by all that looks tell,
--                                           and a limit doesn't stop it before
--     AllButLast P paths                    this holds of all paths but the last
--     AsksOnce old before after unfinished Among
--                                           the folder was asked for no path that was known, for none twice, and for
--                                           those alone of which this holds
--     IsCovered at                          of each path that was counted a look is known, and no file above the limit
--     Answered before asking response after what the call does
--     Asks before path after                the folder was asked for the path where it isn't known, and only there
use Rattle.std.specs.Prelude.{◌≡◌, ◌≢◌, ◌++◌, [], ◌∷◌, ℕ, List, Some, None, All, Contains, ⊤, IfSome, is_some, Bool}
use Rattle.std.specs.Prelude.{true, bytes_eq, not, ◌&&◌, if◌then◌else◌}
use Rattle.std.specs.List.{IsDistinct}
use Rattle.asking_spec.specs.Evaluation.{Ended, ends, stopped, evaluated}
use Rattle.tree_spec.specs.LookAskings.{Sights, LookAsking, looks}
use Rattle.tree_spec.specs.LookLimits.{Trail, look_limits, limited}
use Rattle.tree_spec.specs.States.{FolderState, OnlyLooks}
use Rattle.tree_spec.specs.Trees.{Tree}
use Rattle.tree_spec.specs.declared.LimitName.{LimitName}
use Rattle.package_lookup.specs.declared.known.Known.{Known}
use Rattle.package_lookup.specs.Looked.{known_at, look_in, Sees, Grows}
use Rattle.package_lookup.specs.SeenLooks.{IsWithin}
use Rattle.package_lookup.specs.Trails.{has_room, Lengthens, IsReached}
use Rattle.package_lookup.specs.Responses.{Failing, passes, not_read, no_memory, never, Response, given, fails}

pub record State : Type 0 where
  pub folder : FolderState
  pub known : Known
  pub trail : Trail

abbrev pub state : FolderState → Known → Trail → State
state folder known trail = record { folder = folder; known = known; trail = trail }

-- a limit stops the asking at a look, and the trail is as before it; a look that failed and want of memory tell nothing
abbrev pub Fails : {X : Type 0} → Ended X Trail LimitName → Failing → Trail → Type 0
Fails end (passes name) after = end ≡ stopped name after
Fails end not_read after = ⊤
Fails end no_memory after = ⊤
Fails end never after = ⊥

abbrev pub Comes : {X : Type 0} → Ended X Trail LimitName → Response X → Trail → Type 0
Comes end (given value) after = end ≡ ends value after
Comes end (fails failing) after = Fails end failing after

-- where the folder tells a tree: what the asking comes to, whatever stands at the paths as far as a look tells; and
-- what a look at each path answers is as before
pub record Tells {X : Type 0} (tree : Tree) (before : State) (asking : LookAsking X) (response : Response X)
    (after : State) : Type 0 where
  pub says :
      (sights : Sights) → Sees tree before.known sights
      → Comes (evaluated (limited look_limits sights) before.trail asking) response after.trail
  pub same : (path : List ℕ) → look_in tree after.known path ≡ look_in tree before.known path

-- own: the path is one of the asking's looks and behind no limit, whatever stands at each path as far as a look tells
abbrev pub IsLookOf : {X : Type 0} → State → LookAsking X → List ℕ → Type 0
IsLookOf before asking path =
    IfSome before.folder.holds
    (λ tree. (sights : Sights) → Sees tree before.known sights
    → IsReached look_limits sights before.trail (looks sights asking) path)

-- own: of all that stand before the last one
abbrev pub AllButLast : (List ℕ → Type 0) → List (List ℕ) → Type 0
AllButLast P paths = (front : List (List ℕ)) (last : List ℕ) → paths ≡ front ++ last ∷ [] → All P front

-- where the folder tells what it was asked for: further paths, none of them known before, none of them twice, each of
-- them known afterwards (the last one unless memory was wanting), and no others than those that were to be looked at
pub record AsksOnce (old : List (List ℕ)) (before after : State) (unfinished : Type 0)
    (Among : List ℕ → Type 0) : Type 0 where
  pub more : List (List ℕ)
  pub asked : after.folder.asked ≡ Some (old ++ more)
  pub once : IsDistinct bytes_eq more
  pub new : All (λ path. known_at before.known path ≡ None) more
  pub held : (unfinished → ⊥) → All (λ path. is_some (known_at after.known path) ≡ true) more
  pub front : AllButLast (λ path. is_some (known_at after.known path) ≡ true) more
  pub among : All Among more

abbrev pub IsCovered : State → Type 0
IsCovered at = (path : List ℕ) → Contains at.trail.paths path → IsWithin (known_at at.known path)

-- what no tree has to be told for: what was known stays, what was looked at stays counted, the folder is only looked at
pub record Answered {X : Type 0} (before : State) (asking : LookAsking X) (response : Response X)
    (after : State) : Type 0 where
  pub tells : IfSome before.folder.holds (λ tree. Tells tree before asking response after)
  pub known : Grows before.known after.known
  pub trail : Lengthens before.trail after.trail
  pub covered : response ≢ fails no_memory → IsCovered before → IsCovered after
  pub asked :
      IfSome before.folder.asked
      (λ old. AsksOnce old before after (response ≡ fails no_memory) (IsLookOf before asking))
  pub folder : OnlyLooks before.folder after.folder (response ≡ fails not_read)
  pub possible : response ≢ fails never

-- ---- one look

-- own: what is known isn't asked for, and neither is what is a path too many
abbrev pub is_asked : State → List ℕ → Bool
is_asked before path = has_room before.trail path && not (is_some (known_at before.known path))

-- own: a look that failed isn't listed
abbrev pub Asks : {X : Type 0} → State → List ℕ → Response X → State → Type 0
Asks before path response after =
    response ≢ fails not_read → response ≢ fails no_memory
    → IfSome before.folder.asked
    (λ old. after.folder.asked ≡ Some (old ++ (if is_asked before path then path ∷ [] else [])))
