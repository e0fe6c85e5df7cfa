-- What looks count, and where they pass a limit.
--     LookLimits                       the most distinct paths, bytes of a file, and bytes of all files
--     look_limits                      the numbers that hold
--     Trail, no_trail                  what was looked at so far; nothing yet
--     begun trail                      the same, where a new question begins
--     size_at found                    how many bytes stand there
--     counted limits trail path found  the trail behind one more look, or the limit that the look passes
--     limited limits sights            the answers to looks, each counted; a limit that is passed stops the asking
--     IsFirstLimit limits sights trail paths name before
--                                      of looks at these paths one after another, the first that passes a limit
--     new_size sights seen paths       the bytes of the files at the paths that weren't seen
--     Counts sights before paths after      the trail has counted looks at these paths, none of which passed a limit
--     seen_again trail path            the trail behind a look at a path that was counted
--     seen_first trail path found      the trail behind the first look at a path, with the size of what stands there
use Rattle.std.specs.Prelude.{◌≡◌, ◌+◌, ◌++◌, [], ◌∷◌, ℕ, nat_lt, List, length, Option, Some, None, Result, Ok, Err}
use Rattle.std.specs.Prelude.{not, if◌then◌else◌}
use Rattle.asking_spec.specs.Evaluation.{Ended, ends, stopped, Answers, evaluated}
use Rattle.tree_spec.specs.Limits.{limit_number}
use Rattle.tree_spec.specs.LookAskings.{Sights, look_at_each, is_seen, with_seen, noted}
use Rattle.tree_spec.specs.declared.Entry.{Entry}
use Rattle.tree_spec.specs.declared.Entry.TheVariants.{Stored, Directory}
use Rattle.tree_spec.specs.declared.LimitName.{LimitName}
use Rattle.tree_spec.specs.declared.LimitName.TheVariants.{Looks, File, Bytes}

pub record LookLimits : Type 0 where
  pub looks : ℕ
  pub file : ℕ
  pub bytes : ℕ

abbrev pub look_limits : LookLimits
look_limits = record { looks = limit_number Looks; file = limit_number File; bytes = limit_number Bytes }

-- own: the distinct paths of a generation, how many bytes the files among them have together, and the distinct paths of
-- the present question
pub record Trail : Type 0 where
  pub paths : List (List ℕ)
  pub size : ℕ
  pub question : List (List ℕ)

abbrev pub no_trail : Trail
no_trail = record { paths = []; size = 0; question = [] }

abbrev pub begun : Trail → Trail
begun trail = record { paths = trail.paths; size = trail.size; question = [] }

abbrev pub size_at : Option Entry → ℕ
size_at None = 0
size_at (Some Directory) = 0
size_at (Some (Stored bytes)) = length bytes

abbrev pub seen_again : Trail → List ℕ → Trail
seen_again trail path =
    record { paths = trail.paths; size = trail.size; question = with_seen trail.question path }

abbrev pub seen_first : Trail → List ℕ → Option Entry → Trail
seen_first trail path found = record {
  paths = trail.paths ++ path ∷ [];
  size = trail.size + size_at found;
  question = with_seen trail.question path;
}

-- own: at a new path the number of paths is judged before the look, then the file, then all files together. A file
-- above the limit is refused at each look, also at a path that was counted
abbrev pub counted : LookLimits → Trail → List ℕ → Option Entry → Result Trail LimitName
counted limits trail path found =
    if is_seen path trail.paths
    then (if nat_lt limits.file (size_at found) then Err File else Ok (seen_again trail path))
    else if not (nat_lt (length trail.paths) limits.looks) then Err Looks
    else if nat_lt limits.file (size_at found) then Err File
    else if nat_lt limits.bytes (trail.size + size_at found) then Err Bytes
    else Ok (seen_first trail path found)

-- what stands at the path, where no limit is passed; else the trail is as it was before the look
abbrev pub told : Option Entry → Trail → Result Trail LimitName → Ended (Option Entry) Trail LimitName
told found before (Ok after) = ends found after
told found before (Err name) = stopped name before

abbrev pub limited : LookLimits → Sights → Answers Trail LimitName (List ℕ) (λ path. Option Entry)
limited limits sights trail path = told (sights path) trail (counted limits trail path (sights path))

-- own: the looks before it pass no limit, and leave the trail `before`
pub record IsFirstLimit (limits : LookLimits) (sights : Sights) (trail : Trail) (paths : List (List ℕ))
    (name : LimitName) (before : Trail) : Type 0 where
  pub front : List (List ℕ)
  pub path : List ℕ
  pub back : List (List ℕ)
  pub split : paths ≡ front ++ path ∷ back
  pub passes : evaluated (limited limits sights) trail (look_at_each front) ≡ ends tt before
  pub limit : counted limits before path (sights path) ≡ Err name

-- ---- what a trail has counted

abbrev pub new_size : Sights → List (List ℕ) → List (List ℕ) → ℕ
new_size sights seen [] = 0
new_size sights seen (path ∷ more) =
    (if is_seen path seen then 0 else size_at (sights path)) + new_size sights (with_seen seen path) more

pub record Counts (sights : Sights) (before : Trail) (paths : List (List ℕ)) (after : Trail) : Type 0 where
  pub all : after.paths ≡ noted before.paths paths
  pub size : after.size ≡ before.size + new_size sights before.paths paths
  pub question : after.question ≡ noted before.question paths
