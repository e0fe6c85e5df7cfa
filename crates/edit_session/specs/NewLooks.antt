-- What calls of a session ask of its folder.
--     KeepsLooks before after                     what was kept is kept
--     AsksNew old before after later unfinished Among
--                                                 the folder was asked for no path whose look was kept, for none twice,
--                                                 and for those alone of which this holds
--     LooksNew before old after new failed unfinished Among
--                                                 calls that look and do nothing else
--     AsksKept old after later                    each path that the folder was asked for is kept
use Rattle.std.specs.Prelude.{◌≡◌, ◌++◌, ℕ, List, Some, None, true, All, IfSome, is_some, bytes_eq}
use Rattle.std.specs.List.{IsDistinct}
use Rattle.tree_spec.specs.States.{FolderState, OnlyLooks}
use Rattle.tree_spec.specs.declared.Look.{Look}
use Rattle.package_lookup.specs.declared.known.Known.{Known}
use Rattle.package_lookup.specs.Answered.{AllButLast}
use Rattle.package_lookup.specs.LaidTrees.{StandsBehind}
use Rattle.package_lookup.specs.Looked.{kept_at}

abbrev pub KeepsLooks : Known → Known → Type 0
KeepsLooks before after =
    (path : List ℕ) (look : Look) → kept_at before path ≡ Some look → kept_at after path ≡ Some look

-- own: each of them is kept afterwards, the last one unless memory was wanting
pub record AsksNew (old : List (List ℕ)) (before : Known) (after : FolderState) (later : Known) (unfinished : Type 0)
    (Among : List ℕ → Type 0) : Type 0 where
  pub more : List (List ℕ)
  pub asked : after.asked ≡ Some (old ++ more)
  pub once : IsDistinct bytes_eq more
  pub new : All (λ path. kept_at before path ≡ None) more
  pub held : (unfinished → ⊥) → All (λ path. is_some (kept_at later path) ≡ true) more
  pub front : AllButLast (λ path. is_some (kept_at later path) ≡ true) more
  pub among : All Among more

-- own: what is laid stays, what was kept is kept, a told tree stays behind it, and the folder is only looked at
pub record LooksNew (before : FolderState) (old : Known) (after : FolderState) (new : Known)
    (failed unfinished : Type 0) (Among : List ℕ → Type 0) : Type 0 where
  pub laid : new.laid ≡ old.laid
  pub kept : KeepsLooks old new
  pub behind : IfSome before.holds (λ tree. StandsBehind tree old → StandsBehind tree new)
  pub asked : IfSome before.asked (λ list. AsksNew list old after new unfinished Among)
  pub looks : OnlyLooks before after failed

abbrev pub AsksKept : List (List ℕ) → FolderState → Known → Type 0
AsksKept old after later =
    (more : List (List ℕ)) → after.asked ≡ Some (old ++ more)
    → All (λ path. is_some (kept_at later path) ≡ true) more
