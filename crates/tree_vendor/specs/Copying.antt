-- The writes of a plan's copies.
--     Step                              the path of a file, and the path of its copy
--     file_at known path                the bytes of the file that is kept for a path
--     bytes_at known path               these bytes; none where no file is kept
--     AreKept known steps               a file is kept for each source
--     copies known steps                what is to be written: each copy's path, and its bytes
--     Leaves files before after         these files were written, and the folder was left alone else
--     StopsAt files before after        those before one of them were
--     CopiesOut known steps before result after      all were written, or a write failed and was counted
use Rattle.std.specs.Prelude.{◌≡◌, ◌≤◌, ◌++◌, [], ◌∷◌, ℕ, true, List, map, All, Option, Some, None, Result, is_some}
use Rattle.std.specs.Prelude.{option_and_then, unwrap_or, IfSome, OnOk, OnErr}
use Rattle.package_lookup.specs.Looked.{kept_at}
use Rattle.package_lookup.specs.SeenLooks.{bytes_of}
use Rattle.package_lookup.specs.declared.known.Known.{Known}
use Rattle.tree_spec.specs.Counts.{Rose}
use Rattle.tree_spec.specs.States.{FolderState}
use Rattle.tree_spec.specs.Trees.{Tree}
use Rattle.vendor_spec.specs.Vendored.{Pair, Written}

abbrev pub Step : Type 0
Step = List ℕ × List ℕ

abbrev pub file_at : Known → List ℕ → Option (List ℕ)
file_at known path = option_and_then bytes_of (kept_at known path)

abbrev pub bytes_at : Known → List ℕ → List ℕ
bytes_at known path = unwrap_or (file_at known path) []

abbrev pub AreKept : Known → List Step → Type 0
AreKept known steps = All (λ step. is_some (file_at known step.0) ≡ true) steps

abbrev pub copies : Known → List Step → List Pair
copies known steps = map (λ step. (step.1, bytes_at known step.0)) steps

-- own: what the folder was asked for, and its failed looks, are as before
pub record Leaves (files : List Pair) (before after : FolderState) : Type 0 where
  pub written :
      IfSome before.holds (λ tree. (later : Tree) × (after.holds ≡ Some later) × Written tree files later)
  pub untold : before.holds ≡ None → after.holds ≡ None
  pub asked : after.asked ≡ before.asked
  pub looks : after.look_faults ≡ before.look_faults

pub record StopsAt (files : List Pair) (before after : FolderState) : Type 0 where
  pub done : List Pair
  pub file : Pair
  pub rest : List Pair
  pub split : files ≡ done ++ file ∷ rest
  pub leaves : Leaves done before after

pub record CopiesOut {E : Type 0} (known : Known) (steps : List Step) (before : FolderState)
    (result : Result (Unit {0}) E) (after : FolderState) : Type 0 where
  pub all : OnOk result (Leaves (copies known steps) before after)
  pub stopped : OnErr result (StopsAt (copies known steps) before after)
  pub failed : OnErr result (Rose before.write_faults after.write_faults)
  pub quiet : OnOk result (after.write_faults ≡ before.write_faults)
  pub later : before.write_faults ≤ after.write_faults
