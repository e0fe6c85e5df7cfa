-- What a write of the folder in memory does to what the folder tells.
use Rattle.std.proofs.Common.{◌≡◌, refl, ap, ℕ, List, Some, Result, Ok, Err, arith}
use Rattle.tree_spec.specs.Counts.{Rose, following}
use Rattle.tree_spec.specs.States.{IsWritten}
use Rattle.tree_model.specs.Entries.{tree_of}
use Rattle.tree_model.specs.Folders.{state_of, IsWriteOf}
use Rattle.tree_model.specs.declared.mem_folder.MemFolder.{MemFolder}

risen : (before after : ℕ) → after ≡ following before → Rose before after
risen before after e = omega (arith, e)

pub is_written : {E : Type 0} (result : Result (Unit {0}) E) (before after : MemFolder) (path bytes : List ℕ)
    → IsWriteOf before path bytes result after → IsWritten (state_of before) path bytes result (state_of after)
is_written (Ok done) before after path bytes is = record {
  written = (tree_of after.entries, refl, is.written);
  tree = tt;
  untold = λ none. absurd (cc);
  asked = ap (λ paths. Some paths) is.asked;
  failed = tt;
  quiet = is.quiet;
  later = is.later;
  looks = is.look_faults;
}
is_written (Err fault) before after path bytes is = record {
  written = tt;
  tree = ap (λ tree. Some tree) is.tree;
  untold = λ none. absurd (cc);
  asked = ap (λ paths. Some paths) is.asked;
  failed = risen _ _ is.failed;
  quiet = tt;
  later = is.later;
  looks = is.look_faults;
}
