-- What stands at the place of a URL.
--     module_at place                            the module, by path and suffix
--     module_of found                            the same of what is found
--     judged_there path folder_only suffix found the answer by what stands at the path
use Rattle.std.specs.Prelude.{ℕ, Bool, List, Option, Some, None, if◌then◌else◌}
use Rattle.node_spec.specs.NodeAnswers.{Module}
use Rattle.node_spec.specs.Resolution.{Answer, Refused, Resolved}
use Rattle.node_spec.specs.declared.Cause.TheVariants.{NotFound, DirectoryImport}
use Rattle.node_resolve.specs.declared.found.Found.{Found}
use Rattle.tree_spec.specs.declared.Entry.{Entry}
use Rattle.tree_spec.specs.declared.Entry.TheVariants.{Stored, Directory}

abbrev pub module_at : List ℕ × List ℕ → Module
module_at place = record { path = place.0; suffix = place.1 }

abbrev pub judged_there : List ℕ → Bool → List ℕ → Option Entry → Answer
judged_there path folder_only suffix None = Refused NotFound
judged_there path folder_only suffix (Some Directory) = Refused DirectoryImport
judged_there path folder_only suffix (Some (Stored bytes)) =
    if folder_only then Refused NotFound else Resolved path suffix

abbrev pub module_of : Found → Module
module_of found = record { path = found.path; suffix = found.suffix }
