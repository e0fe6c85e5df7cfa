-- A folder in memory of which no look fails.
--     sure_state folder      what it tells of itself: no look of it failed
use Rattle.tree_spec.specs.States.{FolderState}
use Rattle.tree_model.specs.Folders.{state_of}
use Rattle.tree_model.specs.declared.mem_folder.MemFolder.{MemFolder}

abbrev pub sure_state : MemFolder → FolderState
sure_state folder = record (state_of folder) { look_faults = 0 }
