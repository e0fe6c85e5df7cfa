-- What is done to a folder in memory.
--     Rest, rest_of folder          all of a folder but its tree and the number of its writes
--     ArePut before files after           the files are put, one after another, and the rest is as it was
--     IsPut before path bytes after       the same of one file
--     IsWorkload count folder       a folder that holds the tree of so many packages, before its first look
use Rattle.std.specs.Prelude.{◌≡◌, [], ℕ, List}
use Rattle.tree_model.specs.Entries.{tree_of as tree_in}
use Rattle.tree_model.specs.declared.mem_folder.MemFolder.{MemFolder}
use Rattle.workload_spec.specs.Packages.{File, with_file, with_files, tree_of}

pub record Rest : Type 0 where
  pub asked : List (List ℕ)
  pub looks : ℕ
  pub look_faults : ℕ
  pub write_faults : ℕ
  pub failing_looks : List ℕ
  pub failing_writes : List ℕ

abbrev pub rest_of : MemFolder → Rest
rest_of folder = record {
  asked = folder.asked;
  looks = folder.looks;
  look_faults = folder.look_faults;
  write_faults = folder.write_faults;
  failing_looks = folder.failing_looks;
  failing_writes = folder.failing_writes;
}

pub record ArePut (before : MemFolder) (files : List File) (after : MemFolder) : Type 0 where
  pub tree : tree_in after.entries ≡ with_files (tree_in before.entries) files
  pub rest : rest_of after ≡ rest_of before

pub record IsPut (before : MemFolder) (path bytes : List ℕ) (after : MemFolder) : Type 0 where
  pub tree : tree_in after.entries ≡ with_file (tree_in before.entries) path bytes
  pub rest : rest_of after ≡ rest_of before

-- own: no look and no write of it fails
abbrev pub fresh : Rest
fresh = record { asked = []; looks = 0; look_faults = 0; write_faults = 0; failing_looks = []; failing_writes = [] }

pub record IsWorkload (count : ℕ) (folder : MemFolder) : Type 0 where
  pub tree : tree_in folder.entries ≡ tree_of count
  pub rest : rest_of folder ≡ fresh
