-- Worked examples: what the file `/a/main.mjs` gets for a specifier, in each tree in which an entry stands at a path,
-- or nothing does.
--     FileExamples, RefusedExamples      modules, and refusals
use Rattle.std.specs.FinMap.{get}
use Rattle.std.specs.Prelude.{ℕ, List, codes, ◌≡◌, Option, [], Some, None}
use Rattle.tree_spec.specs.Trees.{Tree}
use Rattle.tree_spec.specs.declared.Entry.{Entry}
use Rattle.tree_spec.specs.declared.Entry.TheVariants.{Stored, Directory}
use Rattle.node_spec.specs.Resolution.{Answer, ResolvesRelative, Resolved, Refused}
use Rattle.node_spec.specs.declared.Cause.TheVariants.{InvalidSpecifier, NotFound, DirectoryImport}
use Prim.Native.String.{String}

abbrev pub main : List ℕ
main = codes "/a/main.mjs"

abbrev Gets : String → Option Entry → String → Answer → Type 0
Gets path found specifier answer =
    (tree : Tree) → get tree (codes path) ≡ found → ResolvesRelative tree main (codes specifier) answer

pub record FileExamples : Type 0 where
  pub beside : (bytes : List ℕ) → Gets "/a/b.mjs" (Some (Stored bytes)) "./b.mjs" (Resolved (codes "/a/b.mjs") [])
  pub above : (bytes : List ℕ) → Gets "/c.mjs" (Some (Stored bytes)) "../c.mjs" (Resolved (codes "/c.mjs") [])
  pub from_root : (bytes : List ℕ) → Gets "/c.mjs" (Some (Stored bytes)) "/c.mjs" (Resolved (codes "/c.mjs") [])
  pub with_suffix :
      (bytes : List ℕ)
      → Gets "/a/b.mjs" (Some (Stored bytes)) "./b.mjs?q#f" (Resolved (codes "/a/b.mjs") (codes "?q#f"))
  pub with_escape :
      (bytes : List ℕ) → Gets "/a/b.mjs" (Some (Stored bytes)) "./%62.mjs" (Resolved (codes "/a/b.mjs") [])

pub record RefusedExamples : Type 0 where
  pub a_folder : Gets "/a/c" (Some Directory) "./c" (Refused DirectoryImport)
  pub a_folder_with_slash : Gets "/a/c" (Some Directory) "./c/" (Refused DirectoryImport)
  pub a_file_with_slash : (bytes : List ℕ) → Gets "/a/b.mjs" (Some (Stored bytes)) "./b.mjs/" (Refused NotFound)
  pub missing : Gets "/a/b.mjs" None "./b.mjs" (Refused NotFound)
  pub escaped_slash : (tree : Tree) → ResolvesRelative tree main (codes "./b%2Fc.mjs") (Refused InvalidSpecifier)
  pub host : (tree : Tree) → ResolvesRelative tree main (codes "//h/c.mjs") (Refused InvalidSpecifier)

abbrev pub WorkedExamples : Type 0
WorkedExamples = FileExamples × RefusedExamples
