-- Node's resolution of a relative specifier in a parent file (Node.js, ECMAScript modules: resolution algorithm).
--     ResolvesRelative tree parent specifier answer      the answer for a specifier in the file at the path `parent`
--     Judges tree url answer      what stands at a file URL
--     joined_url parent specifier      the URL of a relative specifier in that file
use Rattle.std.specs.FinMap.{get}
use Rattle.std.specs.Prelude.{ℕ, List, Bool, ◌≡◌, true, false, Some, None, Option}
use Rattle.tree_spec.specs.Trees.{Tree}
use Rattle.tree_spec.specs.declared.Entry.TheVariants.{Stored, Directory}
use Rattle.url_spec.specs.FileUrls.{url_path, escapes_separator, NamesPath, file_text, names_host}
use Rattle.url_spec.specs.Parsing.{parse_against, parse_alone}
use Rattle.url_spec.specs.Specifiers.{is_relative, ends_in_slash}
use Rattle.url_spec.specs.Suffixes.{suffix_of}
use Rattle.node_spec.specs.declared.Cause.{Cause}
use Rattle.node_spec.specs.declared.Cause.TheVariants.{InvalidSpecifier, NotFound, DirectoryImport}

-- a module, which is a path with a suffix, or the cause of a refusal
pub data Answer : Type 0 where
  Resolved : List ℕ → List ℕ → Answer
  Refused : Cause → Answer

-- only a folder may stand at this URL path
abbrev pub is_folder_path : List ℕ → Bool
is_folder_path path = ends_in_slash path

-- what stands at a file URL (Node.js, ECMAScript modules: ESM_RESOLVE, from "If resolved is a file: URL" on). own:
-- where the URL's path spells no path, nothing stands there
pub data Judges (tree : Tree) (url : List ℕ) : Answer → Type 0 where
  separator : escapes_separator (url_path url) ≡ true → Judges tree url (Refused InvalidSpecifier)
  folder :
      (path : List ℕ) → NamesPath (url_path url) path → get tree path ≡ Some Directory
      → Judges tree url (Refused DirectoryImport)
  nameless :
      escapes_separator (url_path url) ≡ false → ((path : List ℕ) → NamesPath (url_path url) path → ⊥)
      → Judges tree url (Refused NotFound)
  absent : (path : List ℕ) → NamesPath (url_path url) path → get tree path ≡ None → Judges tree url (Refused NotFound)
  no_folder :
      (path bytes : List ℕ) → NamesPath (url_path url) path → get tree path ≡ Some (Stored bytes)
      → is_folder_path (url_path url) ≡ true → Judges tree url (Refused NotFound)
  file :
      (path bytes : List ℕ) → NamesPath (url_path url) path → get tree path ≡ Some (Stored bytes)
      → is_folder_path (url_path url) ≡ false → Judges tree url (Resolved path (suffix_of url))

-- a specifier against the URL of its parent
abbrev pub joined_onto : Option (List ℕ) → List ℕ → Option (List ℕ)
joined_onto None specifier = None
joined_onto (Some parent) specifier = parse_against parent specifier

-- the URL of a relative specifier in the file at a path
abbrev pub joined_url : List ℕ → List ℕ → Option (List ℕ)
joined_url parent specifier = joined_onto (parse_alone (file_text parent false)) specifier

-- own: the URL of a relative specifier names no host (Node.js, ECMAScript modules: ESM_RESOLVE, "the URL resolution of
-- specifier relative to parentURL")
pub data Joins (tree : Tree) (parent specifier : List ℕ) : Answer → Type 0 where
  no_url : joined_url parent specifier ≡ None → Joins tree parent specifier (Refused InvalidSpecifier)
  other_host :
      (url : List ℕ) → joined_url parent specifier ≡ Some url → names_host url ≡ true
      → Joins tree parent specifier (Refused InvalidSpecifier)
  joined :
      (url : List ℕ) (answer : Answer) → joined_url parent specifier ≡ Some url → names_host url ≡ false
      → Judges tree url answer → Joins tree parent specifier answer

-- a specifier that begins with `/`, `./` or `../`; no other specifier has an answer here (Node.js, ECMAScript modules:
-- ESM_RESOLVE)
pub data ResolvesRelative (tree : Tree) (parent specifier : List ℕ) : Answer → Type 0 where
  relative :
      (answer : Answer) → is_relative specifier ≡ true → Joins tree parent specifier answer
      → ResolvesRelative tree parent specifier answer
