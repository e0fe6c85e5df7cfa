-- Node's resolution of a relative specifier as an asking over looks (Node.js, ECMAScript modules: ESM_RESOLVE, from
-- "If specifier starts with "/", "./", or "../"" on).
--     relative_resolution parent specifier      in the file at the path `parent`: a module, or the cause of a refusal
--     named_path url                            the path that the URL's path spells, if it spells one
--     url_judged url                            the answer by what stands at the URL; with an escaped separator it
--                                               isn't well formed
use Rattle.std.specs.Prelude.{◌&&◌, ℕ, List, Option, Some, None, if◌then◌else◌}
use Rattle.std.specs.Str.{is_utf8}
use Rattle.asking_spec.specs.Askings.{answered, ask}
use Rattle.tree_spec.specs.declared.Entry.{Entry}
use Rattle.tree_spec.specs.declared.Entry.TheVariants.{Stored, Directory}
use Rattle.tree_spec.specs.LookAskings.{LookAsking}
use Rattle.url_spec.specs.FileUrls.{names_host, url_path, escapes_separator, spelled_path}
use Rattle.url_spec.specs.PathTests.{is_path}
use Rattle.url_spec.specs.Suffixes.{suffix_of}
use Rattle.node_spec.specs.declared.Cause.TheVariants.{InvalidSpecifier, NotFound, DirectoryImport}
use Rattle.node_spec.specs.Resolution.{Answer, Resolved, Refused, is_folder_path, joined_url}

-- the path, where the spelled bytes are one
abbrev pub as_path : List ℕ → Option (List ℕ)
as_path text = if is_utf8 text && is_path text then Some text else None

abbrev pub named_path : List ℕ → Option (List ℕ)
named_path url = as_path (spelled_path (url_path url))

-- by what stands at the path that the URL names
abbrev pub entry_judged : List ℕ → List ℕ → Option Entry → Answer
entry_judged url path None = Refused NotFound
entry_judged url path (Some Directory) = Refused DirectoryImport
entry_judged url path (Some (Stored bytes)) =
    if is_folder_path (url_path url) then Refused NotFound else Resolved path (suffix_of url)

-- own: where the URL's path names no path, nothing stands there
abbrev pub judged_at : List ℕ → Option (List ℕ) → LookAsking Answer
judged_at url None = answered (Refused NotFound)
judged_at url (Some path) = ask path (λ found. answered (entry_judged url path found))

abbrev pub url_judged : List ℕ → LookAsking Answer
url_judged url =
    if escapes_separator (url_path url) then answered (Refused InvalidSpecifier) else judged_at url (named_path url)

-- own: the URL of a relative specifier names no host
abbrev pub joined_judged : Option (List ℕ) → LookAsking Answer
joined_judged None = answered (Refused InvalidSpecifier)
joined_judged (Some url) = if names_host url then answered (Refused InvalidSpecifier) else url_judged url

abbrev pub relative_resolution : List ℕ → List ℕ → LookAsking Answer
relative_resolution parent specifier = joined_judged (joined_url parent specifier)
