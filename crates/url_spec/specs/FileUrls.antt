-- File URLs of paths, and the places that file URLs name.
--     file_text path folder      the URL of a file or a folder
--     names_host url      the URL with this text has a host that isn't empty
--     url_path url      the path of the URL with this text
--     spelled_path text      the path that a file URL's path spells
--     NamesPath text path      a file URL's path names this path
--     IsPlace url path folder_only escaped suffix      the place that a file URL names
use Rattle.url_spec.specs.Specifiers.{ends_in_slash}
use Rattle.std.specs.Prelude.{◌&&◌, not, ℕ, Bool, List, [], ◌++◌, codes, bytes_eq, if◌then◌else◌, false, Option, Some}
use Rattle.std.specs.Prelude.{None, ◌||◌, ◌==◌, flat_map, length, filter, ◌≡◌, MatchOption}
use Rattle.std.specs.Str.{IsUtf8}
use Rattle.url.specs.Parts.{Parts, has_host}
use Rattle.tree_spec.specs.Paths.{IsPath}
use Rattle.url_spec.specs.Parsing.{parts_of}
use Rattle.url_spec.specs.ServedPaths.{holds_escape, read_segment, segments}
use Rattle.url_spec.specs.Suffixes.{suffix_of}
use Rattle.url_spec.specs.WebNames.{escaped}

-- own: the URL of a file or a folder. A folder's ends in one `/`, so the root's is `file:///`
unfoldable pub file_text : List ℕ → Bool → List ℕ
file_text path folder =
    codes "file://" ++ (escaped path ++ (if folder && not (bytes_eq path (codes "/")) then codes "/" else []))

-- the parts have a host that isn't empty (URL Standard, URL representation)
abbrev pub with_host : Option Parts → Bool
with_host None = false
with_host (Some url) = has_host url

-- the URL with this text has a host that isn't empty
unfoldable pub names_host : List ℕ → Bool
names_host url = with_host (parts_of url)

-- the path of the parts, empty where there are none
abbrev pub path_or_empty : Option Parts → List ℕ
path_or_empty None = []
path_or_empty (Some url) = url.path

-- the path of the URL with this text (URL Standard, URL representation)
unfoldable pub url_path : List ℕ → List ℕ
url_path url = path_or_empty (parts_of url)

-- own: an escape gives a `/` or a `\`
abbrev pub escapes_separator : List ℕ → Bool
escapes_separator path = holds_escape (codes "%2f") path || holds_escape (codes "%5c") path

-- own: the text of these segments as a path, each unescaped; none of them is the root
abbrev pub path_of_segments : List (List ℕ) → List ℕ
path_of_segments names = if length names == 0 then codes "/" else flat_map read_segment names

-- own: the path that a file URL's path spells: its segments that aren't empty
unfoldable pub spelled_path : List ℕ → List ℕ
spelled_path path = path_of_segments (filter (λ name. not (length name == 0)) (segments path))

-- own: the path of a file URL names this path
pub record NamesPath (text path : List ℕ) : Type 0 where
  pub no_separator : escapes_separator text ≡ false
  pub spelled : path ≡ spelled_path text
  pub utf8 : IsUtf8 path
  pub is_path : IsPath path

-- own: the place that a file URL names: a path or none, whether only a folder may stand there, whether an escape gives
-- a separator, and the suffix
pub record IsPlace (url : List ℕ) (path : Option (List ℕ)) (folder_only escaped : Bool) (suffix : List ℕ) : Type 0 where
  pub named : MatchOption path ((any : List ℕ) → NamesPath (url_path url) any → ⊥) (NamesPath (url_path url))
  pub ends_in_slash : folder_only ≡ ends_in_slash (url_path url)
  pub separator : escaped ≡ escapes_separator (url_path url)
  pub tail : suffix ≡ suffix_of url
