-- Looks at what texts and URLs name.
--     look_at_text text         what stands at the path with this text; no other text is looked at
--     look_at_url url           what stands at the path that a file URL names, if it names one
--     is_file found, is_folder found      a file stands there; a folder does
--     url_in folder text        the URL of a text that is joined to the URL of a folder
--     check_url url             the same, where a text that has no such URL isn't well formed
--     look_at_named path        what stands at the path, where there is one
use Rattle.std.specs.Prelude.{ℕ, Bool, true, false, List, Option, Some, None, if◌then◌else◌}
use Rattle.asking_spec.specs.Askings.{answered}
use Rattle.tree_spec.specs.LookAskings.{LookAsking, look_at}
use Rattle.tree_spec.specs.declared.Entry.{Entry}
use Rattle.tree_spec.specs.declared.Entry.TheVariants.{Stored, Directory}
use Rattle.url_spec.specs.FileUrls.{file_text, names_host, url_path, escapes_separator}
use Rattle.url_spec.specs.Parsing.{parse_against}
use Rattle.url_spec.specs.PathTests.{is_path}
use Rattle.node_spec.specs.NodeAnswers.{Url, Resolving, gives, refuses}
use Rattle.node_spec.specs.RelativeResolution.{named_path}
use Rattle.node_spec.specs.declared.Cause.TheVariants.{InvalidSpecifier}

-- own: what is no path, as where it is too long, counts as absent
abbrev pub look_at_text : List ℕ → LookAsking (Option Entry)
look_at_text text = if is_path text then look_at text else answered None

abbrev pub look_at_named : Option (List ℕ) → LookAsking (Option Entry)
look_at_named None = answered None
look_at_named (Some path) = look_at path

-- own: a URL with an escaped separator, or one that spells no path, names nothing
abbrev pub look_at_url : Url → LookAsking (Option Entry)
look_at_url url = if escapes_separator (url_path url) then answered None else look_at_named (named_path url)

abbrev pub is_file : Option Entry → Bool
is_file None = false
is_file (Some Directory) = false
is_file (Some (Stored bytes)) = true

abbrev pub is_folder : Option Entry → Bool
is_folder None = false
is_folder (Some Directory) = true
is_folder (Some (Stored bytes)) = false

-- own: what names a host is no URL of a file here
abbrev pub without_host : Option Url → Option Url
without_host None = None
without_host (Some url) = if names_host url then None else Some url

abbrev pub url_in : List ℕ → List ℕ → Option Url
url_in folder text = without_host (parse_against (file_text folder true) text)

-- own: a text whose URL fails, or has a host, isn't well formed
abbrev pub check_url : Option Url → Resolving Url
check_url None = refuses InvalidSpecifier
check_url (Some url) = gives url
