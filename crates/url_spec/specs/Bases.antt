-- Bases: the URLs of folders on the web, below which modules are served.
--     base_of text      the base that a text gives
--     IsBase text      the text is a base
use Rattle.url_spec.specs.Specifiers.{ends_in_slash}
use Rattle.std.specs.Prelude.{◌&&◌, ◌||◌, not, Bool, codes, bytes_eq, is_some, false, Option, Some, None, ℕ, List}
use Rattle.std.specs.Prelude.{if◌then◌else◌, ◌≡◌}
use Rattle.url.specs.Parts.{Parts, has_credentials}
use Rattle.url_spec.specs.Parsing.{parts_of, parse_alone}

-- own: the URL of a folder on the web: http or https, a path that ends in `/`, and no user name, password, query or
-- fragment
abbrev pub names_web_folder : Parts → Bool
names_web_folder url =
    (bytes_eq url.scheme (codes "http") || bytes_eq url.scheme (codes "https")) && ends_in_slash url.path
    && not (has_credentials url) && not (is_some url.query) && not (is_some url.fragment)

-- there is a URL, and it is that of a folder on the web
abbrev pub is_web_folder : Option Parts → Bool
is_web_folder None = false
is_web_folder (Some url) = names_web_folder url

-- own: the base that a text gives, which is the text of its URL where that can be a base
abbrev pub folder_url : Option (List ℕ) → Option (List ℕ)
folder_url None = None
folder_url (Some url) = if is_web_folder (parts_of url) then Some url else None

-- own: the base that a text gives
unfoldable pub base_of : List ℕ → Option (List ℕ)
base_of text = folder_url (parse_alone text)

-- own: the text is a base
abbrev pub IsBase : List ℕ → Type 0
IsBase text = base_of text ≡ Some text
