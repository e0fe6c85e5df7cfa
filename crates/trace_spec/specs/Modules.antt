-- Configs, modules, and what is known of a referrer by its config alone.
--     Config                     what to generate for
--     Module                     a path with a suffix, as Node's resolution answers it
--     path_of config referrer    the path of the page or of a module
--     web_name config referrer   the URL at which it is served, before it is asked whether it is served there
--     shown config referrer      its path and suffix, as they are shown to a user
--     file_name config m         the web name of a module that is served there and is no folder's
--     is_module one other        the two have the same path and the same suffix
--     suffix_of referrer         the suffix of a module; that of the page is empty
--     not_folder url             the URL, where there is one and it doesn't end in `/`
use Rattle.std.specs.Prelude.{◌≡◌, ◌&&◌, ℕ, Bool, List, [], ◌++◌, bytes_eq, Option, Some, None, if◌then◌else◌}
use Rattle.url_spec.specs.Specifiers.{ends_in_slash}
use Rattle.url_spec.specs.WebNames.{web}
use Rattle.url_spec.specs.ServedPaths.{IsServed}
use Rattle.url_spec.specs.PathTests.{is_served}
pub use Rattle.node_spec.specs.NodeAnswers.{Module}
use Rattle.trace_spec.specs.Walking.{Referrer, the_page, a_module}

-- own: the base, the page's path, the conditions, and the entries, which are distinct specifiers
pub record Config : Type 0 where
  pub base : List ℕ
  pub page : List ℕ
  pub conditions : List (List ℕ)
  pub entries : List (List ℕ)

abbrev pub is_module : Module → Module → Bool
is_module one other = bytes_eq one.path other.path && bytes_eq one.suffix other.suffix

abbrev pub path_of : Config → Referrer Module → List ℕ
path_of config the_page = config.page
path_of config (a_module m) = m.path

abbrev pub suffix_of : Referrer Module → List ℕ
suffix_of the_page = []
suffix_of (a_module m) = m.suffix

abbrev pub web_name : Config → Referrer Module → Option (List ℕ)
web_name config referrer = web config.base (path_of config referrer) (suffix_of referrer)

abbrev pub shown : Config → Referrer Module → List ℕ
shown config referrer = path_of config referrer ++ suffix_of referrer

-- own: a web name leads back to its path
pub record IsServable (config : Config) (path suffix url : List ℕ) : Type 0 where
  pub name : web config.base path suffix ≡ Some url
  pub back : IsServed config.base url path

-- the web name, where it leads back to the path
abbrev pub served_name : List ℕ → List ℕ → Option (List ℕ) → Option (List ℕ)
served_name base path None = None
served_name base path (Some url) = if is_served base url path then Some url else None

-- the web name of the page or of a module, where it leads back to its path
abbrev pub served_at : Config → Referrer Module → Option (List ℕ)
served_at config referrer = served_name config.base (path_of config referrer) (web_name config referrer)

abbrev pub not_folder : Option (List ℕ) → Option (List ℕ)
not_folder None = None
not_folder (Some url) = if ends_in_slash url then None else Some url

abbrev pub file_name : Config → Module → Option (List ℕ)
file_name config m = not_folder (served_at config (a_module m))
