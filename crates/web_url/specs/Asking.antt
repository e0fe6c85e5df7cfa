-- What a specifier asks for (HTML, import maps: resolve a URL-like module specifier).
use Rattle.std.specs.Prelude.{◌≡◌, ℕ, List, Option, Some, None, true, false, codes, nat_eq, bytes_eq, if◌then◌else◌, ⊤}
use Rattle.std.specs.List.{ends_with}
use Rattle.url_spec.specs.Specifiers.{is_relative, as_url}
use Rattle.web_url.specs.declared.specifier.Asked.{Asked}
use Rattle.web_url.specs.declared.specifier.Asked.TheVariants.{Url, Bare}
use Rattle.web_url.specs.declared.specifier.Scheme.{Scheme}
use Rattle.web_url.specs.declared.specifier.Scheme.TheVariants.{NotUrl, Node, Other}
use Rattle.web_url.specs.declared.specifier.AskFault.{AskFault}
use Rattle.web_url.specs.declared.specifier.AskFault.TheVariants.{Unaskable, TrailingSlash, Memory}

-- own: a URL that is asked for relatively doesn't end in `/`, and a relative specifier isn't bare
abbrev pub IsAsked : List ℕ → List ℕ → Asked → Type 0
IsAsked referrer specifier (Url url) =
    (as_url referrer specifier ≡ Some url) × (is_relative specifier ≡ true → ends_with nat_eq url (codes "/") ≡ false)
IsAsked referrer specifier Bare = (as_url referrer specifier ≡ None) × (is_relative specifier ≡ false)

-- own: when a specifier can't be asked for
abbrev pub IsAskFault : List ℕ → List ℕ → AskFault → Type 0
IsAskFault referrer specifier Unaskable = (is_relative specifier ≡ true) × (as_url referrer specifier ≡ None)
IsAskFault referrer specifier TrailingSlash =
    (is_relative specifier ≡ true) × (url : List ℕ) × (as_url referrer specifier ≡ Some url)
    × (ends_with nat_eq url (codes "/") ≡ true)
IsAskFault referrer specifier Memory = ⊤

-- what a specifier is whose URL without a base has this scheme, or that is no URL
abbrev pub scheme_named : Option (List ℕ) → Scheme
scheme_named None = NotUrl
scheme_named (Some scheme) = if bytes_eq scheme (codes "node") then Node else Other
