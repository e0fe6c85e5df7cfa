-- Web names: the URLs at which modules are served.
--     web base path suffix      the web name of a module
--     escaped path      the path as it stands in a URL
use Rattle.std.specs.Char.{is_ascii_alphanumeric}
use Rattle.std.specs.List.{list_any}
use Rattle.std.specs.Prelude.{◌==◌, ◌||◌, ℕ, Bool, codes, List, [], ◌∷◌, flat_map, if◌then◌else◌, ◌++◌, drop, Option}
use Rattle.percent_encoding.specs.Percent.{percent_encode_byte}
use Rattle.url_spec.specs.Parsing.{parse_alone}

-- own: the bytes of a path that its URL has as they are: `/`, ASCII letters and digits, and the marks below
abbrev pub is_plain : ℕ → Bool
is_plain b = is_ascii_alphanumeric b || list_any (λ mark. mark == b) (codes "/-._~!$&'()+,;=:@")

-- own: the path with each other byte as its percent-escape (URL Standard, percent-encoded bytes)
unfoldable pub escaped : List ℕ → List ℕ
escaped path = flat_map (λ b. if is_plain b then b ∷ [] else percent_encode_byte b) path

-- own: the web name of a module, from the base's text, the path and the suffix
unfoldable pub web : List ℕ → List ℕ → List ℕ → Option (List ℕ)
web base path suffix = parse_alone (base ++ (drop 1 (escaped path) ++ suffix))
