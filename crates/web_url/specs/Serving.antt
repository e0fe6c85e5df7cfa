-- What a URL spells below a base, and when a module has no web name.
use Rattle.std.specs.Prelude.{◌≡◌, ◌++◌, ℕ, List, MatchOption, codes, flat_map, false, ⊤}
use Rattle.url_spec.specs.WebNames.{web}
use Rattle.url_spec.specs.Suffixes.{before_suffix}
use Rattle.url_spec.specs.ServedPaths.{holds_escape, read_segment, segments, IsServed}
use Rattle.web_url.specs.declared.names.WebFault.{WebFault}
use Rattle.web_url.specs.declared.names.WebFault.TheVariants.{Unservable, Memory}

-- own: the bytes that the URL has after the base's text and before its suffix, unescaped
pub record SpellsBelow (base url bytes : List ℕ) : Type 0 where
  pub rest : List ℕ
  pub below : before_suffix url ≡ base ++ rest
  pub no_slash : holds_escape (codes "%2f") rest ≡ false
  pub spelled : bytes ≡ flat_map read_segment (segments rest)

-- own: the web name is this URL or none, and the path isn't served at it
abbrev pub IsUnservable : List ℕ → List ℕ → List ℕ → WebFault → Type 0
IsUnservable base path suffix (Unservable url) =
    (url ≡ web base path suffix) × MatchOption url ⊤ (λ name. IsServed base name path → ⊥)
IsUnservable base path suffix Memory = ⊤
