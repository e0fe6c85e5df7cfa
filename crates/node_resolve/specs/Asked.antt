-- What the parts of a bare specifier are.
--     IsSubpath text          the text is `.`, or relative
--     IsSplit text asked      the text has this name, and this subpath behind it
use Rattle.std.specs.Prelude.{◌≡◌, ℕ, List, true, false, bytes_eq, codes}
use Rattle.url_spec.specs.Specifiers.{is_relative}
use Rattle.node_spec.specs.PackageResolve.{lacks_name, name_length, split_at}
use Rattle.node_spec.specs.PackageSelfResolve as spec
use Rattle.node_resolve.specs.declared.package_name.Subpath.{Subpath}

abbrev pub IsSubpath : List ℕ → Type 0
IsSubpath text = bytes_eq text (codes ".") ≡ false → is_relative text ≡ true

abbrev pub subpath_of : Subpath → spec.Subpath
subpath_of asked = record { name = asked.name.now; subpath = asked.subpath }

pub record IsSplit (text : List ℕ) (asked : Subpath) : Type 0 where
  pub has_name : lacks_name text ≡ false
  pub parts : subpath_of asked ≡ split_at (name_length text) text
