-- Lists in the order of their keys have a map whose entries they are.
--     HasMap layout integrity      the lists are the entries of a map
--     SomeMap      lists in key order have one
use Rattle.std.specs.Prelude.{ℕ, List}
use Rattle.std.specs.List.{AllByRecursion}
use Rattle.import_map_spec.specs.ParsedMap.{ParsedMap}
use Rattle.scope_builder.specs.declared.keyed.Layout.{Layout}
use Rattle.scope_builder.specs.Keys.{InKeyOrder}
use Rattle.scope_builder.specs.Lists.{Lists}

-- own: the lists are the entries of this map
pub record HasMap (layout : Layout) (integrity : List (List ℕ × List ℕ)) : Type 0 where
  pub m : ParsedMap
  pub lists : Lists layout integrity m

-- own law: lists in key order, whose scopes are in key order, are the entries of a map
abbrev pub SomeMap : Type 0
SomeMap =
    (layout : Layout) (integrity : List (List ℕ × List ℕ)) → InKeyOrder layout.imports → InKeyOrder layout.scopes
    → AllByRecursion (λ scope. InKeyOrder scope.1) layout.scopes → InKeyOrder integrity → HasMap layout integrity
