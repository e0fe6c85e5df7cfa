-- The package scope of a folder (Node.js, ECMAScript modules: LOOKUP_PACKAGE_SCOPE).
--     package_json folder              the place of the folder's package.json
--     is_node_modules folder           the folder's name is `node_modules`
--     package_scope from               the asking that finds the scope
--     IsPackageScope tree from out     what the scope is, or that there is none
use Rattle.std.specs.Prelude.{ℕ, List, Option, Bool, nat_eq, codes}
use Rattle.std.specs.List.{ends_with}
use Rattle.tree_spec.specs.LookAskings.{LookAsking}
use Rattle.tree_spec.specs.Paths.{joined}
use Rattle.tree_spec.specs.Trees.{Tree}
use Rattle.node_spec.specs.FileLooks.{is_file}
use Rattle.node_spec.specs.Nearest.{Search, nearest, IsNearest}

abbrev pub package_json : List ℕ → List ℕ
package_json folder = joined folder (codes "package.json")

-- LOOKUP_PACKAGE_SCOPE, "If scopeURL ends in a "node_modules" path segment"
unfoldable pub is_node_modules : List ℕ → Bool
is_node_modules folder = ends_with nat_eq folder (codes "/node_modules")

-- LOOKUP_PACKAGE_SCOPE: the first folder upwards in which a file package.json stands; a folder `node_modules` ends the
-- search. The root is looked at too
abbrev pub scopes : Search
scopes = record { ends_at = is_node_modules; place = package_json; accepts = is_file }

abbrev pub package_scope : List ℕ → LookAsking (Option (List ℕ))
package_scope from = nearest scopes from

abbrev pub IsPackageScope : Tree → List ℕ → Option (List ℕ) → Type 0
IsPackageScope tree from out = IsNearest scopes tree from out
