use Rattle.std.proofs.Common.{◌≡◌, ◌≤◌, List, ℕ, Option, length}
use Rattle.import_map_spec.specs.LookUps.{longest_front, prefix_scope, scope_addresses}
use Rattle.import_map_spec.specs.Resolving.{takes_prefixes}
use Rattle.html_resolve.proofs.scopes.match_folders.Given as goal

abbrev pub invariant-loop-front : goal.invariant-loop-front
invariant-loop-front l =
    (l.limit ≤ length l.referrer)
    × ((url : Option (List ℕ)) → takes_prefixes url ≡ l.prefixes → longest_front (prefix_scope url l.text (scope_addresses l.fn.map.scopes)) l.referrer (length l.referrer) ≡ longest_front (prefix_scope url l.text (scope_addresses l.fn.map.scopes)) l.referrer l.limit)

abbrev pub decreases-loop-front : goal.decreases-loop-front
decreases-loop-front l = l.limit
