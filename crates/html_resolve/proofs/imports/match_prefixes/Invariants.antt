use Rattle.std.proofs.Common.{◌≡◌, ◌≤◌, length}
use Rattle.std.specs.FinMap.{get}
use Rattle.import_map_spec.specs.LookUps.{longest_front, prefix_key}
use Rattle.html_resolve.proofs.imports.match_prefixes.Given as goal

abbrev pub invariant-loop-front : goal.invariant-loop-front
invariant-loop-front l =
    (l.limit ≤ length l.text)
    × (longest_front (prefix_key (get l.addresses)) l.text (length l.text) ≡ longest_front (prefix_key (get l.addresses)) l.text l.limit)

abbrev pub decreases-loop-front : goal.decreases-loop-front
decreases-loop-front l = l.limit
