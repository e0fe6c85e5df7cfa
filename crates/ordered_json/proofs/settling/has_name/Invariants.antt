use Rattle.std.proofs.Common.{◌≡◌, length}
use Rattle.std.specs.List.{list_any}
use Rattle.std.specs.Prelude.{bytes_eq}
use Rattle.json_spec.specs.Value.{names_of}
use Rattle.ordered_json.specs.Shown.{members_of}
use Rattle.ordered_json.proofs.settling.has_name.Given as goal

abbrev pub invariant-loop-pair : goal.invariant-loop-pair
invariant-loop-pair l =
    list_any (bytes_eq l.name) (names_of (members_of l.rest))
    ≡ list_any (bytes_eq l.name) (names_of (members_of l.fn.pairs))

abbrev pub decreases-loop-pair : goal.decreases-loop-pair
decreases-loop-pair l = length l.rest
