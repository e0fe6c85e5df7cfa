-- One match is found.
use Rattle.std.specs.Prelude.{◌≡◌, ℕ, List}
use Rattle.json_spec.specs.Value.{AreDistinct}
use Rattle.ordered_json.specs.declared.value.Members.{Members}
use Rattle.ordered_json.specs.Lists.{pairs_of}
use Rattle.ordered_json.specs.Shown.{members_of}
use Rattle.exports_patterns.specs.declared.pattern_keys.Match.{Match}
use Rattle.exports_patterns.specs.Found.{keys_of, IsFound}

-- own law: among the keys of an object one match is found, at one place
abbrev pub OneFound : Type 0
OneFound =
    (members : Members) (asked : List ℕ) (found other : Match) → AreDistinct (members_of (pairs_of members))
    → IsFound (keys_of members) asked found → IsFound (keys_of members) asked other → found ≡ other
