-- Of two requests that clash no map serves both: they ask the same, and lead to two places.
use Rattle.std.proofs.Common.{sym, ◌∙◌}
use Rattle.std.specs.FinMap.{get}
use Rattle.std.specs.Prelude.{◌≡◌, ℕ, List}
use Rattle.url_spec.specs.Parsing.{parse_alone}
use Rattle.import_map_spec.specs.LookUps.{resolve_normalized, scope_addresses}
use Rattle.import_map_spec.specs.ParsedMap.{ParsedMap}
use Rattle.import_map_spec.specs.Resolving.{Resolved}
use Rattle.check_spec.specs.Differences.{gets}
use Rattle.layout_spec.specs.declared.Need.{Need}
use Rattle.soundness.specs.Soundness.{NoMapServesAClash}

same_url : (one other : List ℕ) → Resolved one ≡ Resolved other → one ≡ other
same_url one other e = cc

gets_the_same : (map : ParsedMap) (one other : Need) → one.referrer ≡ other.referrer → one.asked ≡ other.asked → gets map one ≡ gets map other
gets_the_same map one other referrer asked =
    λ i. resolve_normalized (get map.imports) (scope_addresses map.scopes) (referrer i) (parse_alone (asked i)) (asked i)

pub no_map_serves_a_clash : NoMapServesAClash
no_map_serves_a_clash sights config referrer first first_to second second_to clash map one other =
    clash.apart (same_url clash.need.target clash.other.target (sym one ∙ (gets_the_same map clash.need clash.other clash.same_referrer clash.same_asked ∙ other)))
