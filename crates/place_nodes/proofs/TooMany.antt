-- Places that are known are no more than all.
use Rattle.std.proofs.Common.{ap, subst, arith}
use Rattle.std.proofs.lemmas.List.{length-map}
use Rattle.std.proofs.lemmas.List.Elements.{Contains-append_left}
use Rattle.std.proofs.lemmas.Nat.{mul-le}
use Rattle.std.specs.Prelude.{◌≡◌, ℕ, ◌≤◌, List, [], ◌∷◌, Option, Some, None, length, Contains}
use Rattle.layout_spec.specs.declared.Need.{Need}
use Rattle.fewest_spec.specs.Wishes.{Ascending, ArePlaces}
use Rattle.fewest_spec.proofs.Amounts.{no_more as no_more_than}
use Rattle.fewest_spec.proofs.Counts.{Apart}
use Rattle.fewest_spec.proofs.Orders.{never_itself}
use Rattle.place_nodes.specs.Building.{IsBuilt, BuiltSo, IsOver, AreOver}
use Rattle.place_nodes.specs.Nodes.{places_of}
use Rattle.place_nodes.specs.declared.nodes.Node.{Node}
use Rattle.place_nodes.proofs.Building.{place_node}
use Rattle.place_nodes.proofs.Finding.{IsOnWay}

pub apart_up : (qs : List (List ℕ)) → Ascending qs → Apart qs
apart_up [] up = tt
apart_up (q ∷ qs) up = ((λ c. never_itself q (up.0 q c)), apart_up qs up.1)

-- of the places of needs at least those of some of them are there
pub built_within : (done rows : List Need) (targets : List (List ℕ)) (nodes : List Node) (asked : List ℕ) (ps : List (List ℕ)) → IsBuilt done targets nodes → ((need : Need) → Contains done need → Contains rows need) → ((need : Need) → Contains rows need → need.asked ≡ asked) → ArePlaces rows asked ps → length nodes ≤ length ps
built_within done rows targets nodes asked ps built within alike are =
    let l = no_more_than (places_of nodes) ps (apart_up (places_of nodes) built.sorted) (λ p c.
    let node = place_node nodes p c in
    let found = built.only node.0 node.1 in
    let at = within found.0 found.1 in
    subst (Contains ps) node.2 (are.all found.0 node.0.place at (alike found.0 at) found.2)) in
    let n = length-map nodes (λ (node : Node). node.place) in
    omega (arith, l, n)

pub over_on : (few many targets : ℕ) → few ≤ many → IsOver few targets → IsOver many targets
over_on few many targets l over = let m = mul-le few targets many targets l (omega arith) in omega (arith, m, over)

pub none_over : (nodes : List Node) (width : ℕ) → nodes ≡ [] → IsOver (length nodes) width → ⊥
none_over nodes width none over = let n = ap length none in let z = mul-le (length nodes) width 0 width (omega (arith, n)) (omega arith) in absurd (omega (arith, z, over))

-- so these are too many, where those that are built are
pub way_over : (rows left : List Need) (targets : List (List ℕ)) (nodes : List Node) (last : Option Need) (width : ℕ) → IsOnWay rows targets nodes last left → IsOver (length nodes) width → AreOver rows width
way_over rows left targets nodes last width w over asked ps alike are = by last w.built
  where
    within : (need : Need) → Contains w.done need → Contains rows need
    within need c = subst (λ rs. Contains rs need) w.whole (Contains-append_left w.done left need c)

    by : (last : Option Need) → BuiltSo w.done targets nodes last → IsOver (length ps) width
    by None b = absurd (none_over nodes width b.1 over)
    by (Some l) b = over_on (length nodes) (length ps) width (built_within w.done rows targets nodes asked ps b.0 within alike are) over
