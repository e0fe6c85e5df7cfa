-- The places of the needs for one specifier, in the order of their bytes.
--     IsOwn wish place own      the target with this number is the only one that fits; or all fit
--     IsAbove before place above      the place above has this number among those before; or there is none
--     AreNodes wish nodes      these are places with what is told of them
use Rattle.std.specs.Prelude.{◌≡◌, ℕ, true, List, Option, Some, None, map, take, slice_get, bytes_eq}
use Rattle.layout_spec.specs.Places.{place_above}
use Rattle.fewest_spec.specs.Choosing.{Wish}
use Rattle.fewest_spec.proofs.Counts.{Apart}
use Rattle.fewest_spec.specs.Wishes.{Ascending}
use Rattle.place_nodes.specs.declared.nodes.Node.{Node}

abbrev pub IsOwn : Wish → List ℕ → Option ℕ → Type 0
IsOwn wish place None = (value : List ℕ) → wish.fits place value ≡ true
IsOwn wish place (Some own) =
    (t : List ℕ) × (slice_get wish.targets own ≡ Some t) × ((value : List ℕ) → wish.fits place value ≡ bytes_eq t value)

abbrev pub IsAbove : List (List ℕ) → List ℕ → Option ℕ → Type 0
IsAbove before place None = place_above place ≡ None
IsAbove before place (Some above) =
    (higher : List ℕ) × (place_above place ≡ Some higher) × (slice_get before above ≡ Some higher)

abbrev pub places_of : List Node → List (List ℕ)
places_of nodes = map (λ node. node.place) nodes

pub record AreNodes (wish : Wish) (nodes : List Node) : Type 0 where
  pub sorted : Ascending (places_of nodes)
  pub targets : Apart wish.targets
  pub own : (i : ℕ) (node : Node) → slice_get nodes i ≡ Some node → IsOwn wish node.place node.own
  pub above :
      (i : ℕ) (node : Node) → slice_get nodes i ≡ Some node
      → IsAbove (take i (places_of nodes)) node.place node.above
