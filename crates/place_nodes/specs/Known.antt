-- Places that are known before another.
--     StandAbove nodes          each without a target of its own stands above some text
--     AreKnown nodes place      they come before it, those above it are among them, and each knows the place above it
use Rattle.std.specs.Prelude.{◌≡◌, ℕ, List, None, Some, take, slice_get, Contains}
use Rattle.layout_spec.specs.Places.{above}
use Rattle.fewest_spec.specs.Fewest.{Before}
use Rattle.fewest_spec.specs.Wishes.{Ascending}
use Rattle.place_nodes.specs.Nodes.{IsAbove, places_of}
use Rattle.place_nodes.specs.declared.nodes.Node.{Node}

-- each knows the place above it
abbrev pub KnowAbove : List Node → Type 0
KnowAbove nodes =
    (i : ℕ) (node : Node) → slice_get nodes i ≡ Some node → IsAbove (take i (places_of nodes)) node.place node.above

abbrev pub StandAbove : List Node → Type 0
StandAbove nodes =
    (node : Node) → Contains nodes node → node.own ≡ None → (text : List ℕ) × Contains (above text) node.place

pub record AreKnown (nodes : List Node) (place : List ℕ) : Type 0 where
  pub sorted : Ascending (places_of nodes)
  pub know : KnowAbove nodes
  pub free : StandAbove nodes
  pub before : (p : List ℕ) → Contains (places_of nodes) p → Before p place
  pub there : (p : List ℕ) → Contains (above place) p → Contains (places_of nodes) p
