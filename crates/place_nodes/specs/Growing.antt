-- Nodes that grow by the places of a referrer.
--     IsReady nodes referrer size      the places above the referrer of fewer bytes are known, and no other behind them
--     IsAdded before place own after      a node more
--     IsGrown before referrer own after      all places of the referrer are known
use Rattle.std.specs.Prelude.{◌≡◌, ◌≤◌, ◌<◌, ◌⊎◌, ℕ, List, [], ◌∷◌, ◌++◌, Option, Some, None, length, take, Contains}
use Rattle.layout_spec.specs.Places.{above, places}
use Rattle.fewest_spec.specs.Fewest.{Before}
use Rattle.fewest_spec.specs.Wishes.{Ascending}
use Rattle.place_nodes.specs.Known.{KnowAbove, StandAbove}
use Rattle.place_nodes.specs.Nodes.{IsAbove, places_of}
use Rattle.place_nodes.specs.declared.nodes.Node.{Node}

pub record IsReady (nodes : List Node) (referrer : List ℕ) (size : ℕ) : Type 0 where
  pub sorted : Ascending (places_of nodes)
  pub know : KnowAbove nodes
  pub free : StandAbove nodes
  pub before :
      (s : ℕ) (p : List ℕ) → size ≤ s → s ≤ length referrer → Contains (places_of nodes) p → Before p (take s referrer)
  pub there :
      (s : ℕ) → s < size → Contains (above referrer) (take s referrer) → Contains (places_of nodes) (take s referrer)

pub record IsAdded (before : List Node) (place : List ℕ) (own : Option ℕ) (after : List Node) : Type 0 where
  pub above : Option ℕ
  pub is_above : IsAbove (places_of before) place above
  pub pushed : after ≡ before ++ record { place = place; above = above; own = own } ∷ []

-- a folder above the referrer that wasn't known before
pub record IsFresh (before : List Node) (referrer : List ℕ) (node : Node) : Type 0 where
  pub free : node.own ≡ None
  pub is_above : Contains (above referrer) node.place
  pub behind : (p : List ℕ) → Contains (places_of before) p → Before p node.place

pub record IsGrown (before : List Node) (referrer : List ℕ) (own : ℕ) (after : List Node) : Type 0 where
  pub sorted : Ascending (places_of after)
  pub know : KnowAbove after
  pub all : (p : List ℕ) → Contains (places referrer) p → Contains (places_of after) p
  pub kept : (node : Node) → Contains before node → Contains after node
  pub only :
      (node : Node) → Contains after node
      → Contains before node ⊎ (IsFresh before referrer node ⊎ ((node.place ≡ referrer) × (node.own ≡ Some own)))
  pub last : (p : List ℕ) → Contains (places_of after) p → (p ≡ referrer) ⊎ Before p referrer
