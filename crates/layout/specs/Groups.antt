-- Needs in groups, each of those for one specifier.
--     IsFront asked needs size      so many of the needs in front ask for this, and the next one doesn't
--     IsGroup needs group more      the needs in front that ask for what the first one asks for, and the others
--     IsAsking asked group      what the needs of a group are known to be
--     targets_onto texts group      the texts, and the targets of the group
--     places_at_most needs      a bound for the number of the places of their referrers
--     IsGroupLaid asked group before after      what is chosen for the group is put into the map
use Rattle.std.specs.Prelude.{◌≡◌, ◌≢◌, ◌≤◌, ◌+◌, ℕ, Bool, true, false, List, [], ◌∷◌, ◌++◌, length, take, drop, reverse, Contains}
use Rattle.import_map_spec.specs.ParsedMap.{ParsedMap}
use Rattle.layout_spec.specs.Needs.{NoClash}
use Rattle.layout_spec.specs.declared.Need.{Need}
use Rattle.layout_spec.specs.PutMappings.{mapped_at}
use Rattle.fewest_spec.specs.Choosing.{Wish, chosen, no_weight}
use Rattle.fewest_spec.specs.Fewest.{Choice, IsFewest}
use Rattle.fewest_spec.proofs.Weighing.{IsWish}
use Rattle.fewest_spec.specs.Making.{put_text}
use Rattle.fewest_spec.specs.Wishes.{HasManyChoices}
use Rattle.place_nodes.specs.Building.{InTurn}
use Rattle.place_nodes.specs.Nodes.{AreNodes, places_of}
use Rattle.place_nodes.specs.declared.nodes.Node.{Node}
use Rattle.layout.specs.Choices.{IsLaid}

pub record IsFront (asked : List ℕ) (needs : List Need) (size : ℕ) : Type 0 where
  pub within : size ≤ length needs
  pub alike : (need : Need) → Contains (take size needs) need → need.asked ≡ asked
  pub next : (need : Need) (behind : List Need) → drop size needs ≡ need ∷ behind → need.asked ≢ asked

pub record IsGroup (needs group more : List Need) : Type 0 where
  pub first : Need
  pub is_first : Contains group first
  pub whole : group ++ more ≡ needs
  pub alike : (need : Need) → Contains group need → need.asked ≡ first.asked
  pub next : (need : Need) (behind : List Need) → more ≡ need ∷ behind → need.asked ≢ first.asked

-- own: the needs ask for one specifier, in the order of their referrers, without a clash
pub record IsAsking (asked : List ℕ) (group : List Need) : Type 0 where
  pub first : Need
  pub is_first : Contains group first
  pub alike : (need : Need) → Contains group need → need.asked ≡ asked
  pub turn : InTurn group
  pub no_clash : NoClash group

-- each text in the order of the bytes, once
abbrev pub targets_onto : List (List ℕ) → List Need → List (List ℕ)
targets_onto texts [] = texts
targets_onto texts (need ∷ more) = targets_onto (put_text need.target texts) more

pub record IsGroupLaid (asked : List ℕ) (group : List Need) (before after : ParsedMap) : Type 0 where
  pub choice : Choice
  pub is_fewest : IsFewest group asked choice
  pub is_laid : IsLaid before asked choice after
  pub few : HasManyChoices group asked → ⊥

pub record IsTopLaid (asked target : List ℕ) (before after : ParsedMap) : Type 0 where
  pub kept : asked ≡ target → after ≡ before
  pub put : asked ≢ target → after ≡ mapped_at [] asked target before

abbrev pub places_at_most : List Need → ℕ
places_at_most [] = 0
places_at_most (need ∷ more) = length need.referrer + 1 + places_at_most more

-- whether the choices are few
pub record IsJudged (asked : List ℕ) (group : List Need) (few : Bool) : Type 0 where
  pub few_is : few ≡ true → HasManyChoices group asked → ⊥
  pub many_is : few ≡ false → HasManyChoices group asked

-- what the nodes that stand for the places of needs are chosen for
pub record IsNodesLaid (asked : List ℕ) (targets : List (List ℕ)) (nodes : List Node) (before after : ParsedMap)
    : Type 0 where
  pub is_laid :
      (wish : Wish) → IsWish wish → wish.asked ≡ asked → wish.targets ≡ targets → AreNodes wish nodes
      → IsLaid before asked (chosen wish (reverse (places_of nodes)) no_weight) after
