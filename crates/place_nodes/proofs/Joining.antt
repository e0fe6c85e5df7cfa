-- The nodes that are built are what is settled and chosen for.
use Rattle.std.proofs.Common.{refl, sym, ◌∙◌, subst}
use Rattle.std.proofs.lemmas.Slice.Eq.{bytes_eq-Decides}
use Rattle.std.specs.Prelude.{◌≡◌, ℕ, Bool, true, false, List, reverse, Option, Some, None, bytes_eq, Contains}
use Rattle.layout_spec.proofs.Contained.{contains_at}
use Rattle.layout_spec.specs.Needs.{NoClash}
use Rattle.layout_spec.specs.Places.{places}
use Rattle.layout_spec.specs.declared.Need.{Need}
use Rattle.fewest_spec.specs.Choosing.{Wish, chosen, no_weight}
use Rattle.fewest_spec.specs.Fewest.{IsFewest}
use Rattle.fewest_spec.specs.Wishes.{ArePlaces, IsWishOf}
use Rattle.fewest_spec.proofs.SomeFewest.{reversed_down, reversed_all, reversed_from}
use Rattle.fewest_spec.proofs.Wanted.{chosen_fewest}
use Rattle.place_nodes.specs.Building.{IsBuilt}
use Rattle.place_nodes.specs.Nodes.{IsOwn, places_of, AreNodes}
use Rattle.place_nodes.specs.declared.nodes.Node.{Node}
use Rattle.place_nodes.proofs.Building.{place_node}
use Rattle.place_nodes.proofs.TooMany.{apart_up}

same_test : (a b : Bool) → (a ≡ true → b ≡ true) → (b ≡ true → a ≡ true) → a ≡ b
same_test true b f g = sym (f refl)
same_test false true f g = g refl
same_test false false f g = refl

module _ (group : List Need) (asked : List ℕ) (wish : Wish) (nodes : List Node) (alike : (need : Need) → Contains group need → need.asked ≡ asked) (no_clash : NoClash group) (of : IsWishOf group asked wish) (built : IsBuilt group wish.targets nodes) where
  own_is : (node : Node) → Contains nodes node → (o : Option ℕ) → node.own ≡ o → IsOwn wish node.place o
  own_is node c None none = λ value. (of.fits node.place value).1 (λ need a. absurd (built.free node c none need a.is_need a.at))
  own_is node c (Some number) some =
      let found = built.own node number c some in (
        found.0.target,
        found.3,
        λ value. same_test (wish.fits node.place value) (bytes_eq found.0.target value)
            (λ t. (bytes_eq-Decides found.0.target value).1 ((of.fits node.place value).0 t found.0 (record { is_need = found.1; asks = alike found.0 found.1; at = found.2 })))
            (λ t. (of.fits node.place value).1 (λ need a. no_clash need found.0 a.is_need found.1 (a.at ∙ sym found.2) (a.asks ∙ sym (alike found.0 found.1)) ∙ (bytes_eq-Decides found.0.target value).0 t)),
      )

  pub nodes_are : AreNodes wish nodes
  nodes_are = record {
    sorted = built.sorted;
    targets = apart_up wish.targets of.sorted;
    own = λ i node at. own_is node (contains_at nodes i node at) node.own refl;
    above = built.know;
  }

  pub built_places : ArePlaces group asked (reverse (places_of nodes))
  built_places = record {
    down = reversed_down (places_of nodes) built.sorted;
    all = λ need p c e at. reversed_all (places_of nodes) p (built.all need p c at);
    only = λ p c.
        let node = place_node nodes p (reversed_from (places_of nodes) p c) in
        let found = built.only node.0 node.1 in
        (found.0, record { is_need = found.1; asks = alike found.0 found.1; under = subst (Contains (places found.0.referrer)) node.2 found.2 });
  }

  -- so what is laid for them is the first of the choices with the fewest places
  pub built_fewest : IsFewest group asked (chosen wish (reverse (places_of nodes)) no_weight)
  built_fewest = chosen_fewest group asked (reverse (places_of nodes)) wish no_clash built_places of
