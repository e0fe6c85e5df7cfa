-- What is laid for the needs of one specifier is the first of the choices with the fewest places.
use Rattle.std.proofs.Common.{refl, sym, ap, ◌∙◌, subst}
use Rattle.std.proofs.lemmas.Bool.{cases_Bool, true≢false}
use Rattle.std.proofs.lemmas.Slice.Eq.{bytes_eq-Decides}
use Rattle.std.specs.FinMap.{empty}
use Rattle.std.specs.Prelude.{◌≡◌, ◌≢◌, ℕ, List, [], ◌∷◌, length, reverse, bytes_eq, Contains, Result, Ok, Err, OnOk, IfErr, ⊤}
use mathlib.Core.Logic.{inl, inr}
use Rattle.import_map_spec.specs.ParsedMap.{ParsedMap}
use Rattle.layout_spec.specs.declared.Need.{Need}
use Rattle.fewest_spec.specs.Choosing.{Wish, chosen, no_weight}
use Rattle.fewest_spec.specs.Fewest.{at_top}
use Rattle.fewest_spec.specs.Making.{put_text, asking, fits_in}
use Rattle.fewest_spec.specs.Wishes.{IsWishOf, HasManyChoices}
use Rattle.fewest_spec.proofs.OneTarget.{one_target, no_target}
use Rattle.fewest_spec.proofs.SomeFewest.{wish_is, put_ascending, put_there}
use Rattle.fewest_spec.proofs.Wanted.{is_wish}
use Rattle.place_nodes.proofs.Joining.{nodes_are, built_places, built_fewest}
use Rattle.place_nodes.specs.Building.{IsBuilt, IsOver, AreOver}
use Rattle.place_nodes.specs.Nodes.{places_of}
use Rattle.place_nodes.specs.declared.nodes.Node.{Node}
use Rattle.layout_spec.proofs.Contained.{contains_here}
use Rattle.layout.specs.Choices.{IsLaid}
use Rattle.layout.specs.declared.fault.LayoutFault.{LayoutFault}
use Rattle.layout.specs.declared.fault.LayoutFault.TheVariants.{TooManyChoices}
use Rattle.layout.specs.Groups.{IsAsking, IsGroupLaid, IsTopLaid, IsNodesLaid, targets_onto}
use Rattle.layout.proofs.Choosing.{laid_none, laid_more}
use Rattle.layout.proofs.Sizes.{gathered, onto_all, targets_are, few_built, many_over}

-- ---- one target

pub one_laid : (asked target : List ℕ) (group : List Need) (before after : ParsedMap) → IsAsking asked group → ((need : Need) → Contains group need → need.target ≡ target) → (HasManyChoices group asked → ⊥) → IsTopLaid asked target before after → IsGroupLaid asked group before after
one_laid asked target group before after is one few laid = elim (cases_Bool (bytes_eq asked target)) [
  | inl t ↦
      let same = (bytes_eq-Decides asked target).0 t in
      record {
        choice = empty;
        is_fewest = no_target group asked (λ any c e. one any c ∙ sym same);
        is_laid = subst (IsLaid before asked empty) (sym (laid.kept same)) (laid_none before asked);
        few = few;
      }
  | inr f ↦
      let apart : asked ≢ target = λ e. true≢false (sym ((bytes_eq-Decides asked target).1 e) ∙ f) in
      record {
        choice = at_top target;
        is_fewest = one_target group asked target is.first is.is_first (is.alike is.first is.is_first) (λ any c e. one any c) (λ e. apart (sym e));
        is_laid = subst (IsLaid before asked (at_top target)) (sym (laid.put apart)) (laid_more before asked empty before [] target (laid_none before asked));
        few = few;
      }
]

-- ---- several

module _ (asked : List ℕ) (group : List Need) (is : IsAsking asked group) where
  abbrev wish : Wish
  wish = record {
    asked = asked;
    targets = put_text asked (targets_onto [] group);
    fits = fits_in (asking group asked);
  }

  wish_of_group : IsWishOf group asked wish
  wish_of_group = record {
    asked_is = refl;
    sorted = put_ascending asked (targets_onto [] group) (gathered group);
    itself = put_there asked (targets_onto [] group) asked (inl refl);
    targets = λ need c e. put_there asked (targets_onto [] group) need.target (inr (onto_all group [] need c));
    fits = (wish_is group asked).fits;
  }

  pub some_laid : (nodes : List Node) (before after : ParsedMap) → IsBuilt group (put_text asked (targets_onto [] group)) nodes → (IsOver (length nodes) (length (targets_onto [] group)) → ⊥) → IsNodesLaid asked (put_text asked (targets_onto [] group)) nodes before after → IsGroupLaid asked group before after
  some_laid nodes before after built few laid =
      let places = built_places group asked wish nodes is.alike is.no_clash wish_of_group built in
      record {
        choice = chosen wish (reverse (places_of nodes)) no_weight;
        is_fewest = built_fewest group asked wish nodes is.alike is.no_clash wish_of_group built;
        is_laid = laid.is_laid wish (is_wish group asked (reverse (places_of nodes)) wish is.no_clash places wish_of_group) refl refl (nodes_are group asked wish nodes is.alike is.no_clash wish_of_group built);
        few = few_built group asked (targets_onto [] group) (put_text asked (targets_onto [] group)) nodes (targets_are asked group is.alike) built few;
      }

  -- the targets of the needs are among those that are numbered
  pub all_there : (need : Need) → Contains group need → Contains (put_text asked (targets_onto [] group)) need.target
  all_there need c = put_there asked (targets_onto [] group) need.target (inr (onto_all group [] need c))

pub texts_there : (asked : List ℕ) (group : List Need) (texts : List (List ℕ)) → IsAsking asked group → texts ≡ put_text asked (targets_onto [] group) → (need : Need) → Contains group need → Contains texts need.target
texts_there asked group texts is e need c = subst (λ ts. Contains ts need.target) (sym e) (all_there asked group is need c)

pub asked_there : (asked : List ℕ) (group : List Need) (texts : List (List ℕ)) → texts ≡ put_text asked (targets_onto [] group) → Contains texts asked
asked_there asked group texts e = subst (λ ts. Contains ts asked) (sym e) (put_there asked (targets_onto [] group) asked (inl refl))

pub some_many : (asked : List ℕ) (group : List Need) (width : ℕ) → IsAsking asked group → width ≡ length (targets_onto [] group) → AreOver group width → HasManyChoices group asked
some_many asked group width is e over = many_over group asked (targets_onto [] group) is.alike (targets_are asked group is.alike) (subst (AreOver group) e over)

pub some_laid_at : (asked : List ℕ) (group : List Need) (texts others : List (List ℕ)) (nodes same : List Node) (width : ℕ) (before after : ParsedMap) → IsAsking asked group → IsBuilt group texts nodes × (IsOver (length nodes) width → ⊥) → IsNodesLaid asked others same before after
    → texts ≡ put_text asked (targets_onto [] group) → others ≡ put_text asked (targets_onto [] group) → same ≡ nodes → width ≡ length (targets_onto [] group) → IsGroupLaid asked group before after
some_laid_at asked group texts others nodes same width before after is built laid e f n w =
    some_laid asked group is nodes before after (subst (λ ts. IsBuilt group ts nodes) e built.0) (subst (λ k. IsOver (length nodes) k → ⊥) w built.1) (subst (λ ns. IsNodesLaid asked (put_text asked (targets_onto [] group)) ns before after) n (subst (λ ts. IsNodesLaid asked ts same before after) f laid))

-- ---- whatever a group asks for, it is what its first need asks for

same_asked : (group rest : List Need) (first need : Need) (asked : List ℕ) → group ≡ first ∷ rest → need ≡ first → IsAsking asked group → need.asked ≡ asked
same_asked group rest first need asked e n is = ap (λ (k : Need). k.asked) n ∙ is.alike first (subst (λ ns. Contains ns first) (sym e) (contains_here first rest))

pub asking_first : (group rest : List Need) (first need : Need) → group ≡ first ∷ rest → need ≡ first → (asked : List ℕ) × IsAsking asked group → IsAsking need.asked group
asking_first group rest first need e n is = subst (λ a. IsAsking a group) (sym (same_asked group rest first need is.0 e n is.1)) is.1

pub group_laid_any : (E : Type 0) (group rest : List Need) (first need : Need) (before after : ParsedMap) (result : Result ⊤ E) → group ≡ first ∷ rest → need ≡ first → OnOk result (IsGroupLaid need.asked group before after) → OnOk result ((asked : List ℕ) → IsAsking asked group → IsGroupLaid asked group before after)
group_laid_any E group rest first need before after (Err fault) e n laid = laid
group_laid_any E group rest first need before after (Ok u) e n laid = λ asked is. subst (λ a. IsGroupLaid a group before after) (same_asked group rest first need asked e n is) laid

pub group_many_any : (group rest : List Need) (first need : Need) (result : Result ⊤ LayoutFault) → group ≡ first ∷ rest → need ≡ first → IfErr result (λ fault. fault ≡ TooManyChoices → HasManyChoices group need.asked) → IfErr result (λ fault. fault ≡ TooManyChoices → (asked : List ℕ) → IsAsking asked group → HasManyChoices group asked)
group_many_any group rest first need (Err fault) e n many = λ same asked is. subst (HasManyChoices group) (same_asked group rest first need asked e n is) (many same)
group_many_any group rest first need (Ok u) e n many = many
