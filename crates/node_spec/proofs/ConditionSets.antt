-- Conditions are a set: what a target comes to doesn't depend on the order in which they are named, nor on how often.
use Rattle.std.proofs.Common.{◌≡◌, ℕ, true, List, sym, Bool, false, refl, ◌||◌, ap, ◌∙◌}
use Rattle.std.proofs.lemmas.List.Folds.{list_any_at}
use Rattle.std.proofs.lemmas.Map.Views.{Contains-from_any}
use Rattle.std.proofs.lemmas.Slice.Eq.{bytes_eq-Decides}
use Rattle.std.specs.List.{list_any, Contains}
use Rattle.std.specs.Prelude.{bytes_eq, codes}
use Rattle.json_spec.specs.Value.{Json, Items, Members}
use Rattle.node_spec.specs.Laws.{IsSameSet, under_conditions, ConditionsAreASet}
use Rattle.node_spec.specs.PackageTargets.{is_tried, Rules, Call, ResolvesText, ResolvesTarget, ResolvesMembers, ResolvesItems}
use Rattle.node_spec.specs.PackageTargets.ResolvesItems.{no_item, decided, passed}
use Rattle.node_spec.specs.PackageTargets.ResolvesMembers.{no_member, untried, defined, undefined}
use Rattle.node_spec.specs.PackageTargets.ResolvesTarget.{text_target, index_key, object_target, empty_list, list_target, null_target, bool_target, number_target}
use Rattle.node_spec.specs.PackageTargets.ResolvesText.{own_place, bare, no_target}
use Rattle.node_spec.specs.declared.Outcome.{Outcome}

found_in : (name : List ℕ) (names : List (List ℕ)) → Contains names name → list_any (bytes_eq name) names ≡ true
found_in name names c = list_any_at (bytes_eq name) names c.0 name c.1 ((bytes_eq-Decides _ _).1 (sym c.2))

both_true : (some other : Bool) → (some ≡ true → other ≡ true) → (other ≡ true → some ≡ true) → some ≡ other
both_true true other there back = sym (there refl)
both_true false true there back = back refl
both_true false false there back = refl

pub tried_alike : (some other : List (List ℕ)) (key : List ℕ) → IsSameSet some other → is_tried some key ≡ is_tried other key
tried_alike some other key same =
    ap (λ t. bytes_eq key (codes "default") || t) (both_true (list_any (bytes_eq key) some) (list_any (bytes_eq key) other) (λ e. found_in key other ((same key).0 (Contains-from_any (λ x y. (bytes_eq-Decides x y).0) key some e))) (λ e. found_in key some ((same key).1 (Contains-from_any (λ x y. (bytes_eq-Decides x y).0) key other e))))

-- ---- each rule holds under both

module _ (other : List (List ℕ)) (rules : Rules) (same : IsSameSet rules.conditions other) where
  text_under : (target : List ℕ) (asked : List Call) (out : Outcome) → ResolvesText rules target asked out → ResolvesText (under_conditions other rules) target asked out
  text_under target asked out (own_place e) = own_place e
  text_under target asked out (bare answer e n) = bare answer e n
  text_under target asked out (no_target e n) = no_target e n

  mutual
    target_under : (target : Json) (asked : List Call) (out : Outcome) → ResolvesTarget rules target asked out → ResolvesTarget (under_conditions other rules) target asked out
    target_under target asked out (text_target text _ _ r) = text_target text _ _ (text_under text asked out r)
    target_under target asked out (index_key ms e) = index_key ms e
    target_under target asked out (object_target ms _ _ e r) = object_target ms _ _ e (members_under ms asked out r)
    target_under target asked out empty_list = empty_list
    target_under target asked out (list_target v more _ _ r) = list_target v more _ _ (items_under _ asked out r)
    target_under target asked out null_target = null_target
    target_under target asked out (bool_target b) = bool_target b
    target_under target asked out (number_target n) = number_target n

    members_under : (ms : Members) (asked : List Call) (out : Outcome) → ResolvesMembers rules ms asked out → ResolvesMembers (under_conditions other rules) ms asked out
    members_under ms asked out no_member = no_member
    members_under ms asked out (untried key v more _ _ e r) = untried key v more _ _ (sym (tried_alike rules.conditions other key same) ∙ e) (members_under more asked out r)
    members_under ms asked out (defined key v more _ _ e r d) = defined key v more _ _ (sym (tried_alike rules.conditions other key same) ∙ e) (target_under v asked out r) d
    members_under ms asked out (undefined key v more front back _ e r s) =
        undefined key v more front back out (sym (tried_alike rules.conditions other key same) ∙ e) (target_under v front _ r) (members_under more back out s)

    items_under : (vs : Items) (asked : List Call) (out : Outcome) → ResolvesItems rules vs asked out → ResolvesItems (under_conditions other rules) vs asked out
    items_under vs asked out no_item = no_item
    items_under vs asked out (decided v more _ _ r d) = decided v more _ _ (target_under v asked out r) d
    items_under vs asked out (passed v more front back first rest r p s) = passed v more front back first rest (target_under v front first r) p (items_under more back rest s)

pub conditions_are_a_set : ConditionsAreASet
conditions_are_a_set other rules target asked out same r = target_under other rules same target asked out r
