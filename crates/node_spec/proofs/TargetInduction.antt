-- What holds of each target's asking and its calls, by what holds of its parts.
--     asks_bare bares text       the asking for a bare text, as a target makes it
--     HoldsOfParts bares Is      a statement of calls, an asking and an outcome holds of a whole where it does of the parts
--     holds_of_target            so it holds of each target
use Rattle.std.proofs.Common.{◌≡◌, ℕ, true, false, List, [], ◌∷◌, ◌++◌, Option, ◌∙◌}
use Rattle.std.proofs.lemmas.Bool.{cond-true, cond-false}
use Rattle.asking_spec.specs.Askings.{answered, and_then}
use Rattle.json_spec.specs.Value.{Json, an_object, Items, an_item, Members, a_member}
use Rattle.tree_spec.specs.LookAskings.{LookAsking}
use Rattle.node_spec.specs.PackageTargetResolve.{Bares, Came, came, bare_comes, text_comes, after_item, after_member, target_comes, items_come, members_come}
use Rattle.node_spec.specs.PackageTargets.{Rules, Call, own_outcome, with_match, bare_outcome, ResolvesText, is_undefined, is_passed, last_of, ResolvesTarget, ResolvesMembers, ResolvesItems}
use Rattle.node_spec.specs.PackageTargets.ResolvesItems.{no_item, decided, passed}
use Rattle.node_spec.specs.PackageTargets.ResolvesMembers.{no_member, untried, defined, undefined}
use Rattle.node_spec.specs.PackageTargets.ResolvesTarget.{text_target, index_key, object_target, empty_list, list_target, null_target, bool_target, number_target}
use Rattle.node_spec.specs.PackageTargets.ResolvesText.{own_place, bare, no_target}
use Rattle.node_spec.specs.declared.BareAnswer.{BareAnswer}
use Rattle.node_spec.specs.declared.Outcome.{Outcome}
use Rattle.node_spec.specs.declared.Outcome.TheVariants.{Undefined, Null, InvalidTarget, InvalidConfig}

abbrev pub asks_bare : {X : Type 0} → Bares X → List ℕ → LookAsking (Came X)
asks_bare bares text = and_then (bares.ask text) (λ value. answered (bare_comes bares value))

pub record HoldsOfParts {X : Type 0} (bares : Bares X)
    (Is : List Call → (Option X → LookAsking (Came X)) → Outcome → Type 0) : Type 0 where
  pub silent : (out : Outcome) → Is [] (λ last. answered (came out last)) out
  pub asked_bare : (text : List ℕ) (answer : BareAnswer)
      → Is ((text, answer) ∷ []) (λ last. asks_bare bares text) (bare_outcome answer)
  -- a choice that is known
  pub chosen : (asked : List Call) (out : Outcome) (asking other : Option X → LookAsking (Came X))
      → ((last : Option X) → other last ≡ asking last) → Is asked asking out → Is asked other out
  pub item_passed : (front back : List Call) (item more : Option X → LookAsking (Came X)) (first rest : Outcome)
      → is_passed first ≡ true → Is front item first → Is back more rest
      → Is (front ++ back) (λ last. and_then (item last) (after_item more)) (last_of first rest)
  pub item_decided : (asked : List Call) (item more : Option X → LookAsking (Came X)) (out : Outcome)
      → is_passed out ≡ false → Is asked item out → Is asked (λ last. and_then (item last) (after_item more)) out
  pub member_undefined : (front back : List Call) (member more : Option X → LookAsking (Came X)) (out : Outcome)
      → Is front member Undefined → Is back more out
      → Is (front ++ back) (λ last. and_then (member last) (after_member more)) out
  pub member_defined : (asked : List Call) (member more : Option X → LookAsking (Came X)) (out : Outcome)
      → is_undefined out ≡ false → Is asked member out
      → Is asked (λ last. and_then (member last) (after_member more)) out

module _ {X : Type 0} (bares : Bares X) (Is : List Call → (Option X → LookAsking (Came X)) → Outcome → Type 0)
    (parts : HoldsOfParts bares Is) (rules : Rules) where
  holds_of_text : (text : List ℕ) (asked : List Call) (out : Outcome) → ResolvesText rules text asked out
      → Is asked (text_comes bares rules text) out
  holds_of_text text _ _ (own_place b) =
      parts.chosen [] (own_outcome rules.pattern_match text)
      (λ last. answered (came (own_outcome rules.pattern_match text) last)) (text_comes bares rules text)
      (λ last. cond-true _ _ _ b) (parts.silent (own_outcome rules.pattern_match text))
  holds_of_text text _ _ (bare answer b n) =
      let asked : List ℕ = with_match rules.pattern_match text in
      parts.chosen ((asked, answer) ∷ []) (bare_outcome answer) (λ last. asks_bare bares asked)
      (text_comes bares rules text) (λ last. cond-false _ _ _ b ∙ cond-true _ _ _ n) (parts.asked_bare asked answer)
  holds_of_text text _ _ (no_target b n) =
      parts.chosen [] InvalidTarget (λ last. answered (came InvalidTarget last)) (text_comes bares rules text)
      (λ last. cond-false _ _ _ b ∙ cond-false _ _ _ n) (parts.silent InvalidTarget)

  mutual
    pub holds_of_target : (target : Json) (asked : List Call) (out : Outcome) → ResolvesTarget rules target asked out
        → Is asked (target_comes bares rules target) out
    holds_of_target _ _ _ (text_target text asked out r) = holds_of_text text asked out r
    holds_of_target _ _ _ (index_key fields i) =
        parts.chosen [] InvalidConfig (λ last. answered (came InvalidConfig last))
        (target_comes bares rules (an_object fields)) (λ last. cond-true _ _ _ i) (parts.silent InvalidConfig)
    holds_of_target _ _ _ (object_target fields asked out i r) =
        parts.chosen asked out (members_come bares rules fields) (target_comes bares rules (an_object fields))
        (λ last. cond-false _ _ _ i) (holds_of_members fields asked out r)
    holds_of_target _ _ _ empty_list = parts.silent Null
    holds_of_target _ _ _ (list_target item more asked out r) = holds_of_items (an_item item more) asked out r
    holds_of_target _ _ _ null_target = parts.silent Null
    holds_of_target _ _ _ (bool_target b) = parts.silent InvalidTarget
    holds_of_target _ _ _ (number_target number) = parts.silent InvalidTarget

    holds_of_members : (fields : Members) (asked : List Call) (out : Outcome) → ResolvesMembers rules fields asked out
        → Is asked (members_come bares rules fields) out
    holds_of_members _ _ _ no_member = parts.silent Undefined
    holds_of_members _ _ _ (untried key value more asked out t r) =
        parts.chosen asked out (members_come bares rules more) (members_come bares rules (a_member key value more))
        (λ last. cond-false _ _ _ t) (holds_of_members more asked out r)
    holds_of_members _ _ _ (defined key value more asked out t r d) =
        parts.chosen asked out
        (λ last. and_then (target_comes bares rules value last) (after_member (λ l. members_come bares rules more l)))
        (members_come bares rules (a_member key value more)) (λ last. cond-true _ _ _ t)
        (parts.member_defined asked (target_comes bares rules value) (λ l. members_come bares rules more l) out d
        (holds_of_target value asked out r))
    holds_of_members _ _ _ (undefined key value more front back out t r s) =
        parts.chosen (front ++ back) out
        (λ last. and_then (target_comes bares rules value last) (after_member (λ l. members_come bares rules more l)))
        (members_come bares rules (a_member key value more)) (λ last. cond-true _ _ _ t)
        (parts.member_undefined front back (target_comes bares rules value) (λ l. members_come bares rules more l) out
        (holds_of_target value front Undefined r) (holds_of_members more back out s))

    holds_of_items : (items : Items) (asked : List Call) (out : Outcome) → ResolvesItems rules items asked out
        → Is asked (items_come bares rules items) out
    holds_of_items _ _ _ no_item = parts.silent Undefined
    holds_of_items _ _ _ (decided item more asked out r d) =
        parts.item_decided asked (target_comes bares rules item) (λ l. items_come bares rules more l) out d
        (holds_of_target item asked out r)
    holds_of_items _ _ _ (passed item more front back first rest r p s) =
        parts.item_passed front back (target_comes bares rules item) (λ l. items_come bares rules more l) first rest p
        (holds_of_target item front first r) (holds_of_items more back rest s)
