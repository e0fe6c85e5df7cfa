-- What is left of a target.
--     null_left, invalid_left      a target that comes to this alone
--     text_*, object_*      a text, and an object
--     item_*, list_*      the items of a list, from the last one
--     member_*      the members of an object
use Rattle.std.proofs.Common.{◌≡◌, ◌≢◌, ◌++◌, ◌+◌, arith, drop, ℕ, Bool, true, false, List, [], ◌∷◌, Option, length, rules, refl, sym, ap, subst, ◌∙◌, inl, inr, append-nil}
use Rattle.std.specs.Prelude.{◌⊎◌, codes, map, reverse, Result, Ok, Err, IfOk}
use Rattle.std.proofs.lemmas.Bool.{true≢false, cases_Bool, cond-true, cond-false, cond_both}
use Rattle.std.proofs.lemmas.List.{drop_all, nil_from_length, reverse-append}
use Rattle.url_spec.specs.Specifiers.{begins}
use Rattle.json_spec.specs.PropertyOrder.{is_array_index}
use Rattle.json_spec.specs.Value.{Json, a_null, a_bool, a_number, a_text, a_list, an_object, Items, no_items, an_item, Members, no_members, a_member}
use Rattle.node_spec.specs.declared.BareAnswer.TheVariants as bare_answer
use Rattle.node_spec.specs.declared.Outcome.{Outcome}
use Rattle.node_spec.specs.declared.Outcome.TheVariants as outcome
use Rattle.node_spec.specs.PackageTargets.{Rules, Call, leaves_package, is_invalid_match, with_match, own_outcome, names_package, ResolvesText, has_index_key, is_tried, is_undefined, is_passed, last_of, ResolvesTarget, ResolvesMembers, ResolvesItems}
use Rattle.node_spec.specs.PackageTargets.ResolvesText.{own_place, bare, no_target}
use Rattle.node_spec.specs.PackageTargets.ResolvesTarget.{text_target, index_key, object_target, empty_list, list_target, null_target, bool_target, number_target}
use Rattle.node_spec.specs.PackageTargets.ResolvesMembers.{no_member, untried, defined, undefined}
use Rattle.node_spec.specs.PackageTargets.ResolvesItems.{no_item, decided, passed}
use Rattle.node_spec.proofs.SomeOutcome.{undefined_from}
use Rattle.ordered_json.specs.declared.value.Value as value
use Rattle.ordered_json.specs.declared.value.Value.{Value}
use Rattle.ordered_json.specs.declared.value.Items as code
use Rattle.ordered_json.specs.declared.value.Members as code_members
use Rattle.ordered_json.specs.Lists.{values_of, pairs_of}
use Rattle.ordered_json.specs.Shown.{json_of, items_from, items_of, members_of}
use Rattle.ordered_json.proofs.ShownLemmas.{json_of_list, json_of_object, json_of_text}
use Rattle.ordered_json.proofs.IsJsonLemmas.{json_of_null, json_of_bool, json_of_number}
use Rattle.condition_match.specs.Choosing.{judged_by}
use Rattle.condition_match.specs.Reducing.{shown, IsPassed, Follows, IsDefined, ComesAs, IsReduced, left_in, left_of, LeavesItems, PutsItem, IsWhole, LeavesMember}
use Rattle.condition_match.specs.declared.reducing.Left.{Left}
use Rattle.condition_match.specs.declared.reducing.Reduced.{Reduced}
use Rattle.condition_match.specs.declared.reducing.Reduced.TheVariants.{Undefined, Null, InvalidTarget, As}

-- ---- what comes to one thing alone

by_null : (rules : Rules) (target : Json) → ResolvesTarget rules target [] outcome.Null → (asked : List Call) (out : Outcome) → ResolvesTarget rules a_null asked out → ResolvesTarget rules target asked out
by_null rules target is asked out null_target = is

by_invalid : (rules : Rules) (target : Json) → ResolvesTarget rules target [] outcome.InvalidTarget → (asked : List Call) (out : Outcome) → ResolvesTarget rules (a_bool false) asked out → ResolvesTarget rules target asked out
by_invalid rules target is asked out (bool_target _) = is

no_members_there : (rules : Rules) (asked : List Call) (out : Outcome) → ResolvesMembers rules no_members asked out → (asked ≡ []) × (out ≡ outcome.Undefined)
no_members_there rules asked out no_member = (refl, refl)

by_undefined : (rules : Rules) (target : Json) → ResolvesTarget rules target [] outcome.Undefined → (asked : List Call) (out : Outcome) → ResolvesTarget rules (an_object no_members) asked out → ResolvesTarget rules target asked out
by_undefined rules target is asked out (index_key _ e) = absurd (true≢false (sym e))
by_undefined rules target is asked out (object_target _ _ _ e r) =
    let none = no_members_there rules asked out r in
    subst (λ o. ResolvesTarget rules target asked o) (sym none.1) (subst (λ a. ResolvesTarget rules target a outcome.Undefined) (sym none.0) is)

null_defined : (rules : Rules) (asked : List Call) (out : Outcome) → ResolvesTarget rules a_null asked out → is_undefined out ≡ false
null_defined rules asked out null_target = refl

invalid_defined : (rules : Rules) (asked : List Call) (out : Outcome) → ResolvesTarget rules (a_bool false) asked out → is_undefined out ≡ false
invalid_defined rules asked out (bool_target _) = refl

undefined_target : (rules : Rules) → ResolvesTarget rules (an_object no_members) [] outcome.Undefined
undefined_target rules = object_target no_members [] outcome.Undefined refl no_member

pub null_left : (conditions : List (List ℕ)) (imports : Bool) (target : Json)
    → ((star : Option (List ℕ)) → ResolvesTarget (judged_by conditions star imports) target [] outcome.Null)
    → IsReduced conditions imports target Null
null_left conditions imports target is = record {
  comes = λ star. by_null (judged_by conditions star imports) target (is star);
  defined = λ some star. null_defined (judged_by conditions star imports);
}

pub invalid_left : (conditions : List (List ℕ)) (imports : Bool) (target : Json)
    → ((star : Option (List ℕ)) → ResolvesTarget (judged_by conditions star imports) target [] outcome.InvalidTarget)
    → IsReduced conditions imports target InvalidTarget
invalid_left conditions imports target is = record {
  comes = λ star. by_invalid (judged_by conditions star imports) target (is star);
  defined = λ some star. invalid_defined (judged_by conditions star imports);
}

pub undefined_left : (conditions : List (List ℕ)) (imports : Bool) (target : Json)
    → ((star : Option (List ℕ)) → ResolvesTarget (judged_by conditions star imports) target [] outcome.Undefined)
    → IsReduced conditions imports target Undefined
undefined_left conditions imports target is = record {
  comes = λ star. by_undefined (judged_by conditions star imports) target (is star);
  defined = λ some. absurd (some refl);
}

-- ---- texts

own_defined : (part : Option (List ℕ)) (target : List ℕ) → is_undefined (own_outcome part target) ≡ false
own_defined part target =
    cond_both (leaves_package target) _ _ (λ o. is_undefined o ≡ false) (λ leaves. refl)
    (λ stays. cond_both (is_invalid_match part) _ _ (λ o. is_undefined o ≡ false) (λ invalid. refl) (λ valid. refl))

text_is_defined : (rules : Rules) (text : List ℕ) (asked : List Call) (out : Outcome) → ResolvesText rules text asked out → is_undefined out ≡ false
text_is_defined rules text asked out (own_place e) = own_defined rules.pattern_match text
text_is_defined rules text asked out (bare bare_answer.Found e n) = refl
text_is_defined rules text asked out (bare bare_answer.InvalidTarget e n) = refl
text_is_defined rules text asked out (bare bare_answer.Stop e n) = refl
text_is_defined rules text asked out (no_target e n) = refl

text_defined : (rules : Rules) (text : List ℕ) (asked : List Call) (out : Outcome) → ResolvesTarget rules (a_text text) asked out → is_undefined out ≡ false
text_defined rules text asked out (text_target _ _ _ r) = text_is_defined rules text asked out r

pub text_left : (conditions : List (List ℕ)) (imports : Bool) (text : List ℕ) (value : Value) → json_of value ≡ a_text text
    → IsReduced conditions imports (a_text text) (As value)
text_left conditions imports text value e = record {
  comes = λ star asked out r. subst (λ j. ResolvesTarget (judged_by conditions star imports) j asked out) e r;
  defined = λ some star asked out r. text_defined (judged_by conditions star imports) text asked out (subst (λ j. ResolvesTarget (judged_by conditions star imports) j asked out) e r);
}

leaving : (rules : Rules) (text : List ℕ) → begins text (codes "./") ≡ true → leaves_package text ≡ true → ResolvesText rules text [] outcome.InvalidTarget
leaving rules text e l = subst (λ o. ResolvesText rules text [] o) (cond-true (leaves_package text) _ _ l) (own_place e)

pub leaving_left : (conditions : List (List ℕ)) (imports : Bool) (text : List ℕ) → begins text (codes "./") ≡ true
    → leaves_package text ≡ true → IsReduced conditions imports (a_text text) InvalidTarget
leaving_left conditions imports text e l =
    invalid_left conditions imports (a_text text)
    (λ star. text_target text [] outcome.InvalidTarget (leaving (judged_by conditions star imports) text e l))

pub no_target_left : (conditions : List (List ℕ)) (imports : Bool) (text : List ℕ) → begins text (codes "./") ≡ false
    → names_package imports text ≡ false → IsReduced conditions imports (a_text text) InvalidTarget
no_target_left conditions imports text e n =
    invalid_left conditions imports (a_text text) (λ star. text_target text [] outcome.InvalidTarget (no_target e n))

-- ---- an object with a name that is an array index

by_config : (rules : Rules) (target : Json) → ResolvesTarget rules target [] outcome.InvalidConfig → (asked : List Call) (out : Outcome) → ResolvesTarget rules (an_object (a_member (codes "0") a_null no_members)) asked out → ResolvesTarget rules target asked out
unfolding is_array_index
by_config rules target is asked out (index_key _ e) = is
by_config rules target is asked out (object_target _ _ _ e r) = absurd (true≢false e)

config_defined : (rules : Rules) (asked : List Call) (out : Outcome) → ResolvesTarget rules (an_object (a_member (codes "0") a_null no_members)) asked out → is_undefined out ≡ false
unfolding is_array_index
config_defined rules asked out (index_key _ e) = refl
config_defined rules asked out (object_target _ _ _ e r) = absurd (true≢false e)

pub config_left : (conditions : List (List ℕ)) (imports : Bool) (members : Members) (made : Reduced) → has_index_key members ≡ true
    → shown made ≡ an_object (a_member (codes "0") a_null no_members) → IsReduced conditions imports (an_object members) made
config_left conditions imports members made e is = record {
  comes = λ star asked out r.
      by_config (judged_by conditions star imports) (an_object members) (index_key members e) asked out
      (subst (λ j. ResolvesTarget (judged_by conditions star imports) j asked out) is r);
  defined = λ some star asked out r.
      config_defined (judged_by conditions star imports) asked out
      (subst (λ j. ResolvesTarget (judged_by conditions star imports) j asked out) is r);
}

-- ---- items

behind_nothing : (out : Outcome) → last_of outcome.Undefined out ≡ out
behind_nothing outcome.Undefined = refl
behind_nothing outcome.Null = refl
behind_nothing (outcome.Place text) = refl
behind_nothing outcome.Bare = refl
behind_nothing outcome.Stopped = refl
behind_nothing outcome.InvalidTarget = refl
behind_nothing outcome.InvalidSpecifier = refl
behind_nothing outcome.InvalidConfig = refl

-- an item that comes to nothing
skipped : (rules : Rules) (item : Json) (more : Items) → ResolvesTarget rules item [] outcome.Undefined → (asked : List Call) (out : Outcome) → ResolvesItems rules more asked out → ResolvesItems rules (an_item item more) asked out
skipped rules item more is asked out r =
    subst (λ o. ResolvesItems rules (an_item item more) asked o) (behind_nothing out) (passed item more [] asked outcome.Undefined out is refl r)

-- an item behind which the list goes on, where what comes behind it isn't undefined
covered : (rules : Rules) (item : Json) (more : Items) (first : Outcome) → is_passed first ≡ true → ResolvesTarget rules item [] first → (asked : List Call) (out : Outcome) → is_undefined out ≡ false → ResolvesItems rules more asked out → ResolvesItems rules (an_item item more) asked out
covered rules item more first p is asked out d r =
    subst (λ o. ResolvesItems rules (an_item item more) asked o) (cond-false (is_undefined out) first out d) (passed item more [] asked first out is p r)

-- an item and those behind it, by what is left of them
item_follows : (rules : Rules) (item made : Json) (more rest : Items) → ((asked : List Call) (out : Outcome) → ResolvesTarget rules made asked out → ResolvesTarget rules item asked out) → ((asked : List Call) (out : Outcome) → ResolvesItems rules rest asked out → ResolvesItems rules more asked out) → (asked : List Call) (out : Outcome) → ResolvesItems rules (an_item made rest) asked out → ResolvesItems rules (an_item item more) asked out
item_follows rules item made more rest one others asked out (decided _ _ _ _ r d) = decided item more asked out (one asked out r) d
item_follows rules item made more rest one others asked out (passed _ _ front back first last r p s) =
    passed item more front back first last (one front first r) p (others back last s)

last_defined : (first last : Outcome) → is_undefined first ≡ false → is_undefined (last_of first last) ≡ false
last_defined first last d = cond_both (is_undefined last) first last (λ o. is_undefined o ≡ false) (λ none. d) (λ some. some)

item_is_defined : (rules : Rules) (made : Json) (rest : Items) → ((asked : List Call) (out : Outcome) → ResolvesTarget rules made asked out → is_undefined out ≡ false) → (asked : List Call) (out : Outcome) → ResolvesItems rules (an_item made rest) asked out → is_undefined out ≡ false
item_is_defined rules made rest is asked out (decided _ _ _ _ r d) = is asked out r
item_is_defined rules made rest is asked out (passed _ _ front back first last r p s) = last_defined first last (is front first r)

pub nothing_left : (conditions : List (List ℕ)) (imports : Bool) (left : Left) → left.first ≡ Undefined → left.back.items ≡ []
    → LeavesItems conditions imports no_items left
nothing_left conditions imports left e b = record {
  comes = λ star asked out r. subst (λ vs. ResolvesItems (judged_by conditions star imports) (items_from vs) asked out) (ap (λ m. left_in m left.back.items) e) r;
  defined = λ some. absurd (some e);
  none = λ f. b;
}

pub undefined_before : (conditions : List (List ℕ)) (imports : Bool) (item : Json) (more : Items) (left : Left)
    → IsReduced conditions imports item Undefined → LeavesItems conditions imports more left
    → LeavesItems conditions imports (an_item item more) left
undefined_before conditions imports item more left is rest = record {
  comes = λ star asked out r.
      skipped (judged_by conditions star imports) item more
      (is.comes star [] outcome.Undefined (undefined_target (judged_by conditions star imports))) asked out
      (rest.comes star asked out r);
  defined = rest.defined;
  none = rest.none;
}

passes : (rules : Rules) (item : Json) (made : Reduced) → IsPassed made → ((asked : List Call) (out : Outcome) → ResolvesTarget rules (shown made) asked out → ResolvesTarget rules item asked out) → (first : Outcome) × (is_passed first ≡ true) × ResolvesTarget rules item [] first
passes rules item made (inl e) comes = (outcome.Null, refl, comes [] outcome.Null (subst (λ m. ResolvesTarget rules (shown m) [] outcome.Null) (sym e) null_target))
passes rules item made (inr e) comes = (outcome.InvalidTarget, refl, comes [] outcome.InvalidTarget (subst (λ m. ResolvesTarget rules (shown m) [] outcome.InvalidTarget) (sym e) (bool_target false)))

pub passed_before : (conditions : List (List ℕ)) (imports : Bool) (item : Json) (more : Items) (left : Left) (made : Reduced)
    → IsPassed made → left.first ≢ Undefined → IsReduced conditions imports item made
    → LeavesItems conditions imports more left → LeavesItems conditions imports (an_item item more) left
passed_before conditions imports item more left made p some is rest = record {
  comes = λ star asked out r.
      let first = passes (judged_by conditions star imports) item made p (is.comes star) in
      covered (judged_by conditions star imports) item more first.0 first.1 first.2 asked out
      (rest.defined some star asked out r) (rest.comes star asked out r);
  defined = rest.defined;
  none = rest.none;
}

pub put_before : (conditions : List (List ℕ)) (imports : Bool) (item : Json) (more : Items) (left after : Left) (made : Reduced)
    → made ≢ Undefined → after.first ≡ made → left_of after ≡ shown made ∷ left_of left
    → IsReduced conditions imports item made → LeavesItems conditions imports more left
    → LeavesItems conditions imports (an_item item more) after
put_before conditions imports item more left after made some e there is rest = record {
  comes = λ star asked out r.
      item_follows (judged_by conditions star imports) item (shown made) more (items_from (left_of left)) (is.comes star)
      (rest.comes star) asked out
      (subst (λ vs. ResolvesItems (judged_by conditions star imports) (items_from vs) asked out) there r);
  defined = λ f star asked out r.
      item_is_defined (judged_by conditions star imports) (shown made) (items_from (left_of left)) (is.defined some star) asked out
      (subst (λ vs. ResolvesItems (judged_by conditions star imports) (items_from vs) asked out) there r);
  none = λ f. absurd (some (sym e ∙ f));
}

-- ---- a list, by the items that are left

one_item : (rules : Rules) (made : Json) (asked : List Call) (out : Outcome) → ResolvesTarget rules made asked out → ResolvesItems rules (an_item made no_items) asked out
one_item rules made asked out r =
    elim (cases_Bool (is_passed out)) [
      | inl p ↦ subst (λ a. ResolvesItems rules (an_item made no_items) a out) (append-nil asked) (passed made no_items asked [] out outcome.Undefined r p no_item)
      | inr d ↦ decided made no_items asked out r d
    ]

listed : (rules : Rules) (made : Json) (rest : Items) (asked : List Call) (out : Outcome) → ResolvesTarget rules (a_list (an_item made rest)) asked out → ResolvesItems rules (an_item made rest) asked out
listed rules made rest asked out (list_target _ _ _ _ r) = r

left_alone : (made : Reduced) → made ≢ Undefined → left_in made [] ≡ shown made ∷ []
left_alone Undefined some = absurd (some refl)
left_alone Null some = refl
left_alone InvalidTarget some = refl
left_alone (As value) some = refl

pub left_shown : (made : Reduced) (back : List Value) → made ≢ Undefined → left_in made back ≡ shown made ∷ map json_of (reverse back)
left_shown Undefined back some = absurd (some refl)
left_shown Null back some = refl
left_shown InvalidTarget back some = refl
left_shown (As value) back some = refl

pub none_whole : (conditions : List (List ℕ)) (imports : Bool) (item : Json) (more : Items) (left : Left)
    → left.first ≡ Undefined → LeavesItems conditions imports (an_item item more) left
    → IsReduced conditions imports (a_list (an_item item more)) Undefined
none_whole conditions imports item more left e rest =
    undefined_left conditions imports (a_list (an_item item more))
    (λ star. list_target item more [] outcome.Undefined
    (rest.comes star [] outcome.Undefined
    (subst (λ vs. ResolvesItems (judged_by conditions star imports) (items_from vs) [] outcome.Undefined) (sym (ap (λ m. left_in m left.back.items) e)) no_item)))

pub one_whole : (conditions : List (List ℕ)) (imports : Bool) (item : Json) (more : Items) (left : Left)
    → left.first ≢ Undefined → left.back.items ≡ [] → LeavesItems conditions imports (an_item item more) left
    → IsReduced conditions imports (a_list (an_item item more)) left.first
one_whole conditions imports item more left some b rest =
    let alone : left_of left ≡ shown left.first ∷ [] = ap (left_in left.first) b ∙ left_alone left.first some in
    record {
      comes = λ star asked out r. list_target item more asked out
          (rest.comes star asked out
          (subst (λ vs. ResolvesItems (judged_by conditions star imports) (items_from vs) asked out) (sym alone)
          (one_item (judged_by conditions star imports) (shown left.first) asked out r)));
      defined = λ f star asked out r. rest.defined some star asked out
          (subst (λ vs. ResolvesItems (judged_by conditions star imports) (items_from vs) asked out) (sym alone)
          (one_item (judged_by conditions star imports) (shown left.first) asked out r));
    }

pub many_whole : (conditions : List (List ℕ)) (imports : Bool) (item : Json) (more : Items) (left : Left) (value : Value)
    → left.first ≢ Undefined → json_of value ≡ a_list (items_from (left_of left))
    → LeavesItems conditions imports (an_item item more) left
    → IsReduced conditions imports (a_list (an_item item more)) (As value)
many_whole conditions imports item more left value some e rest = record {
  comes = λ star asked out r. list_target item more asked out
      (rest.comes star asked out (list_left (judged_by conditions star imports) left.first left.back.items some asked out
      (subst (λ j. ResolvesTarget (judged_by conditions star imports) j asked out) e r)));
  defined = λ f star asked out r. rest.defined some star asked out
      (list_left (judged_by conditions star imports) left.first left.back.items some asked out
      (subst (λ j. ResolvesTarget (judged_by conditions star imports) j asked out) e r));
}
  where
    list_left : (rules : Rules) (made : Reduced) (back : List Value) → made ≢ Undefined → (asked : List Call) (out : Outcome) → ResolvesTarget rules (a_list (items_from (left_in made back))) asked out → ResolvesItems rules (items_from (left_in made back)) asked out
    list_left rules Undefined back some asked out r = absurd (some refl)
    list_left rules Null back some asked out r = listed rules _ _ asked out r
    list_left rules InvalidTarget back some asked out r = listed rules _ _ asked out r
    list_left rules (As value) back some asked out r = listed rules _ _ asked out r

-- ---- members

pub untried_left : (conditions : List (List ℕ)) (imports : Bool) (key : List ℕ) (value : Json) → is_tried conditions key ≡ false
    → LeavesMember conditions imports key value Undefined
untried_left conditions imports key value e = record {
  tried = λ some. absurd (some refl);
  passed = λ f more star asked out r. untried key value more asked out e r;
}

pub tried_left : (conditions : List (List ℕ)) (imports : Bool) (key : List ℕ) (value : Json) (made : Reduced)
    → is_tried conditions key ≡ true → IsReduced conditions imports value made
    → LeavesMember conditions imports key value made
tried_left conditions imports key value made e is = record {
  tried = λ some. (e, is);
  passed = λ f more star asked out r.
      undefined key value more [] asked out e
      (is.comes star [] outcome.Undefined (subst (λ m. ResolvesTarget (judged_by conditions star imports) (shown m) [] outcome.Undefined) (sym f) (undefined_target (judged_by conditions star imports))))
      r;
}

pub member_whole : (conditions : List (List ℕ)) (imports : Bool) (all rest more : Members) (key : List ℕ) (value : Json) (made : Reduced)
    → has_index_key all ≡ false
    → Follows (λ rules. ResolvesMembers rules rest) (λ rules. ResolvesMembers rules all) conditions imports
    → rest ≡ a_member key value more → made ≢ Undefined → LeavesMember conditions imports key value made
    → IsReduced conditions imports (an_object all) made
member_whole conditions imports all rest more key value made e follows split some is =
    let taken = is.tried some in
    record {
      comes = λ star asked out r. object_target all asked out e
          (follows star asked out (subst (λ ms. ResolvesMembers (judged_by conditions star imports) ms asked out) (sym split)
          (defined key value more asked out taken.0 (taken.1.comes star asked out r) (taken.1.defined some star asked out r))));
      defined = λ f. taken.1.defined some;
    }

pub members_end : (conditions : List (List ℕ)) (imports : Bool) (all rest : Members) → has_index_key all ≡ false
    → Follows (λ rules. ResolvesMembers rules rest) (λ rules. ResolvesMembers rules all) conditions imports
    → rest ≡ no_members → IsReduced conditions imports (an_object all) Undefined
members_end conditions imports all rest e follows none =
    undefined_left conditions imports (an_object all)
    (λ star. object_target all [] outcome.Undefined e
    (follows star [] outcome.Undefined (subst (λ ms. ResolvesMembers (judged_by conditions star imports) ms [] outcome.Undefined) (sym none) no_member)))

pub member_passed : (conditions : List (List ℕ)) (imports : Bool) (all rest more : Members) (key : List ℕ) (value : Json) (made : Reduced)
    → Follows (λ rules. ResolvesMembers rules rest) (λ rules. ResolvesMembers rules all) conditions imports
    → rest ≡ a_member key value more → made ≡ Undefined → LeavesMember conditions imports key value made
    → Follows (λ rules. ResolvesMembers rules more) (λ rules. ResolvesMembers rules all) conditions imports
member_passed conditions imports all rest more key value made follows split none is =
    λ star asked out r. follows star asked out
    (subst (λ ms. ResolvesMembers (judged_by conditions star imports) ms asked out) (sym split) (is.passed none more star asked out r))

-- ---- the steps of a list

is_first : (made : Reduced) → (made ≡ Undefined) ⊎ (made ≢ Undefined)
is_first Undefined = inl refl
is_first Null = inr (λ e. cc)
is_first InvalidTarget = inr (λ e. cc)
is_first (As value) = inr (λ e. cc)

pub some_passed : (made : Reduced) → IsPassed made → made ≢ Undefined
some_passed made (inl e) = λ f. (let g : Null ≡ Undefined = sym e ∙ f in cc)
some_passed made (inr e) = λ f. (let g : InvalidTarget ≡ Undefined = sym e ∙ f in cc)

pub puts_as : {E : Type 0} (made other : Reduced) (left : Left) (result : Result Left E) → made ≡ other
    → IfOk result (PutsItem other left) → IfOk result (PutsItem made left)
puts_as made other left result e puts = subst (λ m. IfOk result (PutsItem m left)) (sym e) puts

pub puts_front : (made : Reduced) (left after : Left) → made ≢ Undefined → after.first ≡ made
    → ((left.first ≡ Undefined → left.back.items ≡ []) → map json_of (reverse after.back.items) ≡ left_in left.first left.back.items)
    → PutsItem made left after
puts_front made left after some e there = λ conditions imports item more is rest.
    put_before conditions imports item more left after made some e
    (ap (λ m. left_in m after.back.items) e ∙ (left_shown made after.back.items some ∙ ap (λ vs. shown made ∷ vs) (there rest.none)))
    is rest

pub puts_none : (made : Reduced) (left : Left) → made ≡ Undefined → PutsItem made left left
puts_none made left e = λ conditions imports item more is rest.
    undefined_before conditions imports item more left (subst (IsReduced conditions imports item) e is) rest

pub puts_passed : (made : Reduced) (left : Left) → IsPassed made → left.first ≢ Undefined → PutsItem made left left
puts_passed made left p some = λ conditions imports item more is rest.
    passed_before conditions imports item more left made p some is rest

pub first_whole : (left : Left) → left.back.items ≡ [] → IsWhole left left.first
first_whole left b = λ conditions imports item more rest.
    elim (is_first left.first) [
      | inl e ↦ subst (IsReduced conditions imports (a_list (an_item item more))) (sym e) (none_whole conditions imports item more left e rest)
      | inr some ↦ one_whole conditions imports item more left some b rest
    ]

pub back_whole : (left : Left) (value : Value) → left.back.items ≢ []
    → ((left.first ≡ Undefined → left.back.items ≡ []) → json_of value ≡ a_list (items_from (left_of left)))
    → IsWhole left (As value)
back_whole left value some e = λ conditions imports item more rest.
    many_whole conditions imports item more left value (λ f. some (rest.none f)) (e rest.none) rest

pub turned_back : (back : List Value) (value : Value)
    → map json_of (reverse (back ++ value ∷ [])) ≡ json_of value ∷ map json_of (reverse back)
turned_back back value = ap (map json_of) (reverse-append back (value ∷ []))

pub behind_none : (first : Reduced) (back : List Value) → first ≡ Undefined → back ≡ []
    → map json_of (reverse back) ≡ left_in first back
behind_none first back e b = ap (λ vs. map json_of (reverse vs)) b ∙ sym (ap (λ m. left_in m back) e)

pub behind_some : (made first : Reduced) (value : Value) (all back : List Value) → first ≡ made → made ≢ Undefined
    → json_of value ≡ shown made → map json_of (reverse all) ≡ json_of value ∷ map json_of (reverse back)
    → map json_of (reverse all) ≡ left_in first back
behind_some made first value all back e some is put =
    put ∙ (ap (λ j. j ∷ map json_of (reverse back)) is ∙ (sym (left_shown made back some) ∙ sym (ap (λ m. left_in m back) e)))

-- ---- a value by its kind

module _ (conditions : List (List ℕ)) (imports : Bool) where
  pub value_null : (v : Value) → v ≡ value.Null → IsReduced conditions imports (json_of v) Null
  value_null v e =
      subst (λ j. IsReduced conditions imports j Null) (sym (ap json_of e ∙ json_of_null))
      (null_left conditions imports a_null (λ star. null_target))

  pub value_bool : (v : Value) (b : Bool) → v ≡ value.Bool b → IsReduced conditions imports (json_of v) InvalidTarget
  value_bool v b e =
      subst (λ j. IsReduced conditions imports j InvalidTarget) (sym (ap json_of e ∙ json_of_bool b))
      (invalid_left conditions imports (a_bool b) (λ star. bool_target b))

  pub value_number : (v : Value) (number : List ℕ) → v ≡ value.Number number → IsReduced conditions imports (json_of v) InvalidTarget
  value_number v number e =
      subst (λ j. IsReduced conditions imports j InvalidTarget) (sym (ap json_of e ∙ json_of_number number))
      (invalid_left conditions imports (a_number number) (λ star. number_target number))

  pub value_text : {E : Type 0} (v : Value) (text : List ℕ) (result : Result Reduced E) → v ≡ value.Text text
      → IfOk result (λ made. (cs : List (List ℕ)) → IsReduced cs imports (a_text text) made)
      → IfOk result (IsReduced conditions imports (json_of v))
  value_text v text (Ok made) e is = subst (λ j. IsReduced conditions imports j made) (sym (ap json_of e ∙ json_of_text text)) (is conditions)
  value_text v text (Err fault) e is = tt

  pub value_empty : (v : Value) (items : code.Items) → v ≡ value.List items → length (values_of items) ≡ 0
      → IsReduced conditions imports (json_of v) Null
  value_empty v items e none =
      subst (λ j. IsReduced conditions imports j Null)
      (sym (ap json_of e ∙ (json_of_list items ∙ ap (λ vs. a_list (items_of vs)) (nil_from_length (values_of items) none))))
      (null_left conditions imports (a_list no_items) (λ star. empty_list))

  pub value_list : {E : Type 0} (v : Value) (items : code.Items) (result : Result Reduced E) → v ≡ value.List items
      → IfOk result (IsReduced conditions imports (a_list (items_of (values_of items))))
      → IfOk result (IsReduced conditions imports (json_of v))
  value_list v items result e is =
      subst (λ j. IfOk result (IsReduced conditions imports j)) (sym (ap json_of e ∙ json_of_list items)) is

  pub value_config : {E : Type 0} (v : Value) (members : code_members.Members) (result : Result Reduced E) → v ≡ value.Object members
      → has_index_key (members_of (pairs_of members)) ≡ true
      → IfOk result (λ made. shown made ≡ an_object (a_member (codes "0") a_null no_members))
      → IfOk result (IsReduced conditions imports (json_of v))
  value_config v members (Ok made) e has is =
      subst (λ j. IsReduced conditions imports j made) (sym (ap json_of e ∙ json_of_object members))
      (config_left conditions imports (members_of (pairs_of members)) made has is)
  value_config v members (Err fault) e has is = tt

  pub value_object : {E : Type 0} (v : Value) (members : code_members.Members) (result : Result Reduced E) → v ≡ value.Object members
      → IfOk result (IsReduced conditions imports (an_object (members_of (pairs_of members))))
      → IfOk result (IsReduced conditions imports (json_of v))
  value_object v members result e is =
      subst (λ j. IfOk result (IsReduced conditions imports j)) (sym (ap json_of e ∙ json_of_object members)) is

  -- ---- the loops

  pub none_gone : (values : List Value) (index : ℕ) (left : Left) → index ≡ length values → left.first ≡ Undefined → left.back.items ≡ []
      → LeavesItems conditions imports (items_of (drop index values)) left
  none_gone values index left i e b =
      subst (λ vs. LeavesItems conditions imports (items_of vs) left) (sym (drop_all index values (omega (arith, i))))
      (nothing_left conditions imports left e b)

  pub item_gone : (values : List Value) (index at : ℕ) (item : Value) (left after : Left) (made : Reduced) → at + 1 ≡ index
      → drop at values ≡ item ∷ drop (at + 1) values → PutsItem made left after
      → IsReduced conditions imports (json_of item) made → LeavesItems conditions imports (items_of (drop index values)) left
      → LeavesItems conditions imports (items_of (drop at values)) after
  item_gone values index at item left after made i split puts is rest =
      subst (λ vs. LeavesItems conditions imports (items_of vs) after) (sym split)
      (puts conditions imports (json_of item) (items_of (drop (at + 1) values)) is
      (subst (λ k. LeavesItems conditions imports (items_of (drop k values)) left) (sym i) rest))

  pub all_gone : {E : Type 0} (values : List Value) (index : ℕ) (left : Left) (result : Result Reduced E) → length values ≢ 0
      → index ≡ 0 → LeavesItems conditions imports (items_of (drop index values)) left → IfOk result (IsWhole left)
      → IfOk result (IsReduced conditions imports (a_list (items_of values)))
  all_gone [] index left result some i rest is = absurd (some refl)
  all_gone (v ∷ values) index left (Ok made) some i rest is =
      is conditions imports (json_of v) (items_of values)
      (subst (λ k. LeavesItems conditions imports (items_of (drop k (v ∷ values))) left) i rest)
  all_gone (v ∷ values) index left (Err fault) some i rest is = tt

  pub tried_value : {E : Type 0} (key : List ℕ) (given : Json) (result : Result Reduced E) → is_tried conditions key ≡ true
      → IfOk result (IsReduced conditions imports given) → IfOk result (LeavesMember conditions imports key given)
  tried_value key given (Ok made) e is = tried_left conditions imports key given made e is
  tried_value key given (Err fault) e is = tt
