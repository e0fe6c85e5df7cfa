-- What a target comes to where each answer may depend on what was asked and answered before it.
use Rattle.std.proofs.Common.{◌≡◌, ◌++◌, ℕ, true, List, [], ◌∷◌, refl, sym, subst, append_assoc}
use Rattle.std.proofs.lemmas.Bool.{cases_Bool}
use Rattle.std.proofs.lemmas.List.{append-nil}
use Rattle.std.specs.Prelude.{codes}
use mathlib.Core.Logic.{inl, inr}
use Rattle.json_spec.specs.Value.{Json, a_null, a_bool, a_number, a_text, a_list, an_object, Items, no_items, an_item, Members, no_members, a_member}
use Rattle.url_spec.specs.Specifiers.{begins}
use Rattle.node_spec.proofs.SomeOutcome.{undefined_from}
use Rattle.node_spec.specs.BareCalls.{AnswersBehind, TellsBehind}
use Rattle.node_spec.specs.Laws.{SomeOutcomeInTurn}
use Rattle.node_spec.specs.PackageTargets.{Rules, Call, names_package, with_match, own_outcome, bare_outcome, ResolvesText, has_index_key, is_tried, is_undefined, is_passed, last_of, ResolvesTarget, ResolvesMembers, ResolvesItems}
use Rattle.node_spec.specs.PackageTargets.ResolvesItems.{no_item, decided, passed}
use Rattle.node_spec.specs.PackageTargets.ResolvesMembers.{no_member, untried, defined, undefined}
use Rattle.node_spec.specs.PackageTargets.ResolvesTarget.{text_target, index_key, object_target, empty_list, list_target, null_target, bool_target, number_target}
use Rattle.node_spec.specs.PackageTargets.ResolvesText.{own_place, bare, no_target}
use Rattle.node_spec.specs.declared.BareAnswer.{BareAnswer}
use Rattle.node_spec.specs.declared.Outcome.{Outcome}
use Rattle.node_spec.specs.declared.Outcome.TheVariants.{Undefined, Null, InvalidTarget, InvalidConfig}

module _ (answer : AnswersBehind) (rules : Rules) where
  tells_behind_both : (before front back : List Call) → TellsBehind answer before front → TellsBehind answer (before ++ front) back → TellsBehind answer before (front ++ back)
  tells_behind_both before [] back t u = subst (λ calls. TellsBehind answer calls back) (append-nil before) u
  tells_behind_both before (call ∷ front) back t u =
      (t.0, tells_behind_both (before ++ call ∷ []) front back t.1 (subst (λ calls. TellsBehind answer calls back) (sym (append_assoc before (call ∷ []) front)) u))

  -- it comes to some outcome, behind these calls
  record ComesInTurn (Is : List Call → Outcome → Type 0) (before : List Call) : Type 0 where
    asked : List Call
    out : Outcome
    is : Is asked out
    tells : TellsBehind answer before asked

  silently : (Is : List Call → Outcome → Type 0) (before : List Call) (out : Outcome) → Is [] out → ComesInTurn Is before
  silently Is before out is = record { asked = []; out = out; is = is; tells = tt }

  comes_as : (Is Other : List Call → Outcome → Type 0) (before : List Call) → ((asked : List Call) (out : Outcome) → Is asked out → Other asked out) → ComesInTurn Is before → ComesInTurn Other before
  comes_as Is Other before turn c = record { asked = c.asked; out = c.out; is = turn c.asked c.out c.is; tells = c.tells }

  text_comes : (before : List Call) (text : List ℕ) → ComesInTurn (ResolvesText rules text) before
  text_comes before text =
      elim (cases_Bool (begins text (codes "./"))) [
        | inl e ↦ silently (ResolvesText rules text) before (own_outcome rules.pattern_match text) (own_place e)
        | inr e ↦ elim (cases_Bool (names_package rules.is_imports text)) [
          | inl n ↦ (let given : BareAnswer = answer before (with_match rules.pattern_match text) in record { asked = (with_match rules.pattern_match text, given) ∷ []; out = bare_outcome given; is = bare given e n; tells = (refl, tt) })
          | inr n ↦ silently (ResolvesText rules text) before InvalidTarget (no_target e n)
        ]
      ]

  item_comes : (before : List Call) (item : Json) (more : Items) → ComesInTurn (ResolvesTarget rules item) before → ((later : List Call) → ComesInTurn (ResolvesItems rules more) later) → ComesInTurn (ResolvesItems rules (an_item item more)) before
  item_comes before item more first behind =
      elim (cases_Bool (is_passed first.out)) [
        | inl p ↦ (let rest = behind (before ++ first.asked) in record { asked = first.asked ++ rest.asked; out = last_of first.out rest.out; is = passed item more first.asked rest.asked first.out rest.out first.is p rest.is; tells = tells_behind_both before first.asked rest.asked first.tells rest.tells })
        | inr d ↦ record { asked = first.asked; out = first.out; is = decided item more first.asked first.out first.is d; tells = first.tells }
      ]

  tried_comes : (before : List Call) (key : List ℕ) (value : Json) (more : Members) → is_tried rules.conditions key ≡ true → ComesInTurn (ResolvesTarget rules value) before → ((later : List Call) → ComesInTurn (ResolvesMembers rules more) later) → ComesInTurn (ResolvesMembers rules (a_member key value more)) before
  tried_comes before key value more t first behind =
      elim (cases_Bool (is_undefined first.out)) [
        | inl u ↦ (let rest = behind (before ++ first.asked) in record { asked = first.asked ++ rest.asked; out = rest.out; is = undefined key value more first.asked rest.asked rest.out t (subst (λ o. ResolvesTarget rules value first.asked o) (undefined_from first.out u) first.is) rest.is; tells = tells_behind_both before first.asked rest.asked first.tells rest.tells })
        | inr d ↦ record { asked = first.asked; out = first.out; is = defined key value more first.asked first.out t first.is d; tells = first.tells }
      ]

  mutual
    comes : (before : List Call) (target : Json) → ComesInTurn (ResolvesTarget rules target) before
    comes before a_null = silently (ResolvesTarget rules a_null) before Null null_target
    comes before (a_bool b) = silently (ResolvesTarget rules (a_bool b)) before InvalidTarget (bool_target b)
    comes before (a_number number) = silently (ResolvesTarget rules (a_number number)) before InvalidTarget (number_target number)
    comes before (a_text text) = comes_as (ResolvesText rules text) (ResolvesTarget rules (a_text text)) before (λ asked out r. text_target text asked out r) (text_comes before text)
    comes before (a_list no_items) = silently (ResolvesTarget rules (a_list no_items)) before Null empty_list
    comes before (a_list (an_item item more)) =
        comes_as (ResolvesItems rules (an_item item more)) (ResolvesTarget rules (a_list (an_item item more))) before (λ asked out r. list_target item more asked out r)
        (item_comes before item more (comes before item) (λ later. items_come later more))
    comes before (an_object ms) =
        elim (cases_Bool (has_index_key ms)) [
          | inl e ↦ silently (ResolvesTarget rules (an_object ms)) before InvalidConfig (index_key ms e)
          | inr e ↦ comes_as (ResolvesMembers rules ms) (ResolvesTarget rules (an_object ms)) before (λ asked out r. object_target ms asked out e r) (members_come before ms)
        ]

    items_come : (before : List Call) (vs : Items) → ComesInTurn (ResolvesItems rules vs) before
    items_come before no_items = silently (ResolvesItems rules no_items) before Undefined no_item
    items_come before (an_item item more) = item_comes before item more (comes before item) (λ later. items_come later more)

    members_come : (before : List Call) (ms : Members) → ComesInTurn (ResolvesMembers rules ms) before
    members_come before no_members = silently (ResolvesMembers rules no_members) before Undefined no_member
    members_come before (a_member key value more) =
        elim (cases_Bool (is_tried rules.conditions key)) [
          | inl t ↦ tried_comes before key value more t (comes before value) (λ later. members_come later more)
          | inr t ↦ comes_as (ResolvesMembers rules more) (ResolvesMembers rules (a_member key value more)) before (λ asked out r. untried key value more asked out t r) (members_come before more)
        ]

pub some_outcome_in_turn : SomeOutcomeInTurn
some_outcome_in_turn answer rules target = let c = comes answer rules [] target in (c.asked, c.out, c.is, c.tells)
