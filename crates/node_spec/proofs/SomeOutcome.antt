-- What a target comes to under answers that a function gives: a way to compute it, and that each target comes to something.
use Rattle.std.proofs.Common.{subst}
use Rattle.std.proofs.lemmas.Bool.{cond_both}
use Rattle.std.specs.Prelude.{List, [], ◌++◌, ℕ, ◌∷◌, codes, if◌then◌else◌, ◌≡◌, true, refl}
use Rattle.json_spec.specs.Value.{Json, a_null, a_bool, a_number, a_text, a_list, an_object, Items, no_items, an_item, Members, no_members, a_member}
use Rattle.url_spec.specs.Specifiers.{begins}
use Rattle.node_spec.specs.BareCalls.{Tells}
use Rattle.node_spec.specs.Laws.{SomeOutcome}
use Rattle.node_spec.specs.PackageTargets.{Call, bare_outcome, Rules, own_outcome, names_package, with_match, is_undefined, is_passed, last_of, has_index_key, is_tried, ResolvesText, ResolvesTarget, ResolvesItems, ResolvesMembers}
use Rattle.node_spec.specs.PackageTargets.ResolvesItems.{decided, passed, no_item}
use Rattle.node_spec.specs.PackageTargets.ResolvesMembers.{defined, undefined, no_member, untried}
use Rattle.node_spec.specs.PackageTargets.ResolvesTarget.{text_target, index_key, object_target, empty_list, list_target, null_target, bool_target, number_target}
use Rattle.node_spec.specs.PackageTargets.ResolvesText.{own_place, bare, no_target}
use Rattle.node_spec.specs.declared.BareAnswer.{BareAnswer}
use Rattle.node_spec.specs.declared.Outcome.{Outcome}
use Rattle.node_spec.specs.declared.Outcome.TheVariants.{InvalidTarget, Undefined, Null, InvalidConfig, Place, Bare, Stopped, InvalidSpecifier}

-- the calls, and the outcome
pub record CallsAndOutcome : Type 0 where
  pub asked : List Call
  pub out : Outcome

abbrev pub with_no_call : Outcome → CallsAndOutcome
with_no_call out = record { asked = []; out = out }

abbrev pub calls_joined : CallsAndOutcome → CallsAndOutcome → Outcome → CallsAndOutcome
calls_joined first rest out = record { asked = first.asked ++ rest.asked; out = out }

abbrev pub found_once : List ℕ → BareAnswer → CallsAndOutcome
found_once text answer = record { asked = (text, answer) ∷ []; out = bare_outcome answer }

abbrev pub found_text : (List ℕ → BareAnswer) → Rules → List ℕ → CallsAndOutcome
found_text answer rules target =
    if begins target (codes "./") then with_no_call (own_outcome rules.pattern_match target)
    else if names_package rules.is_imports target then found_once (with_match rules.pattern_match target) (answer (with_match rules.pattern_match target))
    else with_no_call InvalidTarget

abbrev pub found_first : CallsAndOutcome → CallsAndOutcome → CallsAndOutcome
found_first first rest = if is_undefined first.out then calls_joined first rest rest.out else first

abbrev pub found_last : CallsAndOutcome → CallsAndOutcome → CallsAndOutcome
found_last first rest = if is_passed first.out then calls_joined first rest (last_of first.out rest.out) else first

abbrev mutual
  pub found : (List ℕ → BareAnswer) → Rules → Json → CallsAndOutcome
  found answer rules a_null = with_no_call Null
  found answer rules (a_bool b) = with_no_call InvalidTarget
  found answer rules (a_number number) = with_no_call InvalidTarget
  found answer rules (a_text text) = found_text answer rules text
  found answer rules (a_list no_items) = with_no_call Null
  found answer rules (a_list (an_item item more)) = found_last (found answer rules item) (found_items answer rules more)
  found answer rules (an_object members) = if has_index_key members then with_no_call InvalidConfig else found_members answer rules members

  pub found_items : (List ℕ → BareAnswer) → Rules → Items → CallsAndOutcome
  found_items answer rules no_items = with_no_call Undefined
  found_items answer rules (an_item item more) = found_last (found answer rules item) (found_items answer rules more)

  pub found_members : (List ℕ → BareAnswer) → Rules → Members → CallsAndOutcome
  found_members answer rules no_members = with_no_call Undefined
  found_members answer rules (a_member key value more) =
      if is_tried rules.conditions key then found_first (found answer rules value) (found_members answer rules more) else found_members answer rules more

-- ---- it is what the target comes to

pub undefined_from : (out : Outcome) → is_undefined out ≡ true → out ≡ Undefined
undefined_from Undefined e = refl
undefined_from Null e = absurd (cc)
undefined_from (Place text) e = absurd (cc)
undefined_from Bare e = absurd (cc)
undefined_from Stopped e = absurd (cc)
undefined_from InvalidTarget e = absurd (cc)
undefined_from InvalidSpecifier e = absurd (cc)
undefined_from InvalidConfig e = absurd (cc)

pub text_found : (answer : List ℕ → BareAnswer) (rules : Rules) (target : List ℕ) → ResolvesText rules target (found_text answer rules target).asked (found_text answer rules target).out
text_found answer rules target =
    cond_both (begins target (codes "./")) _ _ (λ (f : CallsAndOutcome). ResolvesText rules target f.asked f.out) (λ e. own_place e)
    (λ e. cond_both (names_package rules.is_imports target) _ _ (λ (f : CallsAndOutcome). ResolvesText rules target f.asked f.out) (λ n. bare (answer (with_match rules.pattern_match target)) e n) (λ n. no_target e n))

item_found : (rules : Rules) (item : Json) (more : Items) (first rest : CallsAndOutcome) → ResolvesTarget rules item first.asked first.out → ResolvesItems rules more rest.asked rest.out → ResolvesItems rules (an_item item more) (found_last first rest).asked (found_last first rest).out
item_found rules item more first rest r s =
    cond_both (is_passed first.out) _ _ (λ (f : CallsAndOutcome). ResolvesItems rules (an_item item more) f.asked f.out) (λ p. passed item more first.asked rest.asked first.out rest.out r p s) (λ p. decided item more first.asked first.out r p)

member_found : (rules : Rules) (key : List ℕ) (value : Json) (more : Members) (first rest : CallsAndOutcome) → is_tried rules.conditions key ≡ true → ResolvesTarget rules value first.asked first.out → ResolvesMembers rules more rest.asked rest.out → ResolvesMembers rules (a_member key value more) (found_first first rest).asked (found_first first rest).out
member_found rules key value more first rest t r s =
    cond_both (is_undefined first.out) _ _ (λ (f : CallsAndOutcome). ResolvesMembers rules (a_member key value more) f.asked f.out)
    (λ u. undefined key value more first.asked rest.asked rest.out t (subst (λ o. ResolvesTarget rules value first.asked o) (undefined_from first.out u) r) s) (λ u. defined key value more first.asked first.out t r u)

mutual
  pub sound : (answer : List ℕ → BareAnswer) (rules : Rules) (target : Json) → ResolvesTarget rules target (found answer rules target).asked (found answer rules target).out
  sound answer rules a_null = null_target
  sound answer rules (a_bool b) = bool_target b
  sound answer rules (a_number number) = number_target number
  sound answer rules (a_text text) = text_target text _ _ (text_found answer rules text)
  sound answer rules (a_list no_items) = empty_list
  sound answer rules (a_list (an_item item more)) = list_target item more _ _ (item_found rules item more (found answer rules item) (found_items answer rules more) (sound answer rules item) (sound_items answer rules more))
  sound answer rules (an_object ms) =
      cond_both (has_index_key ms) _ _ (λ (f : CallsAndOutcome). ResolvesTarget rules (an_object ms) f.asked f.out) (λ e. index_key ms e) (λ e. object_target ms _ _ e (sound_members answer rules ms))

  pub sound_items : (answer : List ℕ → BareAnswer) (rules : Rules) (vs : Items) → ResolvesItems rules vs (found_items answer rules vs).asked (found_items answer rules vs).out
  sound_items answer rules no_items = no_item
  sound_items answer rules (an_item item more) = item_found rules item more (found answer rules item) (found_items answer rules more) (sound answer rules item) (sound_items answer rules more)

  pub sound_members : (answer : List ℕ → BareAnswer) (rules : Rules) (ms : Members) → ResolvesMembers rules ms (found_members answer rules ms).asked (found_members answer rules ms).out
  sound_members answer rules no_members = no_member
  sound_members answer rules (a_member key value more) =
      cond_both (is_tried rules.conditions key) _ _ (λ (f : CallsAndOutcome). ResolvesMembers rules (a_member key value more) f.asked f.out)
      (λ t. member_found rules key value more (found answer rules value) (found_members answer rules more) t (sound answer rules value) (sound_members answer rules more))
      (λ t. untried key value more _ _ t (sound_members answer rules more))

tells_both : (answer : List ℕ → BareAnswer) (front back : List Call) → Tells answer front → Tells answer back → Tells answer (front ++ back)
tells_both answer [] back t u = u
tells_both answer (call ∷ front) back t u = (t.0, tells_both answer front back t.1 u)

told_last : (answer : List ℕ → BareAnswer) (first rest : CallsAndOutcome) → Tells answer first.asked → Tells answer rest.asked → Tells answer (found_last first rest).asked
told_last answer first rest t u = cond_both (is_passed first.out) _ _ (λ (f : CallsAndOutcome). Tells answer f.asked) (λ e. tells_both answer first.asked rest.asked t u) (λ e. t)

told_first : (answer : List ℕ → BareAnswer) (first rest : CallsAndOutcome) → Tells answer first.asked → Tells answer rest.asked → Tells answer (found_first first rest).asked
told_first answer first rest t u = cond_both (is_undefined first.out) _ _ (λ (f : CallsAndOutcome). Tells answer f.asked) (λ e. tells_both answer first.asked rest.asked t u) (λ e. t)

mutual
  pub told : (answer : List ℕ → BareAnswer) (rules : Rules) (target : Json) → Tells answer (found answer rules target).asked
  told answer rules a_null = tt
  told answer rules (a_bool b) = tt
  told answer rules (a_number number) = tt
  told answer rules (a_text text) =
      cond_both (begins text (codes "./")) _ _ (λ (f : CallsAndOutcome). Tells answer f.asked) (λ e. tt) (λ e. cond_both (names_package rules.is_imports text) _ _ (λ (f : CallsAndOutcome). Tells answer f.asked) (λ n. (refl, tt)) (λ n. tt))
  told answer rules (a_list no_items) = tt
  told answer rules (a_list (an_item item more)) = told_last answer (found answer rules item) (found_items answer rules more) (told answer rules item) (told_items answer rules more)
  told answer rules (an_object ms) = cond_both (has_index_key ms) _ _ (λ (f : CallsAndOutcome). Tells answer f.asked) (λ e. tt) (λ e. told_members answer rules ms)

  told_items : (answer : List ℕ → BareAnswer) (rules : Rules) (vs : Items) → Tells answer (found_items answer rules vs).asked
  told_items answer rules no_items = tt
  told_items answer rules (an_item item more) = told_last answer (found answer rules item) (found_items answer rules more) (told answer rules item) (told_items answer rules more)

  told_members : (answer : List ℕ → BareAnswer) (rules : Rules) (ms : Members) → Tells answer (found_members answer rules ms).asked
  told_members answer rules no_members = tt
  told_members answer rules (a_member key value more) =
      cond_both (is_tried rules.conditions key) _ _ (λ (f : CallsAndOutcome). Tells answer f.asked)
      (λ t. told_first answer (found answer rules value) (found_members answer rules more) (told answer rules value) (told_members answer rules more)) (λ t. told_members answer rules more)

pub some_outcome : SomeOutcome
some_outcome answer rules target = let f = found answer rules target in (f.asked, f.out, sound answer rules target, told answer rules target)
