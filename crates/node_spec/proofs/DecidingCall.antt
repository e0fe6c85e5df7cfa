-- The deciding call is the last one, and exports make none.
use Rattle.std.specs.Prelude.{◌≡◌, ◌≢◌, ℕ, Bool, true, false, List, [], ◌∷◌, ◌++◌, Option, All}
use Rattle.std.proofs.Common.{refl, sym, ◌∙◌, subst, append_assoc}
use Rattle.std.proofs.lemmas.Bool.{cond-true, cond-false, cond_both, cases_Bool, and_parts, true≢false}
use Rattle.std.proofs.lemmas.List.Elements.{All-nil, All-cons, All-append}
use mathlib.Core.Logic.{inl, inr}
use Rattle.json_spec.specs.Value.{Json, Items, Members}
use Rattle.node_spec.specs.declared.BareAnswer.TheVariants as bare_answer
use Rattle.node_spec.specs.declared.Outcome.{Outcome}
use Rattle.node_spec.specs.declared.Outcome.TheVariants.{Undefined, Null, Place, Bare, Stopped, InvalidTarget, InvalidSpecifier, InvalidConfig}
use Rattle.node_spec.specs.PackageTargets.{Rules, Call, leaves_package, is_invalid_match, with_match, own_outcome, names_package, ResolvesText, is_undefined, is_passed, last_of, ResolvesTarget, ResolvesMembers, ResolvesItems}
use Rattle.node_spec.specs.PackageTargets.ResolvesText.{own_place, bare, no_target}
use Rattle.node_spec.specs.PackageTargets.ResolvesTarget.{text_target, index_key, object_target, empty_list, list_target, null_target, bool_target, number_target}
use Rattle.node_spec.specs.PackageTargets.ResolvesMembers.{no_member, untried, defined, undefined}
use Rattle.node_spec.specs.PackageTargets.ResolvesItems.{no_item, decided, passed}
use Rattle.node_spec.specs.BareCalls.{WasInvalid, IsDecided, by_found, by_stop, by_target}
use Rattle.node_spec.specs.Laws.{DecidingCallIsLast, ExportsAskNothing}

-- an outcome that no call decides
abbrev IsOwn : Outcome → Type 0
IsOwn out = (out ≢ Bare) × (out ≢ Stopped)

null_own : IsOwn Null
null_own = ((λ e. cc), (λ e. cc))

undefined_own : IsOwn Undefined
undefined_own = ((λ e. cc), (λ e. cc))

invalid_own : IsOwn InvalidTarget
invalid_own = ((λ e. cc), (λ e. cc))

config_own : IsOwn InvalidConfig
config_own = ((λ e. cc), (λ e. cc))

specifier_own : IsOwn InvalidSpecifier
specifier_own = ((λ e. cc), (λ e. cc))

place_own : (text : List ℕ) → IsOwn (Place text)
place_own text = ((λ e. cc), (λ e. cc))

own_is_own : (part : Option (List ℕ)) (target : List ℕ) → IsOwn (own_outcome part target)
own_is_own part target =
    cond_both (leaves_package target) _ _ IsOwn (λ leaves. invalid_own) (λ stays. cond_both (is_invalid_match part) _ _ IsOwn (λ invalid. specifier_own) (λ valid. place_own (with_match part target)))

own_decided : (out : Outcome) → IsOwn out → IsDecided [] out
own_decided out is = by_target [] out (All-nil WasInvalid) is.0 is.1

-- ---- the deciding call

text_decided : (rules : Rules) (target : List ℕ) (asked : List Call) (out : Outcome) → ResolvesText rules target asked out → IsDecided asked out
text_decided rules target asked out (own_place e) = own_decided out (own_is_own rules.pattern_match target)
text_decided rules target asked out (bare bare_answer.Found e n) = by_found [] (with_match rules.pattern_match target) (All-nil WasInvalid)
text_decided rules target asked out (bare bare_answer.Stop e n) = by_stop [] (with_match rules.pattern_match target) (All-nil WasInvalid)
text_decided rules target asked out (bare bare_answer.InvalidTarget e n) =
    by_target ((with_match rules.pattern_match target, bare_answer.InvalidTarget) ∷ []) InvalidTarget (All-cons WasInvalid _ [] refl (All-nil WasInvalid)) invalid_own.0 invalid_own.1
text_decided rules target asked out (no_target e n) = own_decided InvalidTarget invalid_own

passed_own : (out : Outcome) → is_passed out ≡ true → IsOwn out
passed_own Undefined e = undefined_own
passed_own Null e = null_own
passed_own InvalidTarget e = invalid_own
passed_own (Place text) e = absurd (true≢false (sym e))
passed_own Bare e = absurd (true≢false (sym e))
passed_own Stopped e = absurd (true≢false (sym e))
passed_own InvalidSpecifier e = absurd (true≢false (sym e))
passed_own InvalidConfig e = absurd (true≢false (sym e))

passed_calls : (asked : List Call) (out : Outcome) → is_passed out ≡ true → IsDecided asked out → All WasInvalid asked
passed_calls asked out e (by_found before text all) = absurd (true≢false (sym e))
passed_calls asked out e (by_stop before text all) = absurd (true≢false (sym e))
passed_calls asked out e (by_target _ _ all not_bare not_stopped) = all

decided_after_invalid : (front back : List Call) (out : Outcome) → All WasInvalid front → IsDecided back out → IsDecided (front ++ back) out
decided_after_invalid front back out all (by_found before text more) = subst (λ calls. IsDecided calls Bare) (append_assoc front before _) (by_found (front ++ before) text (All-append WasInvalid front before all more))
decided_after_invalid front back out all (by_stop before text more) = subst (λ calls. IsDecided calls Stopped) (append_assoc front before _) (by_stop (front ++ before) text (All-append WasInvalid front before all more))
decided_after_invalid front back out all (by_target _ _ more not_bare not_stopped) = by_target (front ++ back) out (All-append WasInvalid front back all more) not_bare not_stopped

undefined_passed : (out : Outcome) → is_undefined out ≡ true → is_passed out ≡ true
undefined_passed Undefined e = refl
undefined_passed Null e = absurd (true≢false (sym e))
undefined_passed (Place text) e = absurd (true≢false (sym e))
undefined_passed Bare e = absurd (true≢false (sym e))
undefined_passed Stopped e = absurd (true≢false (sym e))
undefined_passed InvalidTarget e = absurd (true≢false (sym e))
undefined_passed InvalidSpecifier e = absurd (true≢false (sym e))
undefined_passed InvalidConfig e = absurd (true≢false (sym e))

passed_then : (front back : List Call) (first rest : Outcome) → is_passed first ≡ true → IsDecided front first → IsDecided back rest → IsDecided (front ++ back) (last_of first rest)
passed_then front back first rest e before after =
    let all = passed_calls front first e before in
    elim (cases_Bool (is_undefined rest)) [
      | inl t ↦ (let own = passed_own first e in
          subst (IsDecided (front ++ back)) (sym (cond-true _ first rest t))
          (by_target (front ++ back) first (All-append WasInvalid front back all (passed_calls back rest (undefined_passed rest t) after)) own.0 own.1))
      | inr f ↦ subst (IsDecided (front ++ back)) (sym (cond-false _ first rest f)) (decided_after_invalid front back rest all after)
    ]

mutual
  target_decided : (rules : Rules) (target : Json) (asked : List Call) (out : Outcome) → ResolvesTarget rules target asked out → IsDecided asked out
  target_decided rules target asked out (text_target text _ _ r) = text_decided rules text asked out r
  target_decided rules target asked out (index_key ms e) = own_decided InvalidConfig config_own
  target_decided rules target asked out (object_target ms _ _ e r) = members_decided rules ms asked out r
  target_decided rules target asked out empty_list = own_decided Null null_own
  target_decided rules target asked out (list_target v more _ _ r) = items_decided rules _ asked out r
  target_decided rules target asked out null_target = own_decided Null null_own
  target_decided rules target asked out (bool_target b) = own_decided InvalidTarget invalid_own
  target_decided rules target asked out (number_target n) = own_decided InvalidTarget invalid_own

  members_decided : (rules : Rules) (ms : Members) (asked : List Call) (out : Outcome) → ResolvesMembers rules ms asked out → IsDecided asked out
  members_decided rules ms asked out no_member = own_decided Undefined undefined_own
  members_decided rules ms asked out (untried key v more _ _ e r) = members_decided rules more asked out r
  members_decided rules ms asked out (defined key v more _ _ e r u) = target_decided rules v asked out r
  members_decided rules ms asked out (undefined key v more front back _ e r s) =
      decided_after_invalid front back out (passed_calls front Undefined refl (target_decided rules v front Undefined r)) (members_decided rules more back out s)

  items_decided : (rules : Rules) (vs : Items) (asked : List Call) (out : Outcome) → ResolvesItems rules vs asked out → IsDecided asked out
  items_decided rules vs asked out no_item = own_decided Undefined undefined_own
  items_decided rules vs asked out (decided v more _ _ r d) = target_decided rules v asked out r
  items_decided rules vs asked out (passed v more front back first rest r p s) = passed_then front back first rest p (target_decided rules v front first r) (items_decided rules more back rest s)

pub deciding_call_is_last : DecidingCallIsLast
deciding_call_is_last rules target asked out r = target_decided rules target asked out r

-- ---- exports

abbrev SaysNothing : List Call → Outcome → Type 0
SaysNothing asked out = (asked ≡ []) × (out ≢ Bare) × (out ≢ Stopped)

no_calls : (out : Outcome) → IsOwn out → SaysNothing [] out
no_calls out is = (refl, is.0, is.1)

pub never_package : (imports : Bool) (target : List ℕ) → imports ≡ false → names_package imports target ≡ true → ⊥
unfolding names_package
never_package imports target e n = true≢false (sym (and_parts _ _ n).0 ∙ e)

text_silent : (rules : Rules) (target : List ℕ) (asked : List Call) (out : Outcome) → rules.is_imports ≡ false → ResolvesText rules target asked out → SaysNothing asked out
text_silent rules target asked out e (own_place f) = no_calls out (own_is_own rules.pattern_match target)
text_silent rules target asked out e (bare answer f n) = absurd (never_package rules.is_imports target e n)
text_silent rules target asked out e (no_target f n) = no_calls InvalidTarget invalid_own

both_silent : (front back : List Call) → front ≡ [] → back ≡ [] → front ++ back ≡ []
both_silent front back e f = λ i. e i ++ f i

last_silent : (first rest : Outcome) → IsOwn first → IsOwn rest → IsOwn (last_of first rest)
last_silent first rest a b = cond_both (is_undefined rest) first rest IsOwn (λ none. a) (λ some. b)

mutual
  target_silent : (rules : Rules) (target : Json) (asked : List Call) (out : Outcome) → rules.is_imports ≡ false → ResolvesTarget rules target asked out → SaysNothing asked out
  target_silent rules target asked out e (text_target text _ _ r) = text_silent rules text asked out e r
  target_silent rules target asked out e (index_key ms f) = no_calls InvalidConfig config_own
  target_silent rules target asked out e (object_target ms _ _ f r) = members_silent rules ms asked out e r
  target_silent rules target asked out e empty_list = no_calls Null null_own
  target_silent rules target asked out e (list_target v more _ _ r) = items_silent rules _ asked out e r
  target_silent rules target asked out e null_target = no_calls Null null_own
  target_silent rules target asked out e (bool_target b) = no_calls InvalidTarget invalid_own
  target_silent rules target asked out e (number_target n) = no_calls InvalidTarget invalid_own

  members_silent : (rules : Rules) (ms : Members) (asked : List Call) (out : Outcome) → rules.is_imports ≡ false → ResolvesMembers rules ms asked out → SaysNothing asked out
  members_silent rules ms asked out e no_member = no_calls Undefined undefined_own
  members_silent rules ms asked out e (untried key v more _ _ f r) = members_silent rules more asked out e r
  members_silent rules ms asked out e (defined key v more _ _ f r u) = target_silent rules v asked out e r
  members_silent rules ms asked out e (undefined key v more front back _ f r s) =
      let first = target_silent rules v front Undefined e r in
      let rest = members_silent rules more back out e s in
      (both_silent front back first.0 rest.0, rest.1, rest.2)

  items_silent : (rules : Rules) (vs : Items) (asked : List Call) (out : Outcome) → rules.is_imports ≡ false → ResolvesItems rules vs asked out → SaysNothing asked out
  items_silent rules vs asked out e no_item = no_calls Undefined undefined_own
  items_silent rules vs asked out e (decided v more _ _ r d) = target_silent rules v asked out e r
  items_silent rules vs asked out e (passed v more front back first rest r p s) =
      let before = target_silent rules v front first e r in
      let after = items_silent rules more back rest e s in
      let own = last_silent first rest (before.1, before.2) (after.1, after.2) in
      (both_silent front back before.0 after.0, own.0, own.1)

pub exports_ask_nothing : ExportsAskNothing
exports_ask_nothing rules target asked out e r = target_silent rules target asked out e r
