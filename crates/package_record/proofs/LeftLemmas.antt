-- What is left of targets, by their places.
use Rattle.std.proofs.Common.{rules, ◌≡◌, ◌<◌, ◌+◌, ℕ, zero, suc, Bool, List, [], ◌∷◌, ◌++◌, length, take, refl, sym, ap, ◌∙◌, subst}
use Rattle.std.proofs.lemmas.List.{take_more}
use Rattle.std.specs.Prelude.{Some, Result, Ok, Err, IfOk, slice_get, slice_index_or}
use Rattle.condition_match.specs.Reducing.{ComesAs}
use Rattle.json_spec.specs.Value.{Json}
use Rattle.ordered_json.specs.Lists.{pairs_of}
use Rattle.ordered_json.specs.Shown.{json_of}
use Rattle.ordered_json.specs.declared.value.Members.{Members}
use Rattle.ordered_json.specs.declared.value.Value as value
use Rattle.ordered_json.specs.declared.value.Value.{Value, out-Value, the_lemmas}
use Rattle.ordered_json.specs.declared.value.Value.TheOpen.{Value-F}
use Rattle.package_record.specs.Targets.{AreLeft, AreLeftOf, StandsIn, IsLeftOf}
use Rattle.package_record.specs.declared.left.LeftTargets.{LeftTargets}

pub as_it_is : (conditions : List (List ℕ)) (imports : Bool) (target : Json) → ComesAs conditions imports target target
as_it_is conditions imports target = λ star asked out r. r

pub one_more_left : (conditions : List (List ℕ)) (imports : Bool) (pairs : List (List ℕ × Value)) (made : List Value) (pair : List ℕ × Value) (one : Value)
    → AreLeft conditions imports pairs made → ComesAs conditions imports (json_of pair.1) (json_of one)
    → AreLeft conditions imports (pairs ++ pair ∷ []) (made ++ one ∷ [])
one_more_left conditions imports [] made pair one are is =
    subst (λ vs. AreLeft conditions imports (pair ∷ []) (vs ++ one ∷ [])) (sym are) (is, refl)
one_more_left conditions imports (p ∷ pairs) [] pair one are is = absurd are
one_more_left conditions imports (p ∷ pairs) (v ∷ made) pair one are is =
    (are.0, one_more_left conditions imports pairs made pair one are.1 is)

pub left_more : (conditions : List (List ℕ)) (imports : Bool) (pairs : List (List ℕ × Value)) (made after : List Value) (i : ℕ) (pair : List ℕ × Value) (one : Value)
    → i < length pairs → pair ≡ slice_index_or pairs i pair → after ≡ made ++ one ∷ []
    → AreLeft conditions imports (take i pairs) made → ComesAs conditions imports (json_of pair.1) (json_of one)
    → AreLeft conditions imports (take (i + 1) pairs) after
left_more conditions imports pairs made after i pair one within is pushed are comes =
    let more : take (i + 1) pairs ≡ take i pairs ++ pair ∷ [] = take_more pairs i pair within ∙ ap (λ p. take i pairs ++ p ∷ []) (sym is) in
    subst (λ ps. AreLeft conditions imports ps after) (sym more)
    (subst (λ vs. AreLeft conditions imports (take i pairs ++ pair ∷ []) vs) (sym pushed)
    (one_more_left conditions imports (take i pairs) made pair one are comes))

left_there : (conditions : List (List ℕ)) (imports : Bool) (pairs : List (List ℕ × Value)) (made : List Value) (place : ℕ) (pair : List ℕ × Value) (one : Value)
    → AreLeft conditions imports pairs made → slice_get pairs place ≡ Some pair → slice_get made place ≡ Some one
    → ComesAs conditions imports (json_of pair.1) (json_of one)
left_there conditions imports [] made place pair one are e f = absurd (cc)
left_there conditions imports (p ∷ pairs) [] place pair one are e f = absurd are
left_there conditions imports (p ∷ pairs) (v ∷ made) zero pair one are e f =
    let first : p ≡ pair = cc in
    let second : v ≡ one = cc in
    subst (λ (q : List ℕ × Value). ComesAs conditions imports (json_of q.1) (json_of one)) first
    (subst (λ w. ComesAs conditions imports (json_of p.1) (json_of w)) second are.0)
left_there conditions imports (p ∷ pairs) (v ∷ made) (suc place) pair one are e f =
    left_there conditions imports pairs made place pair one are.1 e f

pub target_left : (imports : Bool) (value : Value) (left : LeftTargets) (place : ℕ) (key : List ℕ) (target made : Value)
    → IsLeftOf imports value left → StandsIn value place key target → slice_get left.targets.items place ≡ Some made
    → ComesAs left.conditions imports (json_of target) (json_of made)
target_left imports value left place key target made is stands e =
    left_there left.conditions imports (pairs_of stands.members) left.targets.items place (key, target) made
    (is.targets stands.members stands.object) stands.stands e

object_layer : (members : Members) → out-Value (value.Object members) ≡ Value-F.Object members
object_layer members = search (rules, the_lemmas)

same_object : (members others : Members) → value.Object members ≡ value.Object others → members ≡ others
same_object members others e =
    let layers : Value-F.Object members ≡ Value-F.Object others = sym (object_layer members) ∙ (ap out-Value e ∙ object_layer others) in
    cc

pub object_left : {A E : Type 0} (items : A → List Value) (conditions : List (List ℕ)) (imports : Bool) (given : Value) (members : Members)
    (result : Result A E) → given ≡ value.Object members
    → IfOk result (λ made. AreLeft conditions imports (pairs_of members) (items made))
    → IfOk result (λ made. AreLeftOf conditions imports given (items made))
object_left items conditions imports given members (Ok made) e are = λ others f.
    subst (λ m. AreLeft conditions imports (pairs_of m) (items made)) (same_object members others (sym e ∙ f)) are
object_left items conditions imports given members (Err fault) e are = tt

pub comes_under : (conditions others : List (List ℕ)) (imports : Bool) (target made : Json) → conditions ≡ others
    → ComesAs conditions imports target made → ComesAs others imports target made
comes_under conditions others imports target made e comes = subst (λ cs. ComesAs cs imports target made) e comes
