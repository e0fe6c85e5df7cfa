-- Pairs with names: where the first of them stands, and what a value in its place does.
use Rattle.std.specs.Prelude.{◌≡◌, ℕ, suc, ◌<◌, Bool, true, false, cond, List, [], ◌∷◌, ◌++◌, length, bytes_eq, Option, Some, None, option_map, reverse}
use Rattle.std.specs.BTreeMap.{BTreeMap, get, Updates}
use Rattle.std.specs.Cmp.Lexicographic.{slice_cmp}
use Rattle.std.specs.Ordering.{nat_cmp}
use Rattle.std.proofs.Common.{refl, ap, sym, subst, ◌∙◌, arith, get_or, length-append}
use Rattle.std.proofs.lemmas.Bool.{cond-true, cond-false, false_from_ne_true}
use Rattle.std.proofs.lemmas.List.{reverse-append}
use Rattle.std.proofs.lemmas.Map.Text.{is_eq-slice_cmp}
use Rattle.std.proofs.lemmas.Slice.Eq.{bytes_eq-Decides}
use Rattle.std.proofs.Math.ListN.{set}
use Rattle.std.proofs.Math.Seq.{set-append_seam, get_or-append_seam}
use Rattle.json_spec.specs.Value.{Members, no_members, a_member, put, settled, settled_onto}
use Rattle.ordered_json.specs.declared.value.Value.{Value}
use Rattle.ordered_json.specs.Shown.{json_of, members_of}
use Rattle.ordered_json.specs.Pairs.{IsNowhere, IsAt, IsReplaced, IsIndexed, place_of}

-- ---- what is written

pub settled_push : (ms : Members) (pairs : List (List ℕ × Value)) (name : List ℕ) (value : Value) → settled_onto ms (members_of (pairs ++ (name, value) ∷ [])) ≡ put name (json_of value) (settled_onto ms (members_of pairs))
settled_push ms [] name value = refl
settled_push ms (pair ∷ pairs) name value = settled_push (put pair.0 (json_of pair.1) ms) pairs name value

pub settled_pushed : (pairs now : List (List ℕ × Value)) (name : List ℕ) (value : Value) → now ≡ pairs ++ (name, value) ∷ [] → settled (members_of now) ≡ put name (json_of value) (settled (members_of pairs))
settled_pushed pairs now name value e = rw e (settled_push no_members pairs name value)

-- the pairs that are left, last first, without the one that was taken
pub settled_pop : (ms now : Members) (rest left : List (List ℕ × Value)) (name : List ℕ) (value : Value) → rest ≡ left ++ (name, value) ∷ [] → now ≡ put name (json_of value) ms → settled_onto now (members_of (reverse left)) ≡ settled_onto ms (members_of (reverse rest))
settled_pop ms now rest left name value e p =
    rw (p, e, reverse-append left ((name, value) ∷ [])) refl

-- ---- where a name stands

nowhere_cons : (b : Bool) (o : Option ℕ) → cond b (Some 0) (option_map suc o) ≡ None → (b ≡ false) × (o ≡ None)
nowhere_cons true o e = absurd (cc)
nowhere_cons false None e = (refl, refl)
nowhere_cons false (Some n) e = absurd (cc)

data FoundBehind (b : Bool) (o : Option ℕ) (place : ℕ) : Type 0 where
  at_first : b ≡ true → place ≡ 0 → FoundBehind b o place
  at_other : (n : ℕ) → b ≡ false → o ≡ Some n → place ≡ suc n → FoundBehind b o place

found_cons : (b : Bool) (o : Option ℕ) (place : ℕ) → cond b (Some 0) (option_map suc o) ≡ Some place → FoundBehind b o place
found_cons true o place e = at_first refl (let p = e in cc)
found_cons false None place e = absurd (cc)
found_cons false (Some n) place e = at_other n refl refl (let p = e in cc)

pub nowhere_from : (name : List ℕ) (pairs : List (List ℕ × Value)) → place_of name pairs ≡ None → IsNowhere name pairs
nowhere_from name [] e = tt
nowhere_from name (pair ∷ pairs) e =
    let p = nowhere_cons (bytes_eq name pair.0) (place_of name pairs) e in
    (p.0, nowhere_from name pairs p.1)

pub at_from : (name : List ℕ) (pairs : List (List ℕ × Value)) (place : ℕ) → place_of name pairs ≡ Some place → IsAt name pairs place
at_from name [] place e = absurd (cc)
at_from name (pair ∷ pairs) place e = there (λ n. at_from name pairs n) (found_cons (bytes_eq name pair.0) (place_of name pairs) place e)
  where
    there : ((n : ℕ) → place_of name pairs ≡ Some n → IsAt name pairs n) → FoundBehind (bytes_eq name pair.0) (place_of name pairs) place → IsAt name (pair ∷ pairs) place
    there behind (at_first t z) = record {
      before = [];
      old = pair.1;
      after = pairs;
      split = ap (λ (n : List ℕ). (n, pair.1) ∷ pairs) (sym ((bytes_eq-Decides name pair.0).0 t));
      place_is = z;
      new = tt;
    }
    there behind (at_other n f o s) =
        let a = behind n o in
        record {
          before = pair ∷ a.before;
          old = a.old;
          after = a.after;
          split = ap (λ ps. pair ∷ ps) a.split;
          place_is = s ∙ ap suc a.place_is;
          new = (f, a.new);
        }

-- ---- a pair more

pushed_other : (other name : List ℕ) (value : Value) (pairs : List (List ℕ × Value)) → bytes_eq other name ≡ false → place_of other (pairs ++ (name, value) ∷ []) ≡ place_of other pairs
pushed_other other name value [] e = cond-false (bytes_eq other name) _ _ e
pushed_other other name value (pair ∷ pairs) e = ap (λ o. cond (bytes_eq other pair.0) (Some 0) (option_map suc o)) (pushed_other other name value pairs e)

pushed_same : (name : List ℕ) (value : Value) (pairs : List (List ℕ × Value)) → place_of name pairs ≡ None → place_of name (pairs ++ (name, value) ∷ []) ≡ Some (length pairs)
pushed_same name value [] e = cond-true (bytes_eq name name) _ _ ((bytes_eq-Decides name name).1 refl)
pushed_same name value (pair ∷ pairs) e =
    let p = nowhere_cons (bytes_eq name pair.0) (place_of name pairs) e in
    cond-false (bytes_eq name pair.0) _ _ p.0 ∙ ap (option_map suc) (pushed_same name value pairs p.1)

differs_back : (name other : List ℕ) → bytes_eq name other ≡ false → bytes_eq other name ≡ false
differs_back name other e = false_from_ne_true _ (λ t. let same : bytes_eq name other ≡ true = (bytes_eq-Decides name other).1 (sym ((bytes_eq-Decides other name).0 t)) in absurd (cc))

place_pushed : (name other : List ℕ) (value : Value) (pairs : List (List ℕ × Value)) → place_of name pairs ≡ None → (b : Bool) → bytes_eq name other ≡ b → place_of other (pairs ++ (name, value) ∷ []) ≡ cond b (Some (length pairs)) (place_of other pairs)
place_pushed name other value pairs none true e = subst (λ (n : List ℕ). place_of n (pairs ++ (name, value) ∷ []) ≡ Some (length pairs)) ((bytes_eq-Decides name other).0 e) (pushed_same name value pairs none)
place_pushed name other value pairs none false e = pushed_other other name value pairs (differs_back name other e)

pub nothing_indexed : (places : BTreeMap (List ℕ) ℕ) → places.entries ≡ [] → IsIndexed places []
nothing_indexed places e name = rw e refl

pub indexed_push : (places after : BTreeMap (List ℕ) ℕ) (pairs : List (List ℕ × Value)) (name : List ℕ) (value : Value) → IsIndexed places pairs → place_of name pairs ≡ None → Updates (slice_cmp nat_cmp) places after name (Some (length pairs)) → IsIndexed after (pairs ++ (name, value) ∷ [])
indexed_push places after pairs name value i none u other =
    u.0 other
    ∙ ap (λ b. cond b (Some (length pairs)) (get (slice_cmp nat_cmp) places other)) (is_eq-slice_cmp name other)
    ∙ ap (cond (bytes_eq name other) (Some (length pairs))) (i other)
    ∙ sym (place_pushed name other value pairs none (bytes_eq name other) refl)

pub indexed_pushed : (places after : BTreeMap (List ℕ) ℕ) (pairs now : List (List ℕ × Value)) (name key : List ℕ) (value : Value) (place : ℕ) → IsIndexed places pairs → place_of name pairs ≡ None → Updates (slice_cmp nat_cmp) places after key (Some place) → key ≡ name → place ≡ length pairs → now ≡ pairs ++ (name, value) ∷ [] → IsIndexed after now
indexed_pushed places after pairs now name key value place i none u k p e =
    let at_name : Updates (slice_cmp nat_cmp) places after name (Some place) = subst (λ (n : List ℕ). Updates (slice_cmp nat_cmp) places after n (Some place)) k u in
    let at_place : Updates (slice_cmp nat_cmp) places after name (Some (length pairs)) = subst (λ n. Updates (slice_cmp nat_cmp) places after name (Some n)) p at_name in
    subst (λ ps. IsIndexed after ps) (sym e) (indexed_push places after pairs name value i none at_place)

pair_put_behind : (name : List ℕ) (value : Value) (pairs : List (List ℕ × Value)) → IsNowhere name pairs → members_of (pairs ++ (name, value) ∷ []) ≡ put name (json_of value) (members_of pairs)
pair_put_behind name value [] n = refl
pair_put_behind name value (pair ∷ pairs) n = ap (a_member pair.0 (json_of pair.1)) (pair_put_behind name value pairs n.1) ∙ sym (cond-false (bytes_eq name pair.0) _ _ n.0)

pub put_pushed : (name : List ℕ) (value : Value) (pairs : List (List ℕ × Value)) → place_of name pairs ≡ None → members_of (pairs ++ (name, value) ∷ []) ≡ put name (json_of value) (members_of pairs)
put_pushed name value pairs none = pair_put_behind name value pairs (nowhere_from name pairs none)

-- ---- another value in its place

put_in_place : (name : List ℕ) (value old : Value) (before after : List (List ℕ × Value)) → IsNowhere name before → members_of (before ++ (name, value) ∷ after) ≡ put name (json_of value) (members_of (before ++ (name, old) ∷ after))
put_in_place name value old [] after n = sym (cond-true (bytes_eq name name) _ _ ((bytes_eq-Decides name name).1 refl))
put_in_place name value old (pair ∷ before) after n = ap (a_member pair.0 (json_of pair.1)) (put_in_place name value old before after n.1) ∙ sym (cond-false (bytes_eq name pair.0) _ _ n.0)

place_kept : (other name : List ℕ) (value old : Value) (before after : List (List ℕ × Value)) → place_of other (before ++ (name, value) ∷ after) ≡ place_of other (before ++ (name, old) ∷ after)
place_kept other name value old [] after = refl
place_kept other name value old (pair ∷ before) after = ap (λ o. cond (bytes_eq other pair.0) (Some 0) (option_map suc o)) (place_kept other name value old before after)

module _ {name : List ℕ} {pairs : List (List ℕ × Value)} {place : ℕ} (at : IsAt name pairs place) where
  pub place_within : place < length pairs
  place_within = omega (arith, at.place_is, length-append at.before ((name, at.old) ∷ at.after), ap length at.split)

  module _ {replaced : List (List ℕ × Value)} (value : Value) (r : IsReplaced place value pairs replaced) where
    replaced_is : replaced ≡ at.before ++ (name, value) ∷ at.after
    replaced_is = r.all at.before at.after name at.old at.split at.place_is

    pub put_replaced : members_of replaced ≡ put name (json_of value) (members_of pairs)
    put_replaced =
        ap members_of replaced_is
        ∙ (put_in_place name value at.old at.before at.after at.new
        ∙ ap (λ (ps : List (List ℕ × Value)). put name (json_of value) (members_of ps)) (sym at.split))

    pub indexed_replaced : (places : BTreeMap (List ℕ) ℕ) → IsIndexed places pairs → IsIndexed places replaced
    indexed_replaced places i other =
        i other ∙ (ap (place_of other) at.split
        ∙ (sym (place_kept other name value at.old at.before at.after) ∙ ap (place_of other) (sym replaced_is)))

pub value_set : (pairs before after : List (List ℕ × Value)) (name : List ℕ) (old value : Value) (place : ℕ) (pair : List ℕ × Value) → pair ≡ get_or pairs place pair → pairs ≡ before ++ (name, old) ∷ after → place ≡ length before → set pairs place (pair.0, value) ≡ before ++ (name, value) ∷ after
value_set pairs before after name old value place pair g e p =
    let there : get_or pairs place pair ≡ get_or (before ++ (name, old) ∷ after) (length before) pair = rw (e, p) refl in
    let same : pair ≡ (name, old) = g ∙ (there ∙ get_or-append_seam before (name, old) after pair) in
    let here : set pairs place (pair.0, value) ≡ set (before ++ (name, old) ∷ after) (length before) (pair.0, value) = rw (e, p) refl in
    here ∙ (set-append_seam before (name, old) after (pair.0, value) ∙ ap (λ (other : List ℕ × Value). before ++ (other.0, value) ∷ after) same)
