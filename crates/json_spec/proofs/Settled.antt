-- What `settled` does: distinct names stay as they are written, and what comes out has distinct names.
use Rattle.std.proofs.Common.{refl, ap, ◌∙◌, sym}
use Rattle.std.proofs.lemmas.Bool.{cond-false, cond_both}
use Rattle.std.proofs.lemmas.Cmp.{nat_list_eq_equiv}
use Rattle.std.specs.List.{IsDistinct}
use Rattle.std.specs.Prelude.{◌≡◌, ℕ, false, List, bytes_eq, ⊤}
use Rattle.json_spec.specs.PropertyOrder.{joined}
use Rattle.json_spec.specs.Value.{Members, no_members, a_member, Json, put, settled_onto, AreDistinct, settled}
use Rattle.json_spec.proofs.NewNames.{IsNewName}

pub joined_nothing : (ms : Members) → joined ms no_members ≡ ms
joined_nothing no_members = refl
joined_nothing (a_member name value more) = ap (a_member name value) (joined_nothing more)

joined_more : (ms more : Members) (name : List ℕ) (value : Json) → joined (joined ms (a_member name value no_members)) more ≡ joined ms (a_member name value more)
joined_more no_members more name value = refl
joined_more (a_member n v ms) more name value = ap (a_member n v) (joined_more ms more name value)

put_new : (name : List ℕ) (value : Json) (ms : Members) → IsNewName name ms → put name value ms ≡ joined ms (a_member name value no_members)
put_new name value no_members n = refl
put_new name value (a_member other v more) n =
    cond-false _ _ _ n.0 ∙ ap (a_member other v) (put_new name value more n.1)

-- the names of the first are none of the second's
abbrev Apart : Members → Members → Type 0
Apart ms no_members = ⊤
Apart ms (a_member name value more) = IsNewName name ms × Apart ms more

new_behind : (name other : List ℕ) (value : Json) (ms : Members) → bytes_eq name other ≡ false → IsNewName name ms
    → IsNewName name (joined ms (a_member other value no_members))
new_behind name other value no_members n m = (n, tt)
new_behind name other value (a_member k v more) n m = (m.0, new_behind name other value more n m.1)

apart_behind : (ms more : Members) (name : List ℕ) (value : Json) → Apart ms more → IsNewName name more → Apart (joined ms (a_member name value no_members)) more
apart_behind ms no_members name value a n = tt
apart_behind ms (a_member k v more) name value a n =
    (new_behind k name value ms (nat_list_eq_equiv.symm k name ∙ n.0) a.0, apart_behind ms more name value a.1 n.1)

settled_apart : (ms more : Members) → Apart ms more → AreDistinct more → settled_onto ms more ≡ joined ms more
unfolding IsDistinct
settled_apart ms no_members a d = sym (joined_nothing ms)
settled_apart ms (a_member name value more) a d =
    ap (λ k. settled_onto k more) (put_new name value ms a.0) ∙ (settled_apart (joined ms (a_member name value no_members)) more (apart_behind ms more name value a.1 d.0) d.1 ∙ joined_more ms more name value)

apart_from_none : (ms : Members) → Apart no_members ms
apart_from_none no_members = tt
apart_from_none (a_member name value more) = (tt, apart_from_none more)

pub settled_distinct : (ms : Members) → AreDistinct ms → settled ms ≡ ms
settled_distinct ms d = settled_apart no_members ms (apart_from_none ms) d

-- what comes out has distinct names
put_keeps_new : (other name : List ℕ) (value : Json) (ms : Members) → bytes_eq other name ≡ false → IsNewName other ms
    → IsNewName other (put name value ms)
put_keeps_new other name value no_members n m = (n, tt)
put_keeps_new other name value (a_member k v more) n m =
    cond_both (bytes_eq name k) _ _ (IsNewName other) (λ e. m) (λ e. (m.0, put_keeps_new other name value more n m.1))

put_distinct : (name : List ℕ) (value : Json) (ms : Members) → AreDistinct ms → AreDistinct (put name value ms)
unfolding IsDistinct
put_distinct name value no_members d = (tt, tt)
put_distinct name value (a_member k v more) d =
    cond_both (bytes_eq name k) _ _ AreDistinct (λ e. d)
    (λ e. (put_keeps_new k name value more (nat_list_eq_equiv.symm k name ∙ e) d.0, put_distinct name value more d.1))

distinct_onto : (ms more : Members) → AreDistinct ms → AreDistinct (settled_onto ms more)
distinct_onto ms no_members d = d
distinct_onto ms (a_member name value more) d = distinct_onto (put name value ms) more (put_distinct name value ms d)

pub distinct_settled : (ms : Members) → AreDistinct (settled ms)
unfolding IsDistinct
distinct_settled ms = distinct_onto no_members ms tt
