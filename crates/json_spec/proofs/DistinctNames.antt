-- In each object of a value that a text has, at every level, no name stands twice.
use Rattle.std.proofs.lemmas.Bool.{cond_both}
use Rattle.std.specs.Prelude.{⊤, ℕ, List, bytes_eq, Option, Some, None, codes, ◌∷◌, zero, suc, [], IfOk}
use Rattle.json_spec.proofs.Settled.{distinct_settled}
use Rattle.json_spec.specs.Grammar.{Reading, behind_item, behind_member, as_list, as_object, as_text, as_number, word_else, scalar_at, Member, a_pair, paired, ReadsMember, member_value, member_name, MoreMembers, members_close, members_next, members_fault, members_other, members_end, ReadsMembers, no_member, first_member, member_fault, object_ends, MoreItems, items_close, items_next, items_fault, items_other, items_end, ReadsItems, no_item, first_item, item_fault, list_ends, ReadsWith, reads_text, reads_list, reads_object, reads_scalar, value_ends, IsTooDeep, after_space, Reads, alone, whole_text, with_offset, json_text, most_depth}
use Rattle.json_spec.specs.Laws.{NamesAreDistinct}
use Rattle.json_spec.specs.Numbers.{number_at}
use Rattle.json_spec.specs.Strings.{behind}
use Rattle.json_spec.specs.Taken.{Taken, taken, refused, Read}
use Rattle.json_spec.specs.Value.{Json, Members, no_members, a_member, put, HasDistinctNames, MembersHaveDistinctNames, settled_onto, an_object, settled, Items, ItemsHaveDistinctNames}

abbrev IfTaken : {A E : Type 0} → (A → Type 0) → Taken A E → Type 0
IfTaken P (taken x rest) = P x
IfTaken P (refused e) = ⊤

put_names : (name : List ℕ) (value : Json) (ms : Members) → HasDistinctNames value → MembersHaveDistinctNames ms → MembersHaveDistinctNames (put name value ms)
put_names name value no_members v d = (v, tt)
put_names name value (a_member k w more) v d = cond_both (bytes_eq name k) _ _ MembersHaveDistinctNames (λ e. (v, d.1)) (λ e. (d.0, put_names name value more v d.1))

names_onto : (ms more : Members) → MembersHaveDistinctNames ms → MembersHaveDistinctNames more → MembersHaveDistinctNames (settled_onto ms more)
names_onto ms no_members d e = d
names_onto ms (a_member name value more) d e = names_onto (put name value ms) more (put_names name value ms e.0 d) e.1

settled_names : (ms : Members) → MembersHaveDistinctNames ms → HasDistinctNames (an_object (settled ms))
settled_names ms d = (distinct_settled ms, names_onto no_members ms tt d)

behind_item_names : (v : Json) (out : Reading Items) → HasDistinctNames v → IfTaken ItemsHaveDistinctNames out → IfTaken ItemsHaveDistinctNames (behind_item v out)
behind_item_names v (taken vs rest) d e = (d, e)
behind_item_names v (refused f) d e = tt

behind_member_names : (name : List ℕ) (v : Json) (out : Reading Members) → HasDistinctNames v → IfTaken MembersHaveDistinctNames out → IfTaken MembersHaveDistinctNames (behind_member name v out)
behind_member_names name v (taken ms rest) d e = (d, e)
behind_member_names name v (refused f) d e = tt

as_list_names : (out : Reading Items) → IfTaken ItemsHaveDistinctNames out → IfTaken HasDistinctNames (as_list out)
as_list_names (taken vs rest) d = d
as_list_names (refused f) d = tt

as_object_names : (out : Reading Members) → IfTaken MembersHaveDistinctNames out → IfTaken HasDistinctNames (as_object out)
as_object_names (taken ms rest) d = settled_names ms d
as_object_names (refused f) d = tt

as_text_names : (bytes : List ℕ) (out : Read (List ℕ)) → IfTaken HasDistinctNames (as_text bytes out)
as_text_names bytes (taken text rest) = tt
as_text_names bytes (refused e) = tt

as_number_names : (bytes : List ℕ) (out : Read (List ℕ)) → IfTaken HasDistinctNames (as_number bytes out)
as_number_names bytes (taken number rest) = tt
as_number_names bytes (refused e) = tt

word_names : (v : Json) (o : Option (List ℕ)) (out : Reading Json) → HasDistinctNames v → IfTaken HasDistinctNames out → IfTaken HasDistinctNames (word_else v o out)
word_names v None out d e = e
word_names v (Some rest) out d e = d

scalar_names : (bytes : List ℕ) → IfTaken HasDistinctNames (scalar_at bytes)
scalar_names bytes =
    word_names _ (behind (codes "true") bytes) _ tt (word_names _ (behind (codes "false") bytes) _ tt (word_names _ (behind (codes "null") bytes) _ tt (as_number_names bytes (number_at bytes))))

abbrev PairHasDistinctNames : Member → Type 0
PairHasDistinctNames (a_pair name value) = HasDistinctNames value

paired_names : (name : List ℕ) (out : Reading Json) → IfTaken HasDistinctNames out → IfTaken PairHasDistinctNames (paired name out)
paired_names name (taken v rest) d = d
paired_names name (refused f) d = tt

abbrev AllDistinct : {A : Type 0} → (A → Type 0) → (List ℕ → Reading A → Type 0) → Type 0
AllDistinct {A} P reads = (bytes : List ℕ) (out : Reading A) → reads bytes out → IfTaken P out

module _ {value : List ℕ → Reading Json → Type 0} (distinct : AllDistinct HasDistinctNames value) where
  member_names : AllDistinct PairHasDistinctNames (ReadsMember value)
  member_names bytes out (member_value {name = name} {out = o} n v) = paired_names name o (distinct _ _ v)
  member_names bytes out (member_name n) = tt

  more_members_names : AllDistinct MembersHaveDistinctNames (MoreMembers value)
  more_members_names bytes out members_close = tt
  more_members_names bytes out (members_next {name = name} {v = v} {out = o} m r) = behind_member_names name v o (member_names _ _ m) (more_members_names _ o r)
  more_members_names bytes out (members_fault m) = tt
  more_members_names bytes out (members_other n m) = tt
  more_members_names bytes out members_end = tt

  members_names : AllDistinct MembersHaveDistinctNames (ReadsMembers value)
  members_names bytes out no_member = tt
  members_names bytes out (first_member {name = name} {v = v} {out = o} n m r) = behind_member_names name v o (member_names _ _ m) (more_members_names _ o r)
  members_names bytes out (member_fault n m) = tt
  members_names bytes out object_ends = tt

  more_items_names : AllDistinct ItemsHaveDistinctNames (MoreItems value)
  more_items_names bytes out items_close = tt
  more_items_names bytes out (items_next {v = v} {out = o} m r) = behind_item_names v o (distinct _ _ m) (more_items_names _ o r)
  more_items_names bytes out (items_fault m) = tt
  more_items_names bytes out (items_other n m) = tt
  more_items_names bytes out items_end = tt

  items_names : AllDistinct ItemsHaveDistinctNames (ReadsItems value)
  items_names bytes out no_item = tt
  items_names bytes out (first_item {v = v} {out = o} n m r) = behind_item_names v o (distinct _ _ m) (more_items_names _ o r)
  items_names bytes out (item_fault n m) = tt
  items_names bytes out list_ends = tt

module _ {items : List ℕ → Reading Items → Type 0} {members : List ℕ → Reading Members → Type 0} (lists : AllDistinct ItemsHaveDistinctNames items) (objects : AllDistinct MembersHaveDistinctNames members) where
  with_names : AllDistinct HasDistinctNames (ReadsWith items members)
  with_names bytes out (reads_text {bytes = rest} {out = o} r) = as_text_names rest o
  with_names bytes out (reads_list {out = o} r) = as_list_names o (lists _ _ r)
  with_names bytes out (reads_object {out = o} r) = as_object_names o (objects _ _ r)
  with_names bytes out (reads_scalar {b = b} {bytes = rest} n m o) = scalar_names (b ∷ rest)
  with_names bytes out value_ends = tt

deep_names : {A : Type 0} (P : A → Type 0) → AllDistinct P IsTooDeep
deep_names P bytes out e = rw e tt

reads_names : (depth : ℕ) → AllDistinct HasDistinctNames (Reads depth)
reads_names zero = with_names (deep_names ItemsHaveDistinctNames) (deep_names MembersHaveDistinctNames)
reads_names (suc depth) =
    with_names (λ bytes. items_names (reads_names depth) (after_space bytes)) (λ bytes. members_names (reads_names depth) (after_space bytes))

whole_names : (n : ℕ) (out : Reading Json) → IfTaken HasDistinctNames out → IfOk (with_offset n (whole_text out)) HasDistinctNames
whole_names n (taken v rest) d = alone_names (after_space rest)
  where
    alone_names : (more : List ℕ) → IfOk (with_offset n (alone v more)) HasDistinctNames
    alone_names [] = d
    alone_names (b ∷ more) = tt
whole_names n (refused f) d = tt

pub names_are_distinct : NamesAreDistinct
names_are_distinct bytes out (json_text o r) = whole_names _ o (reads_names most_depth _ o r)
