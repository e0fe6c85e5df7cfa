-- One text has one outcome.
use Rattle.std.proofs.Common.{refl, ap, arith, subst, sym, ◌∙◌}
use Rattle.std.specs.Prelude.{◌≡◌, ℕ, List, [], ◌∷◌, IsUtf8, zero, suc, length, Result}
use Rattle.json_spec.specs.Grammar.{Reading, after_space, ReadsName, name_text, no_name, name_ends, text_behind, colon_at, Fault, a_pair, Member, ReadsMember, member_value, member_name, MoreMembers, members_close, members_next, members_fault, members_other, members_end, ReadsMembers, no_member, first_member, member_fault, object_ends, MoreItems, items_close, items_next, items_fault, items_other, items_end, ReadsItems, no_item, first_item, item_fault, list_ends, as_text, as_list, as_object, ReadsWith, reads_text, reads_list, reads_object, reads_scalar, value_ends, IsTooDeep, Reads, ReadsJson, json_text, most_depth, whole_text, with_offset}
use Rattle.json_spec.specs.Laws.{OneJson}
use Rattle.json_spec.specs.Strings.{ReadsText, close, plain, escape, no_escape, control, text_ends, ReadsString, in_utf8, no_utf8, no_string}
use Rattle.json_spec.specs.Taken.{taken, Read, refused, behind_piece}
use Rattle.json_spec.specs.Value.{Json, Items, Members}

-- two answers of one reader
same_piece : {A : Type 0} {x y : A} {rest more : List ℕ} {a : Read A} → a ≡ taken x rest → a ≡ taken y more → (x ≡ y) × (rest ≡ more)
same_piece p q = (cc, cc)

pub never_both : {A : Type 0} {x : A} {rest : List ℕ} {a : Read A} → a ≡ taken x rest → a ≡ refused tt → ⊥
never_both p q = cc

moved : {bytes more : List ℕ} {out : Read (List ℕ)} → bytes ≡ more → ReadsText bytes out → ReadsText more out
moved e r = rw (← e) r

pub text_one : {bytes : List ℕ} {a c : Read (List ℕ)} → ReadsText bytes a → ReadsText bytes c → a ≡ c
text_one close close = refl
text_one close (plain n m l r) = absurd (n refl)
text_one close (control l) = absurd (omega arith)
text_one (plain n m l r) close = absurd (n refl)
text_one (plain {b = b} n m l r) (plain o p k s) = ap (behind_piece (b ∷ [])) (text_one r s)
text_one (plain n m l r) (escape e s) = absurd (m refl)
text_one (plain n m l r) (no_escape e) = absurd (m refl)
text_one (plain n m l r) (control k) = absurd (omega arith)
text_one (escape e r) (plain n m l s) = absurd (m refl)
text_one (escape e r) (escape d s) = let same = same_piece e d in let o = text_one (moved same.1 r) s in cc (same.0, o)
text_one (escape e r) (no_escape d) = absurd (never_both e d)
text_one (escape e r) (control l) = absurd (omega arith)
text_one (no_escape e) (plain n m l s) = absurd (m refl)
text_one (no_escape e) (escape d s) = absurd (never_both d e)
text_one (no_escape e) (no_escape d) = refl
text_one (no_escape e) (control l) = refl
text_one (control l) close = absurd (omega arith)
text_one (control l) (plain n m k r) = absurd (omega arith)
text_one (control l) (escape e r) = absurd (omega arith)
text_one (control l) (no_escape e) = refl
text_one (control l) (control k) = refl
text_one text_ends text_ends = refl

same_utf8 : {x y rest more : List ℕ} → ◌≡◌ {A = Read (List ℕ)} (taken x rest) (taken y more) → IsUtf8 x → IsUtf8 y
same_utf8 {x = x} {y = y} p u = let e : x ≡ y = cc in subst IsUtf8 e u

pub string_one : {bytes : List ℕ} {a c : Read (List ℕ)} → ReadsString bytes a → ReadsString bytes c → a ≡ c
string_one (in_utf8 r u) (in_utf8 s v) = text_one r s
string_one (in_utf8 r u) (no_utf8 s n) = absurd (n (same_utf8 (text_one r s) u))
string_one (in_utf8 r u) (no_string s) = absurd (never_both refl (text_one r s))
string_one (no_utf8 r n) (in_utf8 s u) = absurd (n (same_utf8 (text_one s r) u))
string_one (no_utf8 r n) (no_utf8 s m) = refl
string_one (no_utf8 r n) (no_string s) = refl
string_one (no_string r) (in_utf8 s u) = absurd (never_both refl (text_one s r))
string_one (no_string r) (no_utf8 s n) = refl
string_one (no_string r) (no_string s) = refl

pub name_one : {bytes : List ℕ} {a c : Reading (List ℕ)} → ReadsName bytes a → ReadsName bytes c → a ≡ c
name_one (name_text {bytes = bytes} r) (name_text s) = ap (text_behind bytes (λ name rest. colon_at name (after_space rest))) (string_one r s)
name_one (name_text r) (no_name n) = absurd (n refl)
name_one (no_name n) (name_text r) = absurd (n refl)
name_one (no_name n) (no_name m) = refl
name_one name_ends name_ends = refl

-- a relation that gives at most one outcome
abbrev pub IsOne : {A : Type 0} → (List ℕ → Reading A → Type 0) → Type 0
IsOne {A} reads = (bytes : List ℕ) (a c : Reading A) → reads bytes a → reads bytes c → a ≡ c

same_taken : {A : Type 0} {x y : A} {rest more : List ℕ} → ◌≡◌ {A = Reading A} (taken x rest) (taken y more) → (x ≡ y) × (rest ≡ more)
same_taken p = (cc, cc)

pub taken_or_refused : {A : Type 0} {x : A} {rest : List ℕ} {f : Fault} → ◌≡◌ {A = Reading A} (taken x rest) (refused f) → ⊥
taken_or_refused p = cc

same_pair : {name more : List ℕ} {v w : Json} → a_pair name v ≡ a_pair more w → (name ≡ more) × (v ≡ w)
same_pair p = (cc, cc)

-- a reading at bytes that are equal
carried : {A : Type 0} (reads : List ℕ → Reading A → Type 0) {bytes more : List ℕ} {out : Reading A} → bytes ≡ more → reads (after_space bytes) out → reads (after_space more) out
carried reads e r = rw (← e) r

module _ {value : List ℕ → Reading Json → Type 0} (one : IsOne value) where
  member_one : IsOne (ReadsMember value)
  member_one bytes a c (member_value {name = name} r v) (member_value {name = other} s w) =
      let same = same_taken (name_one r s) in
      let values = one _ _ _ (carried value same.1 v) w in
      cc (same.0, values)
  member_one bytes a c (member_value r v) (member_name s) = absurd (taken_or_refused (name_one r s))
  member_one bytes a c (member_name r) (member_value s w) = absurd (taken_or_refused (name_one s r))
  member_one bytes a c (member_name r) (member_name s) = name_to_member (name_one r s)
    where
      name_to_member : {f g : Fault} → ◌≡◌ {A = Reading (List ℕ)} (refused f) (refused g) → ◌≡◌ {A = Reading Member} (refused f) (refused g)
      name_to_member p = cc

  more_members_one : {bytes : List ℕ} {a c : Reading Members} → MoreMembers value bytes a → MoreMembers value bytes c → a ≡ c
  more_members_one members_close members_close = refl
  more_members_one members_close (members_other n m) = absurd (n refl)
  more_members_one (members_next r v) (members_next s w) =
      let same = same_taken (member_one _ _ _ r s) in
      let pair = same_pair same.0 in
      let rest = more_members_one (carried (MoreMembers value) same.1 v) w in
      cc (pair.0, pair.1, rest)
  more_members_one (members_next r v) (members_fault s) = absurd (taken_or_refused (member_one _ _ _ r s))
  more_members_one (members_next r v) (members_other n m) = absurd (m refl)
  more_members_one (members_fault r) (members_next s w) = absurd (taken_or_refused (member_one _ _ _ s r))
  more_members_one (members_fault r) (members_fault s) = let e = member_one _ _ _ r s in cc
  more_members_one (members_fault r) (members_other n m) = absurd (m refl)
  more_members_one (members_other n m) members_close = absurd (n refl)
  more_members_one (members_other n m) (members_next s w) = absurd (m refl)
  more_members_one (members_other n m) (members_fault s) = absurd (m refl)
  more_members_one (members_other n m) (members_other o p) = refl
  more_members_one members_end members_end = refl

  members_one : IsOne (ReadsMembers value)
  members_one bytes a c no_member no_member = refl
  members_one bytes a c no_member (first_member n s w) = absurd (n refl)
  members_one bytes a c no_member (member_fault n s) = absurd (n refl)
  members_one bytes a c (first_member n r v) no_member = absurd (n refl)
  members_one bytes a c (first_member n r v) (first_member m s w) =
      let same = same_taken (member_one _ _ _ r s) in
      let pair = same_pair same.0 in
      let rest = more_members_one (carried (MoreMembers value) same.1 v) w in
      cc (pair.0, pair.1, rest)
  members_one bytes a c (first_member n r v) (member_fault m s) = absurd (taken_or_refused (member_one _ _ _ r s))
  members_one bytes a c (member_fault n r) no_member = absurd (n refl)
  members_one bytes a c (member_fault n r) (first_member m s w) = absurd (taken_or_refused (member_one _ _ _ s r))
  members_one bytes a c (member_fault n r) (member_fault m s) = let e = member_one _ _ _ r s in cc
  members_one bytes a c object_ends object_ends = refl

  more_items_one : {bytes : List ℕ} {a c : Reading Items} → MoreItems value bytes a → MoreItems value bytes c → a ≡ c
  more_items_one items_close items_close = refl
  more_items_one items_close (items_other n m) = absurd (n refl)
  more_items_one (items_next r v) (items_next s w) =
      let same = same_taken (one _ _ _ r s) in
      let rest = more_items_one (carried (MoreItems value) same.1 v) w in
      cc (same.0, rest)
  more_items_one (items_next r v) (items_fault s) = absurd (taken_or_refused (one _ _ _ r s))
  more_items_one (items_next r v) (items_other n m) = absurd (m refl)
  more_items_one (items_fault r) (items_next s w) = absurd (taken_or_refused (one _ _ _ s r))
  more_items_one (items_fault r) (items_fault s) = let e = one _ _ _ r s in cc
  more_items_one (items_fault r) (items_other n m) = absurd (m refl)
  more_items_one (items_other n m) items_close = absurd (n refl)
  more_items_one (items_other n m) (items_next s w) = absurd (m refl)
  more_items_one (items_other n m) (items_fault s) = absurd (m refl)
  more_items_one (items_other n m) (items_other o p) = refl
  more_items_one items_end items_end = refl

  items_one : IsOne (ReadsItems value)
  items_one bytes a c no_item no_item = refl
  items_one bytes a c no_item (first_item n s w) = absurd (n refl)
  items_one bytes a c no_item (item_fault n s) = absurd (n refl)
  items_one bytes a c (first_item n r v) no_item = absurd (n refl)
  items_one bytes a c (first_item n r v) (first_item m s w) =
      let same = same_taken (one _ _ _ r s) in
      let rest = more_items_one (carried (MoreItems value) same.1 v) w in
      cc (same.0, rest)
  items_one bytes a c (first_item n r v) (item_fault m s) = absurd (taken_or_refused (one _ _ _ r s))
  items_one bytes a c (item_fault n r) no_item = absurd (n refl)
  items_one bytes a c (item_fault n r) (first_item m s w) = absurd (taken_or_refused (one _ _ _ s r))
  items_one bytes a c (item_fault n r) (item_fault m s) = let e = one _ _ _ r s in cc
  items_one bytes a c list_ends list_ends = refl

module _ {items : List ℕ → Reading Items → Type 0} {members : List ℕ → Reading Members → Type 0} (one_list : IsOne items) (one_object : IsOne members) where
  with_one : IsOne (ReadsWith items members)
  with_one bytes a c (reads_text {bytes = rest} r) (reads_text s) = ap (as_text rest) (string_one r s)
  with_one bytes a c (reads_text r) (reads_scalar n m o) = absurd (n refl)
  with_one bytes a c (reads_list r) (reads_list s) = ap as_list (one_list _ _ _ r s)
  with_one bytes a c (reads_list r) (reads_scalar n m o) = absurd (m refl)
  with_one bytes a c (reads_object r) (reads_object s) = ap as_object (one_object _ _ _ r s)
  with_one bytes a c (reads_object r) (reads_scalar n m o) = absurd (o refl)
  with_one bytes a c (reads_scalar n m o) (reads_text r) = absurd (n refl)
  with_one bytes a c (reads_scalar n m o) (reads_list r) = absurd (m refl)
  with_one bytes a c (reads_scalar n m o) (reads_object r) = absurd (o refl)
  with_one bytes a c (reads_scalar n m o) (reads_scalar p q k) = refl
  with_one bytes a c value_ends value_ends = refl

deep_one : {A : Type 0} → IsOne {A = A} IsTooDeep
deep_one bytes a c p q = p ∙ sym q

pub reads_one : (depth : ℕ) → IsOne (Reads depth)
reads_one zero = with_one deep_one deep_one
reads_one (suc depth) =
    with_one (λ bytes. items_one (reads_one depth) (after_space bytes)) (λ bytes. members_one (reads_one depth) (after_space bytes))

json_one : {bytes : List ℕ} {a c : Result Json Fault} → ReadsJson bytes a → ReadsJson bytes c → a ≡ c
json_one (json_text {bytes = bytes} p r) (json_text q s) = ap (λ out. with_offset (length bytes) (whole_text out)) (reads_one most_depth _ _ _ r s)

pub one_json : OneJson
one_json bytes a c r s = json_one r s
