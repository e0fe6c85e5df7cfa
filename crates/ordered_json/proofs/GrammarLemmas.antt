-- The grammar's rules at the bytes that a reader holds.
use Rattle.std.specs.Prelude.{◌≡◌, ◌≢◌, ℕ, zero, suc, ◌-◌, ◌<◌, ◌==◌, List, [], ◌∷◌, ◌++◌, length, Result, Ok, Err, MatchResult, IfOk}
use Rattle.std.proofs.Common.{refl, ap, sym, subst, ◌∙◌, arith}
use Rattle.std.proofs.lemmas.Bool.{cond-false, false_from_ne_true, eqb-true}
use Rattle.json_spec.specs.Value.{Json, a_text, a_list, an_object, Items, no_items, an_item, Members, no_members, settled_onto, put}
use Rattle.json_spec.specs.Taken.{taken, refused, and_then}
use Rattle.json_spec.specs.Strings.{ReadsString}
use Rattle.json_spec.specs.Grammar.{Fault, NotJson, TooDeep, Reading, after_space, fault_here, scalar_at, colon_at, ReadsName, name_text, no_name, name_ends, Member, a_pair, ReadsMember, member_value, member_name, behind_member, behind_item, MoreMembers, members_close, members_next, members_fault, members_other, members_end, ReadsMembers, no_member, first_member, member_fault, object_ends, MoreItems, items_close, items_next, items_fault, items_other, items_end, ReadsItems, no_item, first_item, item_fault, list_ends, as_list, as_object, reads_text, reads_list, reads_object, reads_scalar, value_ends, Reads, most_depth, alone, with_offset, ReadsJson, json_text}
use Rattle.json_spec.proofs.Shorter.{Below, space_at_most, scalar_below}
use Rattle.json_spec.proofs.OneJson.{name_one, reads_one, taken_or_refused}
use Rattle.ordered_json.specs.declared.fault.Stop.{Stop}
use Rattle.ordered_json.specs.declared.fault.Stop.TheVariants.{Unreadable, Deep, NoMemory}
use Rattle.ordered_json.specs.Shown.{items_from}
use Rattle.ordered_json.specs.Outcomes.{Fails, settle, ReadsSettled, IsWhole, WholeFails}

same_fault : {A : Type 0} {f g : Fault} → ◌≡◌ {A = Reading A} (refused f) (refused g) → f ≡ g
same_fault p = cc

-- ---- names

pub no_quote : (bytes : List ℕ) → ((rest : List ℕ) → bytes ≢ 34 ∷ rest) → ReadsName bytes (fault_here bytes)
no_quote [] n = name_ends
no_quote (b ∷ bytes) n = no_name (λ e. n bytes (ap (λ x. x ∷ bytes) e))

pub bad_name : (bytes inner : List ℕ) → bytes ≡ 34 ∷ inner → ReadsString inner (refused tt) → ReadsName bytes (fault_here bytes)
bad_name bytes inner e r = rw e (name_text r)

named : (bytes inner key rest : List ℕ) (out : Reading (List ℕ)) → bytes ≡ 34 ∷ inner → ReadsString inner (taken key rest) → colon_at key (after_space rest) ≡ out → ReadsName bytes out
named bytes inner key rest out e r f = rw (e, ← f) (name_text r)

at_colon : (key bytes after : List ℕ) → bytes ≡ 58 ∷ after → colon_at key bytes ≡ taken key after
at_colon key bytes after e = rw e refl

no_colon : (key bytes : List ℕ) → ((after : List ℕ) → bytes ≢ 58 ∷ after) → colon_at key bytes ≡ fault_here bytes
no_colon key [] n = refl
no_colon key (b ∷ bytes) n = cond-false _ _ _ (false_from_ne_true (b == 58) (λ t. n bytes (ap (λ x. x ∷ bytes) (eqb-true b 58 t))))

pub name_read : (bytes inner key rest space after : List ℕ) → bytes ≡ 34 ∷ inner → ReadsString inner (taken key rest) → space ≡ after_space rest → space ≡ 58 ∷ after → ReadsName bytes (taken key after)
name_read bytes inner key rest space after e r s f = named bytes inner key rest _ e r (at_colon key (after_space rest) after (sym s ∙ f))

pub name_stops : (bytes inner key rest space : List ℕ) → bytes ≡ 34 ∷ inner → ReadsString inner (taken key rest) → space ≡ after_space rest → ((after : List ℕ) → space ≢ 58 ∷ after) → ReadsName bytes (fault_here space)
name_stops bytes inner key rest space e r s n = rw s (named bytes inner key rest _ e r (no_colon key (after_space rest) (λ after f. n after (s ∙ f))))

-- ---- values

pub no_value : (depth : ℕ) (bytes : List ℕ) → bytes ≡ [] → Reads depth bytes (fault_here [])
no_value zero bytes e = rw e value_ends
no_value (suc depth) bytes e = rw e value_ends

pub text_value : (depth : ℕ) (d : ℕ) (bytes rest text more : List ℕ) (v : Json) → bytes ≡ d ∷ rest → d ≡ 34 → ReadsString rest (taken text more) → v ≡ a_text text → Reads depth bytes (taken v more)
text_value zero d bytes rest text more v e q r i = rw (e, q, i) (reads_text r)
text_value (suc depth) d bytes rest text more v e q r i = rw (e, q, i) (reads_text r)

pub bad_text : (depth : ℕ) (d : ℕ) (bytes rest : List ℕ) → bytes ≡ d ∷ rest → d ≡ 34 → ReadsString rest (refused tt) → Reads depth bytes (fault_here bytes)
bad_text zero d bytes rest e q r = rw (e, q) (reads_text r)
bad_text (suc depth) d bytes rest e q r = rw (e, q) (reads_text r)

scalar_value : (depth : ℕ) (b : ℕ) (rest : List ℕ) → b ≢ 34 → b ≢ 91 → b ≢ 123 → Reads depth (b ∷ rest) (scalar_at (b ∷ rest))
scalar_value zero b rest q l o = reads_scalar q l o
scalar_value (suc depth) b rest q l o = reads_scalar q l o

scalar_reads : (depth : ℕ) (b : ℕ) (bytes rest : List ℕ) (out : Reading Json) → bytes ≡ b ∷ rest → b ≢ 34 → b ≢ 91 → b ≢ 123 → scalar_at bytes ≡ out → Reads depth bytes out
scalar_reads depth b bytes rest out e q l o s = rw (← s, e) (scalar_value depth b rest q l o)

pub deep_list : (depth : ℕ) (d : ℕ) (bytes rest : List ℕ) → depth ≡ 0 → bytes ≡ d ∷ rest → d ≡ 91 → Reads depth bytes (refused (TooDeep (length bytes)))
deep_list depth d bytes rest z e b = rw (z, e, b) (reads_list {out = refused (TooDeep (suc (length rest)))} refl)

pub deep_object : (depth : ℕ) (d : ℕ) (bytes rest : List ℕ) → depth ≡ 0 → bytes ≡ d ∷ rest → d ≡ 123 → Reads depth bytes (refused (TooDeep (length bytes)))
deep_object depth d bytes rest z e b = rw (z, e, b) (reads_object {out = refused (TooDeep (suc (length rest)))} refl)

pub below_depth : (depth : ℕ) → depth ≢ 0 → depth ≡ suc (depth - 1)
below_depth zero n = absurd (n refl)
below_depth (suc m) n = omega arith

-- a value that is a list or an object, where one bracket less may be opened within
pub list_reads : (m depth : ℕ) (d : ℕ) (bytes rest : List ℕ) (out : Reading Items) → depth ≡ suc m → bytes ≡ d ∷ rest → d ≡ 91 → ReadsItems (Reads m) (after_space rest) out → Reads depth bytes (as_list out)
list_reads m depth d bytes rest out s e b r = rw (s, e, b) (reads_list r)

object_from : (out : Reading Members) → as_object out ≡ and_then (settle out) (λ ms after. taken (an_object ms) after)
object_from (taken ms rest) = refl
object_from (refused f) = refl

pub object_reads : (m depth : ℕ) (d : ℕ) (bytes rest : List ℕ) (out : Reading Members) → depth ≡ suc m → bytes ≡ d ∷ rest → d ≡ 123 → ReadsSettled (Reads m) (after_space rest) out → Reads depth bytes (and_then out (λ ms after. taken (an_object ms) after))
object_reads m depth d bytes rest out s e b r = rw (s, e, b, ← r.settles, ← object_from r.written) (reads_object r.reads)

pub list_value : (m depth : ℕ) (d : ℕ) (bytes rest end : List ℕ) (items : Items) (v : Json) → depth ≡ suc m → bytes ≡ d ∷ rest → d ≡ 91 → ReadsItems (Reads m) (after_space rest) (taken items end) → v ≡ a_list items → Reads depth bytes (taken v end)
list_value m depth d bytes rest end items v s e b r i = rw i (list_reads m depth d bytes rest (taken items end) s e b r)

pub object_value : (m depth : ℕ) (d : ℕ) (bytes rest end : List ℕ) (ms : Members) (v : Json) → depth ≡ suc m → bytes ≡ d ∷ rest → d ≡ 123 → ReadsSettled (Reads m) (after_space rest) (taken ms end) → v ≡ an_object ms → Reads depth bytes (taken v end)
object_value m depth d bytes rest end ms v s e b r i = rw i (object_reads m depth d bytes rest (taken ms end) s e b r)

-- ---- the values of a list

-- the values that were read, before those that are read behind them
abbrev pub onto : List Json → Items → Items
onto [] items = items
onto (value ∷ values) items = an_item value (onto values items)

abbrev pub behind_all : List Json → Reading Items → Reading Items
behind_all found out = and_then out (λ items rest. taken (onto found items) rest)

onto_more : (found : List Json) (value : Json) (items : Items) → onto found (an_item value items) ≡ onto (found ++ value ∷ []) items
onto_more [] value items = refl
onto_more (v ∷ found) value items = ap (an_item v) (onto_more found value items)

behind_more : (found : List Json) (value : Json) (out : Reading Items) → behind_all found (behind_item value out) ≡ behind_all (found ++ value ∷ []) out
behind_more found value (taken items rest) = ap (λ xs. taken xs rest) (onto_more found value items)
behind_more found value (refused f) = refl

behind_none : (out : Reading Items) → behind_all [] out ≡ out
behind_none (taken items rest) = refl
behind_none (refused f) = refl

onto_none : (found : List Json) → onto found no_items ≡ items_from found
onto_none [] = refl
onto_none (value ∷ found) = ap (an_item value) (onto_none found)

-- a value of a list is awaited at the rest: what it and those behind it are makes the list
pub record AwaitsItem (value : List ℕ → Reading Json → Type 0) (bytes : List ℕ) (found : List Json) (rest : List ℕ) : Type 0 where
  pub next : (v : Json) (middle : List ℕ) (out : Reading Items) → value rest (taken v middle) → MoreItems value (after_space middle) out → ReadsItems value bytes (behind_all found (behind_item v out))
  pub fault : (f : Fault) → value rest (refused f) → ReadsItems value bytes (refused f)

pub no_items_read : (value : List ℕ → Reading Json → Type 0) (bytes end : List ℕ) (items : List Json) → items ≡ [] → bytes ≡ 93 ∷ end → ReadsItems value bytes (taken (items_from items) end)
no_items_read value bytes end items i e = rw (i, e) no_item

first_awaited : (depth : ℕ) (bytes : List ℕ) → ((rest : List ℕ) → bytes ≢ 93 ∷ rest) → AwaitsItem (Reads depth) bytes [] bytes
first_awaited depth [] n = record {
  next = λ v middle out r m. absurd (taken_or_refused (reads_one depth [] _ _ r (no_value depth [] refl)));
  fault = λ f r. let e : f ≡ NotJson 0 = same_fault (reads_one depth [] _ _ r (no_value depth [] refl)) in rw e list_ends;
}
first_awaited depth (b ∷ bytes) n = record {
  next = λ v middle out r m. rw (behind_none (behind_item v out)) (first_item (λ e. n bytes (ap (λ x. x ∷ bytes) e)) r m);
  fault = λ f r. item_fault (λ e. n bytes (ap (λ x. x ∷ bytes) e)) r;
}

pub awaits_first_item : (depth : ℕ) (whole start : List ℕ) (items : List Json) → items ≡ [] → start ≡ after_space whole → ((rest : List ℕ) → start ≢ 93 ∷ rest) → AwaitsItem (Reads depth) (after_space whole) items start
awaits_first_item depth whole start items i s n = rw (i, ← s) (first_awaited depth start n)

module _ {value : List ℕ → Reading Json → Type 0} {bytes rest : List ℕ} {found : List Json} (awaits : AwaitsItem value bytes found rest) where
  pub items_fail : (stop : Stop) → Fails (value rest) stop → Fails (ReadsItems value bytes) stop
  items_fail (Unreadable left) r = awaits.fault (NotJson left) r
  items_fail (Deep left) r = awaits.fault (TooDeep left) r
  items_fail NoMemory r = tt

  module _ (item : Json) (middle space : List ℕ) (here : value rest (taken item middle)) (skipped : space ≡ after_space middle) where
    pub awaits_next_item : (items : List Json) (more start : List ℕ) → items ≡ found ++ item ∷ [] → space ≡ 44 ∷ more → start ≡ after_space more → AwaitsItem value bytes items start
    awaits_next_item items more start i e s = rw (i, s) (record {
      next = λ v after out r m. rw (← behind_more found item (behind_item v out)) (awaits.next item middle (behind_item v out) here (rw (← skipped, e) (items_next r m)));
      fault = λ f r. awaits.next item middle (refused f) here (rw (← skipped, e) (items_fault r));
    })

    pub last_item : (items : List Json) (end : List ℕ) → items ≡ found ++ item ∷ [] → space ≡ 93 ∷ end → ReadsItems value bytes (taken (items_from items) end)
    last_item items end i e = rw (i, ← onto_none (found ++ item ∷ []), ← onto_more found item no_items) (awaits.next item middle (taken no_items end) here (rw (← skipped, e) items_close))

    pub no_more_items : ((end : List ℕ) → space ≢ 93 ∷ end) → ((more : List ℕ) → space ≢ 44 ∷ more) → ReadsItems value bytes (fault_here space)
    no_more_items n m = awaits.next item middle (fault_here space) here (rw (← skipped) (no_turn space n m))
      where
        no_turn : (xs : List ℕ) → ((end : List ℕ) → xs ≢ 93 ∷ end) → ((more : List ℕ) → xs ≢ 44 ∷ more) → MoreItems value xs (fault_here xs)
        no_turn [] n m = items_end
        no_turn (b ∷ xs) n m = items_other (λ e. n xs (ap (λ x. x ∷ xs) e)) (λ e. m xs (ap (λ x. x ∷ xs) e))

-- ---- the members of an object

no_quote_at : {bytes : List ℕ} → bytes ≡ [] → ReadsName bytes (refused (NotJson 0))
no_quote_at e = rw e name_ends

empty_member : {value : List ℕ → Reading Json → Type 0} {bytes : List ℕ} {out : Reading Member} → bytes ≡ [] → ReadsMember value bytes out → out ≡ refused (NotJson 0)
empty_member e (member_value r v) = absurd (taken_or_refused {f = NotJson 0} (name_one r (no_quote_at e)))
empty_member e (member_name {f = f} r) = let same : f ≡ NotJson 0 = same_fault (name_one r (no_quote_at e)) in rw same refl

-- members behind those that were read, each name once
abbrev pub settled_behind : Members → Reading Members → Reading Members
settled_behind found out = and_then out (λ ms after. taken (settled_onto found ms) after)

put_behind : (found : Members) (name : List ℕ) (v : Json) (out : Reading Members) → settled_behind found (behind_member name v out) ≡ settled_behind (put name v found) out
put_behind found name v (taken ms rest) = refl
put_behind found name v (refused f) = refl

settle_behind : (out : Reading Members) → settle out ≡ settled_behind no_members out
settle_behind (taken ms rest) = refl
settle_behind (refused f) = refl

moved : {value : List ℕ → Reading Json → Type 0} {bytes : List ℕ} {out other : Reading Members} → out ≡ other → ReadsSettled value bytes out → ReadsSettled value bytes other
moved e r = record { written = r.written; reads = r.reads; settles = r.settles ∙ e }

settled_from : {value : List ℕ → Reading Json → Type 0} {bytes : List ℕ} {out : Reading Members} → ReadsMembers value bytes out → ReadsSettled value bytes (settled_behind no_members out)
settled_from {out = out} r = record { written = out; reads = r; settles = settle_behind out }

-- a member of an object is awaited at the rest: what it and those behind it are makes the object
pub record AwaitsMember (value : List ℕ → Reading Json → Type 0) (bytes : List ℕ) (found : Members) (rest : List ℕ) : Type 0 where
  pub next : (name : List ℕ) (v : Json) (middle : List ℕ) (out : Reading Members) → ReadsMember value rest (taken (a_pair name v) middle) → MoreMembers value (after_space middle) out → ReadsSettled value bytes (settled_behind found (behind_member name v out))
  pub fault : (f : Fault) → ReadsMember value rest (refused f) → ReadsSettled value bytes (refused f)

pub no_members_read : (value : List ℕ → Reading Json → Type 0) (bytes end : List ℕ) (ms : Members) → ms ≡ no_members → bytes ≡ 125 ∷ end → ReadsSettled value bytes (taken ms end)
no_members_read value bytes end ms i e = rw (i, e) (settled_from no_member)

first_member_awaited : (value : List ℕ → Reading Json → Type 0) (bytes : List ℕ) → ((rest : List ℕ) → bytes ≢ 125 ∷ rest) → AwaitsMember value bytes no_members bytes
first_member_awaited value [] n = record {
  next = λ name v middle out r m. absurd (taken_or_refused (empty_member refl r));
  fault = λ f r. let e : f ≡ NotJson 0 = same_fault (empty_member refl r) in rw e (settled_from object_ends);
}
first_member_awaited value (b ∷ bytes) n = record {
  next = λ name v middle out r m. settled_from (first_member (λ e. n bytes (ap (λ x. x ∷ bytes) e)) r m);
  fault = λ f r. settled_from (member_fault (λ e. n bytes (ap (λ x. x ∷ bytes) e)) r);
}

pub awaits_first_member : (value : List ℕ → Reading Json → Type 0) (whole start : List ℕ) (ms : Members) → ms ≡ no_members → start ≡ after_space whole → ((rest : List ℕ) → start ≢ 125 ∷ rest) → AwaitsMember value (after_space whole) ms start
awaits_first_member value whole start ms i s n = rw (i, ← s) (first_member_awaited value start n)

module _ {value : List ℕ → Reading Json → Type 0} {bytes rest : List ℕ} {found : Members} (awaits : AwaitsMember value bytes found rest) where
  name_fault : (f : Fault) → ReadsName rest (refused f) → ReadsSettled value bytes (refused f)
  name_fault f r = awaits.fault f (member_name r)

  pub names_fail : (stop : Stop) → Fails (ReadsName rest) stop → Fails (ReadsSettled value bytes) stop
  names_fail (Unreadable left) r = name_fault (NotJson left) r
  names_fail (Deep left) r = name_fault (TooDeep left) r
  names_fail NoMemory r = tt

  module _ (name after start : List ℕ) (named_here : ReadsName rest (taken name after)) (begun : start ≡ after_space after) where
    value_fault : (f : Fault) → value start (refused f) → ReadsSettled value bytes (refused f)
    value_fault f r = awaits.fault f (member_value {out = refused f} named_here (rw (← begun) r))

    pub values_fail : (stop : Stop) → Fails (value start) stop → Fails (ReadsSettled value bytes) stop
    values_fail (Unreadable left) r = value_fault (NotJson left) r
    values_fail (Deep left) r = value_fault (TooDeep left) r
    values_fail NoMemory r = tt

    module _ (v : Json) (middle space : List ℕ) (here : value start (taken v middle)) (skipped : space ≡ after_space middle) where
      member_here : ReadsMember value rest (taken (a_pair name v) middle)
      member_here = member_value {out = taken v middle} named_here (rw (← begun) here)

      pub awaits_next_member : (ms : Members) (more next_start : List ℕ) → ms ≡ put name v found → space ≡ 44 ∷ more → next_start ≡ after_space more → AwaitsMember value bytes ms next_start
      awaits_next_member ms more next_start i e s = rw (i, s) (record {
        next = λ other w end out r m. moved (put_behind found name v (behind_member other w out)) (awaits.next name v middle (behind_member other w out) member_here (rw (← skipped, e) (members_next r m)));
        fault = λ f r. awaits.next name v middle (refused f) member_here (rw (← skipped, e) (members_fault r));
      })

      pub last_member : (ms : Members) (end : List ℕ) → ms ≡ put name v found → space ≡ 125 ∷ end → ReadsSettled value bytes (taken ms end)
      last_member ms end i e = rw i (awaits.next name v middle (taken no_members end) member_here (rw (← skipped, e) members_close))

      pub no_more_members : ((end : List ℕ) → space ≢ 125 ∷ end) → ((more : List ℕ) → space ≢ 44 ∷ more) → ReadsSettled value bytes (fault_here space)
      no_more_members n m = awaits.next name v middle (fault_here space) member_here (rw (← skipped) (no_turn space n m))
        where
          no_turn : (xs : List ℕ) → ((end : List ℕ) → xs ≢ 125 ∷ end) → ((more : List ℕ) → xs ≢ 44 ∷ more) → MoreMembers value xs (fault_here xs)
          no_turn [] n m = members_end
          no_turn (b ∷ xs) n m = members_other (λ e. n xs (ap (λ x. x ∷ xs) e)) (λ e. m xs (ap (λ x. x ∷ xs) e))

-- ---- what is left

pub shorter_by_close : (whole start end : List ℕ) (b : ℕ) → start ≡ after_space whole → start ≡ b ∷ end → length end < length whole
shorter_by_close whole start end b s e = omega (arith, space_at_most whole, ap length s, ap length e)

-- behind a value stand its space, a byte, and perhaps more space
pub shorter_by_turn : (before after space more : List ℕ) (b : ℕ) → length after < length before → space ≡ after_space after → space ≡ b ∷ more → length more < length before
shorter_by_turn before after space more b l s e = omega (arith, space_at_most after, ap length s, ap length e)

pub shorter_by_space : (before more start : List ℕ) → length more < length before → start ≡ after_space more → length start < length before
shorter_by_space before more start l s = omega (arith, space_at_most more, ap length s)

scalar_left : {n : ℕ} {v : Json} {more : List ℕ} {out : Reading Json} → Below n out → out ≡ taken v more → length more < n
scalar_left {more = more} {out = taken w rest} b e = let same : rest ≡ more = cc in rw (← same) b
scalar_left {out = refused f} b e = absurd (cc)

scalar_shorter : (bytes more : List ℕ) (v : Json) → scalar_at bytes ≡ taken v more → length more < length bytes
scalar_shorter bytes more v e = scalar_left (scalar_below bytes) e

scalar_fails : (depth : ℕ) (b : ℕ) {bytes : List ℕ} (rest : List ℕ) → bytes ≡ b ∷ rest → b ≢ 34 → b ≢ 91 → b ≢ 123 → (stop : Stop) → Fails (λ out. scalar_at bytes ≡ out) stop → Fails (Reads depth bytes) stop
scalar_fails depth b rest e q l o (Unreadable left) s = scalar_reads depth b _ rest _ e q l o s
scalar_fails depth b rest e q l o (Deep left) s = scalar_reads depth b _ rest _ e q l o s
scalar_fails depth b rest e q l o NoMemory s = tt

-- the same of what a reader of such a value answers, and the bytes that it leaves
pub scalar_result : {A : Type 0} (depth b : ℕ) (bytes rest : List ℕ) (result : Result A Stop) (of : A → Reading Json) → bytes ≡ b ∷ rest → b ≢ 34 → b ≢ 91 → b ≢ 123 → MatchResult result (λ x. scalar_at bytes ≡ of x) (Fails (λ out. scalar_at bytes ≡ out)) → MatchResult result (λ x. Reads depth bytes (of x)) (Fails (Reads depth bytes))
scalar_result depth b bytes rest (Ok x) of e q l o s = scalar_reads depth b bytes rest (of x) e q l o s
scalar_result depth b bytes rest (Err stop) of e q l o s = scalar_fails depth b rest e q l o stop s

pub scalar_result_shorter : {A : Type 0} (bytes : List ℕ) (result : Result A Stop) (value : A → Json) (left : A → List ℕ) → MatchResult result (λ x. scalar_at bytes ≡ taken (value x) (left x)) (Fails (λ out. scalar_at bytes ≡ out)) → IfOk result (λ x. length (left x) < length bytes)
scalar_result_shorter bytes (Ok x) value left s = scalar_shorter bytes (left x) (value x) s
scalar_result_shorter bytes (Err stop) value left s = tt

-- a fault within a list or an object is a fault of the value
pub list_fails : (m depth : ℕ) (d : ℕ) (bytes rest : List ℕ) → depth ≡ suc m → bytes ≡ d ∷ rest → d ≡ 91 → (stop : Stop) → Fails (ReadsItems (Reads m) (after_space rest)) stop → Fails (Reads depth bytes) stop
list_fails m depth d bytes rest s e b (Unreadable left) r = list_reads m depth d bytes rest (refused (NotJson left)) s e b r
list_fails m depth d bytes rest s e b (Deep left) r = list_reads m depth d bytes rest (refused (TooDeep left)) s e b r
list_fails m depth d bytes rest s e b NoMemory r = tt

pub object_fails : (m depth : ℕ) (d : ℕ) (bytes rest : List ℕ) → depth ≡ suc m → bytes ≡ d ∷ rest → d ≡ 123 → (stop : Stop) → Fails (ReadsSettled (Reads m) (after_space rest)) stop → Fails (Reads depth bytes) stop
object_fails m depth d bytes rest s e b (Unreadable left) r = object_reads m depth d bytes rest (refused (NotJson left)) s e b r
object_fails m depth d bytes rest s e b (Deep left) r = object_reads m depth d bytes rest (refused (TooDeep left)) s e b r
object_fails m depth d bytes rest s e b NoMemory r = tt

-- ---- the whole text

-- a reading in which `most` brackets may be opened, at the start of a text
begun_at : (most : ℕ) (bytes start : List ℕ) (out : Reading Json) → most ≡ most_depth → start ≡ after_space bytes → Reads most start out → Reads most_depth (after_space bytes) out
begun_at most bytes start out m s r = subst (λ xs. Reads most_depth xs out) s (subst (λ n. Reads n start out) m r)

pub whole_fault : (most : ℕ) (bytes start : List ℕ) → most ≡ most_depth → start ≡ after_space bytes → (stop : Stop) → Fails (Reads most start) stop → WholeFails bytes stop
whole_fault most bytes start m s (Unreadable left) r = record { value = refused (NotJson left); reads = begun_at most bytes start _ m s r; whole = refl }
whole_fault most bytes start m s (Deep left) r = record { value = refused (TooDeep left); reads = begun_at most bytes start _ m s r; whole = refl }
whole_fault most bytes start m s NoMemory r = tt

at_end : (v : Json) (rest : List ℕ) → rest ≡ [] → alone v rest ≡ Ok v
at_end v rest e = rw e refl

before_end : (v : Json) (rest : List ℕ) → rest ≢ [] → alone v rest ≡ Err (NotJson (length rest))
before_end v [] n = absurd (n refl)
before_end v (b ∷ rest) n = refl

module _ (most : ℕ) (bytes start rest space : List ℕ) (v : Json) (limit : most ≡ most_depth) (begun : start ≡ after_space bytes) (here : Reads most start (taken v rest)) (skipped : space ≡ after_space rest) where
  read_here : Reads most_depth (after_space bytes) (taken v rest)
  read_here = begun_at most bytes start (taken v rest) limit begun here

  pub whole_value : space ≡ [] → IsWhole bytes (Ok v)
  whole_value e = record { value = taken v rest; reads = read_here; whole = at_end v (after_space rest) (sym skipped ∙ e) }

  pub more_than_value : space ≢ [] → IsWhole bytes (Err (NotJson (length space)))
  more_than_value n = record { value = taken v rest; reads = read_here; whole = before_end v (after_space rest) (λ e. n (skipped ∙ e)) ∙ ap (λ (xs : List ℕ). Err (NotJson (length xs))) (sym skipped) }

pub whole_json : (bytes : List ℕ) (out : Result Json Fault) → IsWhole bytes out → ReadsJson bytes (with_offset (length bytes) out)
whole_json bytes out w = rw (← w.whole) (json_text w.value w.reads)
