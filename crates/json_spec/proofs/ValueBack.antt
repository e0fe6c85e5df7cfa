-- What is printed reads back.
use Rattle.json_spec.specs.Numbers.{IsNumber}
use Rattle.json_spec.proofs.NumberBack.{is_number_byte, Closes, number_back, begins_number, byte_not, byte_other}
use Rattle.std.proofs.Common.{subst, sym}
use Rattle.std.proofs.Common.{refl, arith, ◌∙◌, append_assoc}
use Rattle.std.proofs.lemmas.Bool.{cond-false}
use Rattle.std.specs.Prelude.{◌≡◌, ℕ, zero, suc, List, ◌≢◌, false, ◌∷◌, true, ◌++◌, IsUtf8, codes, []}
use Rattle.json_spec.proofs.Settled.{settled_distinct}
use Rattle.json_spec.proofs.TextBack.{text_back}
use Rattle.json_spec.specs.Grammar.{after_space, is_space, Reading, a_pair, ReadsMember, MoreMembers, ReadsMembers, first_member, MoreItems, ReadsItems, first_item, ReadsWith, Reads, ReadsName, name_text, reads_text, member_value, reads_list, reads_object, members_close, members_next, no_member, items_close, items_next, no_item, reads_scalar}
use Rattle.json_spec.specs.PrintedString.{quoted}
use Rattle.json_spec.specs.PrintedValue.{margin, printed, IsPrintable, line, printed_items, printed_members, ArePrintable, MembersArePrintable, printed_text}
use Rattle.json_spec.specs.Strings.{in_utf8}
use Rattle.json_spec.specs.Taken.{taken}
use Rattle.json_spec.specs.Value.{Json, a_null, a_bool, a_number, a_text, a_list, an_object, no_items, an_item, no_members, a_member, Items, Members, settled, AreDistinct}

after_margin : (n : ℕ) (rest : List ℕ) → after_space (margin n rest) ≡ after_space rest
after_margin zero rest = refl
after_margin (suc n) rest = after_margin n rest

-- a printed value begins with a byte that is no space and closes no list
pub record StartsValue (bytes : List ℕ) : Type 0 where
  pub head : ℕ
  pub tail : List ℕ
  pub is : bytes ≡ head ∷ tail
  pub no_space : is_space head ≡ false
  pub no_close : head ≢ 93

no_space_byte : (b : ℕ) → is_number_byte b ≡ true → is_space b ≡ false
no_space_byte b is = rw (byte_not b 32 refl is, byte_not b 9 refl is, byte_not b 10 refl is, byte_not b 13 refl is) refl

number_starts : (number rest : List ℕ) → IsNumber number → StartsValue (number ++ rest)
number_starts number rest is =
    let first = begins_number number rest is in
    record { head = first.head; tail = first.tail; is = first.is; no_space = no_space_byte first.head first.byte; no_close = byte_other first.head 93 refl first.byte }

pub printed_starts : (depth n : ℕ) (v : Json) (rest : List ℕ) → IsPrintable depth v → StartsValue (printed n v rest)
printed_starts depth n a_null rest p = record { head = 110; tail = _; is = refl; no_space = refl; no_close = omega arith }
printed_starts depth n (a_bool true) rest p = record { head = 116; tail = _; is = refl; no_space = refl; no_close = omega arith }
printed_starts depth n (a_bool false) rest p = record { head = 102; tail = _; is = refl; no_space = refl; no_close = omega arith }
printed_starts depth n (a_number number) rest p = number_starts number rest p
printed_starts depth n (a_text text) rest p = record { head = 34; tail = _; is = refl; no_space = refl; no_close = omega arith }
printed_starts depth n (a_list no_items) rest p = record { head = 91; tail = _; is = refl; no_space = refl; no_close = omega arith }
printed_starts depth n (a_list (an_item v more)) rest p = record { head = 91; tail = _; is = refl; no_space = refl; no_close = omega arith }
printed_starts depth n (an_object no_members) rest p = record { head = 123; tail = _; is = refl; no_space = refl; no_close = omega arith }
printed_starts depth n (an_object (a_member name v more)) rest p = record { head = 123; tail = _; is = refl; no_space = refl; no_close = omega arith }

pub after_no_space : (bytes : List ℕ) → StartsValue bytes → after_space bytes ≡ bytes
after_no_space bytes s = rw s.is (cond-false _ _ _ s.no_space)

-- the line end and the margin before a value are passed over
after_line : (n : ℕ) (bytes : List ℕ) → StartsValue bytes → after_space (line n bytes) ≡ bytes
after_line n bytes s = after_margin n bytes ∙ after_no_space bytes s

quoted_starts : (name rest : List ℕ) → StartsValue (quoted name ++ rest)
quoted_starts name rest = record { head = 34; tail = _; is = refl; no_space = refl; no_close = omega arith }

module _ {value : List ℕ → Reading Json → Type 0} where
  first_item_at : {bytes : List ℕ} (middle rest : List ℕ) (v : Json) (vs : Items) → StartsValue bytes → value bytes (taken v middle) → MoreItems value (after_space middle) (taken vs rest) → ReadsItems value bytes (taken (an_item v vs) rest)
  first_item_at middle rest v vs s r m = rw s.is (first_item s.no_close (rw s.is at r) m)

  first_member_at : (name more middle rest : List ℕ) (v : Json) (ms : Members) → ReadsMember value (quoted name ++ more) (taken (a_pair name v) middle) → MoreMembers value (after_space middle) (taken ms rest) → ReadsMembers value (quoted name ++ more) (taken (a_member name v ms) rest)
  first_member_at name more middle rest v ms r m = first_member (omega arith) r m

at_depth : (depth : ℕ) {bytes : List ℕ} {out : Reading Json} → ((items : List ℕ → Reading Items → Type 0) (members : List ℕ → Reading Members → Type 0) → ReadsWith items members bytes out) → Reads depth bytes out
at_depth zero r = r _ _
at_depth (suc depth) r = r _ _

name_back : (name rest : List ℕ) → IsUtf8 name → ReadsName (quoted name ++ (58 ∷ rest)) (taken name rest)
name_back name rest u = rw append_assoc (name_text (in_utf8 (text_back name (58 ∷ rest)) u))

text_value_back : (text rest : List ℕ) → IsUtf8 text → {items : List ℕ → Reading Items → Type 0} {members : List ℕ → Reading Members → Type 0} → ReadsWith items members (quoted text ++ rest) (taken (a_text text) rest)
text_value_back text rest u = rw append_assoc (reads_text (in_utf8 (text_back text rest) u))

member_back : (depth : ℕ) (name bytes rest : List ℕ) (v : Json) → IsUtf8 name → StartsValue bytes → Reads depth bytes (taken v rest) → ReadsMember (Reads depth) (quoted name ++ (codes ": " ++ bytes)) (taken (a_pair name v) rest)
member_back depth name bytes rest v u s r = member_value {out = taken v rest} (name_back name (32 ∷ bytes) u) (rw (after_no_space bytes s) r)

list_back : (depth n : ℕ) (bytes middle rest : List ℕ) (v : Json) (vs : Items) → StartsValue bytes → Reads depth bytes (taken v middle) → MoreItems (Reads depth) (after_space middle) (taken vs rest) → Reads (suc depth) (91 ∷ line n bytes) (taken (a_list (an_item v vs)) rest)
list_back depth n bytes middle rest v vs s r m =
    let items : ReadsItems (Reads depth) (after_space (line n bytes)) (taken (an_item v vs) rest) = rw (after_line n bytes s) (first_item_at middle rest v vs s r m) in
    reads_list items

object_back : (depth n : ℕ) (name more middle rest : List ℕ) (v : Json) (ms : Members) → AreDistinct (a_member name v ms) → ReadsMember (Reads depth) (quoted name ++ more) (taken (a_pair name v) middle) → MoreMembers (Reads depth) (after_space middle) (taken ms rest) → Reads (suc depth) (123 ∷ line n (quoted name ++ more)) (taken (an_object (a_member name v ms)) rest)
object_back depth n name more middle rest v ms d r m =
    let members : ReadsMembers (Reads depth) (after_space (line n (quoted name ++ more))) (taken (a_member name v ms) rest) = rw (after_line n (quoted name ++ more) (quoted_starts name more)) (first_member_at name more middle rest v ms r m) in
    let object : Reads (suc depth) (123 ∷ line n (quoted name ++ more)) (taken (an_object (settled (a_member name v ms))) rest) = reads_object members in
    rw (settled_distinct (a_member name v ms) d) at object

number_value_back : (number rest : List ℕ) → IsNumber number → Closes rest → {items : List ℕ → Reading Items → Type 0} {members : List ℕ → Reading Members → Type 0} → ReadsWith items members (number ++ rest) (taken (a_number number) rest)
number_value_back number rest is closes {items} {members} =
    let read = number_back number rest is closes in
    let here : ReadsWith items members (read.head ∷ read.tail) (taken (a_number number) rest) =
    rw (← read.reads) (reads_scalar (byte_other read.head 34 refl read.byte) (byte_other read.head 91 refl read.byte) (byte_other read.head 123 refl read.byte)) in
    subst (λ bytes. ReadsWith items members bytes (taken (a_number number) rest)) (sym read.is) here

-- no byte of a number stands behind an item or a member
items_closed : (n : ℕ) (vs : Items) (rest : List ℕ) → Closes rest → Closes (printed_items n vs rest)
items_closed n no_items rest closes = closes
items_closed n (an_item v more) rest closes = refl

members_closed : (n : ℕ) (ms : Members) (rest : List ℕ) → Closes rest → Closes (printed_members n ms rest)
members_closed n no_members rest closes = closes
members_closed n (a_member name v more) rest closes = refl

mutual
  pub value_back : (depth n : ℕ) (v : Json) (rest : List ℕ) → IsPrintable depth v → Closes rest → Reads depth (printed n v rest) (taken v rest)
  value_back depth n a_null rest p closes = at_depth depth (λ items members. reads_scalar (omega arith) (omega arith) (omega arith))
  value_back depth n (a_bool true) rest p closes = at_depth depth (λ items members. reads_scalar (omega arith) (omega arith) (omega arith))
  value_back depth n (a_bool false) rest p closes = at_depth depth (λ items members. reads_scalar (omega arith) (omega arith) (omega arith))
  value_back depth n (a_number number) rest p closes = at_depth depth (λ items members. number_value_back number rest p closes)
  value_back depth n (a_text text) rest p closes = at_depth depth (λ items members. text_value_back text rest p)
  value_back zero n (a_list vs) rest p closes = absurd p
  value_back zero n (an_object ms) rest p closes = absurd p
  value_back (suc depth) n (a_list no_items) rest p closes = reads_list no_item
  value_back (suc depth) n (a_list (an_item v more)) rest p closes =
      let after = printed_items (suc n) more (line n (93 ∷ rest)) in
      list_back depth (suc n) (printed (suc n) v after) after rest v more (printed_starts depth (suc n) v after p.0) (value_back depth (suc n) v after p.0 (items_closed (suc n) more (line n (93 ∷ rest)) refl)) (items_back depth (suc n) n more rest p.1)
  value_back (suc depth) n (an_object no_members) rest p closes = reads_object no_member
  value_back (suc depth) n (an_object (a_member name v more)) rest p closes =
      let after = printed_members (suc n) more (line n (125 ∷ rest)) in
      let here = member_back depth name (printed (suc n) v after) after v p.1.0 (printed_starts depth (suc n) v after p.1.1) (value_back depth (suc n) v after p.1.1 (members_closed (suc n) more (line n (125 ∷ rest)) refl)) in
      object_back depth (suc n) name (codes ": " ++ printed (suc n) v after) after rest v more p.0 here (members_back depth (suc n) n more rest p.1.2)

  pub items_back : (depth n m : ℕ) (vs : Items) (rest : List ℕ) → ArePrintable depth vs → MoreItems (Reads depth) (after_space (printed_items n vs (line m (93 ∷ rest)))) (taken vs rest)
  items_back depth n m no_items rest p = rw (after_margin m (93 ∷ rest)) items_close
  items_back depth n m (an_item v more) rest p =
      let after = printed_items n more (line m (93 ∷ rest)) in
      let starts = printed_starts depth n v after p.0 in
      let here : Reads depth (after_space (line n (printed n v after))) (taken v after) = rw (after_line n (printed n v after) starts) (value_back depth n v after p.0 (items_closed n more (line m (93 ∷ rest)) refl)) in
      items_next here (items_back depth n m more rest p.1)

  pub members_back : (depth n m : ℕ) (ms : Members) (rest : List ℕ) → MembersArePrintable depth ms → MoreMembers (Reads depth) (after_space (printed_members n ms (line m (125 ∷ rest)))) (taken ms rest)
  members_back depth n m no_members rest p = rw (after_margin m (125 ∷ rest)) members_close
  members_back depth n m (a_member name v more) rest p =
      let after = printed_members n more (line m (125 ∷ rest)) in
      let bytes = printed n v after in
      let here = member_back depth name bytes after v p.0 (printed_starts depth n v after p.1) (value_back depth n v after p.1 (members_closed n more (line m (125 ∷ rest)) refl)) in
      let there : ReadsMember (Reads depth) (after_space (line n (quoted name ++ (codes ": " ++ bytes)))) (taken (a_pair name v) after) = rw (after_line n (quoted name ++ (codes ": " ++ bytes)) (quoted_starts name (codes ": " ++ bytes))) here in
      members_next there (members_back depth n m more rest p.2)

pub text_reads : (depth : ℕ) (v : Json) → IsPrintable depth v → Reads depth (after_space (printed_text v)) (taken v (10 ∷ []))
text_reads depth v p = rw (after_no_space (printed_text v) (printed_starts depth 0 v (10 ∷ []) p)) (value_back depth 0 v (10 ∷ []) p refl)
