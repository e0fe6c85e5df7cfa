-- Which value a JSON text has, or its first fault. RFC 8259, 2 to 6.
--     ReadsJson bytes out      the bytes have the value, or the first fault, out
--     Reads depth bytes out      the same of one value at the front of the bytes, in which depth brackets may be
--         open at once
--     ReadsWith items members bytes out      the same, where lists and objects are read as told
--     ReadsMembers, ReadsItems      the same of the members of an object and the values of a list
--     MoreMembers, MoreItems      the same of what follows a member, and of what follows a value of a list
--     ReadsMember, ReadsName      the same of a name with its value, and of a name with its colon
--     scalar_at bytes      the value at the front that is no string, list or object
--     after_space bytes      the bytes behind white space
--     Reading A      what is taken at the front and the bytes after it, or a fault
--     Fault      the first fault of a text: no JSON, or too many brackets open, and its place
--     IsTooDeep bytes out      a bracket is refused before the bytes
--     most_depth      how many brackets may be open at once
--     whole_text out      the value of a text that begins as out says, where nothing follows it, or its fault
-- A fault's place is counted from the end while the text is read, and is turned into an offset once, in `ReadsJson`.
use Rattle.std.specs.Prelude.{ℕ, Bool, ◌||◌, ◌==◌, List, [], ◌∷◌, if◌then◌else◌, length, Option, Some, None, true}
use Rattle.std.specs.Prelude.{false, codes, suc, ◌≢◌, ◌≡◌, zero, Result, Ok, Err, ◌-◌}
use Rattle.tree_spec.specs.declared.LimitName.TheVariants.{Depth}
use Rattle.tree_spec.specs.Limits.{limit_number}
use Rattle.json_spec.specs.Numbers.{number_at}
use Rattle.json_spec.specs.Strings.{behind, ReadsString}
use Rattle.json_spec.specs.Taken.{Taken, refused, taken, Read, and_then}
use Rattle.json_spec.specs.Value.{Json, a_number, a_null, a_bool, Members, a_member, Items, an_item, no_members}
use Rattle.json_spec.specs.Value.{no_items, a_text, a_list, an_object, settled}

-- own: what ends the reading of a text, and its place. `NotJson`: nothing is left there, or what comes is no token, or
-- one that the grammar hasn't at that point. `TooDeep`: a `[` or `{` that the grammar has there, while `most_depth`
-- others are open
pub data Fault : Type 0 where
  NotJson : ℕ → Fault
  TooDeep : ℕ → Fault

abbrev pub Reading : Type 0 → Type 0
Reading A = Taken A Fault

-- RFC 8259, 2: white space
abbrev pub is_space : ℕ → Bool
is_space b = b == 32 || b == 9 || b == 10 || b == 13

abbrev pub after_space : List ℕ → List ℕ
after_space [] = []
after_space (b ∷ bytes) = if is_space b then after_space bytes else b ∷ bytes

-- the fault at the front of the bytes
abbrev pub fault_here : {A : Type 0} → List ℕ → Reading A
fault_here bytes = refused (NotJson (length bytes))

-- RFC 8259, 3: the value whose word the bytes begin with, or another answer
abbrev pub word_else : Json → Option (List ℕ) → Reading Json → Reading Json
word_else value None other = other
word_else value (Some rest) other = taken value rest

-- a number as a value; where none is read, the fault is at the front of the bytes
abbrev pub as_number : List ℕ → Read (List ℕ) → Reading Json
as_number bytes (taken number rest) = taken (a_number number) rest
as_number bytes (refused e) = fault_here bytes

-- RFC 8259, 3: a value that is no string, list or object
abbrev pub scalar_at : List ℕ → Reading Json
scalar_at bytes =
    word_else (a_bool true) (behind (codes "true") bytes)
    (word_else (a_bool false) (behind (codes "false") bytes)
    (word_else a_null (behind (codes "null") bytes)
    (as_number bytes (number_at bytes))))

-- what comes of a string whose opening quote stands before the bytes. One that can't be read fails at that quote
abbrev pub text_behind : {A : Type 0} → List ℕ → (List ℕ → List ℕ → Reading A) → Read (List ℕ) → Reading A
text_behind bytes next (taken text rest) = next text rest
text_behind bytes next (refused e) = refused (NotJson (suc (length bytes)))

-- RFC 8259, 4: the colon behind a name
abbrev pub colon_at : List ℕ → List ℕ → Reading (List ℕ)
colon_at name [] = fault_here []
colon_at name (b ∷ bytes) = if b == 58 then taken name bytes else fault_here (b ∷ bytes)

-- RFC 8259, 4: a name and its colon
pub data ReadsName : List ℕ → Reading (List ℕ) → Type 0 where
  name_text :
      {bytes : List ℕ} {out : Read (List ℕ)} → ReadsString bytes out
      → ReadsName (34 ∷ bytes) (text_behind bytes (λ name rest. colon_at name (after_space rest)) out)
  no_name : {b : ℕ} {bytes : List ℕ} → b ≢ 34 → ReadsName (b ∷ bytes) (fault_here (b ∷ bytes))
  name_ends : ReadsName [] (fault_here [])

-- RFC 8259, 4: a name with its value
pub data Member : Type 0 where
  a_pair : List ℕ → Json → Member

-- the name with the value that is read behind it
abbrev pub paired : List ℕ → Reading Json → Reading Member
paired name out = and_then out (λ value rest. taken (a_pair name value) rest)

-- RFC 8259, 4: a name, a colon and a value
pub data ReadsMember (value : List ℕ → Reading Json → Type 0) : List ℕ → Reading Member → Type 0 where
  member_value :
      {bytes middle name : List ℕ} {out : Reading Json} → ReadsName bytes (taken name middle)
      → value (after_space middle) out → ReadsMember value bytes (paired name out)
  member_name : {bytes : List ℕ} {f : Fault} → ReadsName bytes (refused f) → ReadsMember value bytes (refused f)

-- a member before those that are read behind it
abbrev pub behind_member : List ℕ → Json → Reading Members → Reading Members
behind_member name value out = and_then out (λ more rest. taken (a_member name value more) rest)

-- a value of a list before those that are read behind it
abbrev pub behind_item : Json → Reading Items → Reading Items
behind_item value out = and_then out (λ more rest. taken (an_item value more) rest)

-- RFC 8259, 4: what follows a member, up to the closing brace
pub data MoreMembers (value : List ℕ → Reading Json → Type 0) : List ℕ → Reading Members → Type 0 where
  members_close : {rest : List ℕ} → MoreMembers value (125 ∷ rest) (taken no_members rest)
  members_next :
      {bytes middle name : List ℕ} {v : Json} {out : Reading Members}
      → ReadsMember value (after_space bytes) (taken (a_pair name v) middle)
      → MoreMembers value (after_space middle) out → MoreMembers value (44 ∷ bytes) (behind_member name v out)
  members_fault :
      {bytes : List ℕ} {f : Fault} → ReadsMember value (after_space bytes) (refused f)
      → MoreMembers value (44 ∷ bytes) (refused f)
  members_other : {b : ℕ} {bytes : List ℕ} → b ≢ 125 → b ≢ 44 → MoreMembers value (b ∷ bytes) (fault_here (b ∷ bytes))
  members_end : MoreMembers value [] (fault_here [])

-- RFC 8259, 4: an object behind its opening brace and space
pub data ReadsMembers (value : List ℕ → Reading Json → Type 0) : List ℕ → Reading Members → Type 0 where
  no_member : {rest : List ℕ} → ReadsMembers value (125 ∷ rest) (taken no_members rest)
  first_member :
      {b : ℕ} {bytes middle name : List ℕ} {v : Json} {out : Reading Members} → b ≢ 125
      → ReadsMember value (b ∷ bytes) (taken (a_pair name v) middle) → MoreMembers value (after_space middle) out
      → ReadsMembers value (b ∷ bytes) (behind_member name v out)
  member_fault :
      {b : ℕ} {bytes : List ℕ} {f : Fault} → b ≢ 125 → ReadsMember value (b ∷ bytes) (refused f)
      → ReadsMembers value (b ∷ bytes) (refused f)
  object_ends : ReadsMembers value [] (fault_here [])

-- RFC 8259, 5: what follows a value of a list, up to the closing bracket
pub data MoreItems (value : List ℕ → Reading Json → Type 0) : List ℕ → Reading Items → Type 0 where
  items_close : {rest : List ℕ} → MoreItems value (93 ∷ rest) (taken no_items rest)
  items_next :
      {bytes middle : List ℕ} {v : Json} {out : Reading Items} → value (after_space bytes) (taken v middle)
      → MoreItems value (after_space middle) out → MoreItems value (44 ∷ bytes) (behind_item v out)
  items_fault :
      {bytes : List ℕ} {f : Fault} → value (after_space bytes) (refused f) → MoreItems value (44 ∷ bytes) (refused f)
  items_other : {b : ℕ} {bytes : List ℕ} → b ≢ 93 → b ≢ 44 → MoreItems value (b ∷ bytes) (fault_here (b ∷ bytes))
  items_end : MoreItems value [] (fault_here [])

-- RFC 8259, 5: a list behind its opening bracket and space
pub data ReadsItems (value : List ℕ → Reading Json → Type 0) : List ℕ → Reading Items → Type 0 where
  no_item : {rest : List ℕ} → ReadsItems value (93 ∷ rest) (taken no_items rest)
  first_item :
      {b : ℕ} {bytes middle : List ℕ} {v : Json} {out : Reading Items} → b ≢ 93 → value (b ∷ bytes) (taken v middle)
      → MoreItems value (after_space middle) out → ReadsItems value (b ∷ bytes) (behind_item v out)
  item_fault :
      {b : ℕ} {bytes : List ℕ} {f : Fault} → b ≢ 93 → value (b ∷ bytes) (refused f)
      → ReadsItems value (b ∷ bytes) (refused f)
  list_ends : ReadsItems value [] (fault_here [])

-- a string whose opening quote stands before the bytes, as a value
abbrev pub as_text : List ℕ → Read (List ℕ) → Reading Json
as_text bytes out = text_behind bytes (λ text rest. taken (a_text text) rest) out

-- the values that are read, as a list
abbrev pub as_list : Reading Items → Reading Json
as_list out = and_then out (λ items rest. taken (a_list items) rest)

-- the members that are read, settled, as an object
abbrev pub as_object : Reading Members → Reading Json
as_object out = and_then out (λ members rest. taken (an_object (settled members)) rest)

-- RFC 8259, 3: a value, where its lists and objects are read as told
pub data ReadsWith (items : List ℕ → Reading Items → Type 0) (members : List ℕ → Reading Members → Type 0)
    : List ℕ → Reading Json → Type 0 where
  reads_text :
      {bytes : List ℕ} {out : Read (List ℕ)} → ReadsString bytes out
      → ReadsWith items members (34 ∷ bytes) (as_text bytes out)
  reads_list :
      {bytes : List ℕ} {out : Reading Items} → items bytes out → ReadsWith items members (91 ∷ bytes) (as_list out)
  reads_object :
      {bytes : List ℕ} {out : Reading Members} → members bytes out
      → ReadsWith items members (123 ∷ bytes) (as_object out)
  reads_scalar :
      {b : ℕ} {bytes : List ℕ} → b ≢ 34 → b ≢ 91 → b ≢ 123 → ReadsWith items members (b ∷ bytes) (scalar_at (b ∷ bytes))
  value_ends : ReadsWith items members [] (fault_here [])

-- own: a bracket is refused where too many others are open
abbrev pub IsTooDeep : {A : Type 0} → List ℕ → Reading A → Type 0
IsTooDeep bytes out = out ≡ refused (TooDeep (suc (length bytes)))

abbrev pub Reads : ℕ → List ℕ → Reading Json → Type 0
Reads zero = ReadsWith IsTooDeep IsTooDeep
Reads (suc depth) =
    ReadsWith (λ bytes. ReadsItems (Reads depth) (after_space bytes))
    (λ bytes. ReadsMembers (Reads depth) (after_space bytes))

-- own: how many brackets may be open at once
unfoldable pub most_depth : ℕ
most_depth = limit_number Depth

-- RFC 8259, 2: nothing but white space stands behind the value
abbrev pub alone : Json → List ℕ → Result Json Fault
alone value [] = Ok value
alone value (b ∷ rest) = Err (NotJson (length (b ∷ rest)))

abbrev pub whole_text : Reading Json → Result Json Fault
whole_text (taken value rest) = alone value (after_space rest)
whole_text (refused fault) = Err fault

-- the fault with its offset in a text of n bytes
abbrev pub offset_in : ℕ → Fault → Fault
offset_in n (NotJson left) = NotJson (n - left)
offset_in n (TooDeep left) = TooDeep (n - left)

-- the value, or the fault with its offset in a text of n bytes
abbrev pub with_offset : ℕ → Result Json Fault → Result Json Fault
with_offset n (Ok value) = Ok value
with_offset n (Err fault) = Err (offset_in n fault)

-- RFC 8259, 2 and 8.1: a JSON text. No token but a string has a byte past U+007F, so strings alone ask for UTF-8
pub data ReadsJson : List ℕ → Result Json Fault → Type 0 where
  json_text :
      {bytes : List ℕ} (out : Reading Json) → Reads most_depth (after_space bytes) out
      → ReadsJson bytes (with_offset (length bytes) (whole_text out))
