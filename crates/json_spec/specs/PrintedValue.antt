-- The printed form of a value. RFC 8259, 2, leaves white space free, and this is the layout that is written.
--     printed_text v      the whole text of v
--     printed n v rest      v at depth n, and then rest
--     IsPrintable depth v      v is read back: numbers of the grammar, distinct names, texts in UTF-8, and no more than
--         depth brackets open at once
use Rattle.std.specs.Prelude.{ℕ, zero, suc, List, ◌∷◌, true, false, ◌++◌, codes, [], ⊤, IsUtf8}
use Rattle.json_spec.specs.PrintedString.{quoted}
use Rattle.json_spec.specs.Numbers.{IsNumber}
use Rattle.json_spec.specs.Value.{Json, a_null, a_bool, a_number, a_text, a_list, an_object, Items, no_items, an_item}
use Rattle.json_spec.specs.Value.{Members, no_members, a_member, AreDistinct}

-- own: two spaces a level
abbrev pub margin : ℕ → List ℕ → List ℕ
margin zero rest = rest
margin (suc n) rest = 32 ∷ 32 ∷ margin n rest

-- own: a line end (LF), and the margin of the next line
abbrev pub line : ℕ → List ℕ → List ℕ
line n rest = 10 ∷ margin n rest

-- own: a list or an object that isn't empty has a line for each item or member, a level further in. A `,` ends such a
-- line if another follows, and `: ` parts a name from its value
abbrev mutual
  pub printed : ℕ → Json → List ℕ → List ℕ
  printed n a_null rest = codes "null" ++ rest
  printed n (a_bool true) rest = codes "true" ++ rest
  printed n (a_bool false) rest = codes "false" ++ rest
  printed n (a_number number) rest = number ++ rest
  printed n (a_text text) rest = quoted text ++ rest
  printed n (a_list no_items) rest = codes "[]" ++ rest
  printed n (a_list (an_item v more)) rest =
      91 ∷ line (suc n) (printed (suc n) v (printed_items (suc n) more (line n (93 ∷ rest))))
  printed n (an_object no_members) rest = codes "{}" ++ rest
  printed n (an_object (a_member name v more)) rest =
      123 ∷ line (suc n)
      (quoted name ++ (codes ": " ++ printed (suc n) v (printed_members (suc n) more (line n (125 ∷ rest)))))

  -- what stands behind an item, and then rest
  pub printed_items : ℕ → Items → List ℕ → List ℕ
  printed_items n no_items rest = rest
  printed_items n (an_item v more) rest = 44 ∷ line n (printed n v (printed_items n more rest))

  -- what stands behind a member, and then rest
  pub printed_members : ℕ → Members → List ℕ → List ℕ
  printed_members n no_members rest = rest
  printed_members n (a_member name v more) rest =
      44 ∷ line n (quoted name ++ (codes ": " ++ printed n v (printed_members n more rest)))

-- own: a single LF stands behind the value
abbrev pub printed_text : Json → List ℕ
printed_text v = printed 0 v (10 ∷ [])

-- a value that is read back: numbers of the grammar, distinct names, texts in UTF-8, and no more than depth brackets
-- open at once
abbrev mutual
  pub IsPrintable : ℕ → Json → Type 0
  IsPrintable depth a_null = ⊤
  IsPrintable depth (a_bool b) = ⊤
  IsPrintable depth (a_number number) = IsNumber number
  IsPrintable depth (a_text text) = IsUtf8 text
  IsPrintable zero (a_list vs) = ⊥
  IsPrintable (suc depth) (a_list vs) = ArePrintable depth vs
  IsPrintable zero (an_object ms) = ⊥
  IsPrintable (suc depth) (an_object ms) = AreDistinct ms × MembersArePrintable depth ms

  -- each value of the list is printable
  pub ArePrintable : ℕ → Items → Type 0
  ArePrintable depth no_items = ⊤
  ArePrintable depth (an_item value more) = IsPrintable depth value × ArePrintable depth more

  -- each member has a name in UTF-8 and a printable value
  pub MembersArePrintable : ℕ → Members → Type 0
  MembersArePrintable depth no_members = ⊤
  MembersArePrintable depth (a_member name value more) =
      IsUtf8 name × IsPrintable depth value × MembersArePrintable depth more
