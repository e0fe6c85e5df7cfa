-- JSON values. RFC 8259, 3 to 7, with the members of an object in written order.
--     Json, Items, Members      a value, the values of a list, the members of an object
--     settled ms      an object's members, where its text writes ms
--     names_of ms      the names of the members, in their order
--     AreDistinct ms      no name stands twice among the members
--     HasDistinctNames v      the same in each object of a value, at every level
use Rattle.std.specs.Prelude.{ℕ, Bool, List, [], ◌∷◌, if◌then◌else◌, bytes_eq, ⊤}
use Rattle.std.specs.List.{IsDistinct}

mutual
  -- own: a number is its text, as it is written
  pub data Json : Type 0 where
    a_null : Json
    a_bool : Bool → Json
    a_number : List ℕ → Json
    a_text : List ℕ → Json
    a_list : Items → Json
    an_object : Members → Json

  pub data Items : Type 0 where
    no_items : Items
    an_item : Json → Items → Items

  pub data Members : Type 0 where
    no_members : Members
    a_member : List ℕ → Json → Members → Members

-- own: the members, and one more that is written behind them: a name that is there gets this value, a new one stands at
-- the end
abbrev pub put : List ℕ → Json → Members → Members
put key value no_members = a_member key value no_members
put key value (a_member k v more) = if bytes_eq key k then a_member k value more else a_member k v (put key value more)

-- own: the members, and behind them those that are written on, each put in its turn
abbrev pub settled_onto : Members → Members → Members
settled_onto ms no_members = ms
settled_onto ms (a_member key value more) = settled_onto (put key value ms) more

-- own: RFC 8259, 4, leaves open what a repeated name means. Here it is one member, where the name is written first,
-- with the value that is written last
abbrev pub settled : Members → Members
settled ms = settled_onto no_members ms

abbrev pub names_of : Members → List (List ℕ)
names_of no_members = []
names_of (a_member name value more) = name ∷ names_of more

abbrev pub AreDistinct : Members → Type 0
AreDistinct members = IsDistinct bytes_eq (names_of members)

abbrev mutual
  pub HasDistinctNames : Json → Type 0
  HasDistinctNames a_null = ⊤
  HasDistinctNames (a_bool b) = ⊤
  HasDistinctNames (a_number number) = ⊤
  HasDistinctNames (a_text text) = ⊤
  HasDistinctNames (a_list items) = ItemsHaveDistinctNames items
  HasDistinctNames (an_object members) = AreDistinct members × MembersHaveDistinctNames members

  -- the same in each value of a list
  pub ItemsHaveDistinctNames : Items → Type 0
  ItemsHaveDistinctNames no_items = ⊤
  ItemsHaveDistinctNames (an_item value more) = HasDistinctNames value × ItemsHaveDistinctNames more

  -- the same in the value of each member; the names of these members themselves aren't compared
  pub MembersHaveDistinctNames : Members → Type 0
  MembersHaveDistinctNames no_members = ⊤
  MembersHaveDistinctNames (a_member name value more) = HasDistinctNames value × MembersHaveDistinctNames more
