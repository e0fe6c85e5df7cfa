-- What the lists in a value hold.
use Rattle.std.specs.Prelude.{if◌then◌else◌, Bool, ℕ, List, [], ◌∷◌, ◌++◌}
use Rattle.ordered_json.specs.declared.value.Value.{Value}
use Rattle.ordered_json.specs.declared.value.Items.{Items, out-Items}
use Rattle.ordered_json.specs.declared.value.Members.{Members, out-Members}

-- a list with one value more at its end, where that was done
abbrev pub pushed : {A : Type 0} → Bool → List A → A → List A
pushed done values value = if done then values ++ value ∷ [] else values

-- the values of a list
abbrev pub values_of : Items → List Value
values_of items = (out-Items items).values.items

-- the members of an object
abbrev pub pairs_of : Members → List (List ℕ × Value)
pairs_of members = (out-Members members).pairs.items
