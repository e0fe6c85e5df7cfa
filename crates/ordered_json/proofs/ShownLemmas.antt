-- What the lists that hold items and members show.
use Rattle.std.specs.Prelude.{◌≡◌, ℕ, List, [], ◌∷◌, ◌++◌, map}
use Rattle.std.proofs.Common.{rules, ap, ◌∙◌}
use Rattle.std.proofs.lemmas.List.{map-append}
use Rattle.json_spec.specs.Value.{a_text, a_list, an_object}
use Rattle.ordered_json.specs.declared.value.Value as value
use Rattle.ordered_json.specs.declared.value.Value.{Value, the_lemmas}
use Rattle.ordered_json.specs.declared.value.Items.{Items}
use Rattle.ordered_json.specs.declared.value.Members.{Members}
use Rattle.ordered_json.specs.Lists.{values_of, pairs_of}
use Rattle.ordered_json.specs.Shown.{json_of, items_of, members_of}

pub json_of_list : (items : Items) → json_of (value.List items) ≡ a_list (items_of (values_of items))
json_of_list items = search (rules, the_lemmas)

pub json_of_object : (members : Members) → json_of (value.Object members) ≡ an_object (members_of (pairs_of members))
json_of_object members = search (rules, the_lemmas)

pub json_of_text : (text : List ℕ) → json_of (value.Text text) ≡ a_text text
json_of_text text = search (rules, the_lemmas)

-- one value more at the end
pub shown_push : (values now : List Value) (item : Value) → now ≡ values ++ item ∷ []
    → map json_of now ≡ map json_of values ++ json_of item ∷ []
shown_push values now item e = ap (map json_of) e ∙ map-append json_of values (item ∷ [])
