-- Lists of strings, taken one string after another.
use Rattle.std.proofs.Common.{◌≡◌, ◌<◌, ◌≤◌, ◌+◌, ℕ, true, List, [], ◌∷◌, ◌++◌, Bor, get_or, length, take, drop, refl, sym, ap, subst, ◌∙◌, inl, inr, arith}
use Rattle.std.specs.List.{list_any, IsDistinct}
use Rattle.std.specs.Prelude.{Option, Some, None, bytes_eq, option_map, slice_get}
use Rattle.std.proofs.lemmas.Bool.{true≢false}
use Rattle.std.proofs.lemmas.List.{drop_all, take_all, get_or-take, length-take-le}
use Rattle.std.proofs.lemmas.Option.{slice_get_cases}
use Rattle.std.proofs.lemmas.List.Folds.{Any-from_list_any}
use Rattle.std.proofs.lemmas.Map.Keys.{apart_from_distinct}
use Rattle.std.proofs.lemmas.Slice.Eq.{bytes_eq-Decides}
use Rattle.json_spec.specs.Value.{Json, a_null, a_bool, a_number, a_text, a_list, an_object, Items, no_items, an_item}
use Rattle.node_spec.specs.Records.{text_in}
use Rattle.ordered_json.specs.Shown.{json_of, items_of}
use Rattle.ordered_json.specs.declared.value.Value.{Value}
use Rattle.shared_types.proofs.ListSteps.{drop_at}
use Rattle.project_spec.specs.ProjectFiles.{strings}
use Rattle.project_file.specs.Strings.{IsStringAt, NoStringAt, string_found}

-- the values of a list behind these strings
abbrev pub behind : List (List ℕ) → Items → Items
behind [] items = items
behind (text ∷ texts) items = an_item (a_text text) (behind texts items)

pub all_strings : (texts : List (List ℕ)) → behind texts no_items ≡ strings texts
all_strings [] = refl
all_strings (text ∷ texts) = ap (an_item (a_text text)) (all_strings texts)

one_more_behind : (texts : List (List ℕ)) (text : List ℕ) (items : Items) → behind (texts ++ text ∷ []) items ≡ behind texts (an_item (a_text text) items)
one_more_behind [] text items = refl
one_more_behind (first ∷ texts) text items = ap (an_item (a_text first)) (one_more_behind texts text items)

is_string : (texts : List (List ℕ)) (value : Json) (items : Items) (all : List (List ℕ)) → behind texts (an_item value items) ≡ strings all → (text : List ℕ) × (value ≡ a_text text)
is_string [] value items [] e = absurd (cc)
is_string [] value items (text ∷ more) e = (text, cc)
is_string (first ∷ texts) value items [] e = absurd (cc)
is_string (first ∷ texts) value items (text ∷ more) e = is_string texts value items more (cc)

-- ---- what was taken stands before what is left

pub taken_next : (values : List Value) (i : ℕ) (texts next : List (List ℕ)) (text copy : List ℕ) → IsStringAt values i text → next ≡ texts ++ copy ∷ [] → copy ≡ text → items_of values ≡ behind texts (items_of (drop i values)) → items_of values ≡ behind next (items_of (drop (i + 1) values))
taken_next values i texts next text copy here put same so_far =
    let split = ap items_of (drop_at values i here.value here.at) ∙ ap (λ j. an_item j (items_of (drop (i + 1) values))) here.is in
    so_far
    ∙ (ap (behind texts) split
    ∙ (sym (one_more_behind texts text (items_of (drop (i + 1) values)))
    ∙ ap (λ ts. behind ts (items_of (drop (i + 1) values))) (sym (put ∙ ap (λ t. texts ++ t ∷ []) same))))

pub taken_all : (values : List Value) (i : ℕ) (texts : List (List ℕ)) → length values ≤ i → items_of values ≡ behind texts (items_of (drop i values)) → items_of values ≡ strings texts
taken_all values i texts past so_far =
    so_far ∙ (ap (λ vs. behind texts (items_of vs)) (drop_all i values past) ∙ all_strings texts)

pub no_strings : (values : List Value) (i : ℕ) (texts all : List (List ℕ)) → i < length values → items_of values ≡ behind texts (items_of (drop i values)) → NoStringAt values i → items_of values ≡ strings all → ⊥
no_strings values i texts all below so_far none e =
    elim (slice_get_cases values i).1 [
      | inl there ↦
          let here : slice_get values i ≡ Some there.0 = there.2 in
          let split = ap items_of (drop_at values i there.0 here) in
          let found = is_string texts (json_of there.0) (items_of (drop (i + 1) values)) all (sym (so_far ∙ ap (behind texts) split) ∙ e) in
          none found.0 (record { value = there.0; at = here; is = found.1 })
      | inr past ↦ let beyond : length values ≤ i = past.0 in omega arith
    ]

-- ---- a string with a number

pub text_is : (value : Json) (text : List ℕ) → text_in value ≡ Some text → value ≡ a_text text
text_is a_null text e = absurd (cc)
text_is (a_bool b) text e = absurd (cc)
text_is (a_number number) text e = absurd (cc)
text_is (a_text own) text e = cc
text_is (a_list items) text e = absurd (cc)
text_is (an_object object) text e = absurd (cc)

found_at : (values : List Value) (i : ℕ) (text : List ℕ) (found : Option Value) → slice_get values i ≡ found → string_found (option_map json_of found) ≡ Some text → IsStringAt values i text
found_at values i text None at e = absurd (cc)
found_at values i text (Some value) at e = record { value = value; at = at; is = text_is (json_of value) text e }

pub string_here : (values : List Value) (i : ℕ) (found : Option (Bor (List ℕ))) (text : Bor (List ℕ)) → option_map (λ (t : Bor (List ℕ)). t.now) found ≡ string_found (option_map json_of (slice_get values i)) → found ≡ Some text → IsStringAt values i text.now
string_here values i found text e is =
    found_at values i text.now (slice_get values i) refl (sym e ∙ ap (option_map (λ (t : Bor (List ℕ)). t.now)) is)

pub nothing_here : (values : List Value) (i : ℕ) (found : Option (Bor (List ℕ))) → option_map (λ (t : Bor (List ℕ)). t.now) found ≡ string_found (option_map json_of (slice_get values i)) → found ≡ None → NoStringAt values i
nothing_here values i found e none = λ text is.
    let there : string_found (option_map json_of (slice_get values i)) ≡ Some text = ap (λ f. string_found (option_map json_of f)) is.at ∙ ap text_in is.is in
    let nowhere : string_found (option_map json_of (slice_get values i)) ≡ None = sym e ∙ ap (option_map (λ (t : Bor (List ℕ)). t.now)) none in
    cc

-- ---- texts that are seen one after another

pub stands_twice : (texts : List (List ℕ)) (i : ℕ) (text : List ℕ) → i < length texts → get_or texts i text ≡ text → list_any (bytes_eq text) (take i texts) ≡ true → IsDistinct bytes_eq texts → ⊥
stands_twice texts i text below here there distinct =
    let found = Any-from_list_any (bytes_eq text) (take i texts) there in
    let count = length-take-le i texts (omega arith) in
    let inside : found.0 < length (take i texts) = found.2 in
    let before : found.0 < i = omega arith in
    let same : text ≡ found.1 = (bytes_eq-Decides text found.1).0 found.4 in
    let first = subst (λ x. get_or texts found.0 x ≡ x) (sym same) (sym (get_or-take i texts found.0 found.1 before) ∙ found.3) in
    let apart = apart_from_distinct bytes_eq texts found.0 i text distinct before below in
    true≢false (sym ((bytes_eq-Decides (get_or texts found.0 text) (get_or texts i text)).1 (first ∙ sym here)) ∙ apart)

pub seen_all : (texts keys : List (List ℕ)) (i : ℕ) → length texts ≤ i → keys ≡ take i texts → IsDistinct bytes_eq keys → IsDistinct bytes_eq texts
seen_all texts keys i past are distinct = subst (IsDistinct bytes_eq) (are ∙ take_all i texts past) distinct
