-- The bytes of each file have an outcome.
use Rattle.std.proofs.Common.{◌≡◌, ◌≢◌, ◌≤◌, ℕ, Bool, true, false, List, [], ◌∷◌, All, length, refl, sym, ap, subst, ◌∙◌, inl, inr, arith}
use Rattle.std.specs.List.{AllByRecursion, IsDistinct}
use Rattle.std.specs.Prelude.{◌⊎◌, codes, bytes_eq, Option, Some, None, Result, Ok, Err}
use Rattle.std.proofs.lemmas.Bool.{cases_lt, true≢false}
use Rattle.std.proofs.lemmas.List.Elements.{All-nil, All-cons, All-head, All-tail}
use Rattle.tree_spec.proofs.ByteLists.{by_test, number_same_or_not, text_same_or_not}
use Rattle.tree_spec.specs.Limits.{limit_number}
use Rattle.tree_spec.specs.declared.LimitName.TheVariants.{Depth, Entries}
use Rattle.json_spec.proofs.SomeJson.{some_json}
use Rattle.json_spec.specs.Grammar as json
use Rattle.json_spec.specs.Grammar.{NotJson, TooDeep}
use Rattle.json_spec.specs.PropertyOrder.{pairs_of}
use Rattle.json_spec.specs.Value.{Json, a_null, a_bool, a_number, a_text, a_list, an_object, Items, no_items, an_item, Members}
use Rattle.url_spec.proofs.Bases.{bases_stay}
use Rattle.url_spec.proofs.PathDecisions.{path_by_test, test_by_path}
use Rattle.url_spec.specs.Bases.{base_of}
use Rattle.url_spec.specs.PathTests.{is_path}
use Rattle.import_map_spec.specs.Parsing.{member}
use Rattle.node_spec.specs.Conditions.{is_name_byte, IsCondition, AreConditions}
use Rattle.trace_spec.specs.Modules.{Config}
use Rattle.project_spec.proofs.OneProject.{same_parts, same_members, same_strings}
use Rattle.project_spec.specs.Laws.{SomeProject}
use Rattle.project_spec.specs.ProjectFiles.{strings, IsPagePath, HasParts, Describes, Fault, BadFile, PassesLimit, Gives, a_project, many_entries, no_project, no_json, deep_json, reads_project}

abbrev pub OrNot : Type 0 → Type 0
OrNot P = P ⊎ (P → ⊥)

both : {P Q : Type 0} → OrNot P → OrNot Q → OrNot (P × Q)
both (inl p) (inl q) = inl (p, q)
both (inl p) (inr none) = inr (λ is. none is.1)
both (inr none) q = inr (λ is. none is.0)

not_so : {P : Type 0} → OrNot P → OrNot (P → ⊥)
not_so (inl p) = inr (λ none. none p)
not_so (inr none) = inl none

other_way : {P Q : Type 0} → (P → Q) → (Q → P) → OrNot P → OrNot Q
other_way to from (inl p) = inl (to p)
other_way to from (inr none) = inr (λ q. none (from q))

all_or_not : {X : Type 0} (P : X → Type 0) → ((x : X) → OrNot (P x)) → (xs : List X) → OrNot (All P xs)
all_or_not P each [] = inl (All-nil P)
all_or_not P each (x ∷ xs) =
    other_way (λ is. All-cons P x xs is.0 is.1) (λ all. (All-head P x xs all, All-tail P x xs all)) (both (each x) (all_or_not P each xs))

most_or_not : (n m : ℕ) → OrNot (n ≤ m)
most_or_not n m = elim (cases_lt m n) [
  | inl above ↦ inr (λ (most : n ≤ m). omega arith)
  | inr most ↦ inl most
]

true_or_not : (b : Bool) → OrNot (b ≡ true)
true_or_not true = inl refl
true_or_not false = inr (λ e. true≢false (sym e))

false_or_not : (b : Bool) → OrNot (b ≡ false)
false_or_not true = inr true≢false
false_or_not false = inl refl

-- ---- conditions and entries

differs_or_not : (text : List ℕ) (texts : List (List ℕ)) → OrNot (AllByRecursion (λ other. bytes_eq text other ≡ false) texts)
differs_or_not text [] = inl tt
differs_or_not text (other ∷ texts) = both (false_or_not (bytes_eq text other)) (differs_or_not text texts)

distinct_or_not : (texts : List (List ℕ)) → OrNot (IsDistinct bytes_eq texts)
unfolding IsDistinct
distinct_or_not [] = inl tt
distinct_or_not (text ∷ texts) = both (differs_or_not text texts) (distinct_or_not texts)

condition_or_not : (name : List ℕ) → OrNot (IsCondition name)
condition_or_not name =
    other_way
    (λ is. record { nonempty = is.0; short = is.1.0; plain = is.1.1.0; other = is.1.1.1 })
    (λ is. (is.nonempty, (is.short, (is.plain, is.other))))
    (both (most_or_not 1 (length name)) (both (most_or_not (length name) 64) (both (all_or_not _ (λ b. true_or_not (is_name_byte b)) name) (not_so (text_same_or_not name (codes "default"))))))

pub conditions_or_not : (names : List (List ℕ)) → OrNot (AreConditions names)
conditions_or_not names =
    other_way
    (λ is. record { few = is.0; each = is.1.0; distinct = is.1.1 })
    (λ are. (are.few, (are.each, are.distinct)))
    (both (most_or_not (length names) 32) (both (all_or_not IsCondition condition_or_not names) (distinct_or_not names)))

-- ---- the parts

text_value_or_not : (value : Json) → OrNot ((text : List ℕ) × (value ≡ a_text text))
text_value_or_not a_null = inr (λ is. let e = is.1 in cc)
text_value_or_not (a_bool b) = inr (λ is. let e = is.1 in cc)
text_value_or_not (a_number number) = inr (λ is. let e = is.1 in cc)
text_value_or_not (a_text text) = inl (text, refl)
text_value_or_not (a_list list) = inr (λ is. let e = is.1 in cc)
text_value_or_not (an_object object) = inr (λ is. let e = is.1 in cc)

list_value_or_not : (value : Json) → OrNot ((list : Items) × (value ≡ a_list list))
list_value_or_not a_null = inr (λ is. let e = is.1 in cc)
list_value_or_not (a_bool b) = inr (λ is. let e = is.1 in cc)
list_value_or_not (a_number number) = inr (λ is. let e = is.1 in cc)
list_value_or_not (a_text text) = inr (λ is. let e = is.1 in cc)
list_value_or_not (a_list list) = inl (list, refl)
list_value_or_not (an_object object) = inr (λ is. let e = is.1 in cc)

object_or_not : (value : Json) → OrNot ((object : Members) × (value ≡ an_object object))
object_or_not a_null = inr (λ is. let e = is.1 in cc)
object_or_not (a_bool b) = inr (λ is. let e = is.1 in cc)
object_or_not (a_number number) = inr (λ is. let e = is.1 in cc)
object_or_not (a_text text) = inr (λ is. let e = is.1 in cc)
object_or_not (a_list list) = inr (λ is. let e = is.1 in cc)
object_or_not (an_object object) = inl (object, refl)

first_string : (value : Json) (more : Items) (texts : List (List ℕ)) → an_item value more ≡ strings texts → (text : List ℕ) × (rest : List (List ℕ)) × (value ≡ a_text text) × (more ≡ strings rest)
first_string value more [] e = absurd (cc)
first_string value more (text ∷ rest) e = (text, rest, cc, cc)

abbrev AreStrings : Items → Type 0
AreStrings items = (texts : List (List ℕ)) × (items ≡ strings texts)

item_or_not : (value : Json) (more : Items) → OrNot ((text : List ℕ) × (value ≡ a_text text)) → OrNot (AreStrings more) → OrNot (AreStrings (an_item value more))
item_or_not value more (inl text) (inl rest) = inl (text.0 ∷ rest.0, λ i. an_item (text.1 i) (rest.1 i))
item_or_not value more (inl text) (inr none) = inr (λ is. let found = first_string value more is.0 is.1 in none (found.1, found.3))
item_or_not value more (inr none) rest = inr (λ is. let found = first_string value more is.0 is.1 in none (found.0, found.2))

strings_or_not : (items : Items) → OrNot (AreStrings items)
strings_or_not no_items = inl ([], refl)
strings_or_not (an_item value more) = item_or_not value more (text_value_or_not value) (strings_or_not more)

text_or_not : (found : Option Json) → OrNot ((text : List ℕ) × (found ≡ Some (a_text text)))
text_or_not None = inr (λ is. let e = is.1 in cc)
text_or_not (Some value) = other_way (λ is. (is.0, ap Some is.1)) (λ is. let e = is.1 in (is.0, cc)) (text_value_or_not value)

abbrev IsStringList : Option Json → Type 0
IsStringList found = (texts : List (List ℕ)) × (found ≡ Some (a_list (strings texts)))

list_by : (value : Json) → OrNot ((list : Items) × (value ≡ a_list list)) → OrNot (IsStringList (Some value))
list_by value (inl is) =
    other_way (λ found. (found.0, ap Some (is.1 ∙ ap a_list found.1))) (λ found. let e = found.1 in let own = is.1 in (found.0, cc)) (strings_or_not is.0)
list_by value (inr none) = inr (λ found. let e = found.1 in none (strings found.0, cc))

list_or_not : (found : Option Json) → OrNot (IsStringList found)
list_or_not None = inr (λ is. let e = is.1 in cc)
list_or_not (Some value) = list_by value (list_value_or_not value)

record Parts (object : Members) : Type 0 where
  pub base : List ℕ
  pub page : List ℕ
  pub conditions : List (List ℕ)
  pub entries : List (List ℕ)
  pub are : HasParts object base page (strings conditions) (strings entries)

parts_or_not : (object : Members) → OrNot (Parts object)
parts_or_not object =
    other_way
    (λ is. record {
      base = is.1.0.0;
      page = is.1.1.0.0;
      conditions = is.1.1.1.0.0;
      entries = is.1.1.1.1.0;
      are =
          record {
            four = is.0;
            base_member = is.1.0.1;
            page_member = is.1.1.0.1;
            conditions_member = is.1.1.1.0.1;
            entries_member = is.1.1.1.1.1;
          };
    })
    (λ parts. (parts.are.four, ((parts.base, parts.are.base_member), ((parts.page, parts.are.page_member), ((parts.conditions, parts.are.conditions_member), (parts.entries, parts.are.entries_member))))))
    (both (number_same_or_not (length (pairs_of object)) 4) (both (text_or_not (member (codes "base") object)) (both (text_or_not (member (codes "page") object)) (both (list_or_not (member (codes "conditions") object)) (list_or_not (member (codes "entries") object))))))

-- ---- the config

base_or_not : (found : Option (List ℕ)) → OrNot ((base : List ℕ) × (found ≡ Some base))
base_or_not None = inr (λ is. let e = is.1 in cc)
base_or_not (Some base) = inl (base, refl)

-- what is asked of the parts beside their kinds
record ArePlain {object : Members} (parts : Parts object) : Type 0 where
  pub base : List ℕ
  pub gives : base_of parts.base ≡ Some base
  pub page : IsPagePath parts.page
  pub conditions : AreConditions parts.conditions
  pub distinct : IsDistinct bytes_eq parts.entries

plain_or_not : {object : Members} (parts : Parts object) → OrNot (ArePlain parts)
plain_or_not parts =
    other_way
    (λ is. record {
      base = is.0.0;
      gives = is.0.1;
      page = record { is_path = is.1.0; no_root = is.1.1.0 };
      conditions = is.1.1.1.0;
      distinct = is.1.1.1.1;
    })
    (λ are. ((are.base, are.gives), (are.page.is_path, (are.page.no_root, (are.conditions, are.distinct)))))
    (both (base_or_not (base_of parts.base)) (both (by_test (is_path parts.page) (path_by_test parts.page, test_by_path parts.page)) (both (not_so (text_same_or_not parts.page (codes "/"))) (both (conditions_or_not parts.conditions) (distinct_or_not parts.entries)))))

abbrev HasConfig : Json → Type 0
HasConfig value = (config : Config) × Describes value config

config_of : {value : Json} (object : Members) → value ≡ an_object object → (parts : Parts object) → ArePlain parts → HasConfig value
config_of object is parts are = (
  record { base = are.base; page = parts.page; conditions = parts.conditions; entries = parts.entries },
  record {
    members = object;
    text = parts.base;
    object = is;
    parts = parts.are;
    gives = are.gives;
    is_project =
        record {
          base = bases_stay parts.base are.base are.gives;
          page = are.page;
          conditions = are.conditions;
          distinct = are.distinct;
        };
  },
)

own_parts : {value : Json} (object : Members) → value ≡ an_object object → HasConfig value → Parts object
own_parts object is (config, d) = record {
  base = d.text;
  page = config.page;
  conditions = config.conditions;
  entries = config.entries;
  are = subst (λ ms. HasParts ms d.text config.page (strings config.conditions) (strings config.entries)) (same_members d.object is) d.parts;
}

own_plain : {value : Json} (object : Members) → value ≡ an_object object → (parts : Parts object) → HasConfig value → ArePlain parts
own_plain object is parts (config, d) =
    let own = subst (λ ms. HasParts ms d.text config.page (strings config.conditions) (strings config.entries)) (same_members d.object is) d.parts in
    let same = same_parts parts.are own in
    record {
      base = config.base;
      gives = ap base_of same.same_base ∙ d.gives;
      page = subst IsPagePath (sym same.same_page) d.is_project.page;
      conditions = subst AreConditions (sym (same_strings parts.conditions config.conditions same.same_conditions)) d.is_project.conditions;
      distinct = subst (IsDistinct bytes_eq) (sym (same_strings parts.entries config.entries same.same_entries)) d.is_project.distinct;
    }

config_by : {value : Json} (object : Members) → value ≡ an_object object → OrNot (Parts object) → OrNot (HasConfig value)
config_by object is (inl parts) = other_way (config_of object is parts) (own_plain object is parts) (plain_or_not parts)
config_by object is (inr none) = inr (λ found. none (own_parts object is found))

config_in : {value : Json} → OrNot ((object : Members) × (value ≡ an_object object)) → OrNot (HasConfig value)
config_in (inl (object, is)) = config_by object is (parts_or_not object)
config_in (inr none) = inr (λ found. none (found.1.members, found.1.object))

-- ---- the outcome

abbrev HasOutcome : Result Json json.Fault → Type 0
HasOutcome value = (out : Result Config Fault) × Gives value out

outcome_of : {value : Json} → OrNot (HasConfig value) → HasOutcome (Ok value)
outcome_of (inl (config, d)) = elim (cases_lt (limit_number Entries) (length config.entries)) [
  | inl above ↦ (Err (PassesLimit Entries), many_entries d above)
  | inr few ↦ (Ok config, a_project d few)
]
outcome_of (inr none) = (Err (BadFile 0), no_project (λ config d. none (config, d)))

outcome_in : (value : Result Json json.Fault) → HasOutcome value
outcome_in (Ok value) = outcome_of (config_in (object_or_not value))
outcome_in (Err (NotJson at)) = (Err (BadFile at), no_json)
outcome_in (Err (TooDeep at)) = (Err (PassesLimit Depth), deep_json)

pub some_project : SomeProject
some_project bytes =
    let text = some_json bytes in
    let found = outcome_in text.0 in
    (found.0, reads_project text.0 text.1 found.1)
