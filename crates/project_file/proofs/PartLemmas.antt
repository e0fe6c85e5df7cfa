-- The parts of a project as its file has them, and the project that they give.
use Rattle.std.proofs.Common.{◌≡◌, ℕ, suc, List, [], ◌∷◌, All, length, refl, sym, ap, subst, ◌∙◌}
use Rattle.std.specs.List.{IsDistinct}
use Rattle.std.specs.Prelude.{◌≢◌, ◌≤◌, codes, bytes_eq, Option, Some, None, Result, Ok, Err, IfOk, MatchOption, MatchResult}
use Rattle.tree_spec.specs.Limits.{limit_number}
use Rattle.tree_spec.specs.declared.LimitName.TheVariants.{Depth, Entries}
use Rattle.json_spec.specs.Grammar.{NotJson, TooDeep, ReadsJson}
use Rattle.json_spec.specs.PropertyOrder.{pairs_of}
use Rattle.json_spec.specs.Value.{Json, a_null, a_bool, a_number, a_text, a_list, an_object, Items, Members}
use Rattle.url_spec.proofs.Bases.{bases_stay}
use Rattle.url_spec.specs.Bases.{base_of}
use Rattle.import_map_spec.specs.Parsing.{member}
use Rattle.ordered_json.specs.Lists.{values_of}
use Rattle.ordered_json.specs.Shown.{items_of, members_of}
use Rattle.ordered_json.specs.declared.value.Value.{Value}
use Rattle.node_spec.specs.Conditions.{names_in, AreConditions}
use Rattle.trace_spec.specs.Modules.{Config}
use Rattle.project_spec.proofs.OneProject.{same_members, same_parts, same_strings}
use Rattle.project_spec.specs.ProjectFiles.{IsPagePath, strings, HasParts, Describes, IsProject, Gives, a_project, no_json, deep_json, ReadsProject, reads_project}
use Rattle.project_file.proofs.NameLemmas.{conditions_names, names_joined}
use Rattle.project_file.proofs.StringLists.{text_is}
use Rattle.project_file.specs.Names.{IsName, joined}
use Rattle.project_file.specs.Parts.{Fills, IsFilled, IsWritten, NotWritten, HoldsStrings, IsAnyList, HasNoParts, has_written}
use Rattle.project_file.specs.Strings.{string_found, list_in, object_in, list_found}
use Rattle.project_file.specs.Outcomes.{IsDescribed, IsNoProject, GivesNone}
use Rattle.project_file.specs.declared.parts.Written.{Written}
use Rattle.project_file.specs.declared.fault.ProjectFault.{ProjectFault}
use Rattle.project_file.specs.declared.fault.ProjectFault.TheVariants.{BadFile, Limit, Memory}

pub as_many : (pairs : List (List ℕ × Value)) → length (pairs_of (members_of pairs)) ≡ length pairs
as_many [] = refl
as_many (pair ∷ pairs) = ap suc (as_many pairs)

-- ---- the four members

list_is : (value : Json) (items : Items) → list_in value ≡ Some items → value ≡ a_list items
list_is a_null items e = absurd (cc)
list_is (a_bool b) items e = absurd (cc)
list_is (a_number number) items e = absurd (cc)
list_is (a_text text) items e = absurd (cc)
list_is (a_list own) items e = cc
list_is (an_object object) items e = absurd (cc)

string_there : (found : Option Json) (text : List ℕ) → string_found found ≡ Some text → found ≡ Some (a_text text)
string_there None text e = absurd (cc)
string_there (Some value) text e = ap Some (text_is value text e)

list_there : (found : Option Json) (items : Items) → list_found found ≡ Some items → found ≡ Some (a_list items)
list_there None items e = absurd (cc)
list_there (Some value) items e = ap Some (list_is value items e)

pub all_there : (members : Members) (base page : List ℕ) (conditions entries : Items) → length (pairs_of members) ≡ 4 → string_found (member (codes "base") members) ≡ Some base → string_found (member (codes "page") members) ≡ Some page → list_found (member (codes "conditions") members) ≡ Some conditions → list_found (member (codes "entries") members) ≡ Some entries → HasParts members base page conditions entries
all_there members base page conditions entries four b p c e = record {
  four = four;
  base_member = string_there _ base b;
  page_member = string_there _ page p;
  conditions_member = list_there _ conditions c;
  entries_member = list_there _ entries e;
}

pub other_count : (pairs : List (List ℕ × Value)) → length pairs ≢ 4 → HasNoParts (members_of pairs)
other_count pairs other = λ base page conditions entries parts. other (sym (as_many pairs) ∙ parts.four)

pub no_base_member : (members : Members) → string_found (member (codes "base") members) ≡ None → HasNoParts members
no_base_member members none = λ base page conditions entries parts. let there = ap string_found parts.base_member in cc

pub no_page_member : (members : Members) → string_found (member (codes "page") members) ≡ None → HasNoParts members
no_page_member members none = λ base page conditions entries parts. let there = ap string_found parts.page_member in cc

pub no_conditions_member : (members : Members) → list_found (member (codes "conditions") members) ≡ None → HasNoParts members
no_conditions_member members none = λ base page conditions entries parts. let there = ap list_found parts.conditions_member in cc

pub no_entries_member : (members : Members) → list_found (member (codes "entries") members) ≡ None → HasNoParts members
no_entries_member members none = λ base page conditions entries parts. let there = ap list_found parts.entries_member in cc

pub ruleset kinds = (as_many, all_there, other_count, no_base_member, no_page_member, no_conditions_member, no_entries_member)

object_is : (value : Json) (members : Members) → object_in value ≡ Some members → value ≡ an_object members
object_is a_null members e = absurd (cc)
object_is (a_bool b) members e = absurd (cc)
object_is (a_number number) members e = absurd (cc)
object_is (a_text text) members e = absurd (cc)
object_is (a_list items) members e = absurd (cc)
object_is (an_object own) members e = cc

pub no_object : (value : Json) → object_in value ≡ None → NotWritten value
no_object value none = λ members e. let there = ap object_in e in cc

pub object_parts : (value : Json) (members : Members) (found : Option Written) → object_in value ≡ Some members → MatchOption found (HasNoParts members) (has_written members) → MatchOption found (NotWritten value) (IsWritten value)
object_parts value members None e none =
    λ others f base page conditions entries parts. none base page conditions entries (subst (λ ms. HasParts ms base page conditions entries) (same_members f (object_is value members e)) parts)
object_parts value members (Some written) e parts = record { members = members; object = object_is value members e; parts = parts }

pub ruleset objects = (no_object, object_parts)

abbrev FillsWritten : Written → Config → Type 0
FillsWritten written config =
    Fills written.base.now written.page.now (items_of (values_of written.conditions.now)) (items_of (values_of written.entries.now)) config

-- ---- what is described

same_kinds : {members : Members} {base page page' : List ℕ} {conditions conditions' entries entries' : Items} → page ≡ page' → conditions ≡ conditions' → entries ≡ entries' → HasParts members base page conditions entries → HasParts members base page' conditions' entries'
same_kinds {members} {base} {page} {page'} {conditions} {conditions'} {entries} p c e parts =
    subst (HasParts members base page' conditions') e (subst (λ cs. HasParts members base page' cs entries) c (subst (λ t. HasParts members base t conditions entries) p parts))

pub describes : (value : Json) (written : Written) (config : Config) → IsWritten value written → FillsWritten written config → Describes value config
describes value written config w f = record {
  members = w.members;
  text = written.base.now;
  object = w.object;
  parts = same_kinds (sym f.same_page) f.names f.texts w.parts;
  gives = f.gives;
  is_project =
      record {
        base = bases_stay written.base.now config.base f.gives;
        page = f.is_page;
        conditions = f.are_conditions;
        distinct = f.distinct;
      };
}

-- the parts of what is described are those that are written
fills : (value : Json) (written : Written) (config : Config) → IsWritten value written → Describes value config → FillsWritten written config
fills value written config w d =
    let own = subst (λ ms. HasParts ms d.text config.page (strings config.conditions) (strings config.entries)) (same_members d.object w.object) d.parts in
    let same = same_parts w.parts own in
    record {
      gives = ap base_of same.same_base ∙ d.gives;
      same_page = sym same.same_page;
      is_page = d.is_project.page;
      names = same.same_conditions;
      are_conditions = d.is_project.conditions;
      texts = same.same_entries;
      distinct = d.is_project.distinct;
    }

pub described : (value : Json) (written : Written) (found : Option Config) → IsWritten value written → IsFilled written.base.now written.page.now (items_of (values_of written.conditions.now)) (items_of (values_of written.entries.now)) found → IsDescribed value found
described value written None w none = λ config d. none config (fills value written config w d)
described value written (Some config) w f = describes value written config w f

pub all_described : {E : Type 0} (value : Json) (written : Written) (found : Result (Option Config) E) → IsWritten value written → IfOk found (IsFilled written.base.now written.page.now (items_of (values_of written.conditions.now)) (items_of (values_of written.entries.now))) → IfOk found (IsDescribed value)
all_described value written (Ok found) w f = described value written found w f
all_described value written (Err memory) w f = tt

pub not_described : (value : Json) → NotWritten value → IsDescribed value None
not_described value none =
    λ config d. none d.members d.object d.text config.page (strings config.conditions) (strings config.entries) d.parts

-- ---- lists of strings

pub no_list : (items : Items) (Are : List (List ℕ) → Type 0) → HoldsStrings items IsAnyList None → HoldsStrings items Are None
no_list items Are none = λ texts e are. none texts e tt

pub not_so : (items : Items) (Are : List (List ℕ) → Type 0) (texts : List (List ℕ)) → items ≡ strings texts → (Are texts → ⊥) → HoldsStrings items Are None
not_so items Are texts e none = λ others f are. none (subst Are (sym (same_strings texts others (sym e ∙ f))) are)

pub not_names : (items : Items) (names : List (List ℕ)) → items ≡ strings names → (All IsName names → ⊥) → HoldsStrings items AreConditions None
not_names items names e none = not_so items AreConditions names e (λ are. none (conditions_names names are))

same_names : (names : List (List ℕ)) (text : List ℕ) → All IsName names → text ≡ joined names → names_in text ≡ names
same_names names text are is = ap names_in is ∙ names_joined names are

pub bad_names : (items : Items) (names : List (List ℕ)) (text : List ℕ) → items ≡ strings names → All IsName names → text ≡ joined names → (AreConditions (names_in text) → ⊥) → HoldsStrings items AreConditions None
bad_names items names text e are is none = not_so items AreConditions names e (λ good. none (subst AreConditions (sym (same_names names text are is)) good))

pub good_names : (items : Items) (names found : List (List ℕ)) (text : List ℕ) → items ≡ strings names → All IsName names → text ≡ joined names → found ≡ names_in text → AreConditions found → HoldsStrings items AreConditions (Some found)
good_names items names found text e are is read good = (e ∙ ap strings (sym (read ∙ same_names names text are is)), good)

pub ruleset names_read = (no_list, not_names, bad_names, good_names)

pub ruleset texts_read = (no_list, not_so)

-- ---- what is filled in

pub no_base : (base page : List ℕ) (conditions entries : Items) → base_of base ≡ None → IsFilled base page conditions entries None
no_base base page conditions entries none = λ config f. let e = f.gives in cc

pub no_page : (base page : List ℕ) (conditions entries : Items) → (IsPagePath page → ⊥) → IsFilled base page conditions entries None
no_page base page conditions entries none = λ config f. none (subst IsPagePath f.same_page f.is_page)

pub no_conditions : (base page : List ℕ) (conditions entries : Items) → HoldsStrings conditions AreConditions None → IsFilled base page conditions entries None
no_conditions base page conditions entries none = λ config f. none config.conditions f.names f.are_conditions

pub no_entries : (base page : List ℕ) (conditions entries : Items) → HoldsStrings entries (IsDistinct bytes_eq) None → IsFilled base page conditions entries None
no_entries base page conditions entries none = λ config f. none config.entries f.texts f.distinct

pub ruleset unfilled = (no_base, no_page, no_conditions, no_entries)

-- ---- the outcome

given_project : {value : Json} {config : Config} → Gives (Ok value) (Ok config) → IsProject config
given_project (a_project d few) = d.is_project

-- the config of a project with few entries
pub few_given : {value : Json} {project config : Config} → Describes value project → config ≡ project → length project.entries ≤ limit_number Entries → Gives (Ok value) (Ok config)
few_given {value} d same few = subst (λ c. Gives (Ok value) (Ok c)) (sym same) (a_project d few)

abbrev Given : Json → Result Config ProjectFault → Type 0
Given value found = MatchResult found (λ config. Gives (Ok value) (Ok config)) (GivesNone value)

pub outcome : (bytes : List ℕ) (value : Json) (found : Result Config ProjectFault) → ReadsJson bytes (Ok value) → Given value found → MatchResult found (λ config. ReadsProject bytes (Ok config)) (IsNoProject bytes)
outcome bytes value (Ok config) r g = reads_project (Ok value) r g
outcome bytes value (Err (BadFile at)) r g = reads_project (Ok value) r g
outcome bytes value (Err (Limit which)) r g = reads_project (Ok value) r g
outcome bytes value (Err Memory) r g = tt

pub project_given : (value : Json) (found : Result Config ProjectFault) → Given value found → IfOk found IsProject
project_given value (Ok config) g = given_project g
project_given value (Err fault) g = tt

pub json_fault : (bytes : List ℕ) (at : ℕ) → ReadsJson bytes (Err (NotJson at)) → IsNoProject bytes (BadFile at)
json_fault bytes at r = reads_project (Err (NotJson at)) r no_json

pub deep_fault : (bytes : List ℕ) (at : ℕ) → ReadsJson bytes (Err (TooDeep at)) → IsNoProject bytes (Limit Depth)
deep_fault bytes at r = reads_project (Err (TooDeep at)) r deep_json
