-- The bytes of a file have one outcome.
use Rattle.std.proofs.Common.{◌≡◌, ◌≤◌, ◌<◌, ℕ, List, [], ◌∷◌, length, refl, sym, ap, ap₂, subst, ◌∙◌, arith}
use Rattle.std.specs.Prelude.{Option, Some, Result, Ok}
use Rattle.tree_spec.specs.Limits.{limit_number}
use Rattle.tree_spec.specs.declared.LimitName.TheVariants.{Entries}
use Rattle.json_spec.proofs.OneJson.{one_json}
use Rattle.json_spec.specs.Grammar as json
use Rattle.json_spec.specs.Value.{Json, a_text, a_list, an_object, Items, Members}
use Rattle.url_spec.specs.Bases.{base_of}
use Rattle.trace_spec.specs.Modules.{Config}
use Rattle.project_spec.specs.Laws.{OneProject}
use Rattle.project_spec.specs.ProjectFiles.{strings, HasParts, Describes, Fault, Gives, a_project, many_entries, no_project, no_json, deep_json, reads_project}

pub same_strings : (some other : List (List ℕ)) → strings some ≡ strings other → some ≡ other
same_strings [] [] e = refl
same_strings [] (text ∷ texts) e = absurd (cc)
same_strings (text ∷ texts) [] e = absurd (cc)
same_strings (text ∷ some) (word ∷ other) e =
    let first : text ≡ word = cc in
    let rest : strings some ≡ strings other = cc in
    ap₂ (λ t ts. t ∷ ts) first (same_strings some other rest)

same_text : {found : Option Json} {some other : List ℕ} → found ≡ Some (a_text some) → found ≡ Some (a_text other) → some ≡ other
same_text e f = cc

same_list : {found : Option Json} {some other : Items} → found ≡ Some (a_list some) → found ≡ Some (a_list other) → some ≡ other
same_list e f = cc

pub same_members : {value : Json} {some other : Members} → value ≡ an_object some → value ≡ an_object other → some ≡ other
same_members e f = cc

same_config : (some other : Config) → some.base ≡ other.base → some.page ≡ other.page → some.conditions ≡ other.conditions → some.entries ≡ other.entries → some ≡ other
same_config some other b p c e = λ i. record { base = b i; page = p i; conditions = c i; entries = e i }

-- the parts that an object has
pub record SameParts (base base' page page' : List ℕ) (conditions conditions' entries entries' : Items) : Type 0 where
  pub same_base : base ≡ base'
  pub same_page : page ≡ page'
  pub same_conditions : conditions ≡ conditions'
  pub same_entries : entries ≡ entries'

pub same_parts : {members : Members} {base base' page page' : List ℕ} {conditions conditions' entries entries' : Items} → HasParts members base page conditions entries → HasParts members base' page' conditions' entries' → SameParts base base' page page' conditions conditions' entries entries'
same_parts some other = record {
  same_base = same_text some.base_member other.base_member;
  same_page = same_text some.page_member other.page_member;
  same_conditions = same_list some.conditions_member other.conditions_member;
  same_entries = same_list some.entries_member other.entries_member;
}

same_base : {found : Option (List ℕ)} {some other : List ℕ} → found ≡ Some some → found ≡ Some other → some ≡ other
same_base e f = cc

one_config : {value : Json} (some other : Config) → Describes value some → Describes value other → some ≡ other
one_config some other d f =
    let same = same_members d.object f.object in
    let moved = subst (λ ms. HasParts ms f.text other.page (strings other.conditions) (strings other.entries)) (sym same) f.parts in
    let parts = same_parts d.parts moved in
    same_config some other (same_base d.gives (ap base_of parts.same_base ∙ f.gives)) parts.same_page (same_strings some.conditions other.conditions parts.same_conditions) (same_strings some.entries other.entries parts.same_entries)

too_many : (n : ℕ) (some other : Config) → some ≡ other → length some.entries ≤ n → n < length other.entries → ⊥
too_many n some other same few many = let count : length some.entries ≡ length other.entries = ap (λ c. length c.entries) same in omega arith

pub one_given : {value : Result Json json.Fault} {some other : Result Config Fault} → Gives value some → Gives value other → some ≡ other
one_given (a_project {config = some} d few) (a_project {config = other} f few') = ap Ok (one_config some other d f)
one_given (a_project {config = some} d few) (many_entries {config = other} f many) = absurd (too_many (limit_number Entries) some other (one_config some other d f) few many)
one_given (a_project {config = config} d few) (no_project none) = absurd (none config d)
one_given (many_entries {config = other} f many) (a_project {config = some} d few) = absurd (too_many (limit_number Entries) some other (one_config some other d f) few many)
one_given (many_entries d many) (many_entries f many') = refl
one_given (many_entries {config = config} d many) (no_project none) = absurd (none config d)
one_given (no_project none) (a_project {config = config} d few) = absurd (none config d)
one_given (no_project none) (many_entries {config = config} d many) = absurd (none config d)
one_given (no_project none) (no_project none') = refl
one_given no_json no_json = refl
one_given deep_json deep_json = refl

pub one_project : OneProject
one_project bytes some other (reads_project value r g) (reads_project value' s h) =
    one_given (subst (λ v. Gives v some) (one_json bytes value value' r s) g) h
