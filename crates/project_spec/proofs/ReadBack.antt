-- What is written is read back, and what is read can be written.
use Rattle.std.proofs.Common.{◌≡◌, ◌<◌, ℕ, true, suc, List, [], ◌∷◌, All, refl, arith}
use Rattle.std.specs.Char.{encode_utf8}
use Rattle.std.specs.List.{IsDistinct}
use Rattle.std.specs.Prelude.{codes, IsUtf8, Ok}
use Rattle.std.specs.Str.{IsAscii}
use Rattle.std.proofs.lemmas.Bool.Decides.{nat_tests}
use Rattle.std.proofs.lemmas.List.Elements.{All-head, All-tail, All-weaker}
use Rattle.std.proofs.lemmas.Str.{IsUtf8-from_ascii}
use Rattle.std.proofs.lemmas.Str.Ascii.{IsAscii-nil, IsAscii-cons}
use Rattle.json_spec.proofs.ReadBack.{values_read_back}
use Rattle.json_spec.specs.Grammar.{most_depth}
use Rattle.json_spec.specs.PrintedValue.{IsPrintable, ArePrintable}
use Rattle.url_spec.proofs.Bases.{folder_kept}
use Rattle.url_spec.proofs.OwnTexts.{utf8_url}
use Rattle.url_spec.specs.Bases.{base_of, IsBase}
use Rattle.url_spec.specs.Parsing.{parse_alone}
use Rattle.node_spec.specs.Conditions.{is_name_byte, IsCondition}
use Rattle.trace_spec.specs.Modules.{Config}
use Rattle.project_spec.specs.Laws.{ProjectsReadBack, ReadProjects}
use Rattle.project_spec.specs.ProjectFiles.{strings, Describes, IsProject, a_project, reads_project, project_value, project_text}

pub read_projects : ReadProjects
read_projects bytes config (reads_project value r (a_project d few)) = (d.is_project, few)

-- ---- a config that is written

base_utf8 : (base : List ℕ) → IsBase base → IsUtf8 base
unfolding base_of
base_utf8 base is = utf8_url base (folder_kept (parse_alone base) base is).0

name_byte_ascii : (b : ℕ) → is_name_byte b ≡ true → b < 128
name_byte_ascii b is = grind (arith, nat_tests)

name_ascii : (name : List ℕ) → All (λ b. is_name_byte b ≡ true) name → IsAscii name
name_ascii [] plain = IsAscii-nil
name_ascii (b ∷ name) plain =
    let P : ℕ → Type 0 = λ c. is_name_byte c ≡ true in
    IsAscii-cons b name (name_byte_ascii b (All-head P b name plain)) (name_ascii name (All-tail P b name plain))

condition_utf8 : (name : List ℕ) → IsCondition name → IsUtf8 name
condition_utf8 name is = IsUtf8-from_ascii name (name_ascii name is.plain)

strings_printable : (depth : ℕ) (texts : List (List ℕ)) → All IsUtf8 texts → ArePrintable depth (strings texts)
strings_printable depth [] are = tt
strings_printable depth (text ∷ texts) are =
    (All-head IsUtf8 text texts are, strings_printable depth texts (All-tail IsUtf8 text texts are))

names_utf8 : IsUtf8 (codes "base") × IsUtf8 (codes "page") × IsUtf8 (codes "conditions") × IsUtf8 (codes "entries")
unfolding encode_utf8
names_utf8 = ((codes "base", (refl, refl)), (codes "page", (refl, refl)), (codes "conditions", (refl, refl)), (codes "entries", (refl, refl)))

value_printable : (depth : ℕ) (config : Config) → IsProject config → IsUtf8 config.page → All IsUtf8 config.entries → IsPrintable (suc (suc depth)) (project_value config)
unfolding project_value IsDistinct
value_printable depth config is page entries =
    let conditions = strings_printable depth config.conditions (All-weaker IsCondition IsUtf8 condition_utf8 config.conditions is.conditions.each) in (
      ((refl, (refl, (refl, tt))), ((refl, (refl, tt)), ((refl, tt), (tt, tt)))),
      (names_utf8.0, base_utf8 config.base is.base, (names_utf8.1, page, (names_utf8.2, conditions, (names_utf8.3, strings_printable depth config.entries entries, tt)))),
    )

within_limit : (config : Config) → IsProject config → IsUtf8 config.page → All IsUtf8 config.entries → IsPrintable most_depth (project_value config)
unfolding most_depth
within_limit config is page entries = value_printable 126 config is page entries

described : (config : Config) → IsProject config → Describes (project_value config) config
unfolding project_value
described config is = record {
  members = _;
  text = config.base;
  object = refl;
  parts = record { four = refl; base_member = refl; page_member = refl; conditions_member = refl; entries_member = refl };
  gives = is.base;
  is_project = is;
}

pub projects_read_back : ProjectsReadBack
unfolding project_text
projects_read_back config is few page entries =
    reads_project (Ok (project_value config)) (values_read_back (project_value config) (within_limit config is page entries)) (a_project (described config is) few)
