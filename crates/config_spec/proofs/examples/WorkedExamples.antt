-- The worked examples.
use Rattle.std.proofs.Common.{Option, subst, ◌≡◌, ◌∙◌, ℕ, Bool, true, false, List, [], ◌∷◌, ◌++◌, ◌+◌, Some, None}
use Rattle.std.proofs.Common.{lit≤, refl}
use Rattle.std.proofs.Common.{sym, ap, length, length-append, true≢false}
use Rattle.std.specs.Cmp.Lexicographic.{slice_cmp}
use Rattle.std.specs.FinMap.{empty, get-empty}
use Rattle.std.specs.List.{list_any}
use Rattle.std.specs.Ordering.{nat_cmp}
use Rattle.std.specs.Prelude.{codes, bytes_eq, nat_lt, Result, Ok, Err, if◌then◌else◌}
use Rattle.std.proofs.lemmas.List.Elements.{All-head}
use Rattle.std.proofs.lemmas.Map.Keys.{IsDistinct-head}
use Rattle.tree_spec.proofs.ByteLists.{texts_differ}
use Rattle.tree_spec.proofs.Insertion.{get_other}
use Rattle.tree_spec.specs.Paths.{IsPath}
use Rattle.tree_spec.specs.Trees.{bare_tree, Tree}
use Rattle.tree_spec.specs.declared.Entry.TheVariants.{Directory}
use Rattle.url_spec.proofs.Bases.{bases_stay}
use Rattle.url_spec.proofs.examples.WorkedExamples.{worked_examples as url_examples}
use Rattle.url_spec.proofs.PathDecisions.{test_by_path}
use Rattle.url_spec.specs.Bases.{base_of}
use Rattle.url_spec.specs.PathTests.{is_path}
use Rattle.url_spec.specs.WorkedExamples.{BaseExamples}
use Rattle.node_spec.specs.Conditions.{AreConditions, IsCondition}
use Rattle.trace_spec.specs.Modules.{Config}
use Rattle.words_spec.proofs.ReadIsPlain.{read_is_plain}
use Rattle.words_spec.specs.PlainWords.{Asked, Asks, no_options, linking, refreshing, explaining, vendoring}
use Rattle.words_spec.specs.Reading.{reading_of}
use Rattle.config_spec.proofs.Options.{no_settings_set}
use Rattle.config_spec.proofs.TwoConditions.{two_conditions}
use Rattle.config_spec.specs.Projects.{config_by, HoldsProject, project_path, RefusesConfig, with_few}
use Rattle.config_spec.specs.Projects.HoldsProject.{absent, folder, too_large}
use Rattle.project_spec.specs.ProjectFiles.{IsPagePath}
use Rattle.config_spec.specs.Words.{command_of, IsCommandOf, no_settings, options_of, Sets}
use Rattle.config_spec.specs.Words.RefusesWords.{bad_file, bad_folder}
use Rattle.config_spec.specs.Words.RefusesOptions.{bad_base, bad_conditions, bad_path}
use Rattle.config_spec.specs.Words.SetsBase.{none as no_base, given as some_base}
use Rattle.config_spec.specs.Words.SetsConditions.{none as no_names, given as some_names}
use Rattle.config_spec.specs.Words.SetsPage.{none as no_page}
use Rattle.config_spec.specs.declared.ConfigFault.{ConfigFault}
use Rattle.config_spec.specs.declared.ConfigFault.TheVariants.{NoBase, Project, TooManyEntries}
use Rattle.config_spec.specs.declared.Command.{Command}
use Rattle.config_spec.specs.declared.Command.TheVariants.{Link, Refresh, Why, Vendor}
use Rattle.config_spec.specs.declared.ProjectFault.{ProjectFault}
use Rattle.config_spec.specs.declared.ProjectFault.TheVariants.{Absent, TooLarge}
use Rattle.config_spec.specs.WorkedExamples.{OptionExamples, LinkExamples, ProjectExamples, EntryExamples}
use Rattle.config_spec.specs.WorkedExamples.{WordExamples, WorkedExamples}

-- ---- options

bases : BaseExamples
bases = url_examples.0

own_base : base_of (codes "https://h/a/") ≡ Some (codes "https://h/a/")
own_base = bases_stay (codes "HTTPS://H/a/") (codes "https://h/a/") bases.lower_case

no_path : (text : List ℕ) → is_path text ≡ false → IsPagePath text → ⊥
no_path text e is = true≢false (sym (test_by_path text is.is_path) ∙ e)

root_is_none : IsPagePath (codes "/") → ⊥
root_is_none is = is.no_root refl

two_names : AreConditions (codes "a" ∷ codes "b" ∷ [])
two_names =
    two_conditions (codes "a") (codes "b")
    (record { nonempty = lit≤ tt; short = lit≤ tt; plain = refl; other = refl })
    (record { nonempty = lit≤ tt; short = lit≤ tt; plain = refl; other = refl }) refl

same_name : AreConditions (codes "a" ∷ codes "a" ∷ []) → ⊥
same_name are = true≢false (IsDistinct-head bytes_eq (codes "a") (codes "a" ∷ []) are.distinct).0

default_name : AreConditions (codes "default" ∷ []) → ⊥
default_name are = (All-head IsCondition (codes "default") [] are.each).other refl

option_examples : OptionExamples
option_examples = record {
  lower_case = record { base = some_base (codes "HTTPS://H/a/") (codes "https://h/a/") bases.lower_case; page = no_page; conditions = no_names };
  two_names = record { base = no_base; page = no_page; conditions = some_names (codes "a,b") two_names };
  no_folder = bad_base (codes "https://h/a") refl bases.no_folder;
  root = bad_path None (codes "/") no_base refl root_is_none;
  relative = bad_path None (codes "a") no_base refl (no_path (codes "a") refl);
  empty_segment = bad_path None (codes "/a//b") no_base refl (no_path (codes "/a//b") refl);
  same_name = bad_conditions None None (codes "a,a") no_base no_page refl same_name;
  default_name = bad_conditions None None (codes "default") no_base no_page refl default_name;
  base_first = bad_base (codes "/a/") refl bases.no_scheme;
  then_page = bad_path (Some (codes "https://h/a/")) (codes "/") (some_base (codes "https://h/a/") (codes "https://h/a/") own_base) refl root_is_none;
}

-- ---- commands

link_examples : LinkExamples
link_examples = record {
  no_base = refl;
  no_base_before_entries = refl;
  file_before_base = refl;
  new = refl;
  once = refl;
  over_values = refl;
  over_base = refl;
}

project_examples : ProjectExamples
project_examples = record {
  unlink = refl;
  unlink_all = refl;
  unlink_twice = refl;
  first_missing = refl;
  unlink_nothing = refl;
  refresh = refl;
  refresh_nothing = refl;
  list = refl;
  list_nothing = refl;
  why = refl;
  vendor = refl;
  check_nothing = refl;
  inject_large = refl;
}

-- ---- the number of entries

-- what comes of a project whose entries are these
abbrev comes_to : Config → List (List ℕ) → Result Config ConfigFault
comes_to old entries = with_few (record {
  base = old.base;
  page = old.page;
  conditions = old.conditions;
  entries = entries;
})

-- the same by whether the entry is there
abbrev linked_to : Config → List ℕ → Bool → Result Config ConfigFault
linked_to old entry there = comes_to old (if there then old.entries else old.entries ++ entry ∷ [])

counted :
    (old : Config) (entries : List (List ℕ)) (number : ℕ) → length entries ≡ number
    → comes_to old entries ≡ (if nat_lt 1024 number then Err TooManyEntries else Ok (record old { entries = entries }))
counted old entries number count =
    ap (λ n. if nat_lt 1024 n then Err TooManyEntries else Ok (record old { entries = entries })) count

one_more :
    (old : Config) (entry : List ℕ) → length old.entries ≡ 1024 → list_any (bytes_eq entry) old.entries ≡ false
    → linked_to old entry (list_any (bytes_eq entry) old.entries) ≡ Err TooManyEntries
one_more old entry full new =
    let count : length (old.entries ++ entry ∷ []) ≡ 1025 =
    length-append old.entries (entry ∷ []) ∙ ap (λ n. n + 1) full in
    ap (linked_to old entry) new ∙ counted old (old.entries ++ entry ∷ []) 1025 count

there_already :
    (old : Config) (entry : List ℕ) → length old.entries ≡ 1024 → list_any (bytes_eq entry) old.entries ≡ true
    → linked_to old entry (list_any (bytes_eq entry) old.entries) ≡ Ok old
there_already old entry full there = ap (linked_to old entry) there ∙ counted old old.entries 1024 full

entry_examples : EntryExamples
entry_examples = record { one_more = one_more; there_already = there_already }

-- ---- whole words

no_project : HoldsProject bare_tree (Ok None)
no_project =
    absent
    (get_other empty (codes "/") Directory project_path (texts_differ project_path (codes "/") refl)
    ∙ get-empty (slice_cmp nat_cmp) project_path)

-- words without options are refused for what is found
refused_by :
    (words : List (List ℕ)) (tree : Tree) (asked : Asked) (command : Command) (found : Result (Option Config) ProjectFault)
    (fault : ConfigFault) → reading_of words ≡ Some asked → command_of asked ≡ Some command
    → options_of asked ≡ no_options → HoldsProject tree found → Err fault ≡ config_by asked no_settings found
    → RefusesConfig words tree fault
refused_by words tree asked command found fault read is none holds comes = record {
  command = command;
  configures =
      record {
        asked = asked;
        asks = read_is_plain words asked read;
        is = is;
        settings = no_settings;
        sets = subst (λ options. Sets options no_settings) (sym none) no_settings_set;
        found = found;
        holds = holds;
        comes = comes;
      };
}

-- words that ask for a command without options
asks_for :
    {words : List (List ℕ)} {command : Command} (asked : Asked) → options_of asked ≡ no_options → Asks words asked
    → command_of asked ≡ Some command → IsCommandOf words command
asks_for asked none asks is = record {
  asked = asked;
  asks = asks;
  is = is;
  settings = no_settings;
  sets = subst (λ options. Sets options no_settings) (sym none) no_settings_set;
}

not_path : (text : List ℕ) → is_path text ≡ false → IsPath text → ⊥
not_path text e is = true≢false (sym (test_by_path text is) ∙ e)

word_examples : WordExamples
word_examples = record {
  session = read_is_plain (codes "session" ∷ []) _ refl;
  measured = read_is_plain (codes "measure" ∷ codes "200" ∷ []) _ refl;
  why = asks_for (explaining (codes "/a.mjs")) refl (read_is_plain (codes "why" ∷ codes "/a.mjs" ∷ []) _ refl) refl;
  why_root = asks_for (explaining (codes "/")) refl (read_is_plain (codes "why" ∷ codes "/" ∷ []) _ refl) refl;
  why_no_path =
      bad_file (codes "a.mjs") (read_is_plain (codes "why" ∷ codes "a.mjs" ∷ []) _ refl) (not_path (codes "a.mjs") refl);
  why_up =
      bad_file (codes "/a/../b.mjs") (read_is_plain (codes "why" ∷ codes "/a/../b.mjs" ∷ []) _ refl)
      (not_path (codes "/a/../b.mjs") refl);
  vendor = asks_for (vendoring (codes "/out")) refl (read_is_plain (codes "vendor" ∷ codes "/out" ∷ []) _ refl) refl;
  vendor_root =
      bad_folder (codes "/") (read_is_plain (codes "vendor" ∷ codes "/" ∷ []) _ refl) (λ is. is.no_root refl);
  vendor_no_path =
      bad_folder (codes "out") (read_is_plain (codes "vendor" ∷ codes "out" ∷ []) _ refl)
      (λ is. not_path (codes "out") refl is.is_path);
  vendor_nothing =
      refused_by (codes "vendor" ∷ codes "/out" ∷ []) bare_tree (vendoring (codes "/out")) Vendor (Ok None)
      (Project Absent) refl refl refl no_project refl;
  why_nothing =
      refused_by (codes "why" ∷ codes "/a.mjs" ∷ []) bare_tree (explaining (codes "/a.mjs")) Why (Ok None)
      (Project Absent) refl refl refl no_project refl;
  no_base =
      refused_by (codes "link" ∷ codes "./app.mjs" ∷ []) bare_tree (linking no_options (codes "./app.mjs" ∷ [])) Link
      (Ok None) NoBase refl refl refl no_project refl;
  refresh_nothing =
      refused_by (codes "refresh" ∷ []) bare_tree refreshing Refresh (Ok None) (Project Absent) refl refl refl no_project
      refl;
  folder = λ tree is.
      refused_by (codes "refresh" ∷ []) tree refreshing Refresh (Ok None) (Project Absent) refl refl refl (folder is)
      refl;
  link_by_folder = λ tree is.
      refused_by (codes "link" ∷ []) tree (linking no_options []) Link (Ok None) NoBase refl refl refl (folder is) refl;
  large = λ tree bytes is many.
      refused_by (codes "link" ∷ []) tree (linking no_options []) Link (Err TooLarge) (Project TooLarge) refl refl refl
      (too_large bytes is many) refl;
  new =
      record {
        asked = _;
        asks = read_is_plain (codes "link" ∷ codes "--base=HTTPS://H/a/" ∷ codes "./app.mjs" ∷ []) _ refl;
        is = refl;
        settings = _;
        sets =
            record {
              base = some_base (codes "HTTPS://H/a/") (codes "https://h/a/") bases.lower_case;
              page = no_page;
              conditions = no_names;
            };
        found = _;
        holds = no_project;
        comes = refl;
      };
}

pub worked_examples : WorkedExamples
worked_examples = (option_examples, link_examples, project_examples, entry_examples, word_examples)
