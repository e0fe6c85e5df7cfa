-- Worked examples of the words' options, of what a command makes of a project, and of whole words over a tree.
--     OptionExamples      options that set something, and options that are refused
--     LinkExamples        what `link` comes to
--     ProjectExamples     what the other commands come to
--     EntryExamples       at most 1,024 entries
--     WordExamples        words over a tree
use Rattle.std.specs.FinMap.{get}
use Rattle.std.specs.List.{list_any}
use Rattle.std.specs.Prelude.{◌≡◌, ◌<◌, ℕ, true, false, List, [], ◌∷◌, length, codes, bytes_eq, Some, None, Ok, Err}
use Rattle.tree_spec.specs.Trees.{bare_tree, Tree}
use Rattle.tree_spec.specs.declared.Entry.TheVariants.{Stored, Directory}
use Rattle.tree_spec.specs.declared.LimitName.TheVariants.{Entries, File}
use Rattle.tree_spec.specs.Limits.{limit_number}
use Rattle.trace_spec.specs.Modules.{Config}
use Rattle.words_spec.specs.PlainWords.{LinkOptions, no_options, linking, unlinking, refreshing, checking}
use Rattle.words_spec.specs.PlainWords.{listing, injecting, explaining, vendoring}
use Rattle.config_spec.specs.declared.Command.TheVariants.{Link, Why, Vendor}
use Rattle.config_spec.specs.declared.ProjectFault.TheVariants.{Absent, TooLarge, NotProject}
use Rattle.config_spec.specs.declared.ConfigFault.TheVariants.{BadBase, BadPath, BadConditions, Project}
use Rattle.config_spec.specs.declared.ConfigFault.TheVariants.{NoBase, NotLinked, TooManyEntries}
use Rattle.config_spec.specs.Words.{Settings, Sets, no_settings, RefusesOptions, IsCommandOf, IsSession, Measures}
use Rattle.config_spec.specs.Words.{RefusesWords}
use Rattle.config_spec.specs.Projects.{project_path, config_by, IsConfigOf, RefusesConfig}

-- ---- options

abbrev with_base : List ℕ → LinkOptions
with_base text = record { base = Some text; page = None; conditions = None }

abbrev with_page : List ℕ → LinkOptions
with_page text = record { base = None; page = Some text; conditions = None }

abbrev with_conditions : List ℕ → LinkOptions
with_conditions text = record { base = None; page = None; conditions = Some text }

abbrev base_set : List ℕ → Settings
base_set url = record { base = Some url; page = None; conditions = None }

abbrev conditions_set : List (List ℕ) → Settings
conditions_set names = record { base = None; page = None; conditions = Some names }

-- three texts, none of which is of its form
abbrev all_bad : LinkOptions
all_bad = record { base = Some (codes "/a/"); page = Some (codes "/"); conditions = Some (codes "a,a") }

abbrev page_bad : LinkOptions
page_bad = record { base = Some (codes "https://h/a/"); page = Some (codes "/"); conditions = Some (codes "a,a") }

pub record OptionExamples : Type 0 where
  pub lower_case : Sets (with_base (codes "HTTPS://H/a/")) (base_set (codes "https://h/a/"))
  pub two_names : Sets (with_conditions (codes "a,b")) (conditions_set (codes "a" ∷ codes "b" ∷ []))
  pub no_folder : RefusesOptions (with_base (codes "https://h/a")) (BadBase (codes "https://h/a"))
  pub root : RefusesOptions (with_page (codes "/")) (BadPath (codes "/"))
  pub relative : RefusesOptions (with_page (codes "a")) (BadPath (codes "a"))
  pub empty_segment : RefusesOptions (with_page (codes "/a//b")) (BadPath (codes "/a//b"))
  pub same_name : RefusesOptions (with_conditions (codes "a,a")) (BadConditions (codes "a,a"))
  pub default_name : RefusesOptions (with_conditions (codes "default")) (BadConditions (codes "default"))
  pub base_first : RefusesOptions all_bad (BadBase (codes "/a/"))
  pub then_page : RefusesOptions page_bad (BadPath (codes "/"))

-- ---- commands

-- the project of one page with one entry
abbrev site : Config
site = record {
  base = codes "https://app.test/";
  page = codes "/index.html";
  conditions = codes "browser" ∷ codes "import" ∷ [];
  entries = codes "./app.mjs" ∷ [];
}

abbrev one_entry : List (List ℕ)
one_entry = codes "./app.mjs" ∷ []

abbrev page_and_names : Settings
page_and_names = record { base = None; page = Some (codes "/a/b.html"); conditions = Some (codes "node" ∷ []) }

pub record LinkExamples : Type 0 where
  pub no_base : config_by (linking no_options one_entry) no_settings (Ok None) ≡ Err NoBase
  pub no_base_before_entries : config_by (linking no_options []) page_and_names (Ok None) ≡ Err NoBase
  pub file_before_base :
      config_by (linking no_options one_entry) no_settings (Err (NotProject 3)) ≡ Err (Project (NotProject 3))
  pub new :
      config_by (linking (with_base (codes "https://app.test/")) one_entry) (base_set (codes "https://app.test/"))
      (Ok None) ≡ Ok site
  pub once :
      config_by (linking no_options (codes "./b.mjs" ∷ codes "./app.mjs" ∷ codes "./b.mjs" ∷ [])) no_settings
      (Ok (Some site))
      ≡ Ok (record {
        base = codes "https://app.test/";
        page = codes "/index.html";
        conditions = codes "browser" ∷ codes "import" ∷ [];
        entries = codes "./app.mjs" ∷ codes "./b.mjs" ∷ [];
      })
  pub over_values :
      config_by (linking no_options []) page_and_names (Ok (Some site))
      ≡ Ok (record {
        base = codes "https://app.test/";
        page = codes "/a/b.html";
        conditions = codes "node" ∷ [];
        entries = codes "./app.mjs" ∷ [];
      })
  pub over_base :
      config_by (linking no_options []) (base_set (codes "https://h/a/")) (Ok (Some site))
      ≡ Ok (record {
        base = codes "https://h/a/";
        page = codes "/index.html";
        conditions = codes "browser" ∷ codes "import" ∷ [];
        entries = codes "./app.mjs" ∷ [];
      })

abbrev two_entries : Config
two_entries = record {
  base = codes "https://app.test/";
  page = codes "/index.html";
  conditions = codes "browser" ∷ codes "import" ∷ [];
  entries = codes "./b.mjs" ∷ codes "./app.mjs" ∷ [];
}

abbrev no_entries : Config
no_entries = record {
  base = codes "https://app.test/";
  page = codes "/index.html";
  conditions = codes "browser" ∷ codes "import" ∷ [];
  entries = [];
}

pub record ProjectExamples : Type 0 where
  pub unlink : config_by (unlinking (codes "./b.mjs" ∷ [])) no_settings (Ok (Some two_entries)) ≡ Ok site
  pub unlink_all :
      config_by (unlinking (codes "./app.mjs" ∷ codes "./b.mjs" ∷ [])) no_settings (Ok (Some two_entries))
      ≡ Ok no_entries
  pub unlink_twice :
      config_by (unlinking (codes "./b.mjs" ∷ codes "./b.mjs" ∷ [])) no_settings (Ok (Some two_entries))
      ≡ Err (NotLinked (codes "./b.mjs"))
  pub first_missing :
      config_by (unlinking (codes "./app.mjs" ∷ codes "./d.mjs" ∷ codes "./c.mjs" ∷ [])) no_settings
      (Ok (Some two_entries)) ≡ Err (NotLinked (codes "./d.mjs"))
  pub unlink_nothing : config_by (unlinking one_entry) no_settings (Ok None) ≡ Err (Project Absent)
  pub refresh : config_by refreshing no_settings (Ok (Some site)) ≡ Ok site
  pub refresh_nothing : config_by refreshing no_settings (Ok None) ≡ Err (Project Absent)
  pub list : config_by listing no_settings (Ok (Some site)) ≡ Ok site
  pub list_nothing : config_by listing no_settings (Ok None) ≡ Err (Project Absent)
  pub why : config_by (explaining (codes "/a.mjs")) no_settings (Ok (Some site)) ≡ Ok site
  pub vendor : config_by (vendoring (codes "/out")) no_settings (Ok (Some site)) ≡ Ok site
  pub check_nothing : config_by checking no_settings (Ok None) ≡ Err (Project Absent)
  pub inject_large : config_by injecting no_settings (Err TooLarge) ≡ Err (Project TooLarge)

-- ---- the number of entries

pub record EntryExamples : Type 0 where
  pub one_more :
      (old : Config) (entry : List ℕ) → length old.entries ≡ limit_number Entries
      → list_any (bytes_eq entry) old.entries ≡ false
      → config_by (linking no_options (entry ∷ [])) no_settings (Ok (Some old)) ≡ Err TooManyEntries
  pub there_already :
      (old : Config) (entry : List ℕ) → length old.entries ≡ limit_number Entries
      → list_any (bytes_eq entry) old.entries ≡ true
      → config_by (linking no_options (entry ∷ [])) no_settings (Ok (Some old)) ≡ Ok old

-- ---- whole words

pub record WordExamples : Type 0 where
  pub session : IsSession (codes "session" ∷ [])
  pub measured : Measures (codes "measure" ∷ codes "200" ∷ []) 200
  pub why : IsCommandOf (codes "why" ∷ codes "/a.mjs" ∷ []) Why
  pub why_root : IsCommandOf (codes "why" ∷ codes "/" ∷ []) Why
  pub why_no_path : RefusesWords (codes "why" ∷ codes "a.mjs" ∷ []) (BadPath (codes "a.mjs"))
  pub why_up : RefusesWords (codes "why" ∷ codes "/a/../b.mjs" ∷ []) (BadPath (codes "/a/../b.mjs"))
  pub vendor : IsCommandOf (codes "vendor" ∷ codes "/out" ∷ []) Vendor
  pub vendor_root : RefusesWords (codes "vendor" ∷ codes "/" ∷ []) (BadPath (codes "/"))
  pub vendor_no_path : RefusesWords (codes "vendor" ∷ codes "out" ∷ []) (BadPath (codes "out"))
  pub vendor_nothing : RefusesConfig (codes "vendor" ∷ codes "/out" ∷ []) bare_tree (Project Absent)
  pub why_nothing : RefusesConfig (codes "why" ∷ codes "/a.mjs" ∷ []) bare_tree (Project Absent)
  pub no_base : RefusesConfig (codes "link" ∷ codes "./app.mjs" ∷ []) bare_tree NoBase
  pub refresh_nothing : RefusesConfig (codes "refresh" ∷ []) bare_tree (Project Absent)
  pub folder :
      (tree : Tree) → get tree project_path ≡ Some Directory
      → RefusesConfig (codes "refresh" ∷ []) tree (Project Absent)
  pub link_by_folder :
      (tree : Tree) → get tree project_path ≡ Some Directory → RefusesConfig (codes "link" ∷ []) tree NoBase
  pub large :
      (tree : Tree) (bytes : List ℕ) → get tree project_path ≡ Some (Stored bytes) → limit_number File < length bytes
      → RefusesConfig (codes "link" ∷ []) tree (Project TooLarge)
  pub new :
      IsConfigOf (codes "link" ∷ codes "--base=HTTPS://H/a/" ∷ codes "./app.mjs" ∷ []) bare_tree Link
      (record {
        base = codes "https://h/a/";
        page = codes "/index.html";
        conditions = codes "browser" ∷ codes "import" ∷ [];
        entries = codes "./app.mjs" ∷ [];
      })

abbrev pub WorkedExamples : Type 0
WorkedExamples = OptionExamples × LinkExamples × ProjectExamples × EntryExamples × WordExamples
