-- The config that words give over files, where both are written out.
use Rattle.std.proofs.Common.{◌≡◌, ◌≤◌, refl, ap, ◌∙◌, Ok}
use Rattle.std.specs.Prelude.{ℕ, List, codes, length, Some, None}
use Prim.Native.String.{String}
use Rattle.tree_spec.specs.declared.Entry.TheVariants.{Stored}
use Rattle.tree_spec.specs.declared.LimitName.TheVariants.{File}
use Rattle.tree_spec.specs.Limits.{limit_number}
use Rattle.tree_spec.specs.LookAskings.{Sights}
use Rattle.import_map_spec.proofs.examples.WrittenMaps.{looked, get_map_of}
use Rattle.project_spec.specs.ProjectFiles.{ReadsProject}
use Rattle.trace_spec.specs.Modules.{Config}
use Rattle.url_spec.specs.Bases.{base_of}
use Rattle.words_spec.proofs.ReadIsPlain.{read_is_plain}
use Rattle.words_spec.specs.PlainWords.{Asked, Asks, LinkOptions, linking, injecting, refreshing}
use Rattle.words_spec.specs.PlainWords.Asks.{inject, refresh}
use Rattle.words_spec.specs.Reading.{reading_of}
use Rattle.config_spec.proofs.ConfigsFit.{as_outcome}
use Rattle.config_spec.proofs.Options.{no_settings_set}
use Rattle.config_spec.specs.Projects.{config_by, HoldsProject, IsConfigOf, RefusesConfig, project_path}
use Rattle.config_spec.specs.Projects.HoldsProject.{absent, reads}
use Rattle.config_spec.specs.Words.{Settings, no_settings}
use Rattle.config_spec.specs.Words.SetsBase.{none as no_base, given as some_base}
use Rattle.config_spec.specs.Words.SetsConditions.{none as no_names}
use Rattle.config_spec.specs.Words.SetsPage.{none as no_page}
use Rattle.config_spec.specs.declared.Command.TheVariants.{Link, Inject, Refresh}
use Rattle.config_spec.specs.declared.ConfigFault.TheVariants.{Project}
use Rattle.config_spec.specs.declared.ProjectFault.TheVariants.{Absent}
use Rattle.node_spec.specs.BuiltinNames.{texts}
use Rattle.node_spec.specs.NodeExamples.{Files}
use Rattle.generator_examples.specs.Sites.{tree_of, based, links, injects, refreshes}

abbrev based_options : String → LinkOptions
based_options base = record { base = Some (codes base); page = None; conditions = None }

abbrev based_settings : String → Settings
based_settings base = record { base = Some (codes base); page = None; conditions = None }

abbrev pub is_linking : String → List String → Asked
is_linking base asked = linking (based_options base) (texts asked)

pub links_ask : (base : String) (asked : List String) → reading_of (links base asked) ≡ Some (is_linking base asked) → Asks (links base asked) (is_linking base asked)
links_ask base asked read = read_is_plain (links base asked) (is_linking base asked) read

-- nothing stands at the project's path
no_project_in : (files : Files) → looked files project_path ≡ None → HoldsProject (tree_of files) (Ok None)
no_project_in files none = absent (ap (λ (f : Sights). f project_path) (get_map_of files) ∙ none)

pub link_gives : (files : Files) (base : String) (asked : List String) → reading_of (links base asked) ≡ Some (is_linking base asked) → base_of (codes base) ≡ Some (codes base) → looked files project_path ≡ None → as_outcome (based base asked) ≡ config_by (is_linking base asked) (based_settings base) (Ok None)
    → IsConfigOf (links base asked) (tree_of files) Link (based base asked)
link_gives files base asked read is none comes = record {
  asked = is_linking base asked;
  asks = links_ask base asked read;
  is = refl;
  settings = based_settings base;
  sets = record { base = some_base (codes base) (codes base) is; page = no_page; conditions = no_names };
  found = Ok None;
  holds = no_project_in files none;
  comes = comes;
}

-- a text stands at the project's path, and is read as a project
project_in : (files : Files) (config : Config) (text : List ℕ) → looked files project_path ≡ Some (Stored text) → length text ≤ limit_number File → ReadsProject text (Ok config) → HoldsProject (tree_of files) (Ok (Some config))
project_in files config text there small read = reads text (Ok config) (ap (λ (f : Sights). f project_path) (get_map_of files) ∙ there) small read

pub inject_gives : (files : Files) (config : Config) (text : List ℕ) → looked files project_path ≡ Some (Stored text) → length text ≤ limit_number File → ReadsProject text (Ok config) → IsConfigOf injects (tree_of files) Inject config
inject_gives files config text there small read = record {
  asked = injecting;
  asks = inject;
  is = refl;
  settings = no_settings;
  sets = no_settings_set;
  found = Ok (Some config);
  holds = project_in files config text there small read;
  comes = refl;
}

pub refresh_gives : (files : Files) (config : Config) (text : List ℕ) → looked files project_path ≡ Some (Stored text) → length text ≤ limit_number File → ReadsProject text (Ok config) → IsConfigOf refreshes (tree_of files) Refresh config
refresh_gives files config text there small read = record {
  asked = refreshing;
  asks = refresh;
  is = refl;
  settings = no_settings;
  sets = no_settings_set;
  found = Ok (Some config);
  holds = project_in files config text there small read;
  comes = refl;
}

pub refresh_lacks : (files : Files) → looked files project_path ≡ None → RefusesConfig refreshes (tree_of files) (Project Absent)
refresh_lacks files none = record {
  command = Refresh;
  configures =
      record {
        asked = refreshing;
        asks = refresh;
        is = refl;
        settings = no_settings;
        sets = no_settings_set;
        found = Ok None;
        holds = no_project_in files none;
        comes = refl;
      };
}
