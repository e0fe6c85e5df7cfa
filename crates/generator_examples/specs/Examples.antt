-- Worked examples of generation.
--     IsTraced files config all       the tables of the trace of these files
--     IsMapped files config text      the files have a map with this text, which serves, knows the modules, and is the
--         smallest
--     Ends files words status line after      how a command ends: its status, its line, the files that it leaves
--     with_map files text             the files, with the map beside them
--     linked_files files text project      the same, and the project behind it
--     Trees, TraceExamples, MapExamples      that the sites are trees; their traces; their maps
--     EndExamples                     how commands end
use Rattle.std.specs.Prelude.{◌≡◌, ℕ, List, [], ◌∷◌, ◌++◌, codes, Ok}
use Prim.Native.String.{String}
use Rattle.std.specs.FinMap.{get}
use Rattle.tree_spec.specs.Trees.{Tree, IsTree}
use Rattle.trace_spec.specs.Modules.{Config}
use Rattle.trace_spec.specs.Checks.{Gathered}
use Rattle.trace_spec.specs.Traces.{traced}
use Rattle.generator_spec.specs.Generation.{Generates}
use Rattle.generator_spec.specs.Serves.{IsSmallest, KnowsModules, Serves}
use Rattle.generator_spec.specs.Outcome.{Outcome}
use Rattle.node_spec.specs.NodeExamples.{Files, file}
use Rattle.generator_examples.specs.Sites.{tree_of, based, links, injects, refreshes, levels, levels_all}
use Rattle.generator_examples.specs.Sites.{spelling, spelling_all, spelling_map, site, site_all, site_map}
use Rattle.generator_examples.specs.Sites.{app_project, kept, paged, paged_after, missing, kept_missing, clashing}
use Rattle.generator_examples.specs.Traced.{TracedExamples}
use Rattle.generator_examples.specs.Packages.{packages, packages_all, packages_map}

-- own: nothing is refused, and these are the tables of the trace
abbrev pub IsTraced : Files → Config → Gathered → Type 0
IsTraced files config all = traced (get (tree_of files)) config ≡ Ok all

-- own: a map with this text is generated, it serves, it has the digest of each module, and none that serves is smaller
pub record IsMapped (files : Files) (config : Config) (text : List ℕ) : Type 0 where
  pub generates : Generates (tree_of files) config text
  pub serves : Serves (tree_of files) config text
  pub knows : KnowsModules (tree_of files) config text
  pub smallest : IsSmallest (tree_of files) config text

-- own: the command of these words ends so, and leaves these files
abbrev pub Ends : Files → List (List ℕ) → ℕ → String → Files → Type 0
Ends files words status line after = Outcome words (tree_of files) status (codes line ∷ []) (tree_of after)

-- the files make trees: their paths are paths, and their parents are folders
pub record Trees : Type 0 where
  pub of_levels : IsTree (tree_of levels)
  pub of_spelling : IsTree (tree_of spelling)
  pub of_site : IsTree (tree_of site)
  pub of_kept : IsTree (tree_of kept)
  pub of_paged : IsTree (tree_of paged)
  pub of_packages : IsTree (tree_of packages)
  pub of_missing : IsTree (tree_of missing)
  pub of_kept_missing : IsTree (tree_of kept_missing)
  pub of_clashing : IsTree (tree_of clashing)

pub record TraceExamples : Type 0 where
  pub by_levels : IsTraced levels (based "https://app.test/" ("./app.mjs" ∷ [])) levels_all
  pub two_spellings : IsTraced spelling (based "https://app.test/" ("./app.mjs" ∷ [])) spelling_all
  pub of_site : IsTraced site (based "https://app.test/" ("./app.mjs" ∷ [])) site_all
  pub of_packages : IsTraced packages (based "https://app.test/" ("./app.js" ∷ [])) packages_all

pub record MapExamples : Type 0 where
  pub two_spellings : IsMapped spelling (based "https://app.test/" ("./app.mjs" ∷ [])) spelling_map
  pub of_site : IsMapped site (based "https://app.test/" ("./app.mjs" ∷ [])) site_map
  pub of_packages : IsMapped packages (based "https://app.test/" ("./app.js" ∷ [])) packages_map

-- the files, with the map beside them
abbrev pub with_map : Files → List ℕ → Files
with_map files text = files ++ file "/importmap.json" text ∷ []

-- the files, with the map and the project beside them
abbrev pub linked_files : Files → List ℕ → List ℕ → Files
linked_files files text project = with_map files text ++ file "/importmap.project.json" project ∷ []

pub record EndExamples : Type 0 where
  pub two_spellings :
      Ends spelling (links "https://app.test/" ("./app.mjs" ∷ [])) 0 "ok: 2 modules, 2 requests, 1 mappings\n"
      (linked_files spelling spelling_map app_project)
  pub of_site :
      Ends site (links "https://app.test/" ("./app.mjs" ∷ [])) 0 "ok: 5 modules, 8 requests, 1 mappings\n"
      (linked_files site site_map app_project)
  -- the map alone, for the project that is there
  pub refreshed : Ends kept refreshes 0 "ok: 2 modules, 2 requests, 1 mappings\n" (with_map kept spelling_map)
  pub in_page : Ends paged injects 0 "ok: 2 modules, 2 requests, 1 mappings\n" paged_after
  pub no_page : Ends kept_missing injects 7 "bad file: page absent\n" kept_missing
  pub no_project : Ends spelling refreshes 7 "bad file: project absent\n" spelling
  pub second_entry :
      Ends missing (links "https://app.test/" ("./a.mjs" ∷ "./b.mjs" ∷ [])) 1
      "refused: NotFound from \"/b.mjs\" for \"./q.mjs\"\n" missing
  pub two_targets :
      Ends clashing (links "https://app.test/app/" ("./m.mjs" ∷ [])) 1
      "refused: Clash from \"/m.mjs\" for \"../app/x.mjs\" to \"/app/x.mjs\" and \"./x.mjs\" to \"/x.mjs\"\n" clashing
  -- whatever the tree
  pub no_base :
      (tree : Tree)
      → Outcome (links "ftp://h/" ("./app.mjs" ∷ [])) tree 2 (codes "words: BadBase \"ftp://h/\"\n" ∷ []) tree

abbrev pub WorkedExamples : Type 0
WorkedExamples = Trees × TraceExamples × MapExamples × EndExamples × TracedExamples
