-- A command over a tree has an outcome.
use Rattle.std.proofs.Common.{◌≡◌, ◌⊎◌, ℕ, List, [], ◌∷◌, length, Option, Some, Result, Ok, Err, codes, refl, ap, ◌∙◌, subst, inl, inr, arith, ◌≢◌, None}
use Rattle.std.specs.Prelude.{◌++◌}
use Rattle.std.specs.FinMap.{get, insert}
use Rattle.tree_spec.specs.declared.Entry.{Entry}
use Rattle.tree_spec.specs.declared.Entry.TheVariants.{Stored, Directory}
use Rattle.tree_spec.specs.declared.LimitName.TheVariants.{Map, Choices}
use Rattle.tree_spec.specs.Paths.{IsPath, IsParent, IsAbove, parent_of, further}
use Rattle.tree_spec.specs.Trees.{Tree, IsTree}
use Rattle.tree_spec.proofs.Insertion.{get_other}
use Rattle.tree_spec.proofs.PathsAbove.{above_by_parent, nothing_above_root}
use Rattle.tree_spec.proofs.Placings.{inserted_places, folders_above}
use Rattle.import_map_spec.specs.ParsedMap.{ParsedMap}
use Rattle.trace_spec.specs.declared.TraceFault.{TraceFault}
use Rattle.trace_spec.specs.Modules.{Config}
use Rattle.trace_spec.specs.Checks.{Gathered}
use Rattle.trace_spec.specs.Traces.{traced}
use Rattle.words_spec.specs.PlainWords.{Asks}
use Rattle.vendor_spec.proofs.Made.{some_copied}
use Rattle.vendor_spec.proofs.Plans.{some_plan}
use Rattle.vendor_spec.specs.Vendored.{Pair, IsPlan}
use Rattle.config_spec.proofs.WordsJudged.{path_vendored, vendor_copies, why_explains}
use Rattle.config_spec.specs.declared.Command.{Command}
use Rattle.config_spec.specs.declared.Command.TheVariants.{Link, Unlink, Refresh, CheckStrictly, Why, Vendor}
use Rattle.config_spec.specs.declared.Command.TheVariants.{List as Lists}
use Rattle.generator_spec.specs.declared.Refusal.{Refusal}
use Rattle.generator_spec.specs.declared.Refusal.TheVariants.{Trace, Limit, Config as Configured, Occupied, PathTooLong, TooManySegments, NestedTooDeep}
use Rattle.generator_spec.specs.Checking.{difference_lines, check_status, check_lines, SaysOfModules, SaysOfModules as says}
use Rattle.generator_spec.specs.Listing.{list_lines}
use Rattle.generator_spec.specs.Commands.{IsChecking, IsChecking as checking, IsGenerating, map_path, HoldsMap, Opens, IsMapping as mapping, Opens as opens, Refuses, Refuses as refuses}
use Rattle.generator_spec.specs.Commands.{NewFile, new_file, map_and_project, Writes, Writes as writes}
use Rattle.generator_spec.specs.Generation.{Generates, IsTooWide, IsTooLarge}
use Rattle.project_spec.specs.ProjectFiles.{project_text}
use Rattle.config_spec.specs.Words.{AsksWhy, VendorsTo, command_of, IsPlain, IsSession, Measures}
use Rattle.workload_spec.specs.Packages.{tree_of}
use Rattle.config_spec.specs.Projects.{IsConfigOf, measure_config, project_path}
use Rattle.generator_spec.specs.CopiedMaps.{generation_paths}
use Rattle.generator_spec.specs.Lines.{status_of, line_of, done_line, measured_line, vendored_line}
use Rattle.generator_spec.specs.Outcome.{FilesPlaced, RefusesRun, RefusesRun as runs}
use Rattle.generator_spec.specs.Outcome.ComesTo.{not_plain, refused, written, checked, listed, explained, vendored, measured}
use Rattle.generator_spec.specs.Vendoring.{copied_files, IsBlocked, RefusesCopies, RefusesCopies as copies, Vendors}
use Rattle.generator_spec.specs.Laws.{HasOutcome, SomeOutcome}
use Rattle.generator_spec.proofs.Configs.{Judged, Judged as judgement, judged}
use Rattle.generator_spec.proofs.Explanations.{Explanation, some_explanation}
use Rattle.generator_spec.proofs.Generations.{some_generation}
use Rattle.generator_spec.proofs.MapPaths.{map_in_root, project_in_root}
use Rattle.generator_spec.proofs.Nameless.{traced_is_named}
use Rattle.generator_spec.proofs.Refusals.{Refused, opened_or_refused}
use Rattle.generator_spec.proofs.Strictnesses.{some_saying}
use Rattle.generator_spec.proofs.Vendorings.{files_placed}

record CanWrite (tree : Tree) (command : Command) (config : Config) (map : List ℕ) : Type 0 where
  files : List NewFile
  after : Tree
  writes : Writes tree config map command files
  placed : FilesPlaced tree files after

module _ (words : List (List ℕ)) (tree : Tree) (is_tree : IsTree tree) (unblocked : IsBlocked words tree → ⊥) where
  -- above a path at which something stands are folders
  above_stands : (path folder : List ℕ) (entry : Entry) → get tree path ≡ Some entry → IsAbove folder path → get tree folder ≡ Some Directory
  above_stands _ _ entry is (parent_of above path p) = is_tree.parents above path entry is p
  above_stands _ _ entry is (further above parent path a p) = folders_above tree parent above is_tree (is_tree.parents parent path entry is p) a

  in_root_above : (path folder : List ℕ) → IsParent (codes "/") path → IsAbove folder path → folder ≡ codes "/"
  in_root_above path folder parent above =
      elim (above_by_parent folder (codes "/") path parent above) [
        | inl same ↦ same
        | inr higher ↦ absurd (nothing_above_root folder (codes "/") refl higher)
      ]

  after_map : (map : List ℕ) (folder : List ℕ) → folder ≡ codes "/" → get (insert tree map_path (Stored map)) folder ≡ Some Directory
  after_map map folder same = ap (get (insert tree map_path (Stored map))) same ∙ (get_other tree map_path (Stored map) (codes "/") (λ e. let n : length (codes "/") ≡ length map_path = ap length e in absurd (omega (arith, n))) ∙ is_tree.root)

  one_file : (path bytes : List ℕ) → ((folder : List ℕ) → IsAbove folder path → get tree folder ≡ Some Directory) → FilesPlaced tree (new_file path bytes ∷ []) (insert tree path (Stored bytes))
  one_file path bytes folders = (insert tree path (Stored bytes), inserted_places tree path (Stored bytes) folders, refl)

  above_map : (folder : List ℕ) → IsAbove folder map_path → get tree folder ≡ Some Directory
  above_map folder above = ap (get tree) (in_root_above map_path folder map_in_root above) ∙ is_tree.root

  two_files : (config : Config) (map : List ℕ) → FilesPlaced tree (map_and_project config map) (insert (insert tree map_path (Stored map)) project_path (Stored (project_text config)))
  two_files config map = (
    insert tree map_path (Stored map),
    inserted_places tree map_path (Stored map) above_map,
    (
      insert (insert tree map_path (Stored map)) project_path (Stored (project_text config)),
      inserted_places (insert tree map_path (Stored map)) project_path (Stored (project_text config)) (λ folder above. after_map map folder (in_root_above project_path folder project_in_root above)),
      refl,
    ),
  )

  by_why : (why : Refusal) → RefusesRun words tree why → HasOutcome words tree
  by_why why is = record {
    status = status_of why;
    lines = line_of why ∷ [];
    after = tree;
    outcome = record { files = []; comes = refused why is refl refl refl; placed = refl };
  }

  no_meaning : (IsPlain words → ⊥) → HasOutcome words tree
  no_meaning none = record {
    status = 2;
    lines = [] ∷ [];
    after = tree;
    outcome = record { files = []; comes = not_plain [] none refl refl refl; placed = refl };
  }

  module _ (command : Command) (config : Config) (is : IsConfigOf words tree command config) where
    by_refusal : (why : Refusal) → Refuses tree config command why → HasOutcome words tree
    by_refusal why refused_so = by_why why (runs.by_tree command config why is refused_so)

    by_files : (map : List ℕ) → Generates tree config map → CanWrite tree command config map → HasOutcome words tree
    by_files map generates can = record {
      status = 0;
      lines = done_line generates.all generates.layout ∷ [];
      after = can.after;
      outcome = record { files = can.files; comes = written command config map is generates can.writes refl refl; placed = can.placed };
    }

    by_map : IsGenerating command → Opens tree config command → ((map : List ℕ) → CanWrite tree command config map) → (map : List ℕ) → Generates tree config map ⊎ IsTooWide tree config ⊎ IsTooLarge tree config → HasOutcome words tree
    by_map generating opened can map (inr (inl wide)) = by_refusal (Limit Choices) (refuses.many_choices command generating opened wide)
    by_map generating opened can map (inr (inr large)) = by_refusal (Limit Map) (refuses.large_map command generating opened large)
    by_map generating opened can map (inl generates) = by_files map generates (can map)

    by_generation : IsGenerating command → Opens tree config command → ((map : List ℕ) → CanWrite tree command config map) → (all : Gathered) → traced (get tree) config ≡ Ok all → HasOutcome words tree
    by_generation generating opened can all e =
        let found = some_generation tree config all e in
        by_map generating opened can found.0 found.2

  module _ (command : Command) (config : Config) (is : IsConfigOf words tree command config) (map : ParsedMap)
      (holds : HoldsMap tree config map) (all : Gathered) (e : traced (get tree) config ≡ Ok all) where
    by_saying : (strict : List (List ℕ)) → SaysOfModules all command strict → HasOutcome words tree
    by_saying strict says_so = record {
      status = check_status (difference_lines map all ++ strict);
      lines = check_lines (length all.needs) (difference_lines map all ++ strict);
      after = tree;
      outcome = record { files = []; comes = checked command config map all strict is holds e says_so refl refl refl; placed = refl };
    }

  by_check : (command : Command) → IsChecking command → (config : Config) → IsConfigOf words tree command config → (map : ParsedMap) → HoldsMap tree config map → (all : Gathered) → traced (get tree) config ≡ Ok all → HasOutcome words tree
  by_check command checking.plainly config is map holds all e = by_saying command config is map holds all e [] says.unasked
  by_check command checking.strictly config is map holds all e =
      elim (some_saying (get tree) config all e) [
        | inl said ↦ by_saying CheckStrictly config is map holds all e said.0 said.1
        | inr deep ↦ by_refusal CheckStrictly config is NestedTooDeep (refuses.nested map all deep.0 holds e deep.1 deep.2)
      ]

  by_list : (config : Config) → IsConfigOf words tree Lists config → (all : Gathered) → traced (get tree) config ≡ Ok all → HasOutcome words tree
  by_list config is all e = record {
    status = 0;
    lines = list_lines all;
    after = tree;
    outcome = record { files = []; comes = listed config all is e refl refl refl; placed = refl };
  }

  by_chain :
      (config : Config) → IsConfigOf words tree Why config → (all : Gathered) → traced (get tree) config ≡ Ok all
      → (path : List ℕ) → AsksWhy words path → Explanation (get tree) config path → HasOutcome words tree
  by_chain config is all e path asks found = record {
    status = found.status;
    lines = found.lines;
    after = tree;
    outcome = record { files = []; comes = explained path config all asks is e found.tells refl; placed = refl };
  }

  by_explanation : (config : Config) → IsConfigOf words tree Why config → (all : Gathered) → traced (get tree) config ≡ Ok all → HasOutcome words tree
  by_explanation config is all e =
      let file = why_explains is.asked is.is in
      by_chain config is all e file.path (subst (Asks words) file.is is.asks)
      (some_explanation (get tree) config file.path all e)

  module _ (to : List ℕ) (asks : VendorsTo words to) (config : Config) (is : IsConfigOf words tree Vendor config)
      (map : List ℕ) (generates : Generates tree config map) where
    abbrev paths : List (List ℕ)
    paths = generation_paths tree config

    not_copied : (why : Refusal) → RefusesCopies tree to paths why → HasOutcome words tree
    not_copied why refused_so = by_why why (runs.by_copies to config map why asks is generates refused_so)

    copied : get tree to ≡ None → (pairs : List Pair) → IsPlan tree to paths pairs → Vendors words tree to pairs
    copied free pairs plan = record {
      asks = asks;
      config = config;
      is_config = is;
      map = map;
      generates = generates;
      free = free;
      is_plan = plan;
    }

    by_copies : (to_is : IsPath to) (to_deep : to ≢ codes "/") (free : get tree to ≡ None) (pairs : List Pair)
        → IsPlan tree to paths pairs → HasOutcome words tree
    by_copies to_is to_deep free [] plan = record {
      status = 0;
      lines = vendored_line 0 ∷ [];
      after = tree;
      outcome = record { files = []; comes = vendored to [] (copied free [] plan) refl refl refl; placed = refl };
    }
    by_copies to_is to_deep free (pair ∷ more) plan =
        let blocked = λ (file bytes : List ℕ) (stands : get tree file ≡ Some (Stored bytes)) (above : IsAbove file to).
        unblocked (record {
          to = to;
          pair = pair;
          more = more;
          vendors = copied free (pair ∷ more) plan;
          file = file;
          bytes = bytes;
          stands = stands;
          above = above;
        }) in
        let made = some_copied tree to paths (pair ∷ more) is_tree to_is to_deep free blocked plan in
        record {
          status = 0;
          lines = vendored_line (length (pair ∷ more)) ∷ [];
          after = made.0;
          outcome =
              record {
                files = copied_files to (pair ∷ more);
                comes = vendored to (pair ∷ more) (copied free (pair ∷ more) plan) refl refl refl;
                placed = files_placed to (pair ∷ more) tree made.0 made.1;
              };
        }

    by_folder : (to_is : IsPath to) (to_deep : to ≢ codes "/") (found : Option Entry) → get tree to ≡ found → HasOutcome words tree
    by_folder to_is to_deep (Some entry) e = not_copied (Occupied to) (copies.occupied entry e)
    by_folder to_is to_deep None e =
        elim (some_plan tree to paths is_tree to_is to_deep) [
          | inl has ↦ not_copied PathTooLong (copies.long e has)
          | inr more ↦ elim more [
            | inl has ↦ not_copied TooManySegments (copies.deep e has.0 has.1)
            | inr plan ↦ by_copies to_is to_deep e plan.0 plan.1
          ]
        ]

  by_vendor : (config : Config) → IsConfigOf words tree Vendor config → (all : Gathered) → traced (get tree) config ≡ Ok all → HasOutcome words tree
  by_vendor config is all e =
      let found = some_generation tree config all e in by_generated found.0 found.2
    where
      by_generated : (map : List ℕ) → Generates tree config map ⊎ IsTooWide tree config ⊎ IsTooLarge tree config → HasOutcome words tree
      by_generated map (inr (inl wide)) = by_refusal Vendor config is (Limit Choices) (refuses.many_choices Vendor tt opens.nothing_first wide)
      by_generated map (inr (inr large)) = by_refusal Vendor config is (Limit Map) (refuses.large_map Vendor tt opens.nothing_first large)
      by_generated map (inl generates) =
          let folder = vendor_copies is.asked is.is in
          let own = path_vendored folder.path Vendor (subst (λ a. command_of a ≡ Some Vendor) folder.is is.is) in
          by_folder folder.path (subst (Asks words) folder.is is.asks) config is map generates own.is_path own.no_root (get tree folder.path) refl

  by_trace : (command : Command) (config : Config) → IsConfigOf words tree command config → (opened : Opens tree config command) → (all : Gathered) → traced (get tree) config ≡ Ok all → HasOutcome words tree
  by_trace command config is (opens.nothing _ mapping.link) all e =
      by_generation command config is tt (opens.nothing Link mapping.link)
      (λ map. record { files = _; after = _; writes = writes.linked; placed = two_files config map }) all e
  by_trace command config is (opens.nothing _ mapping.unlink) all e =
      by_generation command config is tt (opens.nothing Unlink mapping.unlink)
      (λ map. record { files = _; after = _; writes = writes.unlinked; placed = two_files config map }) all e
  by_trace command config is (opens.nothing _ mapping.refresh) all e =
      by_generation command config is tt (opens.nothing Refresh mapping.refresh)
      (λ map. record { files = _; after = _; writes = writes.refreshed; placed = one_file map_path map above_map }) all e
  by_trace command config is (opens.page page stands takes) all e =
      by_generation command config is tt (opens.page page stands takes)
      (λ map. record {
        files = _;
        after = _;
        writes = writes.in_page page (takes map).new stands (takes map).injection;
        placed = one_file config.page (takes map).new (λ folder above. above_stands config.page folder (Stored page) stands.stands above);
      }) all e
  by_trace command config is (opens.has_map _ checks map holds) all e = by_check command checks config is map holds all e
  by_trace command config is opens.no_file all e = by_list config is all e
  by_trace command config is opens.no_other_file all e = by_explanation config is all e
  by_trace command config is opens.nothing_first all e = by_vendor config is all e
  by_trace command config is (opens.no_base _ checks text stands nameless) all e = absurd (traced_is_named (get tree) config all nameless e)

  by_result : (command : Command) (config : Config) → IsConfigOf words tree command config → Opens tree config command → (found : Result Gathered TraceFault) → traced (get tree) config ≡ found → HasOutcome words tree
  by_result command config is opened (Err fault) e = by_refusal command config is (Trace fault) (refuses.trace command fault opened e)
  by_result command config is opened (Ok all) e = by_trace command config is opened all e

  by_opening : (command : Command) (config : Config) → IsConfigOf words tree command config → Opens tree config command ⊎ Refused tree config command → HasOutcome words tree
  by_opening command config is (inl opened) = by_result command config is opened (traced (get tree) config) refl
  by_opening command config is (inr none) = by_refusal command config is none.why none.refuses

  module _ (number : ℕ) (asks : Measures words number) where
    by_measured : (map : List ℕ)
        → Generates (tree_of number) measure_config map ⊎ IsTooWide (tree_of number) measure_config ⊎ IsTooLarge (tree_of number) measure_config → HasOutcome words tree
    by_measured map (inr (inl wide)) = by_why (Limit Choices) (runs.by_measure number (Limit Choices) asks (refuses.many_choices Refresh tt (opens.nothing Refresh mapping.refresh) wide))
    by_measured map (inr (inr large)) = by_why (Limit Map) (runs.by_measure number (Limit Map) asks (refuses.large_map Refresh tt (opens.nothing Refresh mapping.refresh) large))
    by_measured map (inl generates) = record {
      status = 0;
      lines = measured_line number generates.all generates.layout ∷ [];
      after = tree;
      outcome = record { files = []; comes = measured number map asks generates refl refl refl; placed = refl };
    }

    by_measure : (found : Result Gathered TraceFault) → traced (get (tree_of number)) measure_config ≡ found → HasOutcome words tree
    by_measure (Err fault) e = by_why (Trace fault) (runs.by_measure number (Trace fault) asks (refuses.trace Refresh fault (opens.nothing Refresh mapping.refresh) e))
    by_measure (Ok all) e =
        let found = some_generation (tree_of number) measure_config all e in
        by_measured found.0 found.2

  by_judgement : (IsSession words → ⊥) → Judged words tree → HasOutcome words tree
  by_judgement other (judgement.session asks) = absurd (other asks)
  by_judgement other (judgement.measured number asks) = by_measure number asks (traced (get (tree_of number)) measure_config) refl
  by_judgement other (judgement.not_plain none) = no_meaning none
  by_judgement other (judgement.words_refused fault is) = by_why (Configured fault) (runs.by_words fault is)
  by_judgement other (judgement.config_refused fault is) = by_why (Configured fault) (runs.by_project fault is)
  by_judgement other (judgement.configured command config is) = by_opening command config is (opened_or_refused tree config command)

pub some_outcome : SomeOutcome
some_outcome words tree other unblocked is_tree = by_judgement words tree is_tree unblocked other (judged words tree)
