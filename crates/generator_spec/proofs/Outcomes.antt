-- A command over a tree has one outcome.
use Rattle.std.proofs.Common.{◌≡◌, ℕ, List, [], ◌∷◌, length, Result, Ok, Err, refl, sym, ap, ◌∙◌, subst, inl, inr, ◌≢◌}
use Rattle.std.specs.Prelude.{All, ◌++◌}
use Rattle.std.proofs.lemmas.List.Elements.{All-nil, All-cons, All-head, All-tail}
use Rattle.std.specs.FinMap.{get}
use Rattle.tree_spec.specs.declared.Entry.TheVariants.{Stored}
use Rattle.tree_spec.specs.Paths.{IsPath}
use Rattle.tree_spec.specs.Trees.{Tree}
use Rattle.tree_spec.proofs.Placings.{one_placing}
use Rattle.import_map_spec.specs.ParsedMap.{ParsedMap}
use Rattle.trace_spec.specs.declared.TraceFault.{TraceFault}
use Rattle.trace_spec.specs.Modules.{Config}
use Rattle.trace_spec.specs.Checks.{Gathered}
use Rattle.trace_spec.specs.Traces.{traced}
use Rattle.vendor_spec.proofs.Plans.{one_plan}
use Rattle.vendor_spec.specs.Vendored.{Pair, IsPlan}
use Rattle.config_spec.proofs.WordsJudged.{words_are_judged}
use Rattle.config_spec.specs.declared.Command.{Command}
use Rattle.config_spec.specs.declared.Command.TheVariants.{Link, Unlink, Refresh, Inject, Check, CheckStrictly, Why, Vendor}
use Rattle.config_spec.specs.declared.Command.TheVariants.{List as Lists}
use Rattle.generator_spec.specs.declared.Refusal.{Refusal}
use Rattle.generator_spec.specs.declared.Refusal.TheVariants.{Config as Configured}
use Rattle.generator_spec.specs.Checking.{difference_lines, check_status, check_lines, SaysOfModules, SaysOfModules as says}
use Rattle.generator_spec.specs.Listing.{list_lines}
use Rattle.generator_spec.specs.Explaining.{SaysWhy}
use Rattle.generator_spec.specs.Commands.{IsChecking, IsChecking as checking, IsGenerating, SaysCounts, map_path, HoldsMap, Opens, IsMapping as mapping, Opens as opens, Refuses, Refuses as refuses}
use Rattle.generator_spec.specs.Commands.{NewFile, new_file, map_and_project, Writes, Writes as writes}
use Rattle.generator_spec.specs.Generation.{Generates}
use Rattle.project_spec.specs.ProjectFiles.{project_text}
use Rattle.config_spec.specs.Words.{AsksWhy, IsPlain, Measures, RefusesWords}
use Rattle.config_spec.specs.declared.ConfigFault.{ConfigFault}
use Rattle.workload_spec.specs.Packages.{tree_of}
use Rattle.config_spec.specs.Projects.{IsConfigOf, RefusesConfig, measure_config, project_path}
use Rattle.generator_spec.specs.CopiedMaps.{generation_paths}
use Rattle.generator_spec.specs.Lines.{status_of, line_of, done_line, measured_line, vendored_line}
use Rattle.generator_spec.specs.Measuring.{RefusesMeasure}
use Rattle.generator_spec.specs.Outcome.{ComesTo, FilesPlaced, Outcome, RefusesRun, RefusesRun as runs}
use Rattle.generator_spec.specs.Outcome.ComesTo.{not_plain, refused, written, checked, listed, explained, vendored, measured}
use Rattle.generator_spec.specs.Vendoring.{copied_files, RefusesCopies, Vendors}
use Rattle.generator_spec.specs.Laws.{OneOutcome}
use Rattle.generator_spec.proofs.Configs.{SameConfig, one_config, one_config_fault, refused_or_config}
use Rattle.generator_spec.proofs.Configs.{words_refused_or_config, words_refused_or_refused, page_is_path, plain_or_not}
use Rattle.generator_spec.proofs.Configs.{command_is, command_is_plain, refused_is_plain, measured_is_plain}
use Rattle.generator_spec.proofs.Explanations.{one_path_asked, one_explanation}
use Rattle.generator_spec.proofs.Generations.{one_trace, one_layout, one_text}
use Rattle.generator_spec.proofs.MapPaths.{map_is_path, project_is_path}
use Rattle.generator_spec.proofs.Refusals.{one_refusal, refused_or_opened_and_generated, refused_or_checked, refused_or_listed, refused_or_explained, written_is_opened}
use Rattle.generator_spec.proofs.Refusals.{one_held, one_write}
use Rattle.generator_spec.proofs.Strictnesses.{checking_or_generating, one_saying, says_checking}
use Rattle.generator_spec.proofs.Vendorings.{copied_paths, one_copy_refusal, one_folder, refused_or_copied}

-- ---- one at most

same_refusals : {some other : Command} {config second : Config} (tree : Tree) (why : Refusal) → SameConfig some other config second → Refuses tree second other why → Refuses tree config some why
same_refusals {some} {other} {config} {second} tree why same is =
    subst (λ c. Refuses tree c some why) (sym same.one_config) (subst (λ c. Refuses tree second c why) (sym same.one_command) is)

same_generations : {some other : Command} {config second : Config} (tree : Tree) (map : List ℕ) → SameConfig some other config second → Generates tree second map → Generates tree config map
same_generations tree map same is = subst (λ c. Generates tree c map) (sym same.one_config) is

same_openings : {some other : Command} {config second : Config} (tree : Tree) → SameConfig some other config second → Opens tree second other → Opens tree config some
same_openings {some} {other} {config} {second} tree same is =
    subst (λ c. Opens tree c some) (sym same.one_config) (subst (λ c. Opens tree second c) (sym same.one_command) is)

same_writes : {some other : Command} {config second : Config} (tree : Tree) (map : List ℕ) (files : List NewFile) → SameConfig some other config second → Writes tree second map other files → Writes tree config map some files
same_writes {some} {other} {config} {second} tree map files same is =
    subst (λ c. Writes tree c map some files) (sym same.one_config) (subst (λ c. Writes tree second map c files) (sym same.one_command) is)

pub writes_generate : (tree : Tree) (config : Config) (map : List ℕ) (command : Command) (files : List NewFile) → Writes tree config map command files → IsGenerating command
writes_generate tree config map command files writes.linked = tt
writes_generate tree config map command files writes.unlinked = tt
writes_generate tree config map command files writes.refreshed = tt
writes_generate tree config map command files (writes.in_page page new is i) = tt

pub writes_count : (tree : Tree) (config : Config) (map : List ℕ) (command : Command) (files : List NewFile) → Writes tree config map command files → SaysCounts command
writes_count tree config map command files writes.linked = tt
writes_count tree config map command files writes.unlinked = tt
writes_count tree config map command files writes.refreshed = tt
writes_count tree config map command files (writes.in_page page new is i) = tt

-- a command that says counts generates
pub counts_generate : (command : Command) → SaysCounts command → IsGenerating command
counts_generate Link counts = tt
counts_generate Unlink counts = tt
counts_generate Refresh counts = tt
counts_generate Inject counts = tt
counts_generate Check counts = counts
counts_generate CheckStrictly counts = counts
counts_generate Lists counts = counts
counts_generate Why counts = counts
counts_generate Vendor counts = tt

-- the words ask for one command
pub two_commands : (words : List (List ℕ)) (tree : Tree) (some other : Command) (config second : Config) → IsConfigOf words tree some config → IsConfigOf words tree other second → some ≢ other → ⊥
two_commands words tree some other config second is is_too different = different (one_config words tree some other config second is is_too).one_command

-- what is checked is neither listed, nor explained, nor copied
pub checked_or_other :
    (words : List (List ℕ)) (tree : Tree) (command other : Command) (config second : Config) → IsChecking command
    → IsConfigOf words tree command config → IsConfigOf words tree other second → Check ≢ other
    → CheckStrictly ≢ other → ⊥
checked_or_other words tree command other config second checking.plainly is is_too plainly strictly =
    plainly (one_config words tree command other config second is is_too).one_command
checked_or_other words tree command other config second checking.strictly is is_too plainly strictly =
    strictly (one_config words tree command other config second is is_too).one_command

-- what is refused isn't generated
pub refused_or_generated :
    {some other : Command} {config second : Config} (tree : Tree) (map : List ℕ) (why : Refusal)
    → SameConfig some other config second → IsGenerating other → Refuses tree config some why
    → Opens tree second other → Generates tree second map → ⊥
refused_or_generated {some} {other} {config} {second} tree map why same generating is opened generates =
    refused_or_opened_and_generated tree config some why map (subst IsGenerating (sym same.one_command) generating) is
    (same_openings tree same opened) (same_generations tree map same generates)

-- ---- the tree that is left

abbrev ArePaths : List NewFile → Type 0
ArePaths files = All (λ (file : NewFile). IsPath file.path) files

one_placed : (files : List NewFile) (tree after last : Tree) → ArePaths files → FilesPlaced tree files after → FilesPlaced tree files last → after ≡ last
one_placed [] tree after last paths placed too = placed ∙ sym too
one_placed (file ∷ files) tree after last paths placed too =
    let same = one_placing tree file.path (Stored file.bytes) placed.0 too.0 (All-head (λ (f : NewFile). IsPath f.path) file files paths) placed.1 too.1 in
    one_placed files placed.0 after last (All-tail (λ (f : NewFile). IsPath f.path) file files paths) placed.2
    (subst (λ t. FilesPlaced t files last) (sym same) too.2)

abbrev is_at : NewFile → Type 0
is_at file = IsPath file.path

one_path : (path bytes : List ℕ) → IsPath path → ArePaths (new_file path bytes ∷ [])
one_path path bytes is = All-cons is_at (new_file path bytes) [] is (All-nil is_at)

two_paths : (config : Config) (map : List ℕ) → ArePaths (map_and_project config map)
two_paths config map = All-cons is_at (new_file map_path map) (new_file project_path (project_text config) ∷ []) map_is_path (one_path project_path (project_text config) project_is_path)

-- a command writes files at paths
paths_written : (words : List (List ℕ)) (tree : Tree) (command : Command) (config : Config) (map : List ℕ) (files : List NewFile) → IsConfigOf words tree command config → Writes tree config map command files → ArePaths files
paths_written words tree command config map files is writes.linked = two_paths config map
paths_written words tree command config map files is writes.unlinked = two_paths config map
paths_written words tree command config map files is writes.refreshed = one_path map_path map map_is_path
paths_written words tree command config map files is (writes.in_page page new stands i) = one_path config.page new (page_is_path words tree command config is)

no_paths : (files : List NewFile) → files ≡ [] → ArePaths files
no_paths files none = subst ArePaths (sym none) (All-nil is_at)

paths_of : (words : List (List ℕ)) (tree : Tree) (status : ℕ) (lines : List (List ℕ)) (files : List NewFile) → ComesTo words tree status lines files → ArePaths files
paths_of words tree status lines files (not_plain text other s l f) = no_paths files f
paths_of words tree status lines files (refused why is s l f) = no_paths files f
paths_of words tree status lines files (written command config map is generates wrote s l) = paths_written words tree command config map files is wrote
paths_of words tree status lines files (checked command config map all strict is holds traces says s l f) = no_paths files f
paths_of words tree status lines files (listed config all is traces s l f) = no_paths files f
paths_of words tree status lines files (explained path config all asks is traces tells f) = no_paths files f
paths_of words tree status lines files (vendored to pairs v s l f) = subst ArePaths (sym f) (copied_paths to pairs v.is_plan.goals)
paths_of words tree status lines files (measured number map is generates s l f) = no_paths files f

-- ---- what it comes to

record SameEnd (status other : ℕ) (lines others : List (List ℕ)) (files more : List NewFile) : Type 0 where
  one_status : status ≡ other
  same_lines : lines ≡ others
  same_files : files ≡ more

module _ (words : List (List ℕ)) (tree : Tree) (status other : ℕ) (lines others : List (List ℕ)) (files more : List NewFile) where
  same_refusal :
      (why because : Refusal) → why ≡ because → status ≡ status_of why → lines ≡ line_of why ∷ [] → files ≡ []
      → other ≡ status_of because → others ≡ line_of because ∷ [] → more ≡ []
      → SameEnd status other lines others files more
  same_refusal why because reasons s l f t m g = record {
    one_status = s ∙ (ap status_of reasons ∙ sym t);
    same_lines = l ∙ (ap (λ r. line_of r ∷ []) reasons ∙ sym m);
    same_files = f ∙ sym g;
  }

  both_written :
      (command command_too : Command) (config second : Config) (map map_too : List ℕ)
      → IsConfigOf words tree command config → (generates : Generates tree config map)
      → Writes tree config map command files → status ≡ 0 → lines ≡ done_line generates.all generates.layout ∷ []
      → IsConfigOf words tree command_too second → (too : Generates tree second map_too)
      → Writes tree second map_too command_too more → other ≡ 0 → others ≡ done_line too.all too.layout ∷ []
      → SameEnd status other lines others files more
  both_written command command_too config second map map_too is generates wrote s l is_too too wrote_too t m =
      let same = one_config words tree command command_too config second is is_too in
      let traces = one_trace tree config second map map_too same.one_config generates too in
      let layouts = one_layout tree config second map map_too same.one_config generates too in
      let texts = one_text tree config second map map_too same.one_config generates too in
      let wrote_same : Writes tree config map command more =
      subst (λ m. Writes tree config m command more) (sym texts) (same_writes tree map_too more same wrote_too) in
      record {
        one_status = s ∙ sym t;
        same_lines = l ∙ ((λ i. done_line (traces i) (layouts i) ∷ []) ∙ sym m);
        same_files = one_write tree config map command files more wrote wrote_same;
      }

  abbrev as_trace : Gathered → Result Gathered TraceFault
  as_trace all = Ok all

  both_checked :
      (command command_too : Command) (config second : Config) (map map_too : ParsedMap) (all all_too : Gathered)
      (strict strict_too : List (List ℕ)) → IsConfigOf words tree command config
      → HoldsMap tree config map → traced (get tree) config ≡ Ok all → SaysOfModules all command strict
      → status ≡ check_status (difference_lines map all ++ strict)
      → lines ≡ check_lines (length all.needs) (difference_lines map all ++ strict) → files ≡ []
      → IsConfigOf words tree command_too second → HoldsMap tree second map_too
      → traced (get tree) second ≡ Ok all_too → SaysOfModules all_too command_too strict_too
      → other ≡ check_status (difference_lines map_too all_too ++ strict_too)
      → others ≡ check_lines (length all_too.needs) (difference_lines map_too all_too ++ strict_too) → more ≡ []
      → SameEnd status other lines others files more
  both_checked command command_too config second map map_too all all_too strict strict_too is holds traces says_so s l f is_too holds_too traces_too says_too t m g =
      let same = one_config words tree command command_too config second is is_too in
      let configs = same.one_config in
      let maps = one_held tree config map map_too holds (subst (λ c. HoldsMap tree c map_too) (sym configs) holds_too) in
      let both : as_trace all ≡ as_trace all_too = sym traces ∙ (ap (traced (get tree)) configs ∙ traces_too) in
      let alls : all ≡ all_too = cc in
      let stricts = one_saying all command strict strict_too says_so
      (subst (λ a. SaysOfModules a command strict_too) (sym alls) (subst (λ c. SaysOfModules all_too c strict_too) (sym same.one_command) says_too)) in
      record {
        one_status = s ∙ ((λ i. check_status (difference_lines (maps i) (alls i) ++ stricts i)) ∙ sym t);
        same_lines = l ∙ ((λ i. check_lines (length (alls i).needs) (difference_lines (maps i) (alls i) ++ stricts i)) ∙ sym m);
        same_files = f ∙ sym g;
      }

  both_listed :
      (config second : Config) (all all_too : Gathered) → IsConfigOf words tree Lists config
      → traced (get tree) config ≡ Ok all → status ≡ 0 → lines ≡ list_lines all → files ≡ []
      → IsConfigOf words tree Lists second → traced (get tree) second ≡ Ok all_too → other ≡ 0
      → others ≡ list_lines all_too → more ≡ [] → SameEnd status other lines others files more
  both_listed config second all all_too is traces s l f is_too traces_too t m g =
      let configs = (one_config words tree Lists Lists config second is is_too).one_config in
      let both : as_trace all ≡ as_trace all_too = sym traces ∙ (ap (traced (get tree)) configs ∙ traces_too) in
      let alls : all ≡ all_too = cc in
      record {
        one_status = s ∙ sym t;
        same_lines = l ∙ ((λ i. list_lines (alls i)) ∙ sym m);
        same_files = f ∙ sym g;
      }

  both_explained :
      (path path_too : List ℕ) (config second : Config) → AsksWhy words path → IsConfigOf words tree Why config
      → SaysWhy (get tree) config path status lines → files ≡ [] → AsksWhy words path_too
      → IsConfigOf words tree Why second → SaysWhy (get tree) second path_too other others → more ≡ []
      → SameEnd status other lines others files more
  both_explained path path_too config second asks is tells f asks_too is_too tells_too g =
      let configs = (one_config words tree Why Why config second is is_too).one_config in
      let paths = one_path_asked words path path_too asks asks_too in
      let same =
      one_explanation (get tree) config path status other lines others tells
      (subst (λ c. SaysWhy (get tree) c path other others) (sym configs)
      (subst (λ p. SaysWhy (get tree) second p other others) (sym paths) tells_too)) in
      record { one_status = same.0; same_lines = same.1; same_files = f ∙ sym g }

  both_measured :
      (number second : ℕ) (map map_too : List ℕ) → number ≡ second → (generates : Generates (tree_of number) measure_config map)
      → status ≡ 0 → lines ≡ measured_line number generates.all generates.layout ∷ [] → files ≡ []
      → (too : Generates (tree_of second) measure_config map_too) → other ≡ 0
      → others ≡ measured_line second too.all too.layout ∷ [] → more ≡ [] → SameEnd status other lines others files more
  both_measured number second map map_too same generates s l f =
      subst (λ n. (too : Generates (tree_of n) measure_config map_too) → other ≡ 0 → others ≡ measured_line n too.all too.layout ∷ [] → more ≡ [] → SameEnd status other lines others files more) same
      (λ too t m g.
      let traces = one_trace (tree_of number) measure_config measure_config map map_too refl generates too in
      let layouts = one_layout (tree_of number) measure_config measure_config map map_too refl generates too in
      record {
        one_status = s ∙ sym t;
        same_lines = l ∙ ((λ i. measured_line number (traces i) (layouts i) ∷ []) ∙ sym m);
        same_files = f ∙ sym g;
      })

  both_vendored :
      (to to_too : List ℕ) (pairs pairs_too : List Pair) (v : Vendors words tree to pairs) → status ≡ 0
      → lines ≡ vendored_line (length pairs) ∷ [] → files ≡ copied_files to pairs
      → (w : Vendors words tree to_too pairs_too) → other ≡ 0 → others ≡ vendored_line (length pairs_too) ∷ []
      → more ≡ copied_files to_too pairs_too → SameEnd status other lines others files more
  both_vendored to to_too pairs pairs_too v s l f w t m g =
      let configs = (one_config words tree Vendor Vendor v.config w.config v.is_config w.is_config).one_config in
      let folders = one_folder words to to_too v.asks w.asks in
      let plan : IsPlan tree to (generation_paths tree v.config) pairs_too =
      subst (λ c. IsPlan tree to (generation_paths tree c) pairs_too) (sym configs)
      (subst (λ path. IsPlan tree path (generation_paths tree w.config) pairs_too) (sym folders) w.is_plan) in
      let same = one_plan tree to (generation_paths tree v.config) pairs pairs_too v.is_plan plan in
      record {
        one_status = s ∙ sym t;
        same_lines = l ∙ (ap (λ ps. vendored_line (length ps) ∷ []) same ∙ sym m);
        same_files = f ∙ ((λ i. copied_files (folders i) (same i)) ∙ sym g);
      }

  -- what is written is no copy
  written_and_vendored :
      (command : Command) (config : Config) (map : List ℕ) (new : List NewFile) (to : List ℕ) (pairs : List Pair)
      → IsConfigOf words tree command config → Writes tree config map command new → Vendors words tree to pairs → ⊥
  written_and_vendored command config map new to pairs is wrote v =
      subst SaysCounts (one_config words tree command Vendor config v.config is v.is_config).one_command
      (writes_count tree config map command new wrote)

  -- what is listed isn't written
  written_and_listed :
      (command : Command) (config second : Config) (map : List ℕ) (new : List NewFile) → IsConfigOf words tree command config
      → Writes tree config map command new → IsConfigOf words tree Lists second → ⊥
  written_and_listed command config second map new is wrote is_too =
      subst IsGenerating (one_config words tree command Lists config second is is_too).one_command
      (writes_generate tree config map command new wrote)

  -- what is explained is neither written nor checked nor listed
  written_and_explained :
      (command : Command) (config second : Config) (map : List ℕ) (new : List NewFile) → IsConfigOf words tree command config
      → Writes tree config map command new → IsConfigOf words tree Why second → ⊥
  written_and_explained command config second map new is wrote is_too =
      subst IsGenerating (one_config words tree command Why config second is is_too).one_command
      (writes_generate tree config map command new wrote)

  listed_and_explained :
      (config second : Config) → IsConfigOf words tree Lists config → IsConfigOf words tree Why second → ⊥
  listed_and_explained config second is is_too =
      let same : Lists ≡ Why = (one_config words tree Lists Why config second is is_too).one_command in
      absurd (cc)

  -- what is checked isn't written
  written_and_checked :
      (command other : Command) (config second : Config) (map : List ℕ) (new : List NewFile)
      → IsConfigOf words tree command config → Writes tree config map command new → IsChecking other
      → IsConfigOf words tree other second → ⊥
  written_and_checked command other config second map new is wrote checks is_too =
      checking_or_generating other checks
      (subst IsGenerating (one_config words tree command other config second is is_too).one_command
      (writes_generate tree config map command new wrote))

-- a measure is no command on a project, and isn't refused for its words
module _ (words : List (List ℕ)) (tree : Tree) where
  measured_or_config : (number : ℕ) (command : Command) (config : Config) → Measures words number → IsConfigOf words tree command config → ⊥
  measured_or_config number command config asks is = (words_are_judged words).no_command number command asks (command_is words tree command (Ok config) is)

  pub measured_or_no_config : (number : ℕ) (fault : ConfigFault) → Measures words number → RefusesConfig words tree fault → ⊥
  measured_or_no_config number fault asks is = (words_are_judged words).no_command number is.command asks (command_is words tree is.command (Err fault) is.configures)

  pub measured_or_refused : (number : ℕ) (fault : ConfigFault) → Measures words number → RefusesWords words fault → ⊥
  measured_or_refused number fault asks is = (words_are_judged words).no_fault number fault asks is

  same_measure : (number other : ℕ) (why : Refusal) → Measures words number → Measures words other → RefusesMeasure other why → RefusesMeasure number why
  same_measure number other why asks too refuses = subst (λ n. RefusesMeasure n why) (sym ((words_are_judged words).one_measure number other asks too)) refuses

-- a run is refused for one reason
pub one_run_refusal : (words : List (List ℕ)) (tree : Tree) (why because : Refusal) → RefusesRun words tree why → RefusesRun words tree because → why ≡ because
one_run_refusal words tree why because (runs.by_measure number reason asks is) (runs.by_words other too) = absurd (measured_or_refused words tree number other asks too)
one_run_refusal words tree why because (runs.by_measure number reason asks is) (runs.by_project other too) = absurd (measured_or_no_config words tree number other asks too)
one_run_refusal words tree why because (runs.by_measure number reason asks is) (runs.by_tree command config other is_config too) = absurd (measured_or_config words tree number command config asks is_config)
one_run_refusal words tree why because (runs.by_measure number reason asks is) (runs.by_measure second other asks_too too) =
    one_refusal (tree_of number) measure_config Refresh why because is (same_measure words tree number second because asks asks_too too)
one_run_refusal words tree why because (runs.by_words fault is) (runs.by_measure number other asks too) = absurd (measured_or_refused words tree number fault asks is)
one_run_refusal words tree why because (runs.by_project fault is) (runs.by_measure number other asks too) = absurd (measured_or_no_config words tree number fault asks is)
one_run_refusal words tree why because (runs.by_tree command config reason is_config is) (runs.by_measure number other asks too) = absurd (measured_or_config words tree number command config asks is_config)
one_run_refusal words tree why because (runs.by_words fault is) (runs.by_words other too) = ap Configured ((words_are_judged words).one_fault fault other is too)
one_run_refusal words tree why because (runs.by_words fault is) (runs.by_project other too) = absurd (words_refused_or_refused words tree fault other is too)
one_run_refusal words tree why because (runs.by_words fault is) (runs.by_tree command config reason is_config too) = absurd (words_refused_or_config words tree fault command config is is_config)
one_run_refusal words tree why because (runs.by_project fault is) (runs.by_words other too) = absurd (words_refused_or_refused words tree other fault too is)
one_run_refusal words tree why because (runs.by_project fault is) (runs.by_project other too) = ap Configured (one_config_fault words tree fault other is too)
one_run_refusal words tree why because (runs.by_project fault is) (runs.by_tree command config reason is_config too) = absurd (refused_or_config words tree fault command config is is_config)
one_run_refusal words tree why because (runs.by_tree command config reason is_config is) (runs.by_words other too) = absurd (words_refused_or_config words tree other command config too is_config)
one_run_refusal words tree why because (runs.by_tree command config reason is_config is) (runs.by_project other too) = absurd (refused_or_config words tree other command config too is_config)
one_run_refusal words tree why because (runs.by_tree command config reason is_config is) (runs.by_tree command_too second other is_too too) =
    let same = one_config words tree command command_too config second is_config is_too in
    one_refusal tree config command why because is (same_refusals tree because same too)
one_run_refusal words tree why because (runs.by_copies to config map reason asks is generates refused_so) (runs.by_words other too) = absurd (words_refused_or_config words tree other Vendor config too is)
one_run_refusal words tree why because (runs.by_copies to config map reason asks is generates refused_so) (runs.by_project other too) = absurd (refused_or_config words tree other Vendor config too is)
one_run_refusal words tree why because (runs.by_copies to config map reason asks is generates refused_so) (runs.by_tree command second other is_too too) =
    absurd (refused_or_generated tree map because (one_config words tree command Vendor second config is_too is) tt too opens.nothing_first generates)
one_run_refusal words tree why because (runs.by_copies to config map reason asks is generates refused_so) (runs.by_measure number other asks_too too) = absurd (measured_or_config words tree number Vendor config asks_too is)
one_run_refusal words tree why because (runs.by_words fault is_too) (runs.by_copies to config map reason asks is generates refused_so) = absurd (words_refused_or_config words tree fault Vendor config is_too is)
one_run_refusal words tree why because (runs.by_project fault is_too) (runs.by_copies to config map reason asks is generates refused_so) = absurd (refused_or_config words tree fault Vendor config is_too is)
one_run_refusal words tree why because (runs.by_tree command second other is_too too) (runs.by_copies to config map reason asks is generates refused_so) =
    absurd (refused_or_generated tree map why (one_config words tree command Vendor second config is_too is) tt too opens.nothing_first generates)
one_run_refusal words tree why because (runs.by_measure number other asks_too too) (runs.by_copies to config map reason asks is generates refused_so) = absurd (measured_or_config words tree number Vendor config asks_too is)
one_run_refusal words tree why because (runs.by_copies to config map reason asks is generates refused_so) (runs.by_copies to_too second map_too other asks_too is_too generates_too too) =
    let configs = (one_config words tree Vendor Vendor config second is is_too).one_config in
    let folders = one_folder words to to_too asks asks_too in
    one_copy_refusal tree to (generation_paths tree config) why because refused_so
    (subst (λ c. RefusesCopies tree to (generation_paths tree c) because) (sym configs)
    (subst (λ path. RefusesCopies tree path (generation_paths tree second) because) (sym folders) too))

pub config_is_plain : (words : List (List ℕ)) (tree : Tree) (command : Command) (config : Config) → IsConfigOf words tree command config → IsPlain words
config_is_plain words tree command config is = command_is_plain words command (command_is words tree command (Ok config) is)

run_is_plain : (words : List (List ℕ)) (tree : Tree) (why : Refusal) → RefusesRun words tree why → IsPlain words
run_is_plain words tree why (runs.by_words fault is) = refused_is_plain words fault is
run_is_plain words tree why (runs.by_project fault is) = command_is_plain words is.command (command_is words tree is.command (Err fault) is.configures)
run_is_plain words tree why (runs.by_tree command config reason is_config is) = config_is_plain words tree command config is_config
run_is_plain words tree why (runs.by_copies to config map reason asks is generates refused_so) = config_is_plain words tree Vendor config is
run_is_plain words tree why (runs.by_measure number reason asks is) = measured_is_plain words number asks

-- what is refused isn't written
pub refused_or_written :
    (words : List (List ℕ)) (tree : Tree) (why : Refusal) (command : Command) (config : Config) (map : List ℕ)
    → RefusesRun words tree why → IsConfigOf words tree command config → Opens tree config command
    → Generates tree config map → SaysCounts command → ⊥
refused_or_written words tree why command config map (runs.by_words fault is) is_config opened generates counts = words_refused_or_config words tree fault command config is is_config
refused_or_written words tree why command config map (runs.by_project fault is) is_config opened generates counts = refused_or_config words tree fault command config is is_config
refused_or_written words tree why command config map (runs.by_tree other second reason is_too is) is_config opened generates counts =
    refused_or_generated tree map why (one_config words tree other command second config is_too is_config)
    (counts_generate command counts) is opened generates
refused_or_written words tree why command config map (runs.by_measure number reason asks is) is_config opened generates counts = measured_or_config words tree number command config asks is_config
refused_or_written words tree why command config map (runs.by_copies to second map_too reason asks is generates_too refused_so) is_config opened generates counts =
    subst SaysCounts (one_config words tree command Vendor config second is_config is).one_command counts

refused_or_checked_too :
    (words : List (List ℕ)) (tree : Tree) (why : Refusal) (command : Command) (config : Config) (map : ParsedMap)
    (all : Gathered) (strict : List (List ℕ)) → RefusesRun words tree why → IsConfigOf words tree command config
    → HoldsMap tree config map → traced (get tree) config ≡ Ok all → SaysOfModules all command strict → ⊥
refused_or_checked_too words tree why command config map all strict (runs.by_words fault is) is_config holds traces says_so = words_refused_or_config words tree fault command config is is_config
refused_or_checked_too words tree why command config map all strict (runs.by_project fault is) is_config holds traces says_so = refused_or_config words tree fault command config is is_config
refused_or_checked_too words tree why command config map all strict (runs.by_tree other second reason is_too is) is_config holds traces says_so =
    let same = one_config words tree command other config second is_config is_too in
    refused_or_checked tree config command why map all strict says_so (same_refusals tree why same is) holds traces
refused_or_checked_too words tree why command config map all strict (runs.by_copies to second map_too reason asks is generates refused_so) is_config holds traces says_so =
    checked_or_other words tree command Vendor config second (says_checking all command strict says_so) is_config is (λ same. absurd (cc)) (λ same. absurd (cc))
refused_or_checked_too words tree why command config map all strict (runs.by_measure number reason asks is) is_config holds traces says_so = measured_or_config words tree number command config asks is_config

refused_or_listed_too :
    (words : List (List ℕ)) (tree : Tree) (why : Refusal) (config : Config) (all : Gathered)
    → RefusesRun words tree why → IsConfigOf words tree Lists config → traced (get tree) config ≡ Ok all → ⊥
refused_or_listed_too words tree why config all (runs.by_words fault is) is_config traces = words_refused_or_config words tree fault Lists config is is_config
refused_or_listed_too words tree why config all (runs.by_project fault is) is_config traces = refused_or_config words tree fault Lists config is is_config
refused_or_listed_too words tree why config all (runs.by_tree other second reason is_too is) is_config traces =
    let same = one_config words tree Lists other config second is_config is_too in
    refused_or_listed tree config why all (same_refusals tree why same is) traces
refused_or_listed_too words tree why config all (runs.by_copies to second map_too reason asks is generates refused_so) is_config traces =
    two_commands words tree Lists Vendor config second is_config is (λ same. absurd (cc))
refused_or_listed_too words tree why config all (runs.by_measure number reason asks is) is_config traces = measured_or_config words tree number Lists config asks is_config

refused_or_explained_too :
    (words : List (List ℕ)) (tree : Tree) (why : Refusal) (config : Config) (all : Gathered)
    → RefusesRun words tree why → IsConfigOf words tree Why config → traced (get tree) config ≡ Ok all → ⊥
refused_or_explained_too words tree why config all (runs.by_words fault is) is_config traces = words_refused_or_config words tree fault Why config is is_config
refused_or_explained_too words tree why config all (runs.by_project fault is) is_config traces = refused_or_config words tree fault Why config is is_config
refused_or_explained_too words tree why config all (runs.by_tree other second reason is_too is) is_config traces =
    let same = one_config words tree Why other config second is_config is_too in
    refused_or_explained tree config why all (same_refusals tree why same is) traces
refused_or_explained_too words tree why config all (runs.by_copies to second map_too reason asks is generates refused_so) is_config traces =
    two_commands words tree Why Vendor config second is_config is (λ same. absurd (cc))
refused_or_explained_too words tree why config all (runs.by_measure number reason asks is) is_config traces = measured_or_config words tree number Why config asks is_config

refused_or_measured :
    (words : List (List ℕ)) (tree : Tree) (why : Refusal) (number : ℕ) (map : List ℕ) → RefusesRun words tree why
    → Measures words number → Generates (tree_of number) measure_config map → ⊥
refused_or_measured words tree why number map (runs.by_words fault is) asks generates = measured_or_refused words tree number fault asks is
refused_or_measured words tree why number map (runs.by_project fault is) asks generates = measured_or_no_config words tree number fault asks is
refused_or_measured words tree why number map (runs.by_tree command config reason is_config is) asks generates = measured_or_config words tree number command config asks is_config
refused_or_measured words tree why number map (runs.by_copies to config map_too reason asks_too is generates_too refused_so) asks generates = measured_or_config words tree number Vendor config asks is
refused_or_measured words tree why number map (runs.by_measure other reason asks_too is) asks generates =
    refused_or_opened_and_generated (tree_of number) measure_config Refresh why map tt (same_measure words tree number other why asks asks_too is)
    (opens.nothing Refresh mapping.refresh) generates

-- and isn't copied
pub refused_or_vendored :
    (words : List (List ℕ)) (tree : Tree) (why : Refusal) (to : List ℕ) (pairs : List Pair) → RefusesRun words tree why
    → Vendors words tree to pairs → ⊥
refused_or_vendored words tree why to pairs (runs.by_words fault is) v = words_refused_or_config words tree fault Vendor v.config is v.is_config
refused_or_vendored words tree why to pairs (runs.by_project fault is) v = refused_or_config words tree fault Vendor v.config is v.is_config
refused_or_vendored words tree why to pairs (runs.by_tree other second reason is_too is) v =
    refused_or_generated tree v.map why (one_config words tree other Vendor second v.config is_too v.is_config) tt is opens.nothing_first v.generates
refused_or_vendored words tree why to pairs (runs.by_measure number reason asks is) v = measured_or_config words tree number Vendor v.config asks v.is_config
refused_or_vendored words tree why to pairs (runs.by_copies to_too second map reason asks is generates refused_so) v =
    let configs = (one_config words tree Vendor Vendor v.config second v.is_config is).one_config in
    let folders = one_folder words to to_too v.asks asks in
    refused_or_copied tree to (generation_paths tree v.config) pairs why
    (subst (λ c. RefusesCopies tree to (generation_paths tree c) why) (sym configs)
    (subst (λ path. RefusesCopies tree path (generation_paths tree second) why) (sym folders) refused_so))
    v.free v.is_plan

module _ (words : List (List ℕ)) (tree : Tree) (status other : ℕ) (lines others : List (List ℕ)) (files more : List NewFile) (plain : IsPlain words) where
  both :
      ComesTo words tree status lines files → ComesTo words tree other others more
      → SameEnd status other lines others files more
  both (not_plain text none s l f) end = absurd (none plain)
  both end (not_plain text none s l f) = absurd (none plain)
  both (refused why is s l f) (refused because too t m g) =
      same_refusal words tree status other lines others files more why because (one_run_refusal words tree why because is too) s l f t m g
  both (refused why is s l f) (written command config map is_config generates wrote t m) =
      absurd (refused_or_written words tree why command config map is is_config (written_is_opened tree config map more command wrote) generates (writes_count tree config map command more wrote))
  both (refused why is s l f) (checked command config map all strict is_config holds traces says_so t m g) =
      absurd (refused_or_checked_too words tree why command config map all strict is is_config holds traces says_so)
  both (refused why is s l f) (listed config all is_config traces t m g) =
      absurd (refused_or_listed_too words tree why config all is is_config traces)
  both (refused why is s l f) (measured number map asks generates t m g) =
      absurd (refused_or_measured words tree why number map is asks generates)
  both (written command config map is_config generates wrote s l) (measured number map_too asks too t m g) =
      absurd (measured_or_config words tree number command config asks is_config)
  both (checked command config map all strict is_config holds traces says_so s l f) (measured number map_too asks too t m g) =
      absurd (measured_or_config words tree number command config asks is_config)
  both (listed config all is_config traces s l f) (measured number map_too asks too t m g) =
      absurd (measured_or_config words tree number Lists config asks is_config)
  both (measured number map asks generates s l f) (refused because too t m g) =
      absurd (refused_or_measured words tree because number map too asks generates)
  both (measured number map asks generates s l f) (written command config map_too is_config too wrote t m) =
      absurd (measured_or_config words tree number command config asks is_config)
  both (measured number map asks generates s l f) (checked command config map_too all strict is_config holds traces says_so t m g) =
      absurd (measured_or_config words tree number command config asks is_config)
  both (measured number map asks generates s l f) (listed config all is_config traces t m g) =
      absurd (measured_or_config words tree number Lists config asks is_config)
  both (measured number map asks generates s l f) (measured second map_too asks_too too t m g) =
      both_measured words tree status other lines others files more number second map map_too
      ((words_are_judged words).one_measure number second asks asks_too) generates s l f too t m g
  both (written command config map is_config generates wrote s l) (refused because too t m g) =
      absurd (refused_or_written words tree because command config map too is_config (written_is_opened tree config map files command wrote) generates (writes_count tree config map command files wrote))
  both (written command config map is_config generates wrote s l) (written command_too second map_too is_too too wrote_too t m) =
      both_written words tree status other lines others files more command command_too config second map map_too is_config generates wrote s l is_too too wrote_too t m
  both (written command config map is_config generates wrote s l) (checked command_too second map_too all strict is_too holds traces says_so t m g) =
      absurd (written_and_checked words tree status other lines others files more command command_too config second map files is_config wrote (says_checking all command_too strict says_so) is_too)
  both (written command config map is_config generates wrote s l) (listed second all is_too traces t m g) =
      absurd (written_and_listed words tree status other lines others files more command config second map files is_config wrote is_too)
  both (checked command config map all strict is_config holds traces says_so s l f) (refused because too t m g) =
      absurd (refused_or_checked_too words tree because command config map all strict too is_config holds traces says_so)
  both (checked command config map all strict is_config holds traces says_so s l f) (written command_too second map_too is_too generates wrote t m) =
      absurd (written_and_checked words tree status other lines others files more command_too command second config map_too more is_too wrote (says_checking all command strict says_so) is_config)
  both (checked command config map all strict is holds traces says_so s l f) (checked command_too second map_too all_too strict_too is_too holds_too traces_too says_too t m g) =
      both_checked words tree status other lines others files more command command_too config second map map_too all all_too strict strict_too is holds traces says_so s l f is_too holds_too traces_too says_too t m g
  both (checked command config map all strict is holds traces says_so s l f) (listed second all_too is_too traces_too t m g) =
      absurd (checked_or_other words tree command Lists config second (says_checking all command strict says_so) is is_too (λ same. absurd (cc)) (λ same. absurd (cc)))
  both (listed config all is traces s l f) (refused because too t m g) =
      absurd (refused_or_listed_too words tree because config all too is traces)
  both (listed config all is traces s l f) (written command second map_too is_too generates wrote t m) =
      absurd (written_and_listed words tree status other lines others files more command second config map_too more is_too wrote is)
  both (listed config all is traces s l f) (checked command second map_too all_too strict is_too holds_too traces_too says_so t m g) =
      absurd (checked_or_other words tree command Lists second config (says_checking all_too command strict says_so) is_too is (λ same. absurd (cc)) (λ same. absurd (cc)))
  both (listed config all is traces s l f) (listed second all_too is_too traces_too t m g) =
      both_listed words tree status other lines others files more config second all all_too is traces s l f is_too traces_too t m g
  both (refused why is s l f) (explained path config all asks is_config traces tells g) =
      absurd (refused_or_explained_too words tree why config all is is_config traces)
  both (written command config map is generates wrote s l) (explained path second all asks is_too traces tells g) =
      absurd (written_and_explained words tree status other lines others files more command config second map files is wrote is_too)
  both (checked command config map all strict is holds traces says_so s l f) (explained path second all_too asks is_too traces_too tells g) =
      absurd (checked_or_other words tree command Why config second (says_checking all command strict says_so) is is_too (λ same. absurd (cc)) (λ same. absurd (cc)))
  both (listed config all is traces s l f) (explained path second all_too asks is_too traces_too tells g) =
      absurd (listed_and_explained words tree status other lines others files more config second is is_too)
  both (measured number map asks generates s l f) (explained path config all asks_why is_config traces tells g) =
      absurd (measured_or_config words tree number Why config asks is_config)
  both (explained path config all asks is traces tells f) (refused because too t m g) =
      absurd (refused_or_explained_too words tree because config all too is traces)
  both (explained path config all asks is traces tells f) (written command second map is_too generates wrote t m) =
      absurd (written_and_explained words tree status other lines others files more command second config map more is_too wrote is)
  both (explained path config all asks is traces tells f) (checked command second map all_too strict is_too holds traces_too says_so t m g) =
      absurd (checked_or_other words tree command Why second config (says_checking all_too command strict says_so) is_too is (λ same. absurd (cc)) (λ same. absurd (cc)))
  both (explained path config all asks is traces tells f) (listed second all_too is_too traces_too t m g) =
      absurd (listed_and_explained words tree status other lines others files more second config is_too is)
  both (explained path config all asks is traces tells f) (measured number map asks_too generates t m g) =
      absurd (measured_or_config words tree number Why config asks_too is)
  both (explained path config all asks is traces tells f) (explained path_too second all_too asks_too is_too traces_too tells_too g) =
      both_explained words tree status other lines others files more path path_too config second asks is tells f asks_too is_too tells_too g
  both (refused why is s l f) (vendored to pairs v t m g) = absurd (refused_or_vendored words tree why to pairs is v)
  both (written command config map is generates wrote s l) (vendored to pairs v t m g) =
      absurd (written_and_vendored words tree status other lines others files more command config map files to pairs is wrote v)
  both (checked command config map all strict is holds traces says_so s l f) (vendored to pairs v t m g) =
      absurd (checked_or_other words tree command Vendor config v.config (says_checking all command strict says_so) is v.is_config (λ same. absurd (cc)) (λ same. absurd (cc)))
  both (listed config all is traces s l f) (vendored to pairs v t m g) =
      absurd (two_commands words tree Lists Vendor config v.config is v.is_config (λ same. absurd (cc)))
  both (explained path config all asks is traces tells f) (vendored to pairs v t m g) =
      absurd (two_commands words tree Why Vendor config v.config is v.is_config (λ same. absurd (cc)))
  both (measured number map asks generates s l f) (vendored to pairs v t m g) =
      absurd (measured_or_config words tree number Vendor v.config asks v.is_config)
  both (vendored to pairs v s l f) (refused because too t m g) = absurd (refused_or_vendored words tree because to pairs too v)
  both (vendored to pairs v s l f) (written command config map is generates wrote t m) =
      absurd (written_and_vendored words tree status other lines others files more command config map more to pairs is wrote v)
  both (vendored to pairs v s l f) (checked command config map all strict is holds traces says_so t m g) =
      absurd (checked_or_other words tree command Vendor config v.config (says_checking all command strict says_so) is v.is_config (λ same. absurd (cc)) (λ same. absurd (cc)))
  both (vendored to pairs v s l f) (listed config all is traces t m g) =
      absurd (two_commands words tree Lists Vendor config v.config is v.is_config (λ same. absurd (cc)))
  both (vendored to pairs v s l f) (explained path config all asks is traces tells g) =
      absurd (two_commands words tree Why Vendor config v.config is v.is_config (λ same. absurd (cc)))
  both (vendored to pairs v s l f) (measured number map asks generates t m g) =
      absurd (measured_or_config words tree number Vendor v.config asks v.is_config)
  both (vendored to pairs v s l f) (vendored to_too pairs_too w t m g) =
      both_vendored words tree status other lines others files more to to_too pairs pairs_too v s l f w t m g

pub one_outcome : OneOutcome
one_outcome words tree status other lines others after last plain one two =
    let same = both words tree status other lines others one.files two.files plain one.comes two.comes in
    record {
      one_status = same.one_status;
      same_lines = same.same_lines;
      one_tree =
          one_placed one.files tree after last (paths_of words tree status lines one.files one.comes) one.placed
          (subst (λ files. FilesPlaced tree files last) (sym same.same_files) two.placed);
    }

-- words without a meaning have one status, whatever is said of them
no_meaning_status : (words : List (List ℕ)) (tree : Tree) (status : ℕ) (lines : List (List ℕ)) (files : List NewFile) → (IsPlain words → ⊥) → ComesTo words tree status lines files → status ≡ 2
no_meaning_status words tree status lines files none (not_plain text too s l f) = s
no_meaning_status words tree status lines files none (refused why is s l f) = absurd (none (run_is_plain words tree why is))
no_meaning_status words tree status lines files none (written command config map is generates wrote s l) = absurd (none (config_is_plain words tree command config is))
no_meaning_status words tree status lines files none (checked command config map all strict is holds traces says_so s l f) = absurd (none (config_is_plain words tree command config is))
no_meaning_status words tree status lines files none (explained path config all asks is traces tells f) = absurd (none (config_is_plain words tree Why config is))
no_meaning_status words tree status lines files none (vendored to pairs v s l f) = absurd (none (config_is_plain words tree Vendor v.config v.is_config))
no_meaning_status words tree status lines files none (measured number map asks generates s l f) = absurd (none (measured_is_plain words number asks))
no_meaning_status words tree status lines files none (listed config all is traces s l f) = absurd (none (config_is_plain words tree Lists config is))

pub one_status : (words : List (List ℕ)) (tree : Tree) (status other : ℕ) (lines others : List (List ℕ)) (after last : Tree) → Outcome words tree status lines after → Outcome words tree other others last → status ≡ other
one_status words tree status other lines others after last one two =
    elim (plain_or_not words) [
      | inl plain ↦ (one_outcome words tree status other lines others after last plain one two).one_status
      | inr none ↦ no_meaning_status words tree status lines one.files none one.comes ∙ sym (no_meaning_status words tree other others two.files none two.comes)
    ]
