-- How a check comes to its report, step by step.
use Rattle.std.proofs.Common.{◌≡◌, ◌≢◌, ◌≤◌, ℕ, suc, Bool, true, false, List, [], ◌∷◌, length, Option, Some, None, Ok, Err, IfSome, Result, refl, sym, ap, ◌∙◌, subst, inl, arith}
use Rattle.std.specs.FinMap.{get}
use Rattle.std.specs.Prelude.{◌++◌, map as each, slice_get, All, Contains, unwrap_or, if◌then◌else◌}
use Rattle.std.proofs.lemmas.List.Elements.{All-nil, All-cons}
use Rattle.std.proofs.lemmas.List.{append-nil, length-map}
use Rattle.tree_spec.specs.declared.Look.{Look}
use Rattle.tree_spec.specs.declared.Look.TheVariants as look
use Rattle.tree_spec.specs.declared.LookFault.TheVariants as look_fault
use Rattle.tree_spec.specs.declared.LimitName.TheVariants.{Modules}
use Rattle.tree_spec.specs.Limits.{limit_number}
use Rattle.tree_spec.specs.States.{FolderState, SinkState, OnlyLooks, IsLooked}
use Rattle.tree_spec.specs.Trees.{Tree}
use Rattle.tree_spec.proofs.ToldStates.{if_some, if_two, looks_as, looks_then}
use Rattle.import_map_spec.specs.ParsedMap.{ParsedMap, MapFault}
use Rattle.import_map_spec.specs.Parsing.{ParsesMap}
use Rattle.import_map_spec.specs.Resolving.{Resolved}
use Rattle.check_spec.proofs.DifferenceLemmas.{differences_are_exact}
use Rattle.check_spec.specs.Differences.{Difference, gets, is_url, differences, differences_from}
use Rattle.grammar_spec.specs.declared.answer.Strict.{Strict}
use Rattle.grammar_spec.specs.declared.answer.Strict.TheVariants.{TooDeep}
use Rattle.layout_spec.proofs.Contained.{contains_here, contains_there}
use Rattle.layout_spec.specs.declared.Need.{Need}
use Rattle.trace_spec.specs.declared.TraceFault.TheVariants.{Unservable}
use Rattle.trace_spec.specs.Checks.{Gathered}
use Rattle.trace_spec.specs.Kinds.{IsOfTrace}
use Rattle.trace_spec.specs.Modules.{Config, Module, path_of, shown, served_name, web_name}
use Rattle.trace_spec.specs.Questions.{Source}
use Rattle.trace_spec.specs.Walking.{the_page}
use Rattle.generator_spec.proofs.Nameless.{nameless_is_refused}
use Rattle.generator_spec.proofs.Strictnesses.{some_answers}
use Rattle.generator_spec.specs.Strictness.{IsSaid}
use Rattle.config_spec.specs.declared.Command.{Command}
use Rattle.config_spec.specs.declared.Command.TheVariants.{CheckStrictly}
use Rattle.generator_spec.specs.declared.MapFileFault.{MapFileFault}
use Rattle.generator_spec.specs.declared.MapFileFault.TheVariants as map_fault
use Rattle.generator_spec.specs.declared.Refusal.TheVariants.{MapFile, NestedTooDeep}
use Rattle.generator_spec.specs.Checking.{no_need, need_at, spelling_at, difference_line, difference_lines, SaysOfModules, SaysOfModules as of_modules, AreLined, AreLined as lined_as, check_lines}
use Rattle.generator_spec.specs.Commands.{map_path, map_file_limit, map_file_fault, IsMapText, ReadsMap, HoldsMap, RefusesMapFile, RefusesMapFile as refuses_map}
use Rattle.generator_spec.specs.Commands.{IsChecking, IsChecking as checking, Opens, Opens as opens, Refuses as refuses, IsRefusalOf as kind}
use Rattle.config_spec.specs.Projects.{IsConfigOf}
use Rattle.generator_spec.specs.Outcome.{ComesTo as comes, Outcome}
use Rattle.generator_spec.specs.Ending.{IsDifference, IsStrictLine, IsStrictLine as lined, AreStrictLines, AreStrictLines as are, IsDone, IsDone as done, Says, Ends, EndsAs, Shaped as shaped, Says as says}
use Rattle.generator_spec.specs.Asked.{IsConfigAt}
use Rattle.generation.specs.declared.stop.Stop.{Stop}
use Rattle.generation.specs.declared.stop.Stop.TheVariants.{Refused, ReadFault, Memory}
use Rattle.generation.specs.Generating.{Tracing}
use Rattle.generator_core.specs.declared.checking.Report.{Report}
use Rattle.generator_spec.specs.Asked.{AsksOwn, own_file}
use Rattle.generator_core.specs.Preparing.{EndsBefore}
use Rattle.generator_core.specs.Checking.{AsksGrammar, AsksGrammar as asks, IsMapTextFound, FindsMapText, IsMapStop, FindsMap, IsReport, IsReportStop, Reports}
use Rattle.generator_core.specs.Checking.{IsHeldAndTraced, IsReported, ChecksBy, Checks, IsMapStop as map_stop, IsReportStop as report_stop}
use Rattle.generator_core.specs.Strictness.{IsStrictStop, IsStrictStop as strict_stop}
use Rattle.generator_core.proofs.Strictnesses.{nested_somewhere}
use Rattle.generator_core.proofs.Preparings.{earlier_end, own_asked, own_alone, own_then}
use Rattle.generator_core.proofs.Endings.{ends_as, serves_where_done}

-- ---- the look at the map's file

pub asks_checking : (command : Command) (strictly : Bool) → AsksGrammar command strictly → IsChecking command
asks_checking command strictly asks.plainly = checking.plainly
asks_checking command strictly asks.strictly = checking.strictly

module _ (command : Command) (checks : IsChecking command) (config : Config) (before after : FolderState) where
  map_ends : (why : MapFileFault) → OnlyLooks before after ⊥ → IfSome before.holds (λ tree. RefusesMapFile tree config why) → EndsBefore command config before after (Refused (MapFile why))
  map_ends why looks why_not = record {
    refused = if_some before.holds (λ tree so. refuses.map_file command why checks so) why_not;
    kind = kind.map_file command why checks;
    looks = looks_as before after (λ e. absurd (cc)) (λ e. absurd e) looks;
  }

module _ (path : List ℕ) (is_path : path ≡ map_path) (before after : FolderState) where
  only_looked : (found : Look) → IsLooked before path map_file_limit (Ok found) after → OnlyLooks before after ⊥
  only_looked found is = record { tree = is.tree; writes = is.writes; later = is.later; cause = λ e. absurd e; quiet = λ e. is.quiet (λ same. cc) }

  no_text : (found : Look) (why : MapFileFault) → IsLooked before path map_file_limit (Ok found) after → ((config : Config) → IfSome before.holds (λ tree. RefusesMapFile tree config why)) → FindsMapText before (Err (Refused (MapFile why))) after
  no_text found why is why_not = record { found = tt; asked = own_asked map_path path true before.asked after is_path is.asked; stopped = λ command checks config. map_ends command checks config before after why (only_looked found is) (why_not config) }

  text_absent : IsLooked before path map_file_limit (Ok look.Absent) after → FindsMapText before (Err (Refused (MapFile map_fault.Absent))) after
  text_absent is = no_text look.Absent map_fault.Absent is (λ config. if_some before.holds (λ tree e. refuses_map.absent (ap (get tree) (sym is_path) ∙ e) refl) is.entry)

  text_folder : IsLooked before path map_file_limit (Ok look.Folder) after → FindsMapText before (Err (Refused (MapFile map_fault.Absent))) after
  text_folder is = no_text look.Folder map_fault.Absent is (λ config. if_some before.holds (λ tree e. refuses_map.folder (ap (get tree) (sym is_path) ∙ e) refl) is.entry)

  text_too_large : IsLooked before path map_file_limit (Ok look.TooLarge) after → FindsMapText before (Err (Refused (MapFile map_fault.TooLarge))) after
  text_too_large is = no_text look.TooLarge map_fault.TooLarge is (λ config. if_some before.holds (λ tree e. refuses_map.too_large e.0 (ap (get tree) (sym is_path) ∙ e.1) e.2 refl) is.entry)

  pub text_found : (bytes : List ℕ) → IsLooked before path map_file_limit (Ok (look.File bytes)) after → FindsMapText before (Ok bytes) after
  text_found bytes is = record {
    found = record {
      is_text = if_some before.holds (λ tree e. record { stands = ap (get tree) (sym is_path) ∙ e.0; small = e.1 }) is.entry;
      looks = only_looked (look.File bytes) is;
    };
    asked = own_asked map_path path true before.asked after is_path is.asked;
    stopped = tt;
  }

  pub text_fault : IsLooked before path map_file_limit (Err look_fault.Failed) after → FindsMapText before (Err ReadFault) after
  text_fault is = record {
    found = tt;
    asked = own_asked map_path path false before.asked after is_path is.asked;
    stopped = λ command checks config. record {
      refused = tt;
      kind = tt;
      looks = record { tree = is.tree; writes = is.writes; later = is.later; cause = λ e. is.failed refl; quiet = λ none. absurd (none refl) };
    };
  }

  pub text_memory : IsLooked before path map_file_limit (Err look_fault.Memory) after → FindsMapText before (Err Memory) after
  text_memory is = record {
    found = tt;
    asked = own_asked map_path path false before.asked after is_path is.asked;
    stopped = λ command checks config. record {
      refused = tt;
      kind = tt;
      looks = record { tree = is.tree; writes = is.writes; later = is.later; cause = λ e. absurd (cc); quiet = λ none. is.quiet (λ same. cc) };
    };
  }

  told_by : (found : Look) (stop other : Stop) (exact : Look) → found ≡ exact → stop ≡ other → (IsLooked before path map_file_limit (Ok exact) after → FindsMapText before (Err other) after) → IsLooked before path map_file_limit (Ok found) after → FindsMapText before (Err stop) after
  told_by found stop other exact f s ends is = subst (λ t. FindsMapText before (Err t) after) (sym s) (ends (subst (λ l. IsLooked before path map_file_limit (Ok l) after) f is))

  pub absent_ends : (found : Look) (stop : Stop) → found ≡ look.Absent → stop ≡ Refused (MapFile map_fault.Absent) → IsLooked before path map_file_limit (Ok found) after → FindsMapText before (Err stop) after
  absent_ends found stop f s is = told_by found stop (Refused (MapFile map_fault.Absent)) look.Absent f s text_absent is

  pub folder_ends : (found : Look) (stop : Stop) → found ≡ look.Folder → stop ≡ Refused (MapFile map_fault.Absent) → IsLooked before path map_file_limit (Ok found) after → FindsMapText before (Err stop) after
  folder_ends found stop f s is = told_by found stop (Refused (MapFile map_fault.Absent)) look.Folder f s text_folder is

  pub too_large_ends : (found : Look) (stop : Stop) → found ≡ look.TooLarge → stop ≡ Refused (MapFile map_fault.TooLarge) → IsLooked before path map_file_limit (Ok found) after → FindsMapText before (Err stop) after
  too_large_ends found stop f s is = told_by found stop (Refused (MapFile map_fault.TooLarge)) look.TooLarge f s text_too_large is

-- before anything was looked at
pub text_unasked : (state : FolderState) → FindsMapText state (Err Memory) state
text_unasked state = record {
  found = tt;
  asked = by state.asked refl;
  stopped = λ command checks config. record {
    refused = tt;
    kind = tt;
    looks = record { tree = refl; writes = refl; later = omega arith; cause = λ e. absurd (cc); quiet = λ none. refl };
  };
}
  where
    by : (told : Option (List (List ℕ))) → state.asked ≡ told → IfSome told (λ old. AsksOwn (map_path ∷ []) old state)
    by None e = tt
    by (Some old) e = record { first = []; is_own = inl refl; asked = e ∙ ap Some (sym (append-nil old)) }

-- ---- the text

pub no_map_read : (config : Config) (text base : List ℕ) (fault : MapFault) (stop : Stop) → web_name config the_page ≡ Some base → ParsesMap base text (Err fault) → stop ≡ Refused (MapFile (map_file_fault fault)) → FindsMap config text (Err stop)
no_map_read config text base fault stop named parses same = record { reads = tt; stopped = map_stop.no_map fault (record { base = base; named = named; parses = parses }) same }

-- ---- behind the look

kind_of_nameless : (config : Config) → web_name config the_page ≡ None → IsOfTrace config (Unservable (shown config the_page) None)
kind_of_nameless config none = record { which = the_page; path_is = refl; url_is = sym none; lost = ap (served_name config.base (path_of config the_page)) none }

module _ (config : Config) (before after : FolderState) where
  opens_map : (text : List ℕ) (parsed : ParsedMap) → IfSome before.holds (λ tree. IsMapText tree text) → ReadsMap config text (Ok parsed) → IfSome before.holds (λ tree. HoldsMap tree config parsed)
  opens_map text parsed is reads = if_some before.holds (λ tree stands. record { text = text; stands = stands; reads = reads }) is

  no_stop : (command : Command) (stop : Stop) (other : Stop) → stop ≡ other → EndsBefore command config before after other → EndsBefore command config before after stop
  no_stop command stop other same is = subst (λ s. EndsBefore command config before after s) (sym same) is

  -- the text of a found file is no map
  pub stops_map : (command : Command) → IsChecking command → (text : List ℕ) (stop : Stop) → IsMapTextFound before after text → IsMapStop config text stop → EndsBefore command config before after stop
  stops_map command checks text stop found (map_stop.no_map fault reads same) =
      no_stop command stop _ same (map_ends command checks config before after (map_file_fault fault) found.looks
      (if_some before.holds (λ tree stands. refuses_map.no_map text fault stands reads refl) found.is_text))
  stops_map command checks text stop found (map_stop.no_base none same) =
      no_stop command stop _ same (record {
        refused = if_some before.holds (λ tree stands. refuses.trace command (Unservable (shown config the_page) None) (opens.no_base command checks text stands none) (nameless_is_refused (get tree) config none)) found.is_text;
        kind = kind.trace command (Unservable (shown config the_page) None) (kind_of_nameless config none);
        looks = looks_as before after (λ e. absurd (cc)) (λ e. absurd e) found.looks;
      })
  stops_map command checks text stop found (map_stop.memory same) =
      no_stop command stop _ same (record { refused = tt; kind = tt; looks = looks_as before after (λ e. absurd (cc)) (λ e. absurd e) found.looks })

-- the map's file is the command's own
asks_map : (command : Command) → IsChecking command → (config : Config) (told : Option (List (List ℕ))) (after : FolderState) → IfSome told (λ old. AsksOwn (map_path ∷ []) old after) → IfSome told (λ old. AsksOwn (own_file command config) old after)
asks_map _ checking.plainly config told after asked = asked
asks_map _ checking.strictly config told after asked = asked

module _ (command : Command) (config : Config) (before middle after : FolderState) where
  earlier_report : (report : Report) → OnlyLooks before middle ⊥ → IsReported command config middle after report → IsReported command config before after report
  earlier_report report looks is = record {
    map = is.map;
    all = is.all;
    is_report = is.is_report;
    told = subst (λ held. IfSome held (λ tree. IsHeldAndTraced config tree is.map is.all)) looks.tree is.told;
    looks = looks_then before middle after (λ e. e) looks is.looks;
  }

  -- the command is opened by the map that was read
  check_opens : IsChecking command → (text : List ℕ) (parsed : ParsedMap) → ReadsMap config text (Ok parsed) → FindsMapText before (Ok text) middle → IfSome before.holds (λ tree. Opens tree config command)
  check_opens checks text parsed reads found = if_some before.holds (λ tree holds. opens.has_map command checks parsed holds) (opens_map config before middle text parsed found.found.is_text reads)

  pub checks_behind : IsChecking command → (text : List ℕ) (parsed : ParsedMap) (result : Result Report Stop) → ReadsMap config text (Ok parsed) → FindsMapText before (Ok text) middle → ChecksBy command config middle result after → Checks command config before result after
  checks_behind checks text parsed (Ok report) reads found is = record { reported = earlier_report report found.found.looks is.reported; asked = own_then command config before.holds middle.holds before.asked middle after found.found.looks.tree (check_opens checks text parsed reads found) (asks_map command checks config before.asked middle found.asked) is.asked is.footprint; stopped = tt }
  checks_behind checks text parsed (Err stop) reads found is = record { reported = tt; asked = own_then command config before.holds middle.holds before.asked middle after found.found.looks.tree (check_opens checks text parsed reads found) (asks_map command checks config before.asked middle found.asked) is.asked is.footprint; stopped = earlier_end config before middle after command stop found.found.looks is.stopped }

module _ (config : Config) (before after : FolderState) where
  -- the map's file is where it was
  pub text_still : (text : List ℕ) (parsed : ParsedMap) → FindsMapText before (Ok text) after → ReadsMap config text (Ok parsed) → IfSome after.holds (λ tree. HoldsMap tree config parsed)
  text_still text parsed found reads = subst (λ held. IfSome held (λ tree. HoldsMap tree config parsed)) (sym found.found.looks.tree) (opens_map config before after text parsed found.found.is_text reads)

  pub text_refused : (command : Command) → IsChecking command → (stop : Stop) → FindsMapText before (Err stop) after → Checks command config before (Err stop) after
  text_refused command checks stop found = record { reported = tt; asked = own_alone command config before.holds before.asked after (asks_map command checks config before.asked after found.asked); stopped = found.stopped command checks config }

  pub map_refused : (command : Command) → IsChecking command → (text : List ℕ) (stop : Stop) → FindsMapText before (Ok text) after → IsMapStop config text stop → Checks command config before (Err stop) after
  map_refused command checks text stop found why = record { reported = tt; asked = own_alone command config before.holds before.asked after (asks_map command checks config before.asked after found.asked); stopped = stops_map config before after command checks text stop found.found why }

  -- ---- the trace

  module _ (parsed : ParsedMap) (holds : IfSome before.holds (λ tree. HoldsMap tree config parsed)) (command : Command) (checks : IsChecking command) where
    pub trace_stops : (stop : Stop) → Tracing config before (Err stop) after → ChecksBy command config before (Err stop) after
    trace_stops (Refused why) is = record {
      reported = tt;
      asked = is.asked;
      footprint = is.footprint;
      stopped = record {
        refused = if_two before.holds (λ tree held refuses_each. refuses_each command (opens.has_map command checks parsed held)) holds is.refused;
        kind = is.kind command;
        looks = looks_as before after (λ e. absurd (cc)) (λ e. absurd (cc)) is.looks;
      };
    }
    trace_stops ReadFault is = record { reported = tt; asked = is.asked; footprint = is.footprint; stopped = record { refused = tt; kind = tt; looks = looks_as before after (λ e. refl) (λ e. refl) is.looks } }
    trace_stops Memory is = record { reported = tt; asked = is.asked; footprint = is.footprint; stopped = record { refused = tt; kind = tt; looks = looks_as before after (λ e. absurd (cc)) (λ e. absurd (cc)) is.looks } }

    module _ (all : Gathered) (is : Tracing config before (Ok all) after) where
      quiet_looks : OnlyLooks before after ⊥
      quiet_looks = looks_as before after (λ e. absurd e) (λ e. absurd (cc)) is.looks

      no_memory : (asked : Command) → EndsBefore asked config before after Memory
      no_memory asked = record { refused = tt; kind = tt; looks = looks_as before after (λ e. absurd (cc)) (λ e. absurd e) quiet_looks }

      -- a module is nested too deep
      nested_stop : (place : ℕ) (source : Source) → slice_get all.sources place ≡ Some source → IsSaid source.bytes TooDeep → EndsBefore CheckStrictly config before after (Refused NestedTooDeep)
      nested_stop place source there deep = record {
        refused = if_two before.holds (λ tree held traces.
            let found = some_answers (get tree) config all traces in
            refuses.nested parsed all found.0 held traces found.1 (nested_somewhere all.sources found.0 place source found.1 there deep)) holds is.traces;
        kind = kind.nested;
        looks = looks_as before after (λ e. absurd (cc)) (λ e. absurd e) quiet_looks;
      }

      strict_stops : (stop : Stop) → IsStrictStop all stop → EndsBefore CheckStrictly config before after stop
      strict_stops stop (strict_stop.nested place source there deep) = nested_stop place source there deep
      strict_stops stop strict_stop.memory = no_memory CheckStrictly

      stops_report : (stop : Stop) (asked : Command) → IsReportStop all asked stop → EndsBefore asked config before after stop
      stops_report stop asked (report_stop.by_modules _ why) = strict_stops stop why
      stops_report stop asked (report_stop.memory _) = no_memory asked

      reports : (report : Report) → IsReport command parsed all report → ChecksBy command config before (Ok report) after
      reports report is_report = record {
        reported = record {
          map = parsed;
          all = all;
          is_report = is_report;
          told = if_two before.holds (λ tree held traces. record { holds = held; is_traced = traces }) holds is.traces;
          looks = quiet_looks;
        };
        asked = is.asked;
        footprint = is.footprint;
        stopped = tt;
      }

      pub report_told : (result : Result Report Stop) → Reports command parsed all result → ChecksBy command config before result after
      report_told (Ok report) told = reports report told.reported
      report_told (Err stop) told = record { reported = tt; asked = is.asked; footprint = is.footprint; stopped = stops_report stop command told.stopped }

-- ---- the end

-- a difference is of a need that isn't led to its target
differs_from : (map : ParsedMap) (all : Gathered) (d : Difference) → Contains (differences map all.needs) d → d.got ≢ Resolved (need_at all d.need).target
differs_from map all d held =
    let is = (differences_are_exact map all.needs d).0 held in
    subst (λ need. d.got ≢ Resolved need.target) (sym (ap (λ found. unwrap_or found no_need) is.stands)) is.differs

all_differ : (all : Gathered) (ds : List Difference) → ((d : Difference) → Contains ds d → d.got ≢ Resolved (need_at all d.need).target) → All IsDifference (each (difference_line all) ds)
all_differ all [] differ = All-nil IsDifference
all_differ all (d ∷ more) differ =
    All-cons IsDifference (difference_line all d) (each (difference_line all) more)
    (record {
      referrer = (spelling_at all d.need).referrer;
      specifier = (spelling_at all d.need).specifier;
      wants = (need_at all d.need).target;
      gets = d.got;
      differs = differ d (contains_here d more);
      says = refl;
    }) (all_differ all more (λ other held. differ other (contains_there other d more held)))

-- there are no more differences than needs
few_from : (map : ParsedMap) (number : ℕ) (needs : List Need) → length (differences_from map number needs) ≤ length needs
few_from map number [] = omega arith
few_from map number (need ∷ more) = by (is_url (gets map need) need.target) (few_from map (suc number) more)
  where
    by : (served : Bool) → length (differences_from map (suc number) more) ≤ length more
        → length (if served then differences_from map (suc number) more else record { need = number; got = gets map need } ∷ differences_from map (suc number) more) ≤ length (need ∷ more)
    by true few = omega (arith, few)
    by false few = omega (arith, few)

few_differ : (map : ParsedMap) (all : Gathered) → length (difference_lines map all) ≤ length all.needs
few_differ map all = subst (λ n. n ≤ length all.needs) (sym (length-map (differences map all.needs) (difference_line all))) (few_from map 0 all.needs)

-- ---- the lines of the modules

are_strict_lines : (modules : List Module) (answers : List Strict) (lines : List (List ℕ)) → AreLined modules answers lines → All IsStrictLine lines
are_strict_lines modules answers lines lined_as.none = All-nil IsStrictLine
are_strict_lines _ _ _ (lined_as.agrees {modules = modules} {answers} {lines} are) = are_strict_lines modules answers lines are
are_strict_lines _ _ _ (lined_as.syntax {m} {modules} {answers} {lines} at are) =
    All-cons IsStrictLine _ lines (lined.by_syntax (m.path ++ m.suffix) at refl) (are_strict_lines modules answers lines are)
are_strict_lines _ _ _ (lined_as.differs {m} {modules} {answers} {lines} found outline are) =
    All-cons IsStrictLine _ lines (lined.by_requests (m.path ++ m.suffix) refl) (are_strict_lines modules answers lines are)

strict_shape : (all : Gathered) (command : Command) (strict : List (List ℕ)) → SaysOfModules all command strict → length strict ≤ limit_number Modules → AreStrictLines command strict
strict_shape all command strict of_modules.unasked few = are.unasked
strict_shape all command strict (of_modules.strictly answers lines said lined_so) few = are.strictly lines few (are_strict_lines all.modules answers lines lined_so)

module _ (words : List (List ℕ)) (command : Command) (config : Config) (before after : FolderState) (out out_after : SinkState) (result : ℕ) (report : Report) (is_config : IsConfigAt words command config before) (is : IsReported command config before after report) where
  abbrev differing : List (List ℕ)
  differing = difference_lines is.map is.all ++ is.is_report.strict

  abbrev lines : List (List ℕ)
  lines = check_lines (length is.all.needs) differing

  outcome_told : (held told : Option Tree) → told ≡ held → IfSome held (λ tree. IsConfigOf words tree command config) → IfSome held (λ tree. IsHeldAndTraced config tree is.map is.all)
      → IfSome held (λ tree. (later : Tree) × Outcome words tree report.status lines later × (told ≡ Some later))
  outcome_told None told same of checked = tt
  outcome_told (Some tree) told same of checked =
      (tree, record { files = []; comes = comes.checked command config is.map is.all is.is_report.strict of checked.holds checked.is_traced is.is_report.says is.is_report.is.status refl refl; placed = refl }, same)

  report_says : Says words before after report.status lines
  report_says =
      says.outcome
      (shaped.checked (record {
        command = command;
        config = config;
        is_config = is_config.can;
        needs = length is.all.needs;
        differing = difference_lines is.map is.all;
        few = few_differ is.map is.all;
        are_differences = all_differ is.all (differences is.map is.all.needs) (differs_from is.map is.all);
        strict = is.is_report.strict;
        are_strict = strict_shape is.all command is.is_report.strict is.is_report.says is.is_report.few;
        ends = is.is_report.is.status;
        says = refl;
      }))
      (outcome_told before.holds after.holds is.looks.tree is_config.told is.told) (is.looks.quiet (λ e. e)) is.looks.writes

  served_told : (held told : Option Tree) → told ≡ held → IfSome held (λ tree. IsConfigOf words tree command config) → IfSome held (λ tree. IsHeldAndTraced config tree is.map is.all) → report.status ≡ 0 → IfSome held (λ tree. IsDone words tree told)
  served_told None told same of checked zero = tt
  served_told (Some tree) told same of checked zero =
      done.served (serves_where_done words tree command config is.map is.all is.is_report.strict of checked.holds checked.is_traced is.is_report.says (sym is.is_report.is.status ∙ zero)) same

  pub check_ends : Ends report.status report.text.items out out_after result → out.faults ≤ out_after.faults → EndsAs words before after out out_after result
  check_ends told more =
      ends_as words before after out out_after result report.status lines (λ none. is.looks.tree ∙ none) (served_told before.holds after.holds is.looks.tree is_config.told is.told) report_says
      (subst (λ text. Ends report.status text out out_after result) is.is_report.is.text told) is.looks.later (let w = is.looks.writes in omega (arith, w)) more
