-- How a run ends.
use Rattle.std.proofs.Common.{◌≡◌, ◌≢◌, ◌≤◌, ℕ, List, [], ◌∷◌, ◌++◌, Option, Some, None, Ok, IfSome, inl, inr, refl, sym, ap, ◌∙◌, subst, arith}
use Rattle.std.specs.List.{concat}
use Rattle.std.specs.Prelude.{◌+◌, ⊤, option_map, Contains}
use Rattle.std.specs.FinMap.{get}
use Rattle.import_map_spec.specs.ParsedMap.{ParsedMap}
use Rattle.layout_spec.proofs.Contained.{contains_here}
use Rattle.trace_spec.specs.Checks.{Gathered}
use Rattle.trace_spec.specs.Traces.{traced}
use Rattle.tree_spec.specs.declared.Entry.TheVariants.{Stored}
use Rattle.tree_spec.specs.declared.LimitName.TheVariants.{Modules, Requests}
use Rattle.tree_spec.specs.Limits.{limit_number}
use Rattle.tree_spec.specs.Counts.{Rose}
use Rattle.tree_spec.specs.States.{FolderState, SinkState, OnlyLooks}
use Rattle.tree_spec.specs.Trees.{Tree, Places}
use Rattle.tree_spec.proofs.ToldStates.{if_some, if_two, if_all, looks_as}
use Rattle.page_spec.specs.declared.kinds.InjectFault.TheVariants as inject
use Rattle.layout_spec.specs.PrintedMap.{map_text}
use Rattle.trace_spec.specs.declared.TraceFault.{TraceFault}
use Rattle.trace_spec.specs.declared.TraceFault.TheVariants as fault
use Rattle.trace_spec.specs.Modules.{Config}
use Rattle.config_spec.specs.declared.Command.{Command}
use Rattle.generator_spec.specs.declared.MapFileFault.{MapFileFault}
use Rattle.generator_spec.specs.declared.MapFileFault.TheVariants as map_file
use Rattle.generator_spec.specs.declared.PageFault.{PageFault}
use Rattle.generator_spec.specs.declared.PageFault.TheVariants.{Absent, TooLarge, KeepsMapsOut}
use Rattle.generator_spec.specs.declared.Refusal.{Refusal}
use Rattle.generator_spec.specs.declared.Refusal.TheVariants as refusal
use Rattle.generator_spec.proofs.Refusals.{written_is_opened}
use Rattle.generator_spec.proofs.Configs.{command_for}
use Rattle.generator_spec.proofs.Endings.{one_line_text}
use Rattle.generator_spec.specs.Commands.{SaysCounts, HoldsMap, NewFile, new_file, map_path, Writes, Writes as writes_file}
use Rattle.generator_spec.proofs.Strictnesses.{checks_are_exact}
use Rattle.generator_spec.specs.Checking.{difference_lines, SaysOfModules, check_status}
use Rattle.generator_spec.specs.Digests.{with_digests}
use Rattle.generator_spec.specs.Generation.{Generates, map_base}
use Rattle.config_spec.specs.declared.ConfigFault.{ConfigFault}
use Rattle.config_spec.specs.declared.ConfigFault.TheVariants as config
use Rattle.config_spec.specs.declared.ProjectFault.{ProjectFault}
use Rattle.config_spec.specs.declared.ProjectFault.TheVariants as project
use Rattle.config_spec.specs.Words.{IsCommandOf, IsPlain}
use Rattle.config_spec.specs.Projects.{project_path, IsConfigOf}
use Rattle.project_spec.specs.ProjectFiles.{project_text}
use Rattle.generator_spec.specs.Lines.{page_status, map_file_status, config_status, project_status, status_of, line_of, counts_line, memory_line, read_fault_line}
use Rattle.generator_spec.specs.Outcome.{ComesTo as comes, RefusesRun as refuses_run, RefusesRun, Outcome}
use Rattle.generator_spec.specs.Ending.{AreWritten, IsGenerated, IsCarried, Linked, IsDone, MapServes, IsCounted, CanRefuse, CanRefuse as can_refuse, StopsCopying, StopsWriting, Says, Ends, EndsAs, TellsRefusal}
use Rattle.generator_spec.specs.Ending.{IsDone as done, Shaped as shaped, Says as says, Ends as ends}
use Rattle.soundness.proofs.Checked.{checked_maps_serve}
use Rattle.soundness.proofs.Smallest.{generated_is_smallest}
use Rattle.soundness.proofs.Sound.{sound, modules_are_known, one_map_in_page}
use Rattle.generation.specs.declared.stop.Stop.{Stop}
use Rattle.generation.specs.declared.stop.Stop.TheVariants as stops
use Rattle.generator_core.specs.declared.prepared.Prepared.{Prepared}
use Rattle.command_words.specs.declared.fault.WordsFault.{WordsFault}
use Rattle.command_words.specs.declared.fault.WordsFault.TheVariants as words_fault
use Rattle.command_words.specs.Faults.{Explains}
use Rattle.generator_spec.specs.Asked.{IsConfigAt}
use Rattle.generator_core.specs.Configuring.{StopsConfig, StopsConfig as stops_config}
use Rattle.generator_core.specs.Preparing.{EndsBefore, IsPrepared, IsReady, shown_files}
use Rattle.request_trace.specs.Tracing.{TakesSteps}
use Rattle.generator_core.specs.Spending.{CommandSpends, OrderSpends}
use Rattle.generator_spec.specs.Commands.{IsGenerating}
use Rattle.generator_core.specs.Writing.{AreSome, SaysWrite, TellsNoMeaning, TellsNoMeaning as tells_text, TellsStop, TellsWords, EndsWriting}
use Rattle.generator_core.specs.Writing.{SaysWrite as writes}

pub written_is : (tree : Tree) (path bytes slice : List ℕ) (told : Option Tree) → ((after : Tree) × (told ≡ Some after) × Places tree path (Stored slice) after) → slice ≡ bytes → AreWritten tree (new_file path bytes ∷ []) told
written_is tree path bytes slice told written s = record {
  after = written.0;
  is_told = written.1;
  placed = (written.0, subst (λ b. Places tree path (Stored b) written.0) s written.2, refl);
}

-- ---- statuses

trace_is_not_zero : (why : TraceFault) → status_of (refusal.Trace why) ≢ 0
trace_is_not_zero (fault.Unservable path url) = λ e. omega arith
trace_is_not_zero (fault.Refused referrer specifier why) = λ e. omega arith
trace_is_not_zero (fault.Clash referrer first first_to second second_to) = λ e. omega arith
trace_is_not_zero (fault.NotModule path why) = λ e. omega arith
trace_is_not_zero (fault.Limit which) = λ e. omega arith
trace_is_not_zero fault.ReadFault = λ e. omega arith
trace_is_not_zero fault.Memory = λ e. omega arith

page_is_not_zero : (why : PageFault) → page_status why ≢ 0
page_is_not_zero Absent = λ e. omega arith
page_is_not_zero TooLarge = λ e. omega arith
page_is_not_zero (KeepsMapsOut (inject.PageUnclear at)) = λ e. omega arith
page_is_not_zero (KeepsMapsOut (inject.TwoMaps at)) = λ e. omega arith
page_is_not_zero (KeepsMapsOut inject.NoPlace) = λ e. omega arith
page_is_not_zero (KeepsMapsOut inject.Memory) = λ e. omega arith

map_file_is_not_zero : (why : MapFileFault) → map_file_status why ≢ 0
map_file_is_not_zero map_file.Absent = λ e. omega arith
map_file_is_not_zero map_file.TooLarge = λ e. omega arith
map_file_is_not_zero (map_file.NotJson at) = λ e. omega arith
map_file_is_not_zero map_file.TooDeep = λ e. omega arith
map_file_is_not_zero (map_file.NotObject which) = λ e. omega arith

project_is_not_zero : (why : ProjectFault) → project_status why ≢ 0
project_is_not_zero project.Absent = λ e. omega arith
project_is_not_zero project.TooLarge = λ e. omega arith
project_is_not_zero (project.NotProject at) = λ e. omega arith
project_is_not_zero (project.Above which) = λ e. omega arith

config_is_not_zero : (why : ConfigFault) → config_status why ≢ 0
config_is_not_zero (config.BadBase text) = λ e. omega arith
config_is_not_zero (config.BadPath text) = λ e. omega arith
config_is_not_zero (config.BadConditions text) = λ e. omega arith
config_is_not_zero (config.Project why) = project_is_not_zero why
config_is_not_zero config.NoBase = λ e. omega arith
config_is_not_zero (config.NotLinked entry) = λ e. omega arith
config_is_not_zero config.TooManyEntries = λ e. omega arith

refusal_is_not_zero : (why : Refusal) → status_of why ≢ 0
refusal_is_not_zero (refusal.Config why) = config_is_not_zero why
refusal_is_not_zero (refusal.Limit which) = λ e. omega arith
refusal_is_not_zero (refusal.Page why) = page_is_not_zero why
refusal_is_not_zero (refusal.MapFile why) = map_file_is_not_zero why
refusal_is_not_zero (refusal.Trace why) = trace_is_not_zero why
refusal_is_not_zero (refusal.Occupied path) = λ e. omega arith
refusal_is_not_zero refusal.PathTooLong = λ e. omega arith
refusal_is_not_zero refusal.TooManySegments = λ e. omega arith
refusal_is_not_zero refusal.NestedTooDeep = λ e. omega arith

-- ---- what was generated and written serves

record CarriedBy (command : Command) (map : List ℕ) (files : List NewFile) : Type 0 where
  carrier : NewFile
  is_written : Contains files carrier
  is_carried : IsCarried command map carrier

abbrev project_file : Config → List NewFile
project_file config = new_file project_path (project_text config) ∷ []

carried : (tree : Tree) (config : Config) (map : List ℕ) (command : Command) (files : List NewFile) → Generates tree config map → Writes tree config map command files → CarriedBy command map files
carried tree config map command files generates writes_file.linked = record { carrier = new_file map_path map; is_written = contains_here (new_file map_path map) (project_file config); is_carried = refl }
carried tree config map command files generates writes_file.unlinked = record { carrier = new_file map_path map; is_written = contains_here (new_file map_path map) (project_file config); is_carried = refl }
carried tree config map command files generates writes_file.refreshed = record { carrier = new_file map_path map; is_written = contains_here (new_file map_path map) []; is_carried = refl }
carried tree config map command files generates (writes_file.in_page page new is i) = record { carrier = _; is_written = contains_here (new_file config.page new) []; is_carried = one_map_in_page tree config map page new generates i }

linked : (words : List (List ℕ)) (tree : Tree) (map line : List ℕ) (files : List NewFile) (told : Option Tree) → (is : IsGenerated words tree map line) → Writes tree is.config map is.command files → AreWritten tree files told → Linked words tree told
linked words tree map line files told is wrote written =
    let found = carried tree is.config map is.command files is.generates wrote in
    record {
      map = map;
      line = line;
      generated = is;
      serves = sound tree is.config map is.generates;
      knows = modules_are_known tree is.config map is.generates;
      smallest = generated_is_smallest tree is.config map is.generates;
      files = files;
      writes = wrote;
      carrier = found.carrier;
      is_written = found.is_written;
      carried = found.is_carried;
      written = written;
    }

-- ---- a check without a difference

pub serves_where_done :
    (words : List (List ℕ)) (tree : Tree) (command : Command) (config : Config) (map : ParsedMap) (all : Gathered)
    (strict : List (List ℕ)) → IsConfigOf words tree command config → HoldsMap tree config map
    → traced (get tree) config ≡ Ok all → SaysOfModules all command strict
    → check_status (difference_lines map all ++ strict) ≡ 0 → MapServes words tree
serves_where_done words tree command config map all strict is holds traces says_so zero =
    let exact = (checks_are_exact tree config command map all strict traces says_so).0 zero in
    record {
      command = command;
      config = config;
      is_config = is;
      agree = exact.1;
      text = holds.text;
      stands = holds.stands;
      serves =
          checked_maps_serve tree config all holds.reads.base holds.text map traces holds.reads.named holds.reads.parses
          exact.0;
    }

-- ---- an end that is said is the end of a run

pub status_done : (status : ℕ) (line : List ℕ) (out out_after : SinkState) (result : ℕ) → Ends status line out out_after result → result ≡ 0 → status ≡ 0
status_done status line out out_after result (ends.said is given quiet) zero = sym is ∙ zero
status_done status line out out_after result (ends.output_fault is gives rose) zero = absurd (omega arith)

-- what a status of success would say
abbrev Done : List (List ℕ) → FolderState → FolderState → ℕ → Type 0
Done words before after status = status ≡ 0 → IfSome before.holds (λ tree. IsDone words tree after.holds)

pub ends_as : (words : List (List ℕ)) (before after : FolderState) (out out_after : SinkState) (result status : ℕ) (lines : List (List ℕ)) → (before.holds ≡ None → after.holds ≡ None) → Done words before after status → Says words before after status lines → Ends status (concat lines) out out_after result
    → before.look_faults ≤ after.look_faults → before.write_faults ≤ after.write_faults → out.faults ≤ out_after.faults → EndsAs words before after out out_after result
ends_as words before after out out_after result status lines untold is_done says_so ends_so looks writes output = record {
  headline = λ zero. is_done (status_done status (concat lines) out out_after result ends_so zero);
  status = status;
  lines = lines;
  says = says_so;
  ends = ends_so;
  written = is_done;
  untold = untold;
  looks_later = looks;
  writes_later = writes;
  output_later = output;
}

-- the same where one line is said
pub ends_by_line : (words : List (List ℕ)) (before after : FolderState) (out out_after : SinkState) (result status : ℕ) (line : List ℕ) → (before.holds ≡ None → after.holds ≡ None) → Done words before after status → Says words before after status (line ∷ []) → Ends status line out out_after result
    → before.look_faults ≤ after.look_faults → before.write_faults ≤ after.write_faults → out.faults ≤ out_after.faults → EndsAs words before after out out_after result
ends_by_line words before after out out_after result status line untold is_done says_so ends_so looks writes output =
    ends_as words before after out out_after result status (line ∷ []) untold is_done says_so (subst (λ text. Ends status text out out_after result) (sym (one_line_text line)) ends_so) looks writes output

-- ---- behind a look

says_from : (words : List (List ℕ)) (before middle after : FolderState) → middle.holds ≡ before.holds → middle.look_faults ≡ before.look_faults → middle.write_faults ≡ before.write_faults → (status : ℕ) (lines : List (List ℕ)) → Says words middle after status lines → Says words before after status lines
says_from words before middle after h l w status lines (says.outcome shape told looks writes) =
    says.outcome shape (subst (λ held. IfSome held (λ tree. (later : Tree) × Outcome words tree status lines later × (after.holds ≡ Some later))) h told) (looks ∙ l) (writes ∙ w)
says_from words before middle after h l w status lines (says.memory s t held looks writes) = says.memory s t (held ∙ h) (looks ∙ l) (writes ∙ w)
says_from words before middle after h l w status lines (says.read_fault command is s t held rose writes) =
    says.read_fault command is s t (held ∙ h) (subst (λ n. Rose n after.look_faults) l rose) (writes ∙ w)
says_from words before middle after h l w status lines (says.write_fault line counted stops s t looks rose) =
    says.write_fault line counted (subst (λ held. IfSome held (λ tree. StopsWriting words tree line after.holds)) h stops) s t (looks ∙ l) (subst (λ n. Rose n after.write_faults) w rose)
says_from words before middle after h l w status lines (says.copy_fault able stops s t looks rose) =
    says.copy_fault able (subst (λ held. IfSome held (λ tree. StopsCopying words tree after.holds)) h stops) s t (looks ∙ l) (subst (λ n. Rose n after.write_faults) w rose)

pub ends_from : (words : List (List ℕ)) (before middle after : FolderState) (out out_after : SinkState) (result : ℕ) → OnlyLooks before middle ⊥ → EndsAs words middle after out out_after result → EndsAs words before after out out_after result
ends_from words before middle after out out_after result looked is =
    let l : middle.look_faults ≡ before.look_faults = looked.quiet (λ e. e) in
    let later = is.looks_later in
    let more = is.writes_later in
    let w = looked.writes in
    record {
      headline = λ zero. subst (λ held. IfSome held (λ tree. IsDone words tree after.holds)) looked.tree (is.headline zero);
      status = is.status;
      lines = is.lines;
      says = says_from words before middle after looked.tree l w is.status is.lines is.says;
      ends = is.ends;
      written = λ zero. subst (λ held. IfSome held (λ tree. IsDone words tree after.holds)) looked.tree (is.written zero);
      untold = λ none. is.untold (looked.tree ∙ none);
      looks_later = omega (arith, later, l);
      writes_later = omega (arith, more, w);
      output_later = is.output_later;
    }

-- ---- steps

pub refusal_not_done : (why : Refusal) (out out_after : SinkState) (result : ℕ) → TellsRefusal why out out_after result → result ≢ 0
refusal_not_done why out out_after result (inl told) zero = refusal_is_not_zero why (status_done (status_of why) (line_of why) out out_after result told zero)
refusal_not_done why out out_after result (inr memory) zero = let e = status_done 8 memory_line out out_after result memory zero in absurd (omega (arith, e))

-- a stop isn't answered by 0
pub stop_not_done : (stop : Stop) (out out_after : SinkState) (result : ℕ) → TellsStop stop out out_after result → result ≢ 0
stop_not_done (stops.Refused why) out out_after result told zero = refusal_not_done why out out_after result told zero
stop_not_done stops.ReadFault out out_after result told zero = let e = status_done 4 read_fault_line out out_after result told zero in absurd (omega (arith, e))
stop_not_done stops.Memory out out_after result told zero = let e = status_done 8 memory_line out out_after result told zero in absurd (omega (arith, e))

-- where 0 is answered, the line of a map went out
said_done : (prepared : Prepared) (before after : FolderState) (out out_after : SinkState) (result : ℕ) → EndsWriting prepared before after out out_after result → result ≡ 0 → out_after.got ≡ option_map (λ front. front ++ counts_line prepared.modules prepared.requests prepared.mappings) out.got
said_done prepared before after out out_after result wrote zero = by wrote.says wrote.ends
  where
    by : SaysWrite before after (shown_files prepared) (counts_line prepared.modules prepared.requests prepared.mappings) wrote.status wrote.line → Ends wrote.status wrote.line out out_after result → out_after.got ≡ option_map (λ front. front ++ counts_line prepared.modules prepared.requests prepared.mappings) out.got
    by (writes.written s l placed w) (ends.said is given quiet) = given ∙ ap (λ line. option_map (λ front. front ++ line) out.got) l
    by (writes.write_fault s l told rose) (ends.said is given quiet) = let e = sym s ∙ (sym is ∙ zero) in absurd (omega (arith, e))
    by (writes.memory s l h w) (ends.said is given quiet) = let e = sym s ∙ (sym is ∙ zero) in absurd (omega (arith, e))
    by says_so (ends.output_fault is gives rose) = let e = sym is ∙ zero in absurd (omega (arith, e))

pub done_spends :
    (prepared : Prepared) (before after : FolderState) (out out_after : SinkState) (result steps later : ℕ) → EndsWriting prepared before after out out_after result
    → TakesSteps {A = Prepared} {E = Stop} (Ok prepared) (λ found. found.modules + found.requests) steps later → CommandSpends ⊤ out out_after result steps later
done_spends prepared before after out out_after result steps later wrote takes = record {
  told = λ _ zero. record {
    modules = prepared.modules;
    requests = prepared.requests;
    mappings = prepared.mappings;
    said = said_done prepared before after out out_after result wrote zero;
    few = takes.counted;
  };
  bounded = takes.bounded;
}

pub stop_spends :
    (generates : Type 0) (stop : Stop) (out out_after : SinkState) (result steps later : ℕ) → TellsStop stop out out_after result → later ≤ steps + (limit_number Modules + limit_number Requests)
    → CommandSpends generates out out_after result steps later
stop_spends generates stop out out_after result steps later told bounded = record {
  told = λ _ zero. absurd (stop_not_done stop out out_after result told zero);
  bounded = bounded;
}

-- a command takes no more steps than it may, where its modules aren't checked
pub order_spends :
    (command : Command) (out out_after : SinkState) (result steps later : ℕ)
    → CommandSpends (IsGenerating command) out out_after result steps later
    → OrderSpends command out out_after result steps later
order_spends command out out_after result steps later spends =
    let bounded = spends.bounded in
    record { told = spends.told; bounded = λ other. bounded; strictly = omega (arith, bounded) }

-- ---- words that are refused

pub some_same : {A : Type 0} (told : Option A) (P : A → Type 0) → ((x : A) → told ≡ Some x → P x) → IfSome told P
some_same None P f = tt
some_same (Some x) P f = f x refl

-- a status that isn't that of success says nothing of it
none_done : (words : List (List ℕ)) (before after : FolderState) (status : ℕ) → status ≢ 0 → Done words before after status
none_done words before after status other zero = absurd (other zero)

pub memory_ends : (words : List (List ℕ)) (before after : FolderState) (out out_after : SinkState) (result : ℕ) → after.holds ≡ before.holds → after.look_faults ≡ before.look_faults → after.write_faults ≡ before.write_faults → Ends 8 memory_line out out_after result
    → out.faults ≤ out_after.faults → EndsAs words before after out out_after result
memory_ends words before after out out_after result h l w memory later =
    ends_by_line words before after out out_after result 8 memory_line (λ e. h ∙ e) (none_done words before after 8 (λ e. omega arith)) (says.memory refl refl h l w) memory (omega (arith, l)) (omega (arith, w)) later

-- a refusal writes nothing
refusal_told : (words : List (List ℕ)) (why : Refusal) (told after : Option Tree) → after ≡ told → IfSome told (λ tree. RefusesRun words tree why)
    → IfSome told (λ tree. (later : Tree) × Outcome words tree (status_of why) (line_of why ∷ []) later × (after ≡ Some later))
refusal_told words why None after same refuses = tt
refusal_told words why (Some tree) after same refuses = (tree, record { files = []; comes = comes.refused why refuses refl refl refl; placed = refl }, same)

pub refusal_ends : (words : List (List ℕ)) (before after : FolderState) (out out_after : SinkState) (result : ℕ) (why : Refusal) → IfSome before.holds (λ tree. RefusesRun words tree why) → CanRefuse words why → OnlyLooks before after ⊥ → TellsRefusal why out out_after result → out.faults ≤ out_after.faults → EndsAs words before after out out_after result
refusal_ends words before after out out_after result why refuses can looks (inl told) later =
    let writes = looks.writes in
    ends_by_line words before after out out_after result (status_of why) (line_of why) (λ none. looks.tree ∙ none) (none_done words before after (status_of why) (refusal_is_not_zero why))
    (says.outcome (shaped.refused why can refl refl) (refusal_told words why before.holds after.holds looks.tree refuses) (looks.quiet (λ e. e)) writes) told looks.later (omega (arith, writes)) later
refusal_ends words before after out out_after result why refuses can looks (inr lacks) later = memory_ends words before after out out_after result looks.tree (looks.quiet (λ e. e)) looks.writes lacks later

pub read_fault_ends : (words : List (List ℕ)) (command : Command) → IsCommandOf words command → (before after : FolderState) (out out_after : SinkState) (result : ℕ) → after.holds ≡ before.holds → Rose before.look_faults after.look_faults → before.look_faults ≤ after.look_faults → after.write_faults ≡ before.write_faults → Ends 4 read_fault_line out out_after result → out.faults ≤ out_after.faults → EndsAs words before after out out_after result
read_fault_ends words command is before after out out_after result h rose later w told more =
    ends_by_line words before after out out_after result 4 read_fault_line (λ none. h ∙ none) (none_done words before after 4 (λ e. omega arith)) (says.read_fault command is refl refl h rose w) told later (omega (arith, w)) more

-- ---- words that are refused

pub still : (state : FolderState) → OnlyLooks state state ⊥
still state = record { tree = refl; writes = refl; later = omega arith; cause = λ e. absurd e; quiet = λ e. refl }

text_told : (words : List (List ℕ)) (text : List ℕ) → (IsPlain words → ⊥) → (told : Option Tree) → IfSome told (λ tree. (later : Tree) × Outcome words tree 2 (text ∷ []) later × (told ≡ Some later))
text_told words text not_plain None = tt
text_told words text not_plain (Some tree) = (tree, record { files = []; comes = comes.not_plain text not_plain refl refl refl; placed = refl }, refl)

text_ends : (words : List (List ℕ)) (state : FolderState) (out out_after : SinkState) (result : ℕ) → (IsPlain words → ⊥) → TellsNoMeaning out out_after result → out.faults ≤ out_after.faults → EndsAs words state state out out_after result
text_ends words state out out_after result not_plain (tells_text.text text told) later =
    ends_by_line words state state out out_after result 2 text (λ e. e) (none_done words state state 2 (λ e. omega arith))
    (says.outcome (shaped.not_plain text not_plain refl refl) (text_told words text not_plain state.holds) refl refl) told (omega arith) (omega arith) later

pub words_end : (words : List (List ℕ)) (state : FolderState) (out out_after : SinkState) (result : ℕ) (fault : WordsFault) → Explains words fault → TellsWords fault out out_after result → out.faults ≤ out_after.faults → EndsAs words state state out out_after result
words_end words state out out_after result (words_fault.Told text) why told later = text_ends words state out out_after result why told later
words_end words state out out_after result words_fault.NotPlain why told later = text_ends words state out out_after result why told later
words_end words state out out_after result (words_fault.Refused fault) why told later =
    refusal_ends words state state out out_after result (refusal.Config fault) (if_all state.holds (λ tree. refuses_run.by_words fault why)) (can_refuse.by_words fault why) (still state) told later
words_end words state out out_after result words_fault.Memory why told later = memory_ends words state state out out_after result refl refl refl told later

-- ---- no config

quiet_looks : (P : Type 0) (before after : FolderState) → (P → ⊥) → OnlyLooks before after P → OnlyLooks before after ⊥
quiet_looks P before after none looks = looks_as before after (λ e. absurd e) none looks

pub config_stop_end : (words : List (List ℕ)) (command : Command) → IsCommandOf words command → (before after : FolderState) (out out_after : SinkState) (result : ℕ) (stop : Stop) → StopsConfig words before after stop → TellsStop stop out out_after result → out.faults ≤ out_after.faults → EndsAs words before after out out_after result
config_stop_end words command is before after out out_after result stop (stops_config.refused fault same refuses can looks) told later =
    refusal_ends words before after out out_after result (refusal.Config fault) (if_some before.holds (λ tree because. refuses_run.by_project fault because) refuses) (can_refuse.by_project fault can) looks (subst (λ s. TellsStop s out out_after result) same told) later
config_stop_end words command is before after out out_after result stop (stops_config.read_fault same looks) told later =
    read_fault_ends words command is before after out out_after result looks.tree (looks.cause same) looks.later looks.writes (subst (λ s. TellsStop s out out_after result) same told) later
config_stop_end words command is before after out out_after result stop (stops_config.memory same looks) told later =
    memory_ends words before after out out_after result looks.tree (looks.quiet (λ e. e)) looks.writes (subst (λ s. TellsStop s out out_after result) same told) later

-- ---- a command that is stopped before its write

module _ (words : List (List ℕ)) (command : Command) (config : Config) (before after : FolderState) (out out_after : SinkState) (result : ℕ) (is_config : IsConfigAt words command config before) where
  pub stop_end : (stop : Stop) → EndsBefore command config before after stop → TellsStop stop out out_after result → out.faults ≤ out_after.faults → EndsAs words before after out out_after result
  stop_end (stops.Refused why) is told more =
      refusal_ends words before after out out_after result why (if_two before.holds (λ tree of refuses. refuses_run.by_tree command config why of refuses) is_config.told is.refused) (can_refuse.by_tree command config why is_config.can is.kind)
      (quiet_looks (stops.Refused why ≡ stops.ReadFault) before after (λ e. cc) is.looks) told more
  stop_end stops.ReadFault is told more = read_fault_ends words command (command_for words command config is_config.can) before after out out_after result is.looks.tree (is.looks.cause refl) is.looks.later is.looks.writes told more
  stop_end stops.Memory is told more = memory_ends words before after out out_after result is.looks.tree (is.looks.quiet (λ e. cc)) is.looks.writes told more

-- ---- files that are written

module _ (words : List (List ℕ)) (command : Command) (config : Config) (before middle after : FolderState) (out out_after : SinkState) (result : ℕ) (prepared : Prepared) (counting : SaysCounts command) (is_config : IsConfigAt words command config before) (is : IsReady command config before middle prepared) (wrote : EndsWriting prepared middle after out out_after result) where
  abbrev new_here : List NewFile
  new_here = shown_files prepared

  abbrev done_here : List ℕ
  done_here = counts_line prepared.modules prepared.requests prepared.mappings

  quiet : middle.look_faults ≡ before.look_faults
  quiet = is.looks.quiet (λ e. e)

  looks : after.look_faults ≡ before.look_faults
  looks = wrote.looks ∙ quiet

  counted : IsCounted words done_here
  counted = record { command = command; config = config; is_config = is_config.can; counting = counting; modules = prepared.modules; requests = prepared.requests; mappings = prepared.mappings; says = refl }

  generated_of : (tree : Tree) → IsConfigOf words tree command config → (ready : IsPrepared command config tree prepared) → IsGenerated words tree (map_text (map_base config) (with_digests config ready.all ready.layout)) done_here
  generated_of tree of ready = record {
    command = command;
    config = config;
    is_config = of;
    page_is_file = is.page_is_file;
    opens = written_is_opened tree config (map_text (map_base config) (with_digests config ready.all ready.layout)) new_here command ready.writes;
    generates = record { all = ready.all; is_traced = ready.is_traced; few = ready.few; layout = ready.layout; is_fewest = ready.is_fewest; text = refl; within = ready.within };
    says = λ i. counts_line (ready.modules i) (ready.requests i) (ready.mappings i);
  }

  written_told : (held told : Option Tree) → IfSome held (λ tree. IsConfigOf words tree command config) → IfSome held (λ tree. IsPrepared command config tree prepared) → IfSome held (λ tree. AreWritten tree new_here told)
      → IfSome held (λ tree. (later : Tree) × Outcome words tree 0 (done_here ∷ []) later × (told ≡ Some later))
  unfolding generated_of
  written_told None told of ready written = tt
  written_told (Some tree) told of ready written =
      let so = generated_of tree of ready in
      (written.after, record { files = new_here; comes = comes.written command config (map_text (map_base config) (with_digests config ready.all ready.layout)) of so.generates ready.writes refl (ap (λ line. line ∷ []) so.says); placed = written.placed }, written.is_told)

  linked_told : (held told : Option Tree) → IfSome held (λ tree. IsConfigOf words tree command config) → IfSome held (λ tree. IsPrepared command config tree prepared) → IfSome held (λ tree. AreWritten tree new_here told) → IfSome held (λ tree. IsDone words tree told)
  unfolding generated_of
  linked_told None told of ready written = tt
  linked_told (Some tree) told of ready written =
      done.linked (linked words tree (map_text (map_base config) (with_digests config ready.all ready.layout)) done_here new_here told (generated_of tree of ready) ready.writes written)

  -- those before the one that failed were written
  stops_told : (held told : Option Tree) → IfSome held (λ tree. IsConfigOf words tree command config) → IfSome held (λ tree. IsPrepared command config tree prepared) → IfSome held (λ tree. AreSome new_here tree told) → IfSome held (λ tree. StopsWriting words tree done_here told)
  unfolding generated_of
  stops_told None told of ready some = tt
  stops_told (Some tree) told of ready some = record {
    map = map_text (map_base config) (with_digests config ready.all ready.layout);
    generated = generated_of tree of ready;
    serves = sound tree config (map_text (map_base config) (with_digests config ready.all ready.layout)) (generated_of tree of ready).generates;
    knows = modules_are_known tree config (map_text (map_base config) (with_digests config ready.all ready.layout)) (generated_of tree of ready).generates;
    smallest = generated_is_smallest tree config (map_text (map_base config) (with_digests config ready.all ready.layout)) (generated_of tree of ready).generates;
    files = new_here;
    writes = ready.writes;
    count = some.count;
    fewer = some.fewer;
    written = some.written;
  }

  module _ (status : ℕ) (line : List ℕ) where
    at_start : (P : Tree → Type 0) → IfSome middle.holds P → IfSome before.holds P
    at_start P there = subst (λ holds. IfSome holds P) is.looks.tree there

    write_says : SaysWrite middle after new_here done_here status line → Says words before after status (line ∷ [])
    write_says (writes.written s l placed w) =
        subst (λ n. Says words before after n (line ∷ [])) (sym s) (subst (λ t. Says words before after 0 (t ∷ [])) (sym l)
        (says.outcome (shaped.done done_here refl refl counted)
        (written_told before.holds after.holds is_config.told is.is_prepared (at_start (λ tree. AreWritten tree new_here after.holds) placed)) looks (w ∙ is.looks.writes)))
    write_says (writes.write_fault s l some rose) =
        says.write_fault done_here counted (stops_told before.holds after.holds is_config.told is.is_prepared (at_start (λ tree. AreSome new_here tree after.holds) some)) s (ap (λ t. t ∷ []) l) looks (subst (λ n. Rose n after.write_faults) is.looks.writes rose)
    write_says (writes.memory s l h w) = says.memory s (ap (λ t. t ∷ []) l) (h ∙ is.looks.tree) looks (w ∙ is.looks.writes)

    write_done : SaysWrite middle after new_here done_here status line → Done words before after status
    write_done (writes.written s l placed w) zero = linked_told before.holds after.holds is_config.told is.is_prepared (at_start (λ tree. AreWritten tree new_here after.holds) placed)
    write_done (writes.write_fault s l some rose) zero = let e = sym s ∙ zero in absurd (omega (arith, e))
    write_done (writes.memory s l h w) zero = let e = sym s ∙ zero in absurd (omega (arith, e))

  pub write_end : EndsAs words before after out out_after result
  write_end =
      ends_by_line words before after out out_after result wrote.status wrote.line (λ none. wrote.untold (is.looks.tree ∙ none)) (write_done wrote.status wrote.line wrote.says) (write_says wrote.status wrote.line wrote.says) wrote.ends
      (omega (arith, looks)) (subst (λ n. n ≤ after.write_faults) is.looks.writes wrote.writes) wrote.output
