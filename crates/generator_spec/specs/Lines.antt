-- What a command says, and its exit status.
--     status_of why, line_of why      those of a refusal
--     counts_line modules requests mappings      the line of a map that is written
--     done_line all map               the same for a trace and its map
--     measure_line number modules requests mappings      the line of a measure of so many packages
--     measured_line number all map    the same for a trace and its map
--     differs_line referrer specifier wants gets      the line of a need that a map doesn't serve
--     strict_syntax_line name at      the line of a module that the statement grammar refuses at this place
--     strict_requests_line name       the line of one whose requests aren't the outline's
--     served_line needs, differences_line count       the last line of a check
--     trace_status fault      the exit status of a fault of the trace
--     inject_status, page_status, map_file_status      the same of a page that keeps maps out, of the page, of the
--         map's file
--     project_status, config_status      the same of the project's file, of the words and the project
--     trace_line fault      the line of a fault of the trace
--     inject_line, page_line, map_file_line, project_line, config_line      the same of each of those others
--     end_of_line      the byte LF, which ends each line
--     not_plain_line      the line of words that have no meaning
--     memory_line      the line for want of memory
--     read_fault_line, write_fault_line      the line of a look that failed, of a write that failed
--     limit_line which      the line of this limit, with its number
--     part_name part      the name of a part of an import map
--     module_line name requests      the line of a module, by its path with its suffix
--     vendored_line count      the line of so many copies
--     from_page_line path            the line of the page, from which a chain of requests leads
--     asks_line specifier name       the line of a request of a chain, with the module that it leads to
--     not_reached_line path          the line of a path to which no chain leads
use Rattle.std.specs.Prelude.{ℕ, List, [], ◌∷◌, ◌++◌, length, codes, unwrap_or}
use Rattle.std.specs.Fmt.{decimal}
use Rattle.tree_spec.specs.declared.LimitName.{LimitName}
use Rattle.tree_spec.specs.declared.LimitName.TheVariants.{File, Depth, Entries}
use Rattle.tree_spec.specs.Limits.{limit_number, limit_name}
use Rattle.json_spec.specs.PrintedString.{quoted}
use Rattle.grammar_spec.specs.Readings.{most_open}
use Rattle.node_spec.specs.declared.Reason.{Reason}
use Rattle.node_spec.specs.declared.Reason.TheVariants as reason
use Rattle.page_spec.specs.declared.kinds.InjectFault.{InjectFault}
use Rattle.page_spec.specs.declared.kinds.InjectFault.TheVariants.{PageUnclear, TwoMaps, NoPlace}
use Rattle.page_spec.specs.declared.kinds.InjectFault.TheVariants as page
use Rattle.import_map_spec.specs.ParsedMap.{ParsedMap}
use Rattle.import_map_spec.specs.Resolving.{Resolution, Resolved, Blocked, Bare, Backtrack, BadRest}
use Rattle.import_map_spec.specs.declared.MapPart.{MapPart}
use Rattle.import_map_spec.specs.declared.MapPart.TheVariants as part
use Rattle.layout_spec.specs.Counting.{mapping_count}
use Rattle.trace_spec.specs.declared.AskCause.{AskCause}
use Rattle.trace_spec.specs.declared.AskCause.TheVariants as cause
use Rattle.trace_spec.specs.declared.TraceFault.{TraceFault}
use Rattle.trace_spec.specs.declared.TraceFault.TheVariants.{Unservable, Refused, Clash, NotModule, Limit, ReadFault}
use Rattle.trace_spec.specs.declared.TraceFault.TheVariants.{Memory}
use Rattle.trace_spec.specs.Checks.{Gathered}
use Rattle.generator_spec.specs.declared.MapFileFault.{MapFileFault}
use Rattle.generator_spec.specs.declared.MapFileFault.TheVariants as map_file
use Rattle.config_spec.specs.declared.ConfigFault.{ConfigFault}
use Rattle.config_spec.specs.declared.ConfigFault.TheVariants.{BadBase, BadPath, BadConditions, Project}
use Rattle.config_spec.specs.declared.ConfigFault.TheVariants.{NoBase, NotLinked, TooManyEntries}
use Rattle.config_spec.specs.declared.ProjectFault.{ProjectFault}
use Rattle.config_spec.specs.declared.ProjectFault.TheVariants as project
use Rattle.generator_spec.specs.declared.PageFault.{PageFault}
use Rattle.generator_spec.specs.declared.PageFault.TheVariants.{Absent, TooLarge, KeepsMapsOut}
use Rattle.generator_spec.specs.declared.Refusal.{Refusal}
use Rattle.generator_spec.specs.declared.Refusal.TheVariants.{Page, MapFile, Trace, Occupied, PathTooLong}
use Rattle.generator_spec.specs.declared.Refusal.TheVariants.{TooManySegments, NestedTooDeep}
use Rattle.generator_spec.specs.declared.Refusal.TheVariants.{Config as Configured}
use Rattle.generator_spec.specs.declared.Refusal.TheVariants as refusal
use Rattle.vendor_spec.specs.Goals.{most_path_bytes, most_path_segments}
use Rattle.generator_spec.specs.Commands.{map_file_limit}
use Rattle.generator_spec.specs.Statuses.{refused_status, words_status, limit_status, read_fault_status, file_status}
use Rattle.generator_spec.specs.Statuses.{memory_status}

-- own: the exit statuses
abbrev pub trace_status : TraceFault → ℕ
trace_status (Unservable path url) = refused_status
trace_status (Refused referrer specifier why) = refused_status
trace_status (Clash referrer first first_to second second_to) = refused_status
trace_status (NotModule path why) = refused_status
trace_status (Limit which) = limit_status
trace_status ReadFault = read_fault_status
trace_status Memory = memory_status

abbrev pub inject_status : InjectFault → ℕ
inject_status (PageUnclear at) = refused_status
inject_status (TwoMaps at) = refused_status
inject_status NoPlace = refused_status
inject_status page.Memory = memory_status

abbrev pub page_status : PageFault → ℕ
page_status Absent = file_status
page_status TooLarge = limit_status
page_status (KeepsMapsOut fault) = inject_status fault

abbrev pub map_file_status : MapFileFault → ℕ
map_file_status map_file.Absent = file_status
map_file_status map_file.TooLarge = limit_status
map_file_status (map_file.NotJson at) = file_status
map_file_status map_file.TooDeep = limit_status
map_file_status (map_file.NotObject which) = file_status

abbrev pub project_status : ProjectFault → ℕ
project_status project.Absent = file_status
project_status project.TooLarge = limit_status
project_status (project.NotProject at) = file_status
project_status (project.Above which) = limit_status

abbrev pub config_status : ConfigFault → ℕ
config_status (BadBase text) = words_status
config_status (BadPath text) = words_status
config_status (BadConditions text) = words_status
config_status (Project fault) = project_status fault
config_status NoBase = words_status
config_status (NotLinked entry) = refused_status
config_status TooManyEntries = limit_status

abbrev pub status_of : Refusal → ℕ
status_of (Configured fault) = config_status fault
status_of (refusal.Limit which) = limit_status
status_of (Page fault) = page_status fault
status_of (MapFile fault) = map_file_status fault
status_of (Trace fault) = trace_status fault
status_of NestedTooDeep = limit_status
status_of (Occupied path) = refused_status
status_of PathTooLong = limit_status
status_of TooManySegments = limit_status

abbrev pub end_of_line : List ℕ
end_of_line = 10 ∷ []

-- own: the name of a cause
abbrev pub cause_name : AskCause → List ℕ
cause_name cause.Builtin = codes "Builtin"
cause_name cause.ExternalUrl = codes "ExternalUrl"
cause_name cause.InvalidSpecifier = codes "InvalidSpecifier"
cause_name cause.InvalidConfig = codes "InvalidConfig"
cause_name cause.InvalidTarget = codes "InvalidTarget"
cause_name cause.NotExported = codes "NotExported"
cause_name cause.ImportNotDefined = codes "ImportNotDefined"
cause_name cause.NotFound = codes "NotFound"
cause_name cause.DirectoryImport = codes "DirectoryImport"
cause_name cause.Unaskable = codes "Unaskable"
cause_name cause.TrailingSlash = codes "TrailingSlash"

-- own: why a file is no module, with a place in its text where it can't be read
abbrev pub reason_text : Reason → List ℕ
reason_text reason.CommonJs = codes "CommonJs"
reason_text reason.Json = codes "Json"
reason_text reason.Addon = codes "Addon"
reason_text reason.Other = codes "Other"
reason_text reason.Config = codes "Config"
reason_text (reason.Unreadable at) = codes "Unreadable at " ++ decimal at

-- own: two texts, each as a JSON string, behind and between these words
abbrev pub pair_line : List ℕ → List ℕ → List ℕ → List ℕ → List ℕ
pair_line front first between second = front ++ (quoted first ++ (between ++ (quoted second ++ end_of_line)))

abbrev pub not_plain_line : List ℕ
not_plain_line = codes "words: not plain" ++ end_of_line

abbrev pub memory_line : List ℕ
memory_line = codes "memory" ++ end_of_line

abbrev pub read_fault_line : List ℕ
read_fault_line = codes "fault: read" ++ end_of_line

abbrev pub write_fault_line : List ℕ
write_fault_line = codes "fault: write" ++ end_of_line

-- own: the name of a limit and its number
abbrev pub above_line : List ℕ → ℕ → List ℕ
above_line name number = codes "limit: " ++ (name ++ (codes " above " ++ (decimal number ++ end_of_line)))

abbrev pub limit_line : LimitName → List ℕ
limit_line which = above_line (limit_name which) (limit_number which)

-- own: two requests of one referrer, with what each leads to
abbrev pub clash_line : List ℕ → List ℕ → List ℕ → List ℕ → List ℕ → List ℕ
clash_line referrer first first_to second second_to =
    codes "refused: Clash from " ++ (quoted referrer ++ (codes " for " ++ (quoted first ++ (codes " to "
    ++ (quoted first_to ++ pair_line (codes " and ") second (codes " to ") second_to)))))

abbrev pub trace_line : TraceFault → List ℕ
trace_line (Unservable path url) = pair_line (codes "refused: Unservable ") path (codes " as ") (unwrap_or url [])
trace_line (Refused referrer specifier why) =
    codes "refused: " ++ (cause_name why ++ pair_line (codes " from ") referrer (codes " for ") specifier)
trace_line (Clash referrer first first_to second second_to) = clash_line referrer first first_to second second_to
trace_line (NotModule path why) =
    codes "refused: NotModule " ++ (quoted path ++ (codes " " ++ (reason_text why ++ end_of_line)))
trace_line (Limit which) = limit_line which
trace_line ReadFault = read_fault_line
trace_line Memory = memory_line

-- own: the name of a fault and its place in the page
abbrev pub place_line : List ℕ → ℕ → List ℕ
place_line name at = codes "refused: " ++ (name ++ (codes " at " ++ (decimal at ++ end_of_line)))

abbrev pub inject_line : InjectFault → List ℕ
inject_line (PageUnclear at) = place_line (codes "PageUnclear") at
inject_line (TwoMaps at) = place_line (codes "TwoMaps") at
inject_line NoPlace = codes "refused: NoPlace" ++ end_of_line
inject_line page.Memory = memory_line

abbrev pub page_line : PageFault → List ℕ
page_line Absent = codes "bad file: page absent" ++ end_of_line
page_line TooLarge = limit_line File
page_line (KeepsMapsOut fault) = inject_line fault

abbrev pub part_name : MapPart → List ℕ
part_name part.Top = codes "Top"
part_name part.Imports = codes "Imports"
part_name part.Scopes = codes "Scopes"
part_name part.Scope = codes "Scope"
part_name part.Integrity = codes "Integrity"

abbrev pub map_file_line : MapFileFault → List ℕ
map_file_line map_file.Absent = codes "bad file: map absent" ++ end_of_line
map_file_line map_file.TooLarge = above_line (limit_name File) map_file_limit
map_file_line (map_file.NotJson at) = codes "bad file: map at " ++ (decimal at ++ end_of_line)
map_file_line map_file.TooDeep = limit_line Depth
map_file_line (map_file.NotObject which) = codes "bad file: map " ++ (part_name which ++ end_of_line)

abbrev pub project_line : ProjectFault → List ℕ
project_line project.Absent = codes "bad file: project absent" ++ end_of_line
project_line project.TooLarge = limit_line File
project_line (project.NotProject at) = codes "bad file: project at " ++ (decimal at ++ end_of_line)
project_line (project.Above which) = limit_line which

-- own: a text between these words and the end of the line, as a JSON string
abbrev pub text_line : List ℕ → List ℕ → List ℕ
text_line front text = front ++ (quoted text ++ end_of_line)

abbrev pub config_line : ConfigFault → List ℕ
config_line (BadBase text) = text_line (codes "words: BadBase ") text
config_line (BadPath text) = text_line (codes "words: BadPath ") text
config_line (BadConditions text) = text_line (codes "words: BadConditions ") text
config_line (Project fault) = project_line fault
config_line NoBase = codes "words: no base" ++ end_of_line
config_line (NotLinked entry) = text_line (codes "refused: NotLinked ") entry
config_line TooManyEntries = limit_line Entries

abbrev pub line_of : Refusal → List ℕ
line_of (Configured fault) = config_line fault
line_of (refusal.Limit which) = limit_line which
line_of (Page fault) = page_line fault
line_of (MapFile fault) = map_file_line fault
line_of (Trace fault) = trace_line fault
line_of NestedTooDeep = above_line (codes "nesting") most_open
line_of (Occupied path) = text_line (codes "refused: Occupied ") path
line_of PathTooLong = above_line (codes "path") most_path_bytes
line_of TooManySegments = above_line (codes "segments") most_path_segments

-- own: so many modules, requests and mappings
abbrev pub counts_line : ℕ → ℕ → ℕ → List ℕ
counts_line modules requests mappings =
    codes "ok: " ++ (decimal modules ++ (codes " modules, "
    ++ (decimal requests ++ (codes " requests, " ++ (decimal mappings ++ (codes " mappings" ++ end_of_line))))))

abbrev pub measure_line : ℕ → ℕ → ℕ → ℕ → List ℕ
measure_line number modules requests mappings =
    codes "measure " ++ (decimal number ++ (codes ": " ++ (decimal modules ++ (codes " modules, "
    ++ (decimal requests ++ (codes " requests, " ++ (decimal mappings ++ (codes " mappings" ++ end_of_line))))))))

-- own: the modules of the trace without the page, its requests with the entries, and the mappings of the map
abbrev pub done_line : Gathered → ParsedMap → List ℕ
done_line all map = counts_line (length all.modules) (length all.targets) (mapping_count map)

abbrev pub measured_line : ℕ → Gathered → ParsedMap → List ℕ
measured_line number all map = measure_line number (length all.modules) (length all.targets) (mapping_count map)

-- ---- what a check says

-- own: a URL, or why there is none
abbrev pub got_text : Resolution → List ℕ
got_text (Resolved url) = quoted url
got_text Blocked = codes "Blocked"
got_text Bare = codes "Bare"
got_text Backtrack = codes "Backtrack"
got_text BadRest = codes "BadRest"

-- own: who asks first, how it spells what it asks for, the URL that has to come of it, and what comes
abbrev pub differs_line : List ℕ → List ℕ → List ℕ → Resolution → List ℕ
differs_line referrer specifier wants gets =
    codes "differs: from " ++ (quoted referrer ++ (codes " for " ++ (quoted specifier ++ (codes " wants "
    ++ (quoted wants ++ (codes " gets " ++ (got_text gets ++ end_of_line)))))))

-- own: the module, by path and suffix as one text, and the place in its text
abbrev pub strict_syntax_line : List ℕ → ℕ → List ℕ
strict_syntax_line name at =
    codes "strict: " ++ (quoted name ++ (codes " Syntax at " ++ (decimal at ++ end_of_line)))

abbrev pub strict_requests_line : List ℕ → List ℕ
strict_requests_line name = codes "strict: " ++ (quoted name ++ (codes " requests differ" ++ end_of_line))

abbrev pub served_line : ℕ → List ℕ
served_line needs = codes "ok: " ++ (decimal needs ++ (codes " needs served" ++ end_of_line))

abbrev pub differences_line : ℕ → List ℕ
differences_line count = decimal count ++ (codes " differences" ++ end_of_line)

-- ---- what a list says

-- own: path and suffix as one text, and the number of requests
abbrev pub module_line : List ℕ → ℕ → List ℕ
module_line name requests = quoted name ++ (codes " " ++ (decimal requests ++ end_of_line))

-- ---- what is said of copies

abbrev pub vendored_line : ℕ → List ℕ
vendored_line count = codes "vendored " ++ (decimal count ++ (codes " files" ++ end_of_line))

-- ---- what is said of a chain

abbrev pub from_page_line : List ℕ → List ℕ
from_page_line path = text_line (codes "page ") path

-- own: how the request is spelled, and path and suffix of the module as one text
abbrev pub asks_line : List ℕ → List ℕ → List ℕ
asks_line specifier name = pair_line (codes "asks ") specifier (codes " gets ") name

abbrev pub not_reached_line : List ℕ → List ℕ
not_reached_line path = text_line (codes "not reached: ") path
