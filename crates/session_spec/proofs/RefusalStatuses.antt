-- No refusal has the status of a file to which no chain leads.
use Rattle.std.proofs.Common.{◌≢◌, ℕ, arith}
use Rattle.page_spec.specs.declared.kinds.InjectFault.{InjectFault}
use Rattle.page_spec.specs.declared.kinds.InjectFault.TheVariants as inject
use Rattle.trace_spec.specs.declared.TraceFault.{TraceFault}
use Rattle.trace_spec.specs.declared.TraceFault.TheVariants as trace
use Rattle.config_spec.specs.declared.ConfigFault.{ConfigFault}
use Rattle.config_spec.specs.declared.ConfigFault.TheVariants as config
use Rattle.config_spec.specs.declared.ProjectFault.{ProjectFault}
use Rattle.config_spec.specs.declared.ProjectFault.TheVariants as project
use Rattle.generator_spec.specs.declared.MapFileFault.{MapFileFault}
use Rattle.generator_spec.specs.declared.MapFileFault.TheVariants as map_file
use Rattle.generator_spec.specs.declared.PageFault.{PageFault}
use Rattle.generator_spec.specs.declared.PageFault.TheVariants as page
use Rattle.generator_spec.specs.declared.Refusal.{Refusal}
use Rattle.generator_spec.specs.declared.Refusal.TheVariants as refusal
use Rattle.generator_spec.specs.Lines.{trace_status, inject_status, page_status, map_file_status, project_status}
use Rattle.generator_spec.specs.Lines.{config_status, status_of}

abbrev IsOther : ℕ → Type 0
IsOther status = status ≢ 10

one : IsOther 1
one e = omega (arith, e)

two : IsOther 2
two e = omega (arith, e)

three : IsOther 3
three e = omega (arith, e)

four : IsOther 4
four e = omega (arith, e)

seven : IsOther 7
seven e = omega (arith, e)

eight : IsOther 8
eight e = omega (arith, e)

of_trace : (fault : TraceFault) → trace_status fault ≢ 10
of_trace (trace.Unservable path url) = one
of_trace (trace.Refused referrer specifier why) = one
of_trace (trace.Clash referrer first first_to second second_to) = one
of_trace (trace.NotModule path why) = one
of_trace (trace.Limit which) = three
of_trace trace.ReadFault = four
of_trace trace.Memory = eight

of_injecting : (fault : InjectFault) → inject_status fault ≢ 10
of_injecting (inject.PageUnclear at) = one
of_injecting (inject.TwoMaps at) = one
of_injecting inject.NoPlace = one
of_injecting inject.Memory = eight

of_page : (fault : PageFault) → page_status fault ≢ 10
of_page page.Absent = seven
of_page page.TooLarge = three
of_page (page.KeepsMapsOut fault) = of_injecting fault

of_map_file : (fault : MapFileFault) → map_file_status fault ≢ 10
of_map_file map_file.Absent = seven
of_map_file map_file.TooLarge = three
of_map_file (map_file.NotJson at) = seven
of_map_file map_file.TooDeep = three
of_map_file (map_file.NotObject which) = seven

of_project : (fault : ProjectFault) → project_status fault ≢ 10
of_project project.Absent = seven
of_project project.TooLarge = three
of_project (project.NotProject at) = seven
of_project (project.Above which) = three

of_config : (fault : ConfigFault) → config_status fault ≢ 10
of_config (config.BadBase text) = two
of_config (config.BadPath text) = two
of_config (config.BadConditions text) = two
of_config (config.Project fault) = of_project fault
of_config config.NoBase = two
of_config (config.NotLinked entry) = one
of_config config.TooManyEntries = three

pub refusal_is_other : (why : Refusal) → status_of why ≢ 10
refusal_is_other (refusal.Config fault) = of_config fault
refusal_is_other (refusal.Limit which) = three
refusal_is_other (refusal.Page fault) = of_page fault
refusal_is_other (refusal.MapFile fault) = of_map_file fault
refusal_is_other (refusal.Trace fault) = of_trace fault
refusal_is_other (refusal.Occupied path) = one
refusal_is_other refusal.PathTooLong = three
refusal_is_other refusal.TooManySegments = three
refusal_is_other refusal.NestedTooDeep = three
