-- The record of a folder, as it is answered.
--     shown_record found           the record that is given
--     IsRecorded found result      the record of what stands at a path is given
--     AllNamedApart result         in a record that is given, the keys of each object are distinct
use Rattle.std.specs.Prelude.{◌≡◌, ◌≢◌, Option, option_map, Result, IfOk, IfSome}
use Rattle.std.specs.declared.alloc.Global.{Global}
use Rattle.std.specs.declared.rc.Rc.{Rc}
use Rattle.node_spec.specs.Records.{Record}
use Rattle.node_spec.specs.ReadPackageJson.{record_of_entry}
use Rattle.package_record.specs.Shown.{record_shown}
use Rattle.package_record.specs.declared.package_json.Package.{Package}
use Rattle.tree_spec.specs.declared.Entry.{Entry}
use Rattle.package_lookup.specs.Readings.{IsNamedApart}
use Rattle.package_lookup.specs.Responses.{given, fails, no_memory, resolved}
use Rattle.package_lookup.specs.declared.fault.LookupFault.{LookupFault}

abbrev pub shown_record : Option (Rc Package Global) → Option Record
shown_record found = option_map (λ shared. record_shown shared.value) found

-- unless memory is wanting
abbrev pub IsRecorded : Option Entry → Result (Option (Rc Package Global)) LookupFault → Type 0
IsRecorded found result =
    resolved shown_record result ≢ fails no_memory → resolved shown_record result ≡ given (record_of_entry found)

abbrev pub AllNamedApart : Result (Option (Rc Package Global)) LookupFault → Type 0
AllNamedApart result = IfOk result (λ found. IfSome found (λ shared. IsNamedApart shared.value))
