-- Why an edit isn't prepared, by what stops it.
--     stop_of fault       a look that stops a change
--     stop_by stop        a change that stops an edit
--     stop_for stop       a generation that stops an edit
use Rattle.tree_spec.specs.declared.LookFault.{LookFault}
use Rattle.tree_spec.specs.declared.LookFault.TheVariants as look
use Rattle.generation.specs.declared.stop.Stop.{Stop}
use Rattle.generation.specs.declared.stop.Stop.TheVariants as map
use Rattle.edit_session.specs.declared.stop.ChangeStop.{ChangeStop}
use Rattle.edit_session.specs.declared.stop.ChangeStop.TheVariants as change
use Rattle.edit_session.specs.declared.stop.EditStop.{EditStop}
use Rattle.edit_session.specs.declared.stop.EditStop.TheVariants.{Change, Generation, ReadFault, Memory}

abbrev pub stop_of : LookFault → ChangeStop
stop_of look.Failed = change.ReadFault
stop_of look.Memory = change.Memory

abbrev pub stop_by : ChangeStop → EditStop
stop_by (change.Refused fault) = Change fault
stop_by change.ReadFault = ReadFault
stop_by change.Memory = Memory

abbrev pub stop_for : Stop → EditStop
stop_for (map.Refused why) = Generation why
stop_for map.ReadFault = ReadFault
stop_for map.Memory = Memory
