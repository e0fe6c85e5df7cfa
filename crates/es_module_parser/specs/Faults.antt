-- Why a text has no outline, as the parser answers it.
--     fault_of fault      the answer for a fault of the text
--     lexical_fault at kind      the answer for a fault among its tokens
--     IsFaultOf text fault      the fault is the text's first one; want of memory says nothing of it
use Rattle.std.specs.Prelude.{ℕ, List, Err}
use Rattle.module_spec.specs.declared.request.ModuleFault as module_faults
use Rattle.module_spec.specs.declared.request.ModuleFault.TheVariants as module_fault
use Rattle.module_spec.specs.declared.token.LexKind.{LexKind}
use Rattle.module_spec.specs.Outlines as outlines
use Rattle.es_module_parser.specs.declared.fault.OutlineFault.{OutlineFault}
use Rattle.es_module_parser.specs.declared.fault.OutlineFault.TheVariants.{Unreadable, TooDeep, TooManyRequests, Memory}

abbrev pub fault_of : module_faults.ModuleFault → OutlineFault
fault_of (module_fault.Unreadable at) = Unreadable at
fault_of module_fault.TooDeep = TooDeep
fault_of module_fault.TooManyRequests = TooManyRequests

abbrev pub lexical_fault : ℕ → LexKind → OutlineFault
lexical_fault at kind = fault_of (outlines.lexical_fault at kind)

abbrev pub IsFaultOf : List ℕ → OutlineFault → Type 0
IsFaultOf text (Unreadable at) = outlines.ReadsOutline text (Err (module_fault.Unreadable at))
IsFaultOf text TooDeep = outlines.ReadsOutline text (Err module_fault.TooDeep)
IsFaultOf text TooManyRequests = outlines.ReadsOutline text (Err module_fault.TooManyRequests)
IsFaultOf text Memory = Unit {0}
