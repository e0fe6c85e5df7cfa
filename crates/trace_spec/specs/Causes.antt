-- Why a request is refused.
--     ask_cause cause      a cause of Node's, as it is shown
use Rattle.node_spec.specs.declared.Cause.{Cause}
use Rattle.node_spec.specs.declared.Cause.TheVariants as node
use Rattle.trace_spec.specs.declared.AskCause.{AskCause}
use Rattle.trace_spec.specs.declared.AskCause.TheVariants as cause

abbrev pub ask_cause : Cause → AskCause
ask_cause node.Builtin = cause.Builtin
ask_cause node.ExternalUrl = cause.ExternalUrl
ask_cause node.InvalidSpecifier = cause.InvalidSpecifier
ask_cause node.InvalidConfig = cause.InvalidConfig
ask_cause node.InvalidTarget = cause.InvalidTarget
ask_cause node.NotExported = cause.NotExported
ask_cause node.ImportNotDefined = cause.ImportNotDefined
ask_cause node.NotFound = cause.NotFound
ask_cause node.DirectoryImport = cause.DirectoryImport
