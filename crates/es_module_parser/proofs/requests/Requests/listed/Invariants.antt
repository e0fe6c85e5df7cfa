use Rattle.std.proofs.Common.{◌≡◌, take}
use Rattle.es_module_parser.proofs.requests.Requests.listed.Given as goal

abbrev pub invariant-loop-request : goal.invariant-loop-request
invariant-loop-request l = l.items ≡ take l.request-index l.request-items
