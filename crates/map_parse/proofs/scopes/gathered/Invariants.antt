use Rattle.std.proofs.Common.{◌≡◌, drop}
use Rattle.std.specs.FinMap.{empty}
use Rattle.import_map_spec.specs.Parsing.{scopes_onto}
use Rattle.ordered_json.specs.Lent.{lent}
use Rattle.map_parse.proofs.scopes.gathered.Given as goal

-- what is left, put onto what is there, gives the whole
abbrev pub invariant-loop-pair : goal.invariant-loop-pair
invariant-loop-pair l = scopes_onto l.base empty (lent l.pairs) ≡ scopes_onto l.base l.scopes (lent (drop l.pair-index l.pairs))
