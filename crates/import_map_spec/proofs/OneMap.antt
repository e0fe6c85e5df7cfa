-- One text has one map or one first fault, and each has one.
use Rattle.std.proofs.Common.{ap, sym, ◌∙◌, refl}
use Rattle.json_spec.proofs.OneJson.{one_json}
use Rattle.json_spec.proofs.SomeJson.{some_json}
use Rattle.import_map_spec.specs.Laws.{OneMap, SomeMap}
use Rattle.import_map_spec.specs.Parsing.{map_from}

pub one_map : OneMap
one_map base bytes a c p q = p.is ∙ (ap (map_from base) (one_json bytes p.json q.json p.reads q.reads) ∙ sym q.is)

pub some_map : SomeMap
some_map base bytes = let found = some_json bytes in (map_from base found.0, record { json = found.0; reads = found.1; is = refl })
