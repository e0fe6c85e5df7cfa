use Rattle.map_parse.proofs.FaultLemmas.{whole}
use Rattle.ordered_json.proofs.IsJsonLemmas.{reads_json}
use Rattle.map_parse.proofs.parse.parse_map.Goals as goal

pub returns-in-Ok : goal.returns-in-Ok
returns-in-Ok c = whole c.args.base.now c.args.bytes.now _ c.map_of_value.result (reads_json c.in-Ok.ensures) c.map_of_value.ensures
