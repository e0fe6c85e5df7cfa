use Rattle.std.proofs.Common.{subst}
use Rattle.json_spec.specs.Grammar as json
use Rattle.import_map_spec.specs.ParsedMap as parsed
use Rattle.map_parse.specs.Faults.{IsMapFault}
use Rattle.generator_core.proofs.Checkings.{no_map_read}
use Rattle.generator_core.proofs.checking.map_at.Goals as goal

pub returns-in-Err-NotJson : goal.returns-in-Err-NotJson
returns-in-Err-NotJson c = λ config at.
    no_map_read config c.args.text.now c.args.base.now (parsed.NoJson (json.NotJson c.in-Err-NotJson.at)) c.without_map.result at
    (subst (IsMapFault c.args.base.now c.args.text.now) c.in-Err-NotJson.field-0-is c.in-Err-NotJson.ensures) c.without_map.ensures

pub returns-in-Err-TooDeep : goal.returns-in-Err-TooDeep
returns-in-Err-TooDeep c = λ config at.
    no_map_read config c.args.text.now c.args.base.now (parsed.NoJson (json.TooDeep c.in-Err-TooDeep.field-0-0)) c.without_map-in-Err-TooDeep.result at
    (subst (IsMapFault c.args.base.now c.args.text.now) c.in-Err-TooDeep.field-0-is c.in-Err-TooDeep.ensures) c.without_map-in-Err-TooDeep.ensures

pub returns-in-Err-NotObject : goal.returns-in-Err-NotObject
returns-in-Err-NotObject c = λ config at.
    no_map_read config c.args.text.now c.args.base.now (parsed.NotObject c.in-Err-NotObject.which) c.without_map-in-Err-NotObject.result at
    (subst (IsMapFault c.args.base.now c.args.text.now) c.in-Err-NotObject.field-0-is c.in-Err-NotObject.ensures) c.without_map-in-Err-NotObject.ensures
