-- Each text has an outcome.
use Rattle.json_spec.proofs.PlainReader.{json_sound}
use Rattle.json_spec.specs.Laws.{SomeJson}
use Rattle.json_spec.specs.PlainReader.{read_json}

pub some_json : SomeJson
some_json bytes = (read_json bytes, json_sound bytes)
