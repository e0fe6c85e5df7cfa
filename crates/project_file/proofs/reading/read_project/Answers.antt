use Rattle.ordered_json.proofs.IsJsonLemmas.{reads_json}
use Rattle.project_file.proofs.PartLemmas.{outcome, project_given, json_fault, deep_fault}
use Rattle.project_file.proofs.reading.read_project.Goals as goal

pub returns-in-Ok-clause-reads : goal.returns-in-Ok-clause-reads
returns-in-Ok-clause-reads c = outcome c.args.bytes.now _ c.config_of.result (reads_json c.in-Ok.ensures) c.config_of.ensures

pub returns-in-Ok-clause-project : goal.returns-in-Ok-clause-project
returns-in-Ok-clause-project c = project_given _ c.config_of.result c.config_of.ensures

pub returns-in-Err-NotJson-clause-reads : goal.returns-in-Err-NotJson-clause-reads
returns-in-Err-NotJson-clause-reads c =
    rw c.in-Err-NotJson.at-is (json_fault c.args.bytes.now c.in-Err-NotJson.at (rw c.in-Err-NotJson.field-0-is at c.in-Err-NotJson.ensures))

pub returns-in-Err-TooDeep-clause-reads : goal.returns-in-Err-TooDeep-clause-reads
returns-in-Err-TooDeep-clause-reads c = deep_fault c.args.bytes.now _ (rw c.in-Err-TooDeep.field-0-is at c.in-Err-TooDeep.ensures)
