-- One record, and no name twice in it.
use Rattle.std.proofs.Common.{ap}
use Rattle.std.proofs.lemmas.Bool.{cond_both}
use Rattle.std.specs.Prelude.{ℕ, List, bytes_eq, codes, Result, Ok, Err, IfOk}
use Rattle.json_spec.proofs.DistinctNames.{names_are_distinct}
use Rattle.json_spec.proofs.OneJson.{one_json}
use Rattle.json_spec.proofs.SomeJson.{some_json}
use Rattle.json_spec.specs.Grammar.{Fault, NotJson, TooDeep}
use Rattle.json_spec.specs.Value.{Members, no_members, a_member, HasDistinctNames, MembersHaveDistinctNames, Json, a_null, a_bool, a_number, a_text, a_list, an_object}
use Rattle.node_spec.specs.Laws.{OneRecord, SomeRecord, NamesAreDistinctIn, RecordNamesAreDistinct}
use Rattle.node_spec.specs.Records.{record_outcome, after_mark, reads_record, field}

pub one_record : OneRecord
one_record bytes some other (reads_record x r) (reads_record y s) = ap record_outcome (one_json (after_mark bytes) x y r s)

pub some_record : SomeRecord
some_record bytes = let found = some_json (after_mark bytes) in (record_outcome found.0, reads_record found.0 found.1)

field_names : (key : List ℕ) (members : Members) → MembersHaveDistinctNames members → HasDistinctNames (field key members)
field_names key no_members d = tt
field_names key (a_member name value more) d = cond_both (bytes_eq key name) _ _ HasDistinctNames (λ e. d.0) (λ e. field_names key more d.1)

outcome_names : (out : Result Json Fault) → IfOk out HasDistinctNames → IfOk (record_outcome out) NamesAreDistinctIn
outcome_names (Ok a_null) d = tt
outcome_names (Ok (a_bool b)) d = tt
outcome_names (Ok (a_number number)) d = tt
outcome_names (Ok (a_text text)) d = tt
outcome_names (Ok (a_list items)) d = tt
outcome_names (Ok (an_object fields)) d = (field_names (codes "exports") fields d.1, field_names (codes "imports") fields d.1)
outcome_names (Err (NotJson at)) d = tt
outcome_names (Err (TooDeep at)) d = tt

pub record_names_are_distinct : RecordNamesAreDistinct
record_names_are_distinct bytes out (reads_record x r) = outcome_names x (names_are_distinct (after_mark bytes) x r)
