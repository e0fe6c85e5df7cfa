-- A record from what its text is read as.
use Rattle.std.specs.Prelude.{◌≡◌, List, ℕ, Result, Ok, Err}
use Rattle.std.proofs.Common.{subst}
use Rattle.json_spec.specs.Value.{Json, an_object, Members}
use Rattle.json_spec.specs.Grammar.{Fault, ReadsJson}
use Rattle.node_spec.specs.Records.{Record, InvalidRecord, record_of, record_in, record_outcome, after_mark, ReadsRecord, reads_record}

pub record_from : (bytes text : List ℕ) (out : Result Json Fault) → text ≡ after_mark bytes → ReadsJson text out → ReadsRecord bytes (record_outcome out)
record_from bytes text out e r = reads_record out (subst (λ xs. ReadsJson xs out) e r)

pub object_record : (bytes text : List ℕ) (value : Json) (fields : Members) (found : Record) → text ≡ after_mark bytes → ReadsJson text (Ok value) → value ≡ an_object fields → found ≡ record_of fields → ReadsRecord bytes (Ok found)
object_record bytes text value fields found e r v f = rw f (rw v at (record_from bytes text (Ok value) e r))

pub no_object : (bytes text : List ℕ) (value : Json) → text ≡ after_mark bytes → ReadsJson text (Ok value) → record_in value ≡ Err InvalidRecord → ReadsRecord bytes (Err InvalidRecord)
no_object bytes text value e r n = subst (ReadsRecord bytes) n (record_from bytes text (Ok value) e r)
