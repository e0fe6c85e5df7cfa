-- The record of a package.json: the fields that decide how a package is resolved (Node.js, Packages: Node.js
-- package.json field definitions).
--     ReadsRecord bytes out      the file's bytes have the record, or the reason for having none, out
--     record_of members      the record of an object with these members
--     record_in value      the record of an object; no other JSON value has one
--     record_outcome read      the same of what a JSON text is read as
use Rattle.std.specs.Prelude.{ℕ, List, Option, bytes_eq, if◌then◌else◌, Some, None, codes, Result, Ok, Err, [], ◌∷◌}
use Rattle.std.specs.Prelude.{unwrap_or}
use Rattle.json_spec.specs.Grammar.{Fault, NotJson, TooDeep, ReadsJson}
use Rattle.json_spec.specs.Strings.{behind}
use Rattle.json_spec.specs.Value.{Json, a_null, Members, no_members, a_member, a_bool, a_number, a_text, a_list}
use Rattle.json_spec.specs.Value.{an_object}
use Rattle.node_spec.specs.declared.PackageKind.{PackageKind}
use Rattle.node_spec.specs.declared.PackageKind.TheVariants.{Module, CommonJs, Unstated}

-- the fields, each of them null or none where it is absent
pub record Record : Type 0 where
  pub name : Option (List ℕ)
  pub kind : PackageKind
  pub main : Option (List ℕ)
  pub exports : Json
  pub imports : Json

-- the value of an object's field (ECMAScript modules: PACKAGE_RESOLVE and others, which read a missing field and null
-- alike)
abbrev pub field : List ℕ → Members → Json
field key no_members = a_null
field key (a_member name value more) = if bytes_eq key name then value else field key more

-- Packages, "name" and "main": strings. own: a value of another kind counts as absent
abbrev pub text_in : Json → Option (List ℕ)
text_in a_null = None
text_in (a_bool b) = None
text_in (a_number number) = None
text_in (a_text text) = Some text
text_in (a_list items) = None
text_in (an_object fields) = None

-- Packages, "type": `module` and `commonjs` alone have a meaning
abbrev pub kind_of : Option (List ℕ) → PackageKind
kind_of None = Unstated
kind_of (Some text) =
    if bytes_eq text (codes "module") then Module else if bytes_eq text (codes "commonjs") then CommonJs else Unstated

abbrev pub record_of : Members → Record
record_of fields = record {
  name = text_in (field (codes "name") fields);
  kind = kind_of (text_in (field (codes "type") fields));
  main = text_in (field (codes "main") fields);
  exports = field (codes "exports") fields;
  imports = field (codes "imports") fields;
}

-- why a file has no record. `InvalidRecord`: it is no JSON text, or its value is no object (ECMAScript modules:
-- READ_PACKAGE_JSON, which speaks of JSON alone; own: the object). `DeepRecord`, own: more brackets are open at once
-- than a reader takes
pub data RecordFault : Type 0 where
  InvalidRecord : RecordFault
  DeepRecord : RecordFault

abbrev pub record_in : Json → Result Record RecordFault
record_in a_null = Err InvalidRecord
record_in (a_bool b) = Err InvalidRecord
record_in (a_number number) = Err InvalidRecord
record_in (a_text text) = Err InvalidRecord
record_in (a_list items) = Err InvalidRecord
record_in (an_object fields) = Ok (record_of fields)

abbrev pub record_outcome : Result Json Fault → Result Record RecordFault
record_outcome (Ok value) = record_in value
record_outcome (Err (NotJson at)) = Err InvalidRecord
record_outcome (Err (TooDeep at)) = Err DeepRecord

-- own: a byte order mark, U+FEFF in UTF-8, is no part of the text (RFC 8259, 8.1, lets a reader ignore it)
abbrev pub after_mark : List ℕ → List ℕ
after_mark bytes = unwrap_or (behind (239 ∷ 187 ∷ 191 ∷ []) bytes) bytes

-- ECMAScript modules: READ_PACKAGE_JSON
pub data ReadsRecord : List ℕ → Result Record RecordFault → Type 0 where
  reads_record :
      {bytes : List ℕ} (out : Result Json Fault) → ReadsJson (after_mark bytes) out
      → ReadsRecord bytes (record_outcome out)
