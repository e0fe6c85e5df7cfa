-- What was read of a package.json that is held.
--     outcome_of reading           the record, or the reason for having none
--     IsNamedApart found         the keys of each object in `exports` and `imports` are distinct, and their own indexed
--     IsReadingOf look reading     it was read from the bytes of this look
--     AreReadingsOf look reading   the same, where it was read
use Rattle.std.specs.Prelude.{◌≡◌, ℕ, true, false, List, Option, Result, Ok, Err, ⊤, IfSome}
use Rattle.node_spec.specs.Records.{Record, RecordFault, InvalidRecord, DeepRecord, ReadsRecord}
use Rattle.package_record.specs.Indexed.{IsSubpaths}
use Rattle.package_record.specs.Shown.{record_shown}
use Rattle.package_record.specs.declared.package_json.Package.{Package}
use Rattle.tree_spec.specs.declared.Look.{Look}
use Rattle.tree_spec.specs.declared.Look.TheVariants.{File}
use Rattle.package_lookup.specs.declared.held.Reading.{Reading}
use Rattle.package_lookup.specs.declared.held.Reading.TheVariants.{Found, NotWellFormed, TooDeep}

abbrev pub outcome_of : Reading → Result Record RecordFault
outcome_of (Found shared) = Ok (record_shown shared.value)
outcome_of NotWellFormed = Err InvalidRecord
outcome_of TooDeep = Err DeepRecord

pub record IsNamedApart (found : Package) : Type 0 where
  pub exports : IsSubpaths false found.exports
  pub imports : IsSubpaths true found.imports

abbrev pub AreNamedApart : Reading → Type 0
AreNamedApart (Found shared) = IsNamedApart shared.value
AreNamedApart NotWellFormed = ⊤
AreNamedApart TooDeep = ⊤

pub record IsReadingOf (look : Look) (reading : Reading) : Type 0 where
  pub read : (bytes : List ℕ) → look ≡ File bytes → ReadsRecord bytes (outcome_of reading)
  pub named : AreNamedApart reading

abbrev pub AreReadingsOf : Look → Option Reading → Type 0
AreReadingsOf look reading = IfSome reading (IsReadingOf look)
