-- What `read_package` answers, in the words of the record.
--     record_shown found      the record that it is
--     IsReadFrom bytes found      the bytes have this record, and in its `exports` and `imports` the keys of
--         each object are distinct and those of the value itself are indexed
--     IsNoRecord bytes fault      the bytes have no record, for this reason, unless no memory was found
use Rattle.std.specs.Prelude.{ℕ, List, true, false, ⊤, Ok, Err}
use Rattle.ordered_json.specs.Shown.{json_of}
use Rattle.node_spec.specs.Records.{Record, InvalidRecord, DeepRecord, ReadsRecord}
use Rattle.package_record.specs.Indexed.{IsSubpaths}
use Rattle.package_record.specs.declared.package_json.Package.{Package}
use Rattle.package_record.specs.declared.package_json.PackageFault.{PackageFault}
use Rattle.package_record.specs.declared.package_json.PackageFault.TheVariants.{InvalidConfig, TooDeep, Memory}

abbrev pub record_shown : Package → Record
record_shown found =
    record {
      name = found.name;
      kind = found.kind;
      main = found.main;
      exports = json_of found.exports.value;
      imports =
          json_of found.imports.value;
    }

pub record IsReadFrom (bytes : List ℕ) (found : Package) : Type 0 where
  pub reads : ReadsRecord bytes (Ok (record_shown found))
  pub exports : IsSubpaths false found.exports
  pub imports : IsSubpaths true found.imports

abbrev pub IsNoRecord : List ℕ → PackageFault → Type 0
IsNoRecord bytes InvalidConfig = ReadsRecord bytes (Err InvalidRecord)
IsNoRecord bytes TooDeep = ReadsRecord bytes (Err DeepRecord)
IsNoRecord bytes Memory = ⊤
