-- What was read of a package.json, and the record that is given for it.
use Rattle.std.proofs.Common.{◌≡◌, ℕ, List, Option, Some, Result, Ok, refl, sym, ap, ◌∙◌, subst}
use Rattle.std.specs.declared.alloc.Global.{Global}
use Rattle.std.specs.declared.rc.Rc.{Rc}
use Rattle.node_spec.proofs.RecordLooks.{record_is_read}
use Rattle.node_spec.specs.ReadPackageJson.{record_or_refusal}
use Rattle.node_spec.specs.Records.{ReadsRecord}
use Rattle.package_record.specs.Shown.{record_shown}
use Rattle.package_record.specs.declared.package_json.Package.{Package}
use Rattle.tree_spec.specs.declared.Entry.TheVariants.{Stored}
use Rattle.tree_spec.specs.declared.Look.{Look}
use Rattle.tree_spec.specs.declared.Look.TheVariants.{File}
use Rattle.package_lookup.specs.Readings.{outcome_of, IsNamedApart, IsReadingOf}
use Rattle.package_lookup.specs.Recorded.{shown_record, IsRecorded}
use Rattle.package_lookup.specs.Responses.{given, resolved}
use Rattle.package_lookup.specs.declared.fault.LookupFault.{LookupFault}
use Rattle.package_lookup.specs.declared.held.Reading.{Reading}
use Rattle.package_lookup.specs.declared.held.Reading.TheVariants.{Found}

pub copied : (look : Look) (one other : Rc Package Global) → other.value ≡ one.value → IsReadingOf look (Found one)
    → IsReadingOf look (Found other)
copied look one other e is = record {
  read = λ bytes f. subst (λ p. ReadsRecord bytes (Ok (record_shown p))) (sym e) (is.read bytes f);
  named = subst IsNamedApart (sym e) is.named;
}

-- the record that was read is what the asking comes to
pub read_before : (bytes : List ℕ) (reading : Reading) (result : Result (Option (Rc Package Global)) LookupFault)
    → IsReadingOf (File bytes) reading
    → resolved shown_record result ≡ given (record_or_refusal (outcome_of reading))
    → IsRecorded (Some (Stored bytes)) result
read_before bytes reading result is gives =
    λ some. gives ∙ ap (λ out. given (record_or_refusal out))
    (sym ((record_is_read bytes (outcome_of reading)).0 (is.read bytes refl)))
