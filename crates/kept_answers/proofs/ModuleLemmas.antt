-- The sources of modules that are kept.
--     kept_so              what the table says of a module, under another name of the looks
--     source_as            the same of a source that is as this one
--     put_copy             to keep one more, under a copy of its path, leaves the table right
--     set_copy, unset_copy      and the table by its looks
use Rattle.std.proofs.Common.{◌≡◌, ℕ, List, Some, Result, Ok, subst, sym}
use Rattle.std.specs.Prelude.{bytes_eq, if◌then◌else◌, OnOk, OnErr}
use Rattle.trace_spec.specs.Questions.{module_source}
use Rattle.kept_spec.specs.Certificates.{LookSeen}
use Rattle.kept_answers.specs.Entries.{ModuleSeen, source_seen}
use Rattle.kept_answers.specs.Freshness.{module_looks, put_looks}
use Rattle.kept_answers.specs.KnownLooks.{IsKept}
use Rattle.kept_answers.specs.Tables.{modules_at, IsModuleOf, AreModules}
use Rattle.kept_answers.specs.declared.modules.KeptModules.{KeptModules}
use Rattle.kept_answers.proofs.SeenNow.{looks_set, looks_same}
use Rattle.kept_answers.proofs.TableLemmas.{put_right, one_path}

pub kept_so : (path : List ℕ) (kept : ModuleSeen) (shown : List LookSeen) → shown ≡ kept.looks → IsModuleOf path kept
    → IsKept (module_source path) (Ok (source_seen kept)) shown
kept_so path kept shown same of =
    subst (IsKept (module_source path) (Ok (source_seen kept))) (sym same) of.is

put_module : {E : Type 0} (path : List ℕ) (kept : ModuleSeen) (old new : KeptModules) (result : Result (Unit {0}) E)
    → OnOk result ((other : List ℕ) → modules_at new other
    ≡ (if bytes_eq path other then Some kept else modules_at old other))
    → OnErr result ((other : List ℕ) → modules_at new other ≡ modules_at old other) → IsModuleOf path kept
    → AreModules old → AreModules new
put_module path kept old new result set stays is are = record {
  each = put_right IsModuleOf bytes_eq path kept (modules_at old) (modules_at new) result (one_path path) set stays is
      are.each;
}

-- under a copy of the path
pub put_copy : {E : Type 0} (path copy : List ℕ) (kept : ModuleSeen) (old new : KeptModules)
    (result : Result (Unit {0}) E) → copy ≡ path
    → OnOk result ((other : List ℕ) → modules_at new other
    ≡ (if bytes_eq copy other then Some kept else modules_at old other))
    → OnErr result ((other : List ℕ) → modules_at new other ≡ modules_at old other) → IsModuleOf path kept
    → AreModules old → AreModules new
put_copy path copy kept old new result same set stays is are =
    put_module copy kept old new result set stays (subst (λ p. IsModuleOf p kept) (sym same) is) are

-- the looks of the table
pub set_copy : {E : Type 0} (path copy : List ℕ) (kept : ModuleSeen) (old new : KeptModules)
    (result : Result (Unit {0}) E) → copy ≡ path
    → OnOk result ((other : List ℕ) → modules_at new other
    ≡ (if bytes_eq copy other then Some kept else modules_at old other))
    → OnOk result ((other : List ℕ) → module_looks new other
    ≡ put_looks bytes_eq path kept.looks (module_looks old) other)
set_copy path copy kept old new result same set =
    subst (λ p. OnOk result ((other : List ℕ) → module_looks new other
    ≡ put_looks bytes_eq p kept.looks (module_looks old) other)) same
    (looks_set (λ (m : ModuleSeen). m.looks) bytes_eq copy kept (modules_at old) (modules_at new) result set)

pub unset_copy : {E : Type 0} (path : List ℕ) (kept : ModuleSeen) (old new : KeptModules)
    (result : Result (Unit {0}) E) → OnErr result ((other : List ℕ) → modules_at new other ≡ modules_at old other)
    → OnErr result ((other : List ℕ) → module_looks new other ≡ module_looks old other)
unset_copy path kept old new result same =
    looks_same (λ (m : ModuleSeen). m.looks) bytes_eq path kept (modules_at old) (modules_at new) result same
