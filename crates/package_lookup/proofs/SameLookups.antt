-- A look-up refers to what it referred to.
--     same_twice             by one call and another behind it
use Rattle.std.proofs.Common.{◌∙◌}
use Rattle.package_lookup.specs.Lookups.{IsSameLookup}
use Rattle.package_lookup.specs.declared.lookup.Lookup.{Lookup}

pub same_twice : {F : Type 0} {old middle new : Lookup F} → IsSameLookup old middle → IsSameLookup middle new
    → IsSameLookup old new
same_twice first second =
    record {
      known = second.known ∙ first.known;
      folder = second.folder ∙ first.folder;
      trail = second.trail ∙ first.trail;
    }
