-- The map of a copy of the files that a generation looks at.
use Rattle.trace_spec.proofs.CopiedTraces.{same_generation}
use Rattle.vendor_spec.proofs.Writes.{copied_is_copy, copied_leaves_rest}
use Rattle.generator_spec.specs.CopiedMaps.{generation_paths, CopyGenerates, VendoredGenerates}

pub copy_generates : CopyGenerates
copy_generates old copy config map is bytes is_copy generates = record {
  all = generates.all;
  is_traced = same_generation old copy config generates.all is bytes is_copy generates.is_traced;
  few = generates.few;
  layout = generates.layout;
  is_fewest = generates.is_fewest;
  text = generates.text;
  within = generates.within;
}

pub vendored_generates : VendoredGenerates
vendored_generates old after below config to pairs map is bytes to_is deep free plan writes is_below generates =
    let paths = generation_paths old config in
    let is_copy = copied_is_copy old after below to paths pairs is to_is deep free plan writes is_below in
    record {
      copy = is_copy;
      rest = copied_leaves_rest old after to paths pairs is to_is deep free plan writes;
      generates = copy_generates old below config map is bytes is_copy generates;
    }
