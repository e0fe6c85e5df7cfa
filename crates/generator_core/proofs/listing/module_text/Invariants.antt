use Rattle.std.proofs.Common.{◌≡◌, ◌++◌}
use Rattle.std.specs.List.{concat}
use Rattle.generator_spec.specs.Listing.{list_lines}
use Rattle.generator_core.proofs.Listings.{lines_from}
use Rattle.generator_core.proofs.listing.module_text.Given as goal

-- the lines that are left stand behind those that are there
abbrev pub invariant-loop-place : goal.invariant-loop-place
invariant-loop-place l = concat (list_lines l.fn.trace.gathered) ≡ l.text.items ++ lines_from l.fn.trace.gathered l.place
