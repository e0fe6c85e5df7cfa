use Rattle.std.proofs.Common.{◌≡◌, length}
use Rattle.page_spec.specs.declared.kinds.State.TheVariants.{TagOpen}
use Rattle.page_spec.specs.Tokenizer.{behind_markup}
use Rattle.html_scan.proofs.markup.behind_markup.Given as goal

abbrev pub invariant-loop-b : goal.invariant-loop-b
invariant-loop-b l = behind_markup TagOpen l.bytes ≡ behind_markup l.state l.rest

abbrev pub decreases-loop-b : goal.decreases-loop-b
decreases-loop-b l = length l.rest
