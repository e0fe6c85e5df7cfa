use Rattle.std.proofs.Common.{◌≡◌, ◌++◌, drop}
use Rattle.url.specs.Input.{strip_tabs_and_new_lines}
use Rattle.condition_match.proofs.segments.without_dropped.Given as goal

abbrev pub invariant-loop-byte : goal.invariant-loop-byte
invariant-loop-byte l = l.kept.items ++ strip_tabs_and_new_lines (drop l.byte-index l.fn.text) ≡ strip_tabs_and_new_lines l.fn.text
