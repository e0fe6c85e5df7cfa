use Rattle.std.proofs.Common.{◌≡◌, ◌≤◌, length}
use Rattle.words_spec.specs.PlainWords.{most_packages}
use Rattle.words_spec.specs.Reading.{number_in}
use Rattle.words_parse.proofs.number.number_in.Given as goal

abbrev pub invariant-loop-digit : goal.invariant-loop-digit
invariant-loop-digit l = (number_in l.fn.text 0 ≡ number_in l.rest l.number) × (l.number ≤ most_packages)

abbrev pub decreases-loop-digit : goal.decreases-loop-digit
decreases-loop-digit l = length l.rest
