use Rattle.std.proofs.Common.{◌≡◌, ℕ, ◌<◌, false, get_or}
use Rattle.url_spec.specs.Suffixes.{is_suffix_mark}
use Rattle.web_url.proofs.escapes.suffix_start.Given as goal

abbrev pub invariant-loop-at : goal.invariant-loop-at
invariant-loop-at l = (k : ℕ) → k < l.at → is_suffix_mark (get_or l.url k 0) ≡ false
