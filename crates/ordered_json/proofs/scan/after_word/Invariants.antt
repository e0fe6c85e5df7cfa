use Rattle.std.proofs.Common.{◌≡◌, drop}
use Rattle.json_spec.specs.Strings.{behind}
use Rattle.ordered_json.proofs.scan.after_word.Given as goal

abbrev pub invariant-loop-letter : goal.invariant-loop-letter
invariant-loop-letter l = behind (drop l.letter-index l.word) l.rest ≡ behind l.word l.fn.bytes
