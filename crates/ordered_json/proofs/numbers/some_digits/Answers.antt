use Rattle.std.proofs.Common.{ap, length, arith}
use Rattle.ordered_json.proofs.NumbersLemmas.{digits_cut, no_digits}
use Rattle.ordered_json.proofs.numbers.some_digits.Goals as goal

pub returns-then-rest-bytes : goal.returns-then-rest-bytes
returns-then-rest-bytes c = rw c.skip_digits-rest.ensures (digits_cut c.args.bytes.now (omega (arith, ap length c.skip_digits-rest.ensures)))

pub returns-else-rest-bytes : goal.returns-else-rest-bytes
returns-else-rest-bytes c = no_digits c.args.bytes.now (omega (arith, ap length c.skip_digits-rest.ensures))
