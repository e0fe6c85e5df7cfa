use Rattle.std.proofs.Common.{rules}
use Rattle.layout.proofs.Fits.{set_by, past_by}
use Rattle.layout.proofs.costs.unlisted.Goals as goal
use Rattle.layout.proofs.costs.unlisted.Goals.{then-number-width, else-number-width}

pub returns : goal.returns
returns c = elim c.if-number-width.branch [
  | then-number-width w ↦
      set_by c.args.width c.in-Some.number c.args.total c.args.alone c.in_ok-all.all.items c.if-number-width.all.items (search rules) c.in-Some.is
      (c.in_ok-all.ensures.items_if_clones_equal (λ y is. is)) w.if-number-width.true
  | else-number-width w ↦
      past_by c.args.width c.in-Some.number c.args.total c.args.alone c.in_ok-all.all.items c.if-number-width.all.items (search rules) c.in-Some.is
      (c.in_ok-all.ensures.items_if_clones_equal (λ y is. is)) w.if-number-width.false
]
