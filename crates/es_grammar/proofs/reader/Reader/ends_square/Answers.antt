use Rattle.std.proofs.Common.{arith, sym, ◌∙◌}
use Rattle.es_grammar.proofs.Squares.{square_at}
use Rattle.es_grammar.proofs.Absences.{on_true}
use Rattle.es_grammar.proofs.reader.Reader.ends_square.Goals as goal

pub returns : goal.returns
returns c = on_true c.quoted.result (λ e. square_at (omega (arith, c.if-self.false)) (sym c.if-not-is_kind.ensures.is) (sym c.quoted.ensures.is ∙ e))
