use Rattle.std.proofs.Common.{sym, subst}
use Rattle.std.specs.Bool.{OnTrue}
use Rattle.grammar_spec.specs.Forms.{rule}
use Rattle.es_grammar.specs.Turning.{Absent}
use Rattle.es_grammar.proofs.reader.Reader.begins_none.Goals as goal

pub returns-in-Assign : goal.returns-in-Assign
returns-in-Assign c =
    subst (λ r. OnTrue c.ends_square.result (Absent c.args.tokens.now c.args.self.now.context c.args.self.now.at (rule r)))
    (sym c.in-Assign.is) c.ends_square.ensures
