use Rattle.std.proofs.Common.{subst}
use denote.Bor.{Bor}
use Rattle.grammar_table.specs.declared.node.Node.{Node}
use Rattle.grammar_table.specs.NodeForms.{form_of}
use Rattle.es_grammar.specs.Turning.{Absent}
use Rattle.es_grammar.proofs.Absences.{lacks_then, lacks_or, lacks_call}
use Rattle.es_grammar.proofs.reader.Reader.lacks.Goals.{in-Then, in-Call, in-Or+else-not-lacks_one}
use Rattle.es_grammar.proofs.reader.Reader.lacks.Goals as goal

pub down-preserved : goal.down-preserved
down-preserved c = λ a.
    elim c.match-left.branch [
      | in-Then w ↦ c.down.invariant (lacks_then w.in-Then.first w.in-Then.field-1 w.in-Then.is
          (subst (λ (n : Bor Node). Absent c.args.tokens.now c.args.self.now.context c.args.self.now.at (form_of n.now)) w.left-is a))
      | in-Call w ↦ c.down.invariant (lacks_call w.in-Call.rule w.body-left.result.now w.in-Call.is w.body-left.ensures
          (subst (λ (n : Bor Node). Absent c.args.tokens.now c.args.self.now.context c.args.self.now.at (form_of n.now)) w.left-is a))
      | in-Or+else-not-lacks_one w ↦ c.down.invariant (lacks_or w.in-Or.first w.in-Or.second w.in-Or.is w.if-not-lacks_one.ensures
          (subst (λ (n : Bor Node). Absent c.args.tokens.now c.args.self.now.context c.args.self.now.at (form_of n.now)) w.left-is a))
    ]
