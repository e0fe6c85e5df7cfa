use Rattle.grammar_table.specs.NodeForms.{form_of}
use Rattle.es_grammar.specs.Turning.{Absent}
use Rattle.es_grammar.proofs.reader.Reader.lacks.Given as goal

abbrev pub invariant-down : goal.invariant-down
invariant-down l =
    Absent l.fn.tokens l.fn.self.context l.fn.self.at (form_of l.left)
    → Absent l.fn.tokens l.fn.self.context l.fn.self.at (form_of l.fn.node)
