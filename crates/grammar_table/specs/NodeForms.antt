-- The form that a node is.
--     form_of node      the form
use Rattle.grammar_spec.specs.Forms.{Form, quoted, one, ahead, ◌▸◌, ◌∣◌, maybe, many, rule, asks, nested, headed}
use Rattle.grammar_table.specs.declared.node.Node.{Node, fold-Node}
use Rattle.grammar_table.specs.declared.node.Node.TheOpen.{Node-F}

abbrev pub form_step : Node-F Form → Form
form_step (Node-F.Quoted word) = quoted word.now
form_step (Node-F.One test) = one test
form_step (Node-F.Ahead guard) = ahead guard
form_step (Node-F.Then a b) = a.now ▸ b.now
form_step (Node-F.Or a b) = a.now ∣ b.now
form_step (Node-F.Maybe a) = maybe a.now
form_step (Node-F.Many a) = many a.now
form_step (Node-F.Call r) = rule r
form_step (Node-F.Asks a) = asks a.now
form_step (Node-F.Nested a) = nested a.now
form_step (Node-F.Headed a) = headed a.now

abbrev pub form_of : Node → Form
form_of = fold-Node Form form_step
