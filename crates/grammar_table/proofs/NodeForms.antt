-- What a node is as a form.
use Rattle.std.proofs.Common.{◌≡◌, ℕ, List, rules}
use denote.Bor.{Bor}
use Rattle.grammar_spec.specs.declared.names.Rule.{Rule}
use Rattle.grammar_spec.specs.declared.names.Test.{Test}
use Rattle.grammar_spec.specs.declared.names.Guard.{Guard}
use Rattle.grammar_spec.specs.Forms.{Form, quoted, one, ahead, ◌▸◌, ◌∣◌, maybe, many, rule, asks, nested, headed}
use Rattle.grammar_table.specs.declared.node.Node as node
use Rattle.grammar_table.specs.declared.node.Node.{Node, the_lemmas}
use Rattle.grammar_table.specs.NodeForms.{form_of}

pub form_quoted : (word : Bor (List ℕ)) → form_of (node.Quoted word) ≡ quoted word.now
form_quoted word = search (rules, the_lemmas)

pub form_one : (asked : Test) → form_of (node.One asked) ≡ one asked
form_one asked = search (rules, the_lemmas)

pub form_ahead : (guard : Guard) → form_of (node.Ahead guard) ≡ ahead guard
form_ahead guard = search (rules, the_lemmas)

pub form_then : (a b : Bor Node) → form_of (node.Then a b) ≡ (form_of a.now ▸ form_of b.now)
form_then a b = search (rules, the_lemmas)

pub form_or : (a b : Bor Node) → form_of (node.Or a b) ≡ (form_of a.now ∣ form_of b.now)
form_or a b = search (rules, the_lemmas)

pub form_maybe : (a : Bor Node) → form_of (node.Maybe a) ≡ maybe (form_of a.now)
form_maybe a = search (rules, the_lemmas)

pub form_many : (a : Bor Node) → form_of (node.Many a) ≡ many (form_of a.now)
form_many a = search (rules, the_lemmas)

pub form_call : (r : Rule) → form_of (node.Call r) ≡ rule r
form_call r = search (rules, the_lemmas)

pub form_asks : (a : Bor Node) → form_of (node.Asks a) ≡ asks (form_of a.now)
form_asks a = search (rules, the_lemmas)

pub form_nested : (a : Bor Node) → form_of (node.Nested a) ≡ nested (form_of a.now)
form_nested a = search (rules, the_lemmas)

pub form_headed : (a : Bor Node) → form_of (node.Headed a) ≡ headed (form_of a.now)
form_headed a = search (rules, the_lemmas)

pub ruleset forms = (form_quoted, form_one, form_ahead, form_then, form_or, form_maybe, form_many, form_call, form_asks, form_nested, form_headed)
