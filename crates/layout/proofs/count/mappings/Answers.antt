use Rattle.std.proofs.Common.{rules, ◌∙◌, length}
use Rattle.layout.proofs.Counts.{counted, all_counted}
use Rattle.layout.proofs.count.mappings.Goals as goal

pub returns-clause-of_map : goal.returns-clause-of_map
returns-clause-of_map c =
    λ integrity m l.
    all_counted c.loop-scope.count (length c.args.layout.now.imports) c.loop-scope.scope-index c.args.layout.now.scopes c.as_slice-scope-items.result.now (search rules) (search rules) c.loop-scope.invariant
    ∙ counted c.args.layout.now integrity m l
