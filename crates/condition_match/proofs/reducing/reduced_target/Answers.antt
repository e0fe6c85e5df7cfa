use Rattle.std.proofs.Common.{sym, subst}
use Rattle.ordered_json.specs.Shown.{json_of}
use Rattle.condition_match.specs.Reducing.{ComesAs}
use Rattle.condition_match.proofs.reducing.reduced_target.Goals as goal

pub returns : goal.returns
returns c =
    subst (λ m. ComesAs c.args.conditions.now c.args.imports (json_of c.args.target.now) m) (sym c.value_of.ensures)
    c.in_ok-made.ensures.comes
