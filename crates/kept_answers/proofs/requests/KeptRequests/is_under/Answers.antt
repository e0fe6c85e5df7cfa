use Rattle.std.specs.Prelude.{bytes_eq}
use Rattle.std.specs.Bool.{one_answer}
use Rattle.std.specs.Cmp.Lexicographic.{pointwise, pointwise_decides}
use Rattle.std.proofs.lemmas.Slice.Eq.{bytes_eq-Decides}
use Rattle.kept_answers.proofs.requests.KeptRequests.is_under.Goals as goal

pub returns-clause-same : goal.returns-clause-same
returns-clause-same c =
    one_answer c.are_same.result (pointwise bytes_eq c.args.self.now.names c.args.conditions.now) c.are_same.ensures
    (pointwise_decides bytes_eq-Decides c.args.self.now.names c.args.conditions.now)
