use Rattle.std.proofs.Common.{ℕ, List, subst}
use Rattle.std.specs.Prelude.{MatchOption}
use Rattle.node_spec.specs.PatternKeys.{StartsWith}
use Rattle.exports_patterns.specs.Fitting.{NoneFits, IsFitting}
use Rattle.exports_patterns.specs.Indexes.{Group}
use Rattle.exports_patterns.proofs.FrontLemmas.{one_stands}
use Rattle.exports_patterns.proofs.pattern_keys.pattern_at.Goals as goal

pub returns-in-Some : goal.returns-in-Some
returns-in-Some c = λ base group stands.
    subst (λ (e : List ℕ × Group). StartsWith c.args.asked.now e.0 → MatchOption c.fitting.result (NoneFits c.args.asked.now e.0 e.1) (IsFitting c.args.asked.now e.0 e.1))
    (one_stands c.args.patterns.now c.args.place (c.in-Some.base.now, c.in-Some.group.now) (base, group) c.in-Some.ensures stands) c.fitting.ensures
