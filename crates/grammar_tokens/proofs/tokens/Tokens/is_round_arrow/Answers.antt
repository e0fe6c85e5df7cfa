use Rattle.std.proofs.Common.{◌&&◌, sym, ◌∙◌, ap}
use Rattle.grammar_tokens.specs.Spots.{arrow_at}
use Rattle.grammar_tokens.proofs.Places.{round_at}
use Rattle.grammar_tokens.proofs.tokens.Tokens.is_round_arrow.Goals as goal

pub returns-then-quoted : goal.returns-then-quoted
returns-then-quoted c =
    c.has_arrow.ensures
    ∙ (ap (λ b. b && arrow_at c.args.self.now c.args.at) (sym c.if-quoted.true ∙ c.quoted.ensures.is)
    ∙ round_at c.args.self.now c.args.at)
