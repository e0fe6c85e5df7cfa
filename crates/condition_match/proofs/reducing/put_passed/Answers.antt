use Rattle.std.proofs.Common.{sym, ◌∙◌}
use Rattle.std.proofs.lemmas.Bool.{true≢false}
use Rattle.condition_match.proofs.ReduceLemmas.{some_passed, puts_passed}
use Rattle.condition_match.proofs.reducing.put_passed.Goals as goal

pub put_front-requires : goal.put_front-requires
put_front-requires c = some_passed c.args.made c.requires

pub returns-else-is_undefined : goal.returns-else-is_undefined
returns-else-is_undefined c =
    puts_passed c.args.made c.args.left c.requires
    (λ e. true≢false (sym (c.is_undefined.ensures.1 e) ∙ c.if-is_undefined.false))
