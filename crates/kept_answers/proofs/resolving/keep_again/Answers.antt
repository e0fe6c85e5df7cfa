use Rattle.kept_answers.proofs.RequestLemmas.{copied}
use Rattle.kept_answers.proofs.resolving.keep_again.Goals as goal

pub returns-in_err-put-clause-right : goal.returns-in_err-put-clause-right
returns-in_err-put-clause-right c = λ of are.
    c.put.ensures.right
    (copied c.args.next.now.names c.args.request _ c.args.found.now c.in_ok-copy.field-0 c.request.view_is
    c.in_ok-copy.ensures.found c.in_ok-copy.ensures.looks of) are

pub returns-clause-right : goal.returns-clause-right
returns-clause-right c = λ of are.
    c.put.ensures.right
    (copied c.args.next.now.names c.args.request _ c.args.found.now c.in_ok-copy.field-0 c.request.view_is
    c.in_ok-copy.ensures.found c.in_ok-copy.ensures.looks of) are
