use Rattle.std.proofs.Common.{◌∙◌}
use Rattle.html_inject.proofs.Outcomes.{comes_of_bad_byte, takes_or_keeps_out}
use Rattle.html_inject.proofs.injection.place_in.Goals as goal

pub returns-in-Err : goal.returns-in-Err
returns-in-Err c = λ text. comes_of_bad_byte text c.args.page.now c.valid_up_to.result c.in-Err.ensures.cases.0 (c.valid_up_to.ensures ∙ c.in-Err.ensures.valid_len)

pub returns-in-Ok : goal.returns-in-Ok
returns-in-Ok c = takes_or_keeps_out c.args.page.now c.in-Ok.text.now c.site_in.result c.in-Ok.ensures.cases.0 c.in-Ok.ensures.cases.1 c.site_in.ensures
