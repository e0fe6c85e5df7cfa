use Rattle.std.proofs.Common.{codes, ap, sym, ◌∙◌, bytes_eq}
use Rattle.tree_spec.proofs.ByteLists.{texts_differ}
use Rattle.web_url.proofs.FileLemmas.{led_below}
use Rattle.web_url.proofs.joins.led_below.Goals as goal

pub returns : goal.returns
returns c =
    let other = texts_differ c.args.above.now (codes "/") (ap (λ t. bytes_eq t (codes "/")) (sym c.as_str.ensures.text) ∙ (sym c.eq.ensures ∙ c.if-eq.false)) in
    led_below c.args.above.now c.args.text.now c.join.result other c.requires c.join.ensures
