use Rattle.std.proofs.Common.{Some, ap, sym, ◌∙◌}
use Rattle.ordered_json.specs.Lists.{pairs_of}
use Rattle.exports_patterns.proofs.KeyLemmas.{key_stands, no_key}
use Rattle.exports_patterns.proofs.keys.key_at.Goals as goal

pub returns-in-None : goal.returns-in-None
returns-in-None c = no_key (pairs_of c.args.keys.now) c.args.index (sym (rw c.in-None.is at c.at.ensures))

pub returns-in-Some : goal.returns-in-Some
returns-in-Some c =
    key_stands (pairs_of c.args.keys.now) c.args.index _ (sym (rw c.in-Some.is at c.at.ensures))
    ∙ ap Some (sym c.as_str.ensures)
