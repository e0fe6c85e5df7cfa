use Rattle.std.proofs.Common.{◌≡◌, ◌∙◌, ap, subst, flat_map, lit<, rules}
use Rattle.std.specs.Prelude.{IfOk}
use Rattle.std.proofs.lemmas.Iterator.Splits.{YieldsList-from_str_split}
use Rattle.std.proofs.lemmas.Iterator.Consumers.{YieldsList-end}
use Rattle.web_url.proofs.PathLemmas.{read_name, spelled_is}
use Rattle.web_url.proofs.paths.spelled_path.Goals as goal

pub returns : goal.returns
returns c =
    let end = YieldsList-end (YieldsList-from_str_split {s = c.into_iter-name-iterator.result} 47 c.args.url_path.now (lit< tt) (search rules) (search rules) (search rules)) c.loop-name.yielded _ c.loop-name.yielded_by _ _ c.in-None.is c.next.ensures.steps in
    let read = c.loop-name.invariant ∙ ap (flat_map read_name) end.0 in
    subst (λ xs. IfOk c.or_root.result (λ path. path.items ≡ xs)) (spelled_is c.args.url_path.now c.loop-name.bytes.items read) c.or_root.ensures
