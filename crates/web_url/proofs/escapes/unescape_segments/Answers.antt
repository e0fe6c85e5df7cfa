use Rattle.std.proofs.Common.{◌∙◌, ap, flat_map, lit<, rules}
use Rattle.std.proofs.lemmas.Iterator.Splits.{YieldsList-from_str_split}
use Rattle.std.proofs.lemmas.Iterator.Consumers.{YieldsList-end}
use Rattle.url_spec.specs.ServedPaths.{read_segment}
use Rattle.web_url.proofs.escapes.unescape_segments.Goals as goal

pub returns : goal.returns
returns c =
    let end = YieldsList-end (YieldsList-from_str_split {s = c.into_iter-segment-iterator.result} 47 c.args.text.now (lit< tt) (search rules) (search rules) (search rules)) c.loop-segment.yielded _ c.loop-segment.yielded_by _ _ c.in-None.is c.next.ensures.steps in
    c.loop-segment.invariant ∙ ap (flat_map read_segment) end.0
