use Rattle.std.proofs.Common.{rules}
use Rattle.ordered_json.specs.Lists.{values_of}
use Rattle.project_file.proofs.StringLists.{no_strings, nothing_here, string_here, taken_all, taken_next}
use Rattle.project_file.proofs.lists.strings_in.Goals as goal

pub returns-in-None : goal.returns-in-None
returns-in-None c =
    λ all e any. no_strings (values_of c.args.items.now) c.loop-index.index c.loop-index.texts all (search rules) c.loop-index.invariant (nothing_here (values_of c.args.items.now) c.loop-index.index c.string_at.result c.string_at.ensures c.in-None.is) e

pub loop-index-preserved : goal.loop-index-preserved
loop-index-preserved c =
    taken_next (values_of c.args.items.now) c.loop-index.index c.loop-index.texts _ c.in-Some.text.now _ (string_here (values_of c.args.items.now) c.loop-index.index c.string_at.result c.in-Some.text c.string_at.ensures c.in-Some.is) c.in_ok-push-in-Some.ensures c.in_ok-copy-in-Some.ensures c.loop-index.invariant

pub returns : goal.returns
returns c = (taken_all (values_of c.args.items.now) c.loop-index.index c.loop-index.texts (search rules) c.loop-index.invariant, tt)
