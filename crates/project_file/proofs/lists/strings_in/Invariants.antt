use Rattle.std.proofs.Common.{◌≡◌, drop}
use Rattle.ordered_json.specs.Lists.{values_of}
use Rattle.ordered_json.specs.Shown.{items_of}
use Rattle.project_file.proofs.StringLists.{behind}
use Rattle.project_file.proofs.lists.strings_in.Given as goal

abbrev pub invariant-loop-index : goal.invariant-loop-index
invariant-loop-index l = items_of (values_of l.fn.items) ≡ behind l.texts (items_of (drop l.index (values_of l.fn.items)))
