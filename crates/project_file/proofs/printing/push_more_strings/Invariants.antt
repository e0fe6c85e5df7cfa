use Rattle.std.proofs.Common.{All, IsUtf8, take, drop}
use Rattle.json_spec.specs.PrintedValue.{printed_items}
use Rattle.ordered_json.proofs.Appends.{Completes}
use Rattle.project_spec.specs.ProjectFiles.{strings}
use Rattle.project_file.proofs.printing.push_more_strings.Given as goal

abbrev pub invariant-loop-text : goal.invariant-loop-text
invariant-loop-text l = record {
  text : Completes l.fn.out.items l.out.items (printed_items 2 (strings l.fn.texts)) (printed_items 2 (strings (drop l.text-index l.fn.texts)));
  utf8 : All IsUtf8 (take l.text-index l.fn.texts);
}
