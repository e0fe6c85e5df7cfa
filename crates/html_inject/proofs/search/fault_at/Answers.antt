use Rattle.std.proofs.Common.{◌∙◌, sym}
use Rattle.page_spec.specs.Places.{part_at}
use Rattle.html_inject.specs.Search.{parts_behind}
use Rattle.html_inject.proofs.Scripts.{no_script_fault}
use Rattle.html_inject.proofs.search.fault_at.Goals as goal

pub returns-then-not-script : goal.returns-then-not-script
returns-then-not-script c = c.plain_fault.ensures ∙ no_script_fault c.args.piece.from c.args.seen (part_at c.args.text.now c.args.piece) (parts_behind c.args.text.now c.args.next) (sym c.requires.script ∙ c.if-not-script.true)
