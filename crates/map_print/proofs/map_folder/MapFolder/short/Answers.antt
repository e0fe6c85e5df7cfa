use Rattle.std.proofs.Common.{string_bytes, sym, ◌∙◌}
use Rattle.std.proofs.lemmas.Bool.{true≢false}
use Rattle.map_print.proofs.FolderLemmas.{beside_is_short, whole_is_short}
use Rattle.map_print.proofs.map_folder.MapFolder.short.Goals as goal

pub returns-then-branch : goal.returns-then-branch
returns-then-branch c =
    beside_is_short c.args.self.now c.args.url.now c.args.rest.now (string_bytes c.in_ok-text.text) c.as_str.result.now c.requires c.in_ok-text.ensures c.as_str.ensures.value
    (c.in_ok-leads_to.ensures.0 c.if-branch.true)

pub returns-else-branch : goal.returns-else-branch
returns-else-branch c =
    whole_is_short c.args.self.now c.args.url.now c.args.rest.now (string_bytes c.in_ok-text.text) c.as_str.result.now c.requires c.in_ok-text.ensures c.as_str.ensures.value
    (λ parsed. true≢false (sym (c.in_ok-leads_to.ensures.1 parsed) ∙ c.if-branch.false))
