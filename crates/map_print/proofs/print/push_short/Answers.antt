use Rattle.std.proofs.Common.{◌≡◌, ◌++◌, sym, subst, OnOk}
use Rattle.json_spec.specs.PrintedString.{quoted}
use Rattle.layout_spec.proofs.ShortBack.{short_whole}
use Rattle.map_print.proofs.print.push_short.Goals as goal

pub returns-in-None : goal.returns-in-None
returns-in-None c =
    subst (λ text. OnOk c.print_text.result (c.print_text.new.into.items ≡ c.args.out.now.items ++ quoted text))
    (sym (short_whole c.args.folder.now c.args.url.now c.in-None.ensures)) c.print_text.ensures.printed
