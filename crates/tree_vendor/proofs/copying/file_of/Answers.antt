use Rattle.std.proofs.Common.{sym, ap, ◌∙◌}
use Rattle.std.specs.Prelude.{option_and_then, option_copied}
use Rattle.package_lookup.specs.SeenLooks.{bytes_of}
use Rattle.tree_vendor.proofs.copying.file_of.Goals as goal

pub returns-in-None : goal.returns-in-None
returns-in-None c = ap (option_and_then bytes_of) (ap option_copied (sym c.in-None.is) ∙ c.kept.ensures)

pub returns-in-Some : goal.returns-in-Some
returns-in-Some c =
    c.file.ensures ∙ ap (option_and_then bytes_of) (ap option_copied (sym c.in-Some.is) ∙ c.kept.ensures)
