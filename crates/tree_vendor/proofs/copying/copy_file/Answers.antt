use Rattle.std.proofs.Common.{◌≡◌, [], true, false, is_some, sym, ap, ◌∙◌, subst}
use Rattle.std.specs.Prelude.{option_copied, unwrap_or}
use Rattle.tree_spec.specs.States.{IsWritten}
use Rattle.tree_vendor.proofs.copying.copy_file.Goals as goal

pub returns : goal.returns
returns g c =
    subst
    (λ bytes. IsWritten (g.F.Folder.state c.args.folder.now) c.args.goal.now bytes c.write.result
    (g.F.Folder.state c.write.new.self))
    (ap (λ found. unwrap_or found []) (ap option_copied (sym c.in-Some.is) ∙ c.file_of.ensures)) c.write.ensures.written

pub unreachable-requires : goal.unreachable-requires
unreachable-requires g c =
    let wrong : false ≡ true = ap is_some (ap option_copied (sym c.in-None.is) ∙ c.file_of.ensures) ∙ c.requires in cc
