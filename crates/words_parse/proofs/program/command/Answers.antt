use Rattle.std.proofs.Common.{ap, ap₂, ◌∙◌}
use Rattle.std.proofs.lemmas.Result.{IfOk-weaker}
use Rattle.clap.specs.Words.{App, Shape, with_subcommand}
use Rattle.words_parse.proofs.program.command.Goals as goal

abbrev shape : App → Shape
shape app = app.top

pub returns : goal.returns
returns c =
    let with_link = c.in_ok-subcommand.ensures.shape c.in_ok-link.ensures.local ∙ ap₂ with_subcommand c.in_ok-top.ensures (ap shape c.in_ok-link.ensures.app) in
    let with_unlink = c.in_ok-subcommand-2.ensures.shape c.in_ok-unlink.ensures.local ∙ ap₂ with_subcommand with_link (ap shape c.in_ok-unlink.ensures.app) in
    let with_refresh = c.in_ok-subcommand-3.ensures.shape c.plain.ensures.local ∙ ap₂ with_subcommand with_unlink (ap shape c.plain.ensures.app) in
    let with_inject = c.in_ok-subcommand-4.ensures.shape c.plain-2.ensures.local ∙ ap₂ with_subcommand with_refresh (ap shape c.plain-2.ensures.app) in
    let with_check = c.in_ok-subcommand-5.ensures.shape c.in_ok-check.ensures.local ∙ ap₂ with_subcommand with_inject (ap shape c.in_ok-check.ensures.app) in
    let with_list = c.in_ok-subcommand-6.ensures.shape c.plain-3.ensures.local ∙ ap₂ with_subcommand with_check (ap shape c.plain-3.ensures.app) in
    let with_why = c.in_ok-subcommand-7.ensures.shape c.in_ok-why.ensures.local ∙ ap₂ with_subcommand with_list (ap shape c.in_ok-why.ensures.app) in
    let with_vendor = c.in_ok-subcommand-8.ensures.shape c.in_ok-vendor.ensures.local ∙ ap₂ with_subcommand with_why (ap shape c.in_ok-vendor.ensures.app) in
    let with_session = c.in_ok-subcommand-9.ensures.shape c.plain-4.ensures.local ∙ ap₂ with_subcommand with_vendor (ap shape c.plain-4.ensures.app) in
    IfOk-weaker c.subcommand-10.result _ _
    (λ made adds. adds.shape c.in_ok-measure.ensures.local ∙ ap₂ with_subcommand with_session (ap shape c.in_ok-measure.ensures.app)) c.subcommand-10.ensures
