use Rattle.std.proofs.Common.{sym, ◌∙◌}
use Rattle.condition_match.specs.Choosing.{rules_of}
use Rattle.condition_match.proofs.AskLemmas.{comes_err, own_comes, none_chosen, bare_comes, text_begun}
use Rattle.condition_match.proofs.strings.choose_text.Goals as goal

pub returns-then-begins : goal.returns-then-begins
returns-then-begins g c = own_comes g.B.BareTarget.gives g.B.BareTarget.fails (rules_of c.args.rules.now) c.args.target.now c.args.bare.now c.own_outcome.result (sym c.begins.ensures ∙ c.if-begins.true) c.own_outcome.ensures

pub returns-then-not-branch : goal.returns-then-not-branch
returns-then-not-branch g c =
    none_chosen g.B.BareTarget.gives (rules_of c.args.rules.now) c.args.target.now c.args.bare.now (sym c.begins.ensures ∙ c.if-begins.false) (sym c.in_ok-names_package.ensures ∙ c.if-not-branch.true)

pub returns : goal.returns
returns g c =
    bare_comes g.B.BareTarget.gives g.B.BareTarget.fails (rules_of c.args.rules.now) c.args.target.now c.args.bare.now c.choose_bare.new.bare c.choose_bare.result (sym c.begins.ensures ∙ c.if-begins.false) (sym c.in_ok-names_package.ensures ∙ c.if-not-branch.false) c.choose_bare.ensures

pub returns-in_err-names_package : goal.returns-in_err-names_package
returns-in_err-names_package g c =
    comes_err g.B.BareTarget.gives g.B.BareTarget.fails _ _ c.args.bare.now c.args.bare.now c.from_residual.result c.from_residual.ensures.1 (text_begun g.B.BareTarget.gives g.B.BareTarget.fails (rules_of c.args.rules.now) c.args.target.now c.args.bare.now)
