use Rattle.std.proofs.Common.{sym, ap, ◌∙◌, subst}
use Rattle.std.specs.Prelude.{IfSome}
use Rattle.web_url.specs.Written.{IsParsedAs}
use Rattle.std.proofs.lemmas.Bool.{true≢false}
use Rattle.url_spec.specs.Parsing.{parse_alone}
use Rattle.web_url.proofs.NameLemmas.{web_is, file_named}
use Rattle.web_url.proofs.names.web_of.Goals as goal

pub returns-in-None-clause-fault : goal.returns-in-None-clause-fault
returns-in-None-clause-fault c =
    (sym c.in-None.is ∙ c.in_ok-parse.ensures.url ∙ ap parse_alone c.as_str.ensures.value ∙ web_is c.args.base.now c.args.path.now c.args.suffix.now _ c.in_ok-text.ensures.text, tt)

pub returns-then-branch-clause-url : goal.returns-then-branch-clause-url
returns-then-branch-clause-url c = (
  sym (web_is c.args.base.now c.args.path.now c.args.suffix.now _ c.in_ok-text.ensures.text) ∙ ap parse_alone (sym c.as_str.ensures.value) ∙ sym c.in_ok-parse.ensures.url ∙ c.in-Some.is,
  c.in_ok-serves-in-Some.ensures.0 c.if-branch.true,
  file_named c.args.base.now c.args.path.now c.args.suffix.now _ c.in-Some.url (c.as_str.ensures.value ∙ c.in_ok-text.ensures.text) (subst (λ found. IfSome found (IsParsedAs c.as_str.result.now)) c.in-Some.is c.in_ok-parse.ensures.valid) c.in_ok-text.ensures.bytes
      (c.in_ok-serves-in-Some.ensures.0 c.if-branch.true),
)

pub returns-clause-fault : goal.returns-clause-fault
returns-clause-fault c = (
  sym c.in-Some.is ∙ c.in_ok-parse.ensures.url ∙ ap parse_alone c.as_str.ensures.value ∙ web_is c.args.base.now c.args.path.now c.args.suffix.now _ c.in_ok-text.ensures.text,
  λ served. true≢false (sym (c.in_ok-serves-in-Some.ensures.1 served) ∙ c.if-branch.false),
)
