use Rattle.std.proofs.Common.{◌++◌, ◌∙◌, ap, string_bytes}
use Rattle.web_url.proofs.NameLemmas.{web_text_is, path_bytes}
use Rattle.web_url.proofs.names.web_text.Goals as goal

pub returns-clause-text : goal.returns-clause-text
returns-clause-text c =
    web_text_is c.args.base.now c.args.path.now c.below_root.result.now c.args.suffix.now _ _ _ c.below_root.ensures (c.in_ok-text.ensures.ok ∙ c.as_str.ensures.text) c.in_ok-push_escaped.ensures.grown
    (c.in_ok-push_str.ensures.bytes ∙ ap (λ suffix. string_bytes c.push_escaped.new.out ++ suffix) c.as_str-2.ensures.text)

pub returns-clause-bytes : goal.returns-clause-bytes
returns-clause-bytes c = path_bytes c.args.path.now c.below_root.result.now c.below_root.ensures c.push_escaped.ensures.bytes
