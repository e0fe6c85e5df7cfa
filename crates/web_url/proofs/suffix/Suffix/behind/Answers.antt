use Rattle.std.proofs.Common.{sym, subst, ◌∙◌}
use Rattle.web_url.specs.Suffixes.{IsSuffix}
use Rattle.web_url.proofs.SuffixLemmas.{suffix_behind}
use Rattle.web_url.proofs.suffix.Suffix.behind.Goals as goal

pub invariant_of-result : goal.invariant_of-result
invariant_of-result c = subst IsSuffix (sym (c.in_ok-of.ensures ∙ c.split_suffix.ensures.suffix)) (suffix_behind c.args.url.now)
