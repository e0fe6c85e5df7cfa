use Rattle.std.proofs.Common.{not, length, sym, ap, ◌∙◌, arith}
use Rattle.url.proofs.InputLemmas.{prefix_len_is}
use Rattle.url_spec.specs.Suffixes.{is_suffix_mark}
use Rattle.web_url.proofs.escapes.suffix_start.Goals as goal

pub returns-then-is_suffix_mark-clause-place : goal.returns-then-is_suffix_mark-clause-place
returns-then-is_suffix_mark-clause-place c =
    sym (prefix_len_is (λ b. not (is_suffix_mark b)) c.args.url.now c.loop-at.at (omega arith) (λ k below. ap not (c.loop-at.invariant k below)) (λ _. ap not (sym c.is_suffix_mark.ensures ∙ c.if-is_suffix_mark.true)))

pub returns-clause-place : goal.returns-clause-place
returns-clause-place c =
    sym (prefix_len_is (λ b. not (is_suffix_mark b)) c.args.url.now (length c.args.url.now) (omega arith) (λ k below. ap not (c.loop-at.invariant k (omega arith))) (λ inside. absurd (omega arith)))
