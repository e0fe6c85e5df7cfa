use Rattle.std.proofs.Common.{◌≡◌, ◌+◌, ◌++◌, ◌∷◌, [], length, arith, rules, ap, subst, sym, ◌∙◌}
use Rattle.std.proofs.lemmas.List.{length_push}
use Rattle.std.specs.Map.{keys_of}
use Rattle.exports_patterns.specs.Fronts.{Covers, IsTop, LinkedBelow}
use Rattle.exports_patterns.proofs.FrontLemmas.{keys_length, covered_at_link, more_links}
use Rattle.exports_patterns.proofs.fronts.linked.Goals as goal

pub loop-at-preserved : goal.loop-at-preserved
loop-at-preserved g c =
    let n = keys_length c.args.entries.now in
    let pushed : c.push.new.self.items ≡ c.loop-at.links.items ++ c.climb-link.result ∷ [] = search rules in
    let covered = covered_at_link (keys_of c.args.entries.now) c.loop-at.at c.requires (omega arith) in
    let top = subst (λ t. IsTop (keys_of c.args.entries.now) t c.loop-at.at c.climb-link.result) c.text_of.ensures
    (c.climb-link.ensures c.loop-at.at (omega arith) (subst (λ t. Covers (keys_of c.args.entries.now) t c.loop-at.at c.loop-at.at) (sym c.text_of.ensures) covered)) in
    record {
      linked = subst (λ ls. LinkedBelow (keys_of c.args.entries.now) ls (c.loop-at.at + 1)) (sym pushed)
          (more_links (keys_of c.args.entries.now) c.loop-at.links.items c.climb-link.result c.loop-at.at c.loop-at.invariant.long c.loop-at.invariant.linked top);
      long = ap length pushed ∙ (length_push c.loop-at.links.items c.climb-link.result ∙ ap (λ n. n + 1) c.loop-at.invariant.long);
    }

pub returns : goal.returns
returns g c =
    let n = keys_length c.args.entries.now in
    record {
      each = subst (LinkedBelow (keys_of c.args.entries.now) c.loop-at.links.items) (sym c.loop-at.invariant.long) c.loop-at.invariant.linked;
      all = omega arith;
    }
