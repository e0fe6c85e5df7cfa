use Rattle.std.proofs.Common.{◌≡◌, rules, subst, sym}
use Rattle.std.proofs.lemmas.Fn.{always_returns_same}
use Rattle.std.proofs.lemmas.List.Sorted.{ranks_by}
use Rattle.std.specs.Ordering.{is_lt}
use Rattle.std.specs.Cmp.Lexicographic.{nat_list_cmp_total}
use Rattle.std.specs.Map.{keys_of}
use Rattle.exports_patterns.specs.Fronts.{IsAscending, HasAllLinks}
use Rattle.exports_patterns.proofs.FrontLemmas.{key_below, in_order}
use Rattle.exports_patterns.proofs.fronts.Fronts.of.Goals as goal

pub linked-requires : goal.linked-requires
linked-requires g c =
    let sorted = c.in_ok-sort_by.ensures.sorted key_below (ranks_by nat_list_cmp_total (λ e. e.0)) (always_returns_same _ (λ a r. is_lt r ≡ key_below a.0.now a.1.0.now) _ (λ a r f k. search rules)) in
    subst (λ es. IsAscending (keys_of es)) (sym c.as_slice.ensures.value) (in_order c.sort_by.new.self.items sorted)

pub invariant_of-result : goal.invariant_of-result
invariant_of-result g c =
    let sorted = c.in_ok-sort_by.ensures.sorted key_below (ranks_by nat_list_cmp_total (λ e. e.0)) (always_returns_same _ (λ a r. is_lt r ≡ key_below a.0.now a.1.0.now) _ (λ a r f k. search rules)) in
    (in_order c.sort_by.new.self.items sorted, subst (λ es. HasAllLinks (keys_of es) c.in_ok-links.links.items) c.as_slice.ensures.value c.in_ok-links.ensures)
