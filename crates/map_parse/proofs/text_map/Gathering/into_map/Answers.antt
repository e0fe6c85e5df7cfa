use Rattle.std.proofs.Common.{rules, ◌≡◌, ◌∙◌}
use Rattle.std.proofs.lemmas.Fn.{always_returns_same}
use Rattle.std.specs.Ordering.{is_lt}
use Rattle.std.specs.Cmp.Lexicographic.{nat_list_cmp_total}
use Rattle.std.proofs.lemmas.List.Sorted.{ranks_by}
use Rattle.map_parse.proofs.TextMapLemmas.{below, sorted_map}
use Rattle.map_parse.proofs.text_map.Gathering.into_map.Goals as goal

pub invariant_of-result : goal.invariant_of-result
invariant_of-result g c = c.in_ok-sort_by.ensures.sorted below (ranks_by nat_list_cmp_total (λ e. e.0)) (always_returns_same _ (λ a r. is_lt r ≡ below a.0.now a.1.0.now) _ (λ a r f k. search rules))

pub returns : goal.returns
returns g c = sorted_map c.self.inside.entries.items c.reverse.new.self.items c.sort_by.new.self.items c.reverse.ensures.items (c.in_ok-sort_by.ensures.stable below (ranks_by nat_list_cmp_total (λ e. e.0)) (always_returns_same _ (λ a r. is_lt r ≡ below a.0.now a.1.0.now) _ (λ a r f k. search rules))) ∙ c.self.view_is
