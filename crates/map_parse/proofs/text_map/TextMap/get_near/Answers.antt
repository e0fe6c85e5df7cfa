use Rattle.std.proofs.Common.{sym, ◌∙◌, subst}
use Rattle.map_parse.specs.TextMaps.{IsAscending}
use Rattle.map_parse.proofs.TextMapLemmas.{tested, looked_nothing, looked_something, looked_other}
use Rattle.map_parse.proofs.text_map.TextMap.get_near.Goals as goal

pub returns-in-None : goal.returns-in-None
returns-in-None g c = looked_nothing _ _ _ _ _ (sym c.self.view_is) c.as_slice-entries.ensures.value c.place_near-at.ensures c.in-None.ensures.lookup.3

pub returns-then-eq : goal.returns-then-eq
returns-then-eq g c = looked_something _ _ _ _ _ _ (sym c.self.view_is) c.as_slice-entries.ensures.value c.place_near-at.ensures c.in-Some.ensures.lookup.3 (tested _ _ _ _ c.eq.ensures c.as_str.ensures ∙ c.if-eq.true)

pub returns-else-eq : goal.returns-else-eq
returns-else-eq g c =
    let up = subst IsAscending (sym c.as_slice-entries.ensures.value) c.self.invariant in
    looked_other _ _ _ _ _ _ (sym c.self.view_is) c.as_slice-entries.ensures.value up c.place_near-at.ensures c.in-Some.ensures.lookup.3 (tested _ _ _ _ c.eq.ensures c.as_str.ensures ∙ c.if-eq.false)
