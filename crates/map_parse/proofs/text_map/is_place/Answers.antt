use Rattle.std.proofs.Common.{sym, ap, ◌∙◌, ◌≡◌, ◌-◌, suc, arith}
use Rattle.std.specs.Ordering.{is_lt, nat_cmp}
use Rattle.std.specs.Cmp.Lexicographic.{slice_cmp}
use Rattle.map_parse.proofs.TextMapLemmas.{place_first, place_behind}
use Rattle.map_parse.proofs.text_map.is_place.Goals as goal

pub returns-then-at-eq0 : goal.returns-then-at-eq0
returns-then-at-eq0 g c = λ t. place_first c.args.text.now c.args.entries.now c.args.at c.in-Some.entry.now c.requires c.in-Some.ensures.lookup.3 (ap (λ s. is_lt (slice_cmp nat_cmp s c.args.text.now)) (sym c.as_str.ensures) ∙ (sym c.lt.ensures ∙ c.if-lt.false)) c.if-at-eq0.true

pub returns-in-Some-get : goal.returns-in-Some-get
returns-in-Some-get g c =
    let some = c.if-at-eq0.false in
    let next : c.args.at ≡ suc (c.args.at - 1) = omega arith in
    λ t. place_behind c.args.text.now c.args.entries.now c.args.at (c.args.at - 1) c.in-Some.entry.now c.in-Some-get.entry.now c.requires c.in-Some.ensures.lookup.3 (ap (λ s. is_lt (slice_cmp nat_cmp s c.args.text.now)) (sym c.as_str.ensures) ∙ (sym c.lt.ensures ∙ c.if-lt.false)) next c.in-Some-get.ensures.lookup.3
    (ap (λ s. is_lt (slice_cmp nat_cmp s c.args.text.now)) (sym c.as_str-in-Some-get.ensures) ∙ (sym c.lt-in-Some-get.ensures ∙ t))
