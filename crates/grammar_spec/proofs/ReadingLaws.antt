-- A form has one outcome at a place.
use Rattle.std.proofs.Common.{◌≡◌, true, false, List, refl, sym, ◌∙◌, ap, subst, arith}
use Rattle.grammar_spec.specs.Sights.{Sight}
use Rattle.grammar_spec.specs.Laws.{OneReading}
use Rattle.grammar_spec.specs.Forms.{Form, many}
use Rattle.grammar_spec.specs.Readings.{Place, Outcome, stays, takes, misses, behind, or_stays}
use Rattle.grammar_spec.specs.declared.names.Context.{Context}
use Rattle.grammar_spec.specs.Readings.{with_request, is_match, is_miss, is_take, Reads}
use Rattle.grammar_spec.specs.Readings.Reads.{reads_quoted, reads_one, reads_ahead, then_here, then_there, then_ends}
use Rattle.grammar_spec.specs.Readings.Reads.{or_first, or_second, reads_maybe, many_more, many_ends, reads_rule}
use Rattle.grammar_spec.specs.Readings.Reads.{reads_asks, nested_deep, reads_nested, reads_headed}

place_taken : {p q : Place} → takes p ≡ takes q → p ≡ q
place_taken e = cc

no_match : {out found : Outcome} → found ≡ out → is_match out ≡ false → is_match found ≡ true → ⊥
no_match e f g = absurd (let h : true ≡ false = sym g ∙ (ap is_match e ∙ f) in cc)

no_take : {out found : Outcome} → found ≡ out → is_take out ≡ false → is_take found ≡ true → ⊥
no_take e f g = absurd (let h : true ≡ false = sym g ∙ (ap is_take e ∙ f) in cc)

no_miss : {out : Outcome} → misses ≡ out → is_miss out ≡ false → ⊥
no_miss e f = absurd (let h : true ≡ false = ap is_miss e ∙ f in cc)

behind_same : {p q : Place} {x y : Outcome} → p ≡ q → x ≡ y → behind p x ≡ behind q y
behind_same e f = rw (e, f) refl

pub one_outcome : {tokens : List Sight} {c : Context} {f : Form} {p : Place} (x y : Outcome) → Reads tokens c f p x
    → Reads tokens c f p y → x ≡ y
one_outcome x y (reads_quoted e) (reads_quoted h) = e ∙ sym h
one_outcome x y (reads_one e) (reads_one h) = e ∙ sym h
one_outcome x y (reads_ahead e) (reads_ahead h) = e ∙ sym h
one_outcome x y (then_here d e) (then_here g h) = one_outcome x y e h
one_outcome x y (then_here d e) (then_there {q} g h i) = absurd (let k = one_outcome stays (takes q) d g in cc)
one_outcome x y (then_here d e) (then_ends g h) = absurd (no_match (one_outcome stays y d g) h refl)
one_outcome x y (then_there {q} d e i) (then_here g h) = absurd (let k = one_outcome (takes q) stays d g in cc)
one_outcome {tokens} {c} {p} x y (then_there {b} {q} {next} d e i) (then_there {q = r} {next = more} g h j) =
    let same : q ≡ r = place_taken (one_outcome (takes q) (takes r) d g) in
    i ∙ (behind_same same (one_outcome next more e (subst (λ z. Reads tokens c b z more) (sym same) h)) ∙ sym j)
one_outcome x y (then_there {q} d e i) (then_ends g h) = absurd (no_match (one_outcome (takes q) y d g) h refl)
one_outcome x y (then_ends d e) (then_here g h) = absurd (no_match (sym (one_outcome x stays d g)) e refl)
one_outcome x y (then_ends d e) (then_there {q} g h i) = absurd (no_match (sym (one_outcome x (takes q) d g)) e refl)
one_outcome x y (then_ends d e) (then_ends g h) = one_outcome x y d g
one_outcome x y (or_first d e) (or_first g h) = one_outcome x y d g
one_outcome x y (or_first d e) (or_second g h) = absurd (no_miss (sym (one_outcome x misses d g)) e)
one_outcome x y (or_second d e) (or_first g h) = absurd (no_miss (one_outcome misses y d g) h)
one_outcome x y (or_second d e) (or_second g h) = one_outcome x y e h
one_outcome x y (reads_maybe {found} d e) (reads_maybe {found = other} g h) = e ∙ (ap or_stays (one_outcome found other d g) ∙ sym h)
one_outcome {tokens} {c} x y (many_more {a} {q} {next} d e i) (many_more {q = r} {next = more} g h j) =
    let same : q ≡ r = place_taken (one_outcome (takes q) (takes r) d g) in
    i ∙ (behind_same same (one_outcome next more e (subst (λ z. Reads tokens c (many a) z more) (sym same) h)) ∙ sym j)
one_outcome x y (many_more {q} d e i) (many_ends {found} g h j) = absurd (no_take (one_outcome (takes q) found d g) h refl)
one_outcome x y (many_ends {found} d e i) (many_more {q} g h j) = absurd (no_take (sym (one_outcome found (takes q) d g)) e refl)
one_outcome x y (many_ends {found} d e i) (many_ends {found = other} g h j) = i ∙ (ap or_stays (one_outcome found other d g) ∙ sym j)
one_outcome x y (reads_rule d) (reads_rule g) = one_outcome x y d g
one_outcome {tokens} {p} x y (reads_asks {found} d e) (reads_asks {found = other} g h) =
    e ∙ (ap (with_request tokens p.at) (one_outcome found other d g) ∙ sym h)
one_outcome x y (nested_deep d e) (nested_deep g h) = e ∙ sym h
one_outcome x y (nested_deep d e) (reads_nested g h) = absurd (omega arith)
one_outcome x y (reads_nested d e) (nested_deep g h) = absurd (omega arith)
one_outcome x y (reads_nested d e) (reads_nested g h) = one_outcome x y e h
one_outcome x y (reads_headed d) (reads_headed g) = one_outcome x y d g

pub one_reading : OneReading
one_reading tokens context form place some other r s = one_outcome some other r s
