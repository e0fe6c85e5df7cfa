-- Texts cut at the first and at the last of a byte.
use Rattle.std.proofs.Common.{◌≡◌, ◌≢◌, ◌≤◌, ◌<◌, ◌==◌, ◌+◌, ◌++◌, ◌∷◌, [], ℕ, List, length, get_or, Bool, true, false, Option, Some, None, refl, sym, ap, ◌∙◌, arith}
use Rattle.std.proofs.lemmas.Bool.{eq-eqb, ne_eqb}
use Rattle.std.proofs.lemmas.List.{append-nil, take-append-drop, take_more, drop_more, drop_all, take_all, length-take-le, drop-drop}
use Rattle.std.proofs.Math.Seq.{take-append-add}
use Rattle.std.specs.Prelude.{take, drop, option_map, if◌then◌else◌}
use Rattle.session_spec.specs.SessionLines.{Cut, with_front, cut_here, cut_first, cut_last, first_of_two, line_ends}
use Rattle.session_input.specs.Cuts.{cut_at}

-- the cut with more in front of it
abbrev pub fronts : List ℕ → Cut → Cut
fronts front cut = record { front = front ++ cut.front; behind = cut.behind }

nothing_more : (found : Option Cut) → found ≡ option_map (fronts []) found
nothing_more None = refl
nothing_more (Some cut) = refl

one_more : (x : ℕ) (front : List ℕ) (found : Option Cut) → option_map (with_front x) (option_map (fronts front) found) ≡ option_map (fronts (x ∷ front)) found
one_more x front None = refl
one_more x front (Some cut) = refl

-- ---- the first

first_further : (here : Bool) (x : ℕ) (front back : List ℕ) (found again other : Option Cut) → (found ≡ None → again ≡ option_map (fronts front) other)
    → (if here then Some (cut_here front) else option_map (with_front x) found) ≡ None
    → (if here then Some (cut_here (front ++ back)) else option_map (with_front x) again) ≡ option_map (fronts (x ∷ front)) other
first_further true x front back found again other ih e = absurd (cc)
first_further false x front back None again other ih e = ap (option_map (with_front x)) (ih refl) ∙ one_more x front other
first_further false x front back (Some cut) again other ih e = absurd (cc)

pub first_front : (b : ℕ) (front back : List ℕ) → cut_first b front ≡ None → cut_first b (front ++ back) ≡ option_map (fronts front) (cut_first b back)
first_front b [] back e = nothing_more (cut_first b back)
first_front b (x ∷ front) back e =
    first_further (x == b) x front back (cut_first b front) (cut_first b (front ++ back)) (cut_first b back) (λ none. first_front b front back none) e

first_here : (b x : ℕ) (rest : List ℕ) → x ≡ b → cut_first b (x ∷ rest) ≡ Some (cut_here rest)
first_here b x rest e = ap (λ (here : Bool). if here then Some (cut_here rest) else option_map (with_front x) (cut_first b rest)) (eq-eqb x b e)

first_not : (b x : ℕ) → x ≢ b → cut_first b (x ∷ []) ≡ None
first_not b x e = ap (λ (here : Bool). if here then Some (cut_here []) else None) (ne_eqb x b e)

-- no byte of a longer front is this one
pub first_more : (b : ℕ) (text : List ℕ) (at : ℕ) → at < length text → cut_first b (take at text) ≡ None → get_or text at 0 ≢ b → cut_first b (take (at + 1) text) ≡ None
first_more b text at less none e =
    let x = get_or text at 0 in
    ap (cut_first b) (take_more text at 0 less) ∙ first_front b (take at text) (x ∷ []) none ∙ ap (option_map (fronts (take at text))) (first_not b x e)

pub first_at : (b : ℕ) (text : List ℕ) (at : ℕ) → at < length text → cut_first b (take at text) ≡ None → get_or text at 0 ≡ b → cut_first b text ≡ Some (cut_at at text)
first_at b text at less none e =
    let front = take at text in
    let x = get_or text at 0 in
    let rest = drop (at + 1) text in
    let whole : front ++ x ∷ rest ≡ text = ap (λ (back : List ℕ). front ++ back) (sym (drop_more text at 0 less)) ∙ take-append-drop at text in
    sym (ap (cut_first b) whole) ∙ first_front b front (x ∷ rest) none ∙ ap (option_map (fronts front)) (first_here b x rest e)
    ∙ ap (λ (f : List ℕ). Some (record { front = f; behind = rest })) (append-nil front)

pub first_none : (b : ℕ) (text : List ℕ) (at : ℕ) → length text ≤ at → cut_first b (take at text) ≡ None → cut_first b text ≡ None
first_none b text at least none = sym (ap (cut_first b) (take_all at text least)) ∙ none

-- ---- the last

last_not : (x : ℕ) (rest : List ℕ) → x ≢ 32 → cut_last 32 rest ≡ None → cut_last 32 (x ∷ rest) ≡ None
last_not x rest e none =
    ap (λ (found : Option Cut). first_of_two (option_map (with_front x) found) (if x == 32 then Some (cut_here rest) else None)) none
    ∙ ap (λ (here : Bool). if here then Some (cut_here rest) else None) (ne_eqb x 32 e)

last_here : (x : ℕ) (rest : List ℕ) → x ≡ 32 → cut_last 32 rest ≡ None → cut_last 32 (x ∷ rest) ≡ Some (cut_here rest)
last_here x rest e none =
    ap (λ (found : Option Cut). first_of_two (option_map (with_front x) found) (if x == 32 then Some (cut_here rest) else None)) none
    ∙ ap (λ (here : Bool). if here then Some (cut_here rest) else None) (eq-eqb x 32 e)

last_front : (front back : List ℕ) (cut : Cut) → cut_last 32 back ≡ Some cut → cut_last 32 (front ++ back) ≡ Some (fronts front cut)
last_front [] back cut e = e
last_front (x ∷ front) back cut e =
    ap (λ (found : Option Cut). first_of_two (option_map (with_front x) found) (if x == 32 then Some (cut_here (front ++ back)) else None)) (last_front front back cut e)

pub last_none_more : (text : List ℕ) (at : ℕ) → at < length text → get_or text at 0 ≢ 32 → cut_last 32 (drop (at + 1) text) ≡ None → cut_last 32 (drop at text) ≡ None
last_none_more text at less e none = ap (cut_last 32) (drop_more text at 0 less) ∙ last_not (get_or text at 0) (drop (at + 1) text) e none

pub last_at : (text : List ℕ) (at : ℕ) → at < length text → get_or text at 0 ≡ 32 → cut_last 32 (drop (at + 1) text) ≡ None → cut_last 32 text ≡ Some (cut_at at text)
last_at text at less e none =
    let front = take at text in
    let rest = drop (at + 1) text in
    let here = ap (cut_last 32) (drop_more text at 0 less) ∙ last_here (get_or text at 0) rest e none in
    sym (ap (cut_last 32) (take-append-drop at text)) ∙ last_front front (drop at text) (cut_here rest) here
    ∙ ap (λ (f : List ℕ). Some (record { front = f; behind = rest })) (append-nil front)

pub last_found : (text front rest : List ℕ) (at last : ℕ) → at < length text → front ≡ take at text → rest ≡ drop (at + 1) text → get_or text at 0 ≡ 32 → last ≡ at + 1
    → cut_last 32 (drop last text) ≡ None → Some (record { front = front; behind = rest }) ≡ cut_last 32 text
last_found text front rest at last less is_front is_rest e next none =
    let found = last_at text at less e (ap (λ (n : ℕ). cut_last 32 (drop n text)) (sym next) ∙ none) in
    (λ i. Some (record { front = is_front i; behind = is_rest i })) ∙ sym found

pub last_none : (text : List ℕ) (at : ℕ) → length text ≤ at → cut_last 32 (drop at text) ≡ None
last_none text at least = ap (cut_last 32) (drop_all at text least)

-- ---- what was searched

pub seen_all : (unread rest : List ℕ) (searched : ℕ) → cut_first 10 (take searched unread) ≡ None → rest ≡ drop searched unread → cut_first 10 rest ≡ None → cut_first 10 unread ≡ None
seen_all unread rest searched seen is none =
    let front = take searched unread in
    sym (ap (cut_first 10) (take-append-drop searched unread)) ∙ first_front 10 front (drop searched unread) seen
    ∙ ap (option_map (fronts front)) (ap (cut_first 10) (sym is) ∙ none)

pub found_behind : (unread rest : List ℕ) (searched at : ℕ) → searched ≤ length unread → cut_first 10 (take searched unread) ≡ None → rest ≡ drop searched unread → cut_first 10 rest ≡ Some (cut_at at rest)
    → cut_first 10 unread ≡ Some (cut_at (searched + at) unread)
found_behind unread rest searched at within seen is found =
    let front = take searched unread in
    let whole : front ++ rest ≡ unread = ap (λ (back : List ℕ). front ++ back) is ∙ take-append-drop searched unread in
    let long : length front ≡ searched = length-take-le searched unread within in
    let fore : front ++ take at rest ≡ take (searched + at) unread =
    sym (take-append-add front rest at) ∙ ap (λ (n : ℕ). take (n + at) (front ++ rest)) long ∙ ap (take (searched + at)) whole in
    let hind : drop (at + 1) rest ≡ drop (searched + at + 1) unread =
    ap (drop (at + 1)) is ∙ drop-drop (at + 1) searched unread ∙ ap (λ (n : ℕ). drop n unread) (omega arith) in
    sym (ap (cut_first 10) whole) ∙ first_front 10 front rest seen ∙ ap (option_map (fronts front)) found
    ∙ (λ i. Some (record { front = fore i; behind = hind i }))

-- ---- the ends of lines

pub line_ends-append : (front back : List ℕ) → line_ends (front ++ back) ≡ line_ends front + line_ends back
line_ends-append [] back = omega arith
line_ends-append (x ∷ front) back =
    let ih = line_ends-append front back in
    let here = if x == 10 then 1 else 0 in
    let first : line_ends (x ∷ (front ++ back)) ≡ here + line_ends (front ++ back) = refl in
    let second : line_ends (x ∷ front) ≡ here + line_ends front = refl in
    omega (arith, ih, first, second)

one_end : (x : ℕ) → x ≡ 10 → line_ends (x ∷ []) ≡ 1
one_end x e = ap (λ (here : Bool). (if here then 1 else 0) + 0) (eq-eqb x 10 e)

no_end : (x : ℕ) → x ≢ 10 → line_ends (x ∷ []) ≡ 0
no_end x e = ap (λ (here : Bool). (if here then 1 else 0) + 0) (ne_eqb x 10 e)

pub ends_more : (text : List ℕ) (at : ℕ) → at < length text → get_or text at 0 ≡ 10 → line_ends (take (at + 1) text) ≡ line_ends (take at text) + 1
ends_more text at less e =
    let x = get_or text at 0 in
    ap line_ends (take_more text at 0 less) ∙ line_ends-append (take at text) (x ∷ []) ∙ ap (λ (n : ℕ). line_ends (take at text) + n) (one_end x e)

pub ends_same : (text : List ℕ) (at : ℕ) → at < length text → get_or text at 0 ≢ 10 → line_ends (take (at + 1) text) ≡ line_ends (take at text)
ends_same text at less e =
    let x = get_or text at 0 in
    let more = ap line_ends (take_more text at 0 less) ∙ line_ends-append (take at text) (x ∷ []) in
    let none = no_end x e in
    omega (arith, more, none)

-- a piece more is counted
pub ends_on : (all rest piece more : List ℕ) (ends few : ℕ) → rest ≡ piece ++ more → few ≡ line_ends piece
    → line_ends rest + ends ≡ line_ends all → line_ends more + (ends + few) ≡ line_ends all
ends_on all rest piece more ends few is same whole =
    let both = ap line_ends is ∙ line_ends-append piece more in
    omega (arith, same, whole, both)

one_or_none : (here : Bool) → (if here then 1 else 0) ≤ 1
one_or_none true = omega arith
one_or_none false = omega arith

pub few_ends : (text : List ℕ) → line_ends text ≤ length text
few_ends [] = omega arith
few_ends (x ∷ text) =
    let ih = few_ends text in
    let one = one_or_none (x == 10) in
    omega (arith, ih, one)

pub ruleset cutting = (first_more, first_at, first_none, last_none_more, last_at, last_none, ends_more, ends_same)

pub ruleset counting = (few_ends)
