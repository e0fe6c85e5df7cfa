-- The slots of a repair, one place after another.
--     next_filled, next_enough      a place, and those behind it
--     one_is_enough                 there is a slot for the first place
--     none_left                     there is no place any more
use Rattle.std.proofs.Common.{◌≡◌, ◌≤◌, ◌+◌, ◌++◌, List, [], ◌∷◌, length, Option, Some, None, refl, sym, ap, ◌∙◌, arith, append-nil, append_assoc}
use Rattle.slot_arena.specs.declared.slot.Slot.{Slot}
use Rattle.graph_repair.specs.Matching.{somes, missing, filled}
use Rattle.graph_repair.specs.Plans.{IsNext}

pub next_filled : (keep : Option Slot) (more : List (Option Slot)) (left others : List Slot) (s : Slot) → IsNext keep left s others
    → filled (keep ∷ more) left ≡ s ∷ filled more others
next_filled (Some k) more left others s (is, same) = λ i. sym is i ∷ filled more (sym same i)
next_filled None more left others s is = ap (filled (None ∷ more)) is

pub next_enough : (keep : Option Slot) (more : List (Option Slot)) (left others : List Slot) (s : Slot) → IsNext keep left s others
    → missing (keep ∷ more) ≡ length left → missing more ≡ length others
next_enough (Some k) more left others s (is, same) enough = enough ∙ ap length (sym same)
next_enough None more left others s is enough = let n = ap length is in omega (arith, n, enough)

pub one_is_enough : (keep : Option Slot) (more : List (Option Slot)) (left : List Slot) → missing (keep ∷ more) ≡ length left
    → missing (keep ∷ []) ≤ length left
one_is_enough (Some k) more left enough = omega arith
one_is_enough None more left enough = omega (arith, enough)

-- the slots so far, with the next one
pub filled_more : (slots after left others all : List Slot) (keep : Option Slot) (more : List (Option Slot)) (s : Slot) → IsNext keep left s others
    → after ≡ slots ++ s ∷ [] → slots ++ filled (keep ∷ more) left ≡ all → after ++ filled more others ≡ all
filled_more slots after left others all keep more s next is before =
    ap (λ xs. xs ++ filled more others) is
    ∙ (append_assoc slots (s ∷ []) (filled more others)
    ∙ (ap (λ xs. slots ++ xs) (sym (next_filled keep more left others s next)) ∙ before))

pub none_left : (slots left all : List Slot) (rest : List (Option Slot)) → length rest ≡ 0 → slots ++ filled rest left ≡ all → slots ≡ all
none_left slots left all [] none before = sym (append-nil slots) ∙ before
none_left slots left all (keep ∷ rest) none before = absurd (omega (arith, none))

pub missing_front : (keep : Option Slot) (more : List (Option Slot)) → missing (keep ∷ more) ≡ missing (keep ∷ []) + missing more
missing_front (Some k) more = omega arith
missing_front None more = omega arith

pub none_missing : (rest : List (Option Slot)) → length rest ≡ 0 → missing rest ≡ 0
none_missing [] none = refl
none_missing (keep ∷ rest) none = absurd (omega (arith, none))

pub missing_few : (keeps : List (Option Slot)) → missing keeps ≤ length keeps
missing_few [] = omega arith
missing_few (Some k ∷ keeps) = let rest = missing_few keeps in omega (arith, rest)
missing_few (None ∷ keeps) = let rest = missing_few keeps in omega (arith, rest)

pub somes_front : (keep : Option Slot) (more : List (Option Slot)) → somes (keep ∷ more) ≡ somes (keep ∷ []) ++ somes more
somes_front (Some k) more = refl
somes_front None more = refl

pub no_somes_left : (rest : List (Option Slot)) → length rest ≡ 0 → somes rest ≡ []
no_somes_left [] none = refl
no_somes_left (keep ∷ rest) none = absurd (omega (arith, none))
