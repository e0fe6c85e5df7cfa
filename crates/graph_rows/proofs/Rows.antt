-- A place that is used twice.
--     left_behind     what is left where the value under a slot is taken out
--     room_anew       there is room again
--     seen_anew       what is seen once another value is put in
use Rattle.std.proofs.Common.{◌≡◌, ◌<◌, List, [], Option, Some, None, sym, ap, ◌∙◌, arith, subst}
use Rattle.slot_arena.specs.Slots.{Place, value_at, IsFresh, set_at, with_places, taken_from}
use Rattle.slot_arena.specs.Counts.{spare, wanted}
use Rattle.slot_arena.specs.Calls.{begin, removed}
use Rattle.slot_arena.specs.declared.slot.Slot.{Slot}
use Rattle.slot_arena.proofs.SlotLaws.{given_once, each_inserts, each_removes, each_grows}

module _ {X : Type 0} where
  -- an arena with room for two, in which a value is put under a slot, and taken out
  pub record Used (made left : List (Place X)) (s : Slot) (x : X) (o : Option X) : Type 0 where
    pub empty : List (Place X)
    pub filled : List (Place X)
    pub is_empty : empty ≡ []
    pub is_made : made ≡ with_places empty (wanted (spare empty) 2)
    pub fresh : IsFresh made s
    pub is_filled : filled ≡ set_at made s (Some x)
    pub is_taken : o ≡ value_at filled s
    pub is_left : left ≡ taken_from filled s o

  module _ (made left : List (Place X)) (s : Slot) (x : X) (o : Option X) (used : Used made left s x o) where
    abbrev put : List (Place X)
    put = set_at made s (Some x)

    pub taken_out : o ≡ Some x
    taken_out = used.is_taken ∙ (ap (λ a. value_at a s) used.is_filled ∙ (each_inserts X made s x used.fresh).here)

    left_behind : left ≡ set_at put s None
    left_behind = used.is_left ∙ (ap (λ p. taken_from used.filled s p) taken_out ∙ ap (λ a. set_at a s None) used.is_filled)

    pub room_anew : 0 < spare left
    room_anew =
        let inserted = each_inserts X made s x used.fresh in
        let freed = (each_removes X put s x inserted.here).freed in
        let less = inserted.one_less in
        let grown = (each_grows X used.empty (wanted (spare used.empty) 2)).more_spare in
        let wants : wanted (spare used.empty) 2 ≡ 64 = ap (λ a. wanted (spare a) 2) used.is_empty in
        let counted = ap spare used.is_made in
        let left_has = ap spare left_behind in
        omega (arith, freed, less, grown, wants, counted, left_has)

    pub seen_old : (t : Slot) (y : X) → IsFresh left t → value_at (set_at left t (Some y)) s ≡ None
    seen_old t y fresh =
        let inserted = each_inserts X made s x used.fresh in
        let given = (given_once X).given made s x used.fresh in
        let other = (given_once X).never_again put (set_at put s None) s t given (removed s x inserted.here begin)
        (subst (λ a. IsFresh a t) left_behind fresh) in
        let gone = (each_removes X put s x inserted.here).here in
        (each_inserts X left t y fresh).elsewhere s (λ e. other (sym e)) ∙ (ap (λ a. value_at a s) left_behind ∙ gone)
