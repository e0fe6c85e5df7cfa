-- What is kept of the places that were reached.
use Rattle.std.proofs.Common.{◌≡◌, ◌≤◌, ◌+◌, ◌++◌, [], ◌∷◌, ℕ, zero, suc, false, List, length, drop, Option, Some, None, refl, sym, ap, ◌∙◌, subst, inl, inr, arith, append_assoc, length-append}
use Rattle.std.specs.Prelude.{slice_get, ◌||◌}
use Rattle.std.specs.List.{list_any}
use Rattle.std.proofs.lemmas.Bool.{cases_Bool, cond-true, cond-false}
use Rattle.std.proofs.lemmas.List.Folds.{list_any-append}
use Rattle.std.proofs.lemmas.Option.{slice_get_within, slice_get_cases}
use Rattle.shared_types.proofs.ListSteps.{drop_at}
use Rattle.indexmap.specs.IndexSet.{insert_key}
use Rattle.slot_arena.specs.Slots as arena
use Rattle.slot_arena.specs.declared.slot.Slot.{Slot}
use Rattle.module_graph.specs.declared.module.Module.{Module}
use Rattle.chain_spec.specs.Chains.{by_page, Targets}
use Rattle.chain_search.specs.Searches.{Place, is_at, is_reached, fresh}
use Rattle.chain_why.specs.declared.reached.Reached.{Reached}
use Rattle.chain_why.specs.Shown.{targets_in}
use Rattle.chain_why.specs.Askers.{asked_at, asked_by}
use Rattle.chain_why.specs.Reaching.{is_slot, is_same, place_of, Shows, start, more, AreInOrder}
use Rattle.chain_why.proofs.Ends.{kept, at_seam, at_end}

module _ (targets : Targets Slot) where
  pub one_more : (keys : List Reached) (places : List (Place Slot)) → Shows targets keys places → length places ≡ suc (length keys)
  one_more _ _ start = refl
  one_more _ _ (more keys places reached from shows there leads) =
      let so_far = one_more keys places shows in
      let n = length-append places (place_of reached from ∷ []) in
      let m = length-append keys (reached ∷ []) in
      omega (arith, so_far, n, m)

  -- where a module was reached from, and its own place
  pub record IsKept (keys : List Reached) (places : List (Place Slot)) (index : ℕ) (reached : Reached) : Type 0 where
    pub from : Place Slot
    pub there : slice_get places reached.from ≡ Some from
    pub leads : slice_get (targets from.at) reached.number ≡ Some reached.slot
    pub here : slice_get places (suc index) ≡ Some (place_of reached from)
    pub before : reached.from ≤ index

  pub kept_at : (keys : List Reached) (places : List (Place Slot)) → Shows targets keys places → (index : ℕ) (reached : Reached)
      → slice_get keys index ≡ Some reached → IsKept keys places index reached
  kept_at _ _ start index reached e = absurd (cc)
  kept_at _ _ (more keys places last from shows there leads) index reached e =
      elim (at_end keys last index reached e) [
        | inl old ↦
            let is = kept_at keys places shows index reached old in
            record {
              from = is.from;
              there = kept places (place_of last from ∷ []) reached.from is.from is.there;
              leads = is.leads;
              here = kept places (place_of last from ∷ []) (suc index) (place_of reached is.from) is.here;
              before = is.before;
            }
        | inr new ↦
            let count = one_more keys places shows in
            let place : suc index ≡ length places = ap suc new.0 ∙ sym count in
            subst (IsKept (keys ++ last ∷ []) (places ++ place_of last from ∷ []) index) new.1
            (record {
              from = from;
              there = kept places (place_of last from ∷ []) last.from from there;
              leads = leads;
              here = ap (slice_get (places ++ place_of last from ∷ [])) place ∙ at_seam places [] (place_of last from);
              before = (let below = slice_get_within places last.from from there in omega (arith, below, place));
            })
      ]

  pub page_first : (keys : List Reached) (places : List (Place Slot)) → Shows targets keys places
      → slice_get places 0 ≡ Some (record { at = by_page; back = [] })
  page_first _ _ start = refl
  page_first _ _ (more keys places last from shows there leads) =
      kept places (place_of last from ∷ []) 0 (record { at = by_page; back = [] }) (page_first keys places shows)

  pub in_order : (keys : List Reached) (places : List (Place Slot)) → Shows targets keys places → AreInOrder keys
  in_order keys places shows = λ index reached e. (kept_at keys places shows index reached e).before

  -- ---- what is there yet

  pub there_yet : (keys : List Reached) (places : List (Place Slot)) → Shows targets keys places → (reached : Reached)
      → is_reached is_slot places reached.slot ≡ list_any (is_same reached) keys
  there_yet _ _ start reached = refl
  there_yet _ _ (more keys places last from shows there leads) reached =
      list_any-append (λ (place : Place Slot). is_at is_slot reached.slot place.at) places (place_of last from ∷ [])
      ∙ ((λ i. there_yet keys places shows reached i || (is_slot reached.slot last.slot || false))
      ∙ sym (list_any-append (is_same reached) keys (last ∷ [])))

  -- some of the targets of an asker were looked at
  pub record IsMidway (keys : List Reached) (from number : ℕ) (asked : List Slot) (asker : Place Slot)
      (whole : List (Place Slot)) : Type 0 where
    pub now : List (Place Slot)
    pub shows : Shows targets keys now
    pub there : slice_get now from ≡ Some asker
    pub left : now ++ fresh is_slot now asker.back number (drop number asked) ≡ whole

  pub one_looked_at : (keys new : List Reached) (from number : ℕ) (asked : List Slot) (asker : Place Slot)
      (whole : List (Place Slot)) (slot : Slot) → targets asker.at ≡ asked → slice_get asked number ≡ Some slot
      → new ≡ insert_key is_same keys (record { slot = slot; from = from; number = number })
      → IsMidway keys from number asked asker whole → IsMidway new from (number + 1) asked asker whole
  one_looked_at keys new from number asked asker whole slot same at inserted midway =
      elim (cases_Bool (list_any (is_same step) keys)) [
        | inl old ↦
            subst (λ ks. IsMidway ks from (number + 1) asked asker whole) (sym (inserted ∙ cond-true _ keys (keys ++ step ∷ []) old))
            (record {
              now = now;
              shows = midway.shows;
              there = midway.there;
              left =
                  ap (λ n. now ++ fresh is_slot now asker.back n rest) next
                  ∙ (ap (λ ps. now ++ ps) (sym (cond-true _ (fresh is_slot now asker.back (suc number) rest) fresh_on (yet ∙ old)))
                  ∙ so_far);
            })
        | inr new_one ↦
            subst (λ ks. IsMidway ks from (number + 1) asked asker whole) (sym (inserted ∙ cond-false _ keys (keys ++ step ∷ []) new_one))
            (record {
              now = now ++ place ∷ [];
              shows = more keys now step asker midway.shows midway.there (ap (λ ts. slice_get ts number) same ∙ at);
              there = kept now (place ∷ []) from asker midway.there;
              left =
                  ap (λ n. (now ++ place ∷ []) ++ fresh is_slot (now ++ place ∷ []) asker.back n rest) next
                  ∙ (append_assoc now (place ∷ []) (fresh is_slot (now ++ place ∷ []) asker.back (suc number) rest)
                  ∙ (ap (λ ps. now ++ ps) (sym (cond-false _ (fresh is_slot now asker.back (suc number) rest) fresh_on (yet ∙ new_one)))
                  ∙ so_far));
            })
      ]
    where
      now : List (Place Slot)
      now = midway.now

      step : Reached
      step = record { slot = slot; from = from; number = number }

      place : Place Slot
      place = place_of step asker

      rest : List Slot
      rest = drop (number + 1) asked

      next : number + 1 ≡ suc number
      next = omega arith

      yet : is_reached is_slot now slot ≡ list_any (is_same step) keys
      yet = there_yet keys now midway.shows step

      fresh_on : List (Place Slot)
      fresh_on = place ∷ fresh is_slot (now ++ place ∷ []) asker.back (suc number) rest

      so_far : now ++ fresh is_slot now asker.back number (slot ∷ rest) ≡ whole
      so_far = ap (λ ts. now ++ fresh is_slot now asker.back number ts) (sym (drop_at asked number slot at)) ∙ midway.left

-- ---- the asker at a place

pub asked_there : (view : List (arena.Place Module)) (roots : List Slot) (keys : List Reached) (places : List (Place Slot))
    → Shows (targets_in view roots) keys places → (number : ℕ) (asker : Place Slot)
    → slice_get places number ≡ Some asker → asked_at view roots keys number ≡ targets_in view roots asker.at
asked_there view roots keys places shows zero asker e =
    let page = page_first (targets_in view roots) keys places shows in
    let same : record { at = by_page; back = [] } ≡ asker = cc in
    ap (λ (place : Place Slot). targets_in view roots place.at) same
asked_there view roots keys places shows (suc index) asker e = by (slice_get keys index) refl
  where
    by : (found : Option Reached) → slice_get keys index ≡ found
        → asked_by view (slice_get keys index) ≡ targets_in view roots asker.at
    by None none =
        elim (slice_get_cases keys index).1 [
          | inl some ↦ (let is = some.2 in absurd (cc))
          | inr past ↦
              let count = one_more (targets_in view roots) keys places shows in
              let below = slice_get_within places (suc index) asker e in
              let long = past.0 in
              absurd (omega (arith, count, below, long))
        ]
    by (Some reached) f =
        let is = kept_at (targets_in view roots) keys places shows index reached f in
        let here = is.here in
        let same : place_of reached is.from ≡ asker = cc in
        ap (asked_by view) f ∙ ap (λ (place : Place Slot). targets_in view roots place.at) same
