-- The search from asker to asker, and the chain to its goal.
use Rattle.std.proofs.Common.{◌≡◌, ◌≤◌, ◌<◌, ◌+◌, ◌++◌, [], ◌∷◌, ℕ, suc, List, length, reverse, Option, Some, None, refl, sym, ap, ◌∙◌, subst, arith, append_assoc, append-nil, length-append}
use Rattle.std.specs.Prelude.{slice_get, nat_eq}
use Rattle.std.specs.Bool.{Decides}
use Rattle.std.proofs.lemmas.Bool.{and_parts, and_from, eqb-true, eq-eqb}
use Rattle.std.proofs.lemmas.List.{reverse-append}
use Rattle.std.proofs.lemmas.Option.{slice_get_within}
use Rattle.slot_arena.specs.Slots as arena
use Rattle.slot_arena.specs.declared.slot.Slot.{Slot}
use Rattle.module_graph.specs.declared.module.Module.{Module}
use Rattle.chain_spec.specs.Chains.{Asker, by_page, by_module, Targets, IsShortest, of_modules}
use Rattle.chain_search.specs.Searches.{Place, fresh, FirstGoal, NoGoal, Searched, ends, hits, goes}
use Rattle.chain_search.specs.Laws.{the_start, is_goal, IsFound}
use Rattle.chain_search.proofs.Search.{finds_shortest}
use Rattle.chain_why.specs.declared.reached.Reached.{Reached}
use Rattle.chain_why.specs.Shown.{targets_in, is_at}
use Rattle.chain_why.specs.Answers.{GoesBy, numbers_of, IsAnswer, Answers}
use Rattle.chain_why.specs.Askers.{asked_at}
use Rattle.chain_why.specs.Reaching.{is_slot, place_of, Shows, start, Expands, IsGoal, ComesTo, IsFoundGoal, Traces}
use Rattle.chain_why.proofs.Ends.{at_seam}
use Rattle.chain_why.proofs.Kept.{one_more, kept_at, page_first, asked_there}

-- ---- asker by asker

module _ (view : List (arena.Place Module)) (roots : List Slot) (path : List ℕ) where
  -- what the search comes to from the places that are left it comes to from the start
  pub record IsUnderWay (keys : List Reached) (number : ℕ) : Type 0 where
    pub done : List (Place Slot)
    pub rest : List (Place Slot)
    pub shows : Shows (targets_in view roots) keys (done ++ rest)
    pub count : length done ≡ number
    pub completes :
        (out : Option (List ℕ)) → Searched (targets_in view roots) is_slot (is_goal (is_at view path)) done rest out
        → ComesTo view roots path out

  pub begins : (keys : List Reached) → keys ≡ [] → IsUnderWay keys 0
  begins keys none = record {
    done = [];
    rest = the_start;
    shows = subst (λ ks. Shows (targets_in view roots) ks the_start) (sym none) start;
    count = refl;
    completes = λ out searched. searched;
  }

  -- the asker whose turn it is
  pub record IsNext (keys : List Reached) (number : ℕ) : Type 0 where
    pub done : List (Place Slot)
    pub asker : Place Slot
    pub rest : List (Place Slot)
    pub shows : Shows (targets_in view roots) keys (done ++ asker ∷ rest)
    pub count : length done ≡ number
    pub there : slice_get (done ++ asker ∷ rest) number ≡ Some asker
    pub asked : asked_at view roots keys number ≡ targets_in view roots asker.at
    pub completes :
        (out : Option (List ℕ))
        → Searched (targets_in view roots) is_slot (is_goal (is_at view path)) done (asker ∷ rest) out
        → ComesTo view roots path out

  pub next : (keys : List Reached) (number : ℕ) → number ≤ length keys → IsUnderWay keys number → IsNext keys number
  next keys number within on = by on.rest on.shows on.completes
    where
      by : (rest : List (Place Slot)) → Shows (targets_in view roots) keys (on.done ++ rest)
          → ((out : Option (List ℕ)) → Searched (targets_in view roots) is_slot (is_goal (is_at view path)) on.done rest out
          → ComesTo view roots path out)
          → IsNext keys number
      by [] shows completes =
          let long = one_more (targets_in view roots) keys (on.done ++ []) shows in
          let same = ap length (append-nil on.done) in
          let count = on.count in
          absurd (omega (arith, long, same, count, within))
      by (asker ∷ rest) shows completes =
          let there : slice_get (on.done ++ asker ∷ rest) number ≡ Some asker =
          subst (λ n. slice_get (on.done ++ asker ∷ rest) n ≡ Some asker) on.count (at_seam on.done rest asker) in
          record {
            done = on.done;
            asker = asker;
            rest = rest;
            shows = shows;
            count = on.count;
            there = there;
            asked = asked_there view roots keys (on.done ++ asker ∷ rest) shows number asker there;
            completes = completes;
          }

  pub goes_on : (keys new : List Reached) (number : ℕ) (asked : List Slot) → number ≤ length keys
      → asked ≡ asked_at view roots keys number → NoGoal (is_goal (is_at view path)) asked → Expands keys number asked new
      → IsUnderWay keys number → IsUnderWay new (number + 1)
  goes_on keys new number asked within is none expands on = record {
    done = turn.done ++ turn.asker ∷ [];
    rest = turn.rest ++ more;
    shows = subst (Shows (targets_in view roots) new) moved shown;
    count = (let n = length-append turn.done (turn.asker ∷ []) in let m = turn.count in omega (arith, n, m));
    completes = λ out searched. turn.completes out (goes turn.done turn.rest turn.asker out here searched);
  }
    where
      turn : IsNext keys number
      turn = next keys number within on

      asks : asked ≡ targets_in view roots turn.asker.at
      asks = is ∙ turn.asked

      here : NoGoal (is_goal (is_at view path)) (targets_in view roots turn.asker.at)
      here = subst (NoGoal (is_goal (is_at view path))) asks none

      more : List (Place Slot)
      more = fresh is_slot (turn.done ++ turn.asker ∷ turn.rest) turn.asker.back 0 (targets_in view roots turn.asker.at)

      shown : Shows (targets_in view roots) new ((turn.done ++ turn.asker ∷ turn.rest) ++ more)
      shown =
          subst (λ ts. Shows (targets_in view roots) new ((turn.done ++ turn.asker ∷ turn.rest) ++ fresh is_slot (turn.done ++ turn.asker ∷ turn.rest) turn.asker.back 0 ts)) asks
          (expands (targets_in view roots) (turn.done ++ turn.asker ∷ turn.rest) turn.asker turn.shows turn.there (sym asks))

      moved : (turn.done ++ turn.asker ∷ turn.rest) ++ more ≡ (turn.done ++ turn.asker ∷ []) ++ (turn.rest ++ more)
      moved = append_assoc turn.done (turn.asker ∷ turn.rest) more ∙ sym (append_assoc turn.done (turn.asker ∷ []) (turn.rest ++ more))

  pub none_left : (keys : List Reached) (number : ℕ) → length keys < number → IsUnderWay keys number
      → ComesTo view roots path None
  none_left keys number past on =
      on.completes None (by on.rest on.shows)
    where
      by : (rest : List (Place Slot)) → Shows (targets_in view roots) keys (on.done ++ rest)
          → Searched (targets_in view roots) is_slot (is_goal (is_at view path)) on.done rest None
      by [] shows = ends on.done
      by (asker ∷ rest) shows =
          let long = one_more (targets_in view roots) keys (on.done ++ asker ∷ rest) shows in
          let both = length-append on.done (asker ∷ rest) in
          let count = on.count in
          absurd (omega (arith, long, both, count, past))

  pub goal_found : (keys : List Reached) (number request : ℕ) (slot : Slot) (asked : List Slot) → number ≤ length keys
      → asked ≡ asked_at view roots keys number → FirstGoal (is_goal (is_at view path)) asked request
      → slice_get asked request ≡ Some slot → IsUnderWay keys number
      → IsFoundGoal view roots path keys (record { slot = slot; from = number; number = request })
  goal_found keys number request slot asked within is first leads on =
      let turn = next keys number within on in
      let asks : asked ≡ targets_in view roots turn.asker.at = is ∙ turn.asked in
      record {
        back = request ∷ turn.asker.back;
        goal_is = record {
          places = turn.done ++ turn.asker ∷ turn.rest;
          shows = turn.shows;
          from = turn.asker;
          there = turn.there;
          leads = subst (λ ts. slice_get ts request ≡ Some slot) asks leads;
          is = refl;
        };
        searched =
            turn.completes (Some (request ∷ turn.asker.back))
            (hits turn.done turn.rest turn.asker request (subst (λ ts. FirstGoal (is_goal (is_at view path)) ts request) asks first));
      }

-- ---- from the goal back to the page

turned : {A : Type 0} (x : A) (xs : List A) → reverse (x ∷ xs) ≡ reverse xs ++ x ∷ []
turned x xs = reverse-append (x ∷ []) xs

pub pushed : {A : Type 0} (xs : List A) (x : A) → reverse (xs ++ x ∷ []) ≡ x ∷ reverse xs
pushed xs x = reverse-append xs (x ∷ [])

pub record IsHalfway (targets : Targets Slot) (keys : List Reached) (back : List ℕ) (number : ℕ) (steps : List (ℕ × Slot))
    : Type 0 where
  pub places : List (Place Slot)
  pub shows : Shows targets keys places
  pub from : Place Slot
  pub there : slice_get places number ≡ Some from
  pub goes : GoesBy targets from.at (reverse steps)
  pub numbers : reverse from.back ++ numbers_of (reverse steps) ≡ reverse back

pub from_goal : (targets : Targets Slot) (keys : List Reached) (goal : Reached) (back : List ℕ) (steps : List (ℕ × Slot))
    → steps ≡ (goal.number, goal.slot) ∷ [] → IsGoal targets keys goal back → IsHalfway targets keys back goal.from steps
from_goal targets keys goal back steps e is =
    subst (IsHalfway targets keys back goal.from) (sym e)
    (record {
      places = is.places;
      shows = is.shows;
      from = is.from;
      there = is.there;
      goes = (is.leads, tt);
      numbers = sym (turned goal.number is.from.back) ∙ ap reverse (sym is.is);
    })

pub one_back : (targets : Targets Slot) (keys : List Reached) (back : List ℕ) (number index : ℕ) (old new : List (ℕ × Slot))
    (step : Reached) → number ≡ suc index → slice_get keys index ≡ Some step → new ≡ old ++ (step.number, step.slot) ∷ []
    → IsHalfway targets keys back number old → IsHalfway targets keys back step.from new
one_back targets keys back number index old new step e at put halfway =
    let is = kept_at targets keys halfway.places halfway.shows index step at in
    let here = ap (slice_get halfway.places) e ∙ is.here in
    let there = halfway.there in
    let same : halfway.from ≡ place_of step is.from = cc in
    let goes : GoesBy targets (by_module step.slot) (reverse old) =
    subst (λ (place : Place Slot). GoesBy targets place.at (reverse old)) same halfway.goes in
    let numbers : reverse (step.number ∷ is.from.back) ++ numbers_of (reverse old) ≡ reverse back =
    subst (λ (place : Place Slot). reverse place.back ++ numbers_of (reverse old) ≡ reverse back) same halfway.numbers in
    subst (IsHalfway targets keys back step.from) (sym put)
    (record {
      places = halfway.places;
      shows = halfway.shows;
      from = is.from;
      there = is.there;
      goes = subst (GoesBy targets is.from.at) (sym (pushed old (step.number, step.slot))) (is.leads, goes);
      numbers =
          ap (λ steps. reverse is.from.back ++ numbers_of steps) (pushed old (step.number, step.slot))
          ∙ (sym (append_assoc (reverse is.from.back) (step.number ∷ []) (numbers_of (reverse old)))
          ∙ (ap (λ front. front ++ numbers_of (reverse old)) (sym (turned step.number is.from.back))
          ∙ numbers));
    })

pub all_back : (targets : Targets Slot) (keys : List Reached) (back : List ℕ) (number : ℕ) (old steps : List (ℕ × Slot))
    → number ≡ 0 → steps ≡ reverse old → IsHalfway targets keys back number old
    → (numbers_of steps ≡ reverse back) × GoesBy targets by_page steps
all_back targets keys back number old steps none e halfway =
    let first = page_first targets keys halfway.places halfway.shows in
    let here = ap (slice_get halfway.places) none in
    let there = halfway.there in
    let same : halfway.from ≡ record { at = by_page; back = [] } = cc in (
      ap numbers_of e
          ∙ subst (λ (place : Place Slot). reverse place.back ++ numbers_of (reverse old) ≡ reverse back) same halfway.numbers,
      subst (GoesBy targets by_page) (sym e)
          (subst (λ (place : Place Slot). GoesBy targets place.at (reverse old)) same halfway.goes),
    )

-- ---- what the search found is the answer

nat_same : (a b : ℕ) → Decides (nat_eq a b) (a ≡ b)
nat_same a b = (eqb-true a b, eq-eqb a b)

slot_same : (one other : Slot) → Decides (is_slot one other) (one ≡ other)
slot_same one other = (
  (λ e.
      let parts = and_parts _ _ e in
      let index = (nat_same one.index other.index).0 parts.0 in
      let generation = (nat_same one.generation other.generation).0 parts.1 in
      λ i. record { index = index i; generation = generation i }),
  (λ same.
      and_from _ _ ((nat_same one.index other.index).1 (ap (λ (s : Slot). s.index) same))
      ((nat_same one.generation other.generation).1 (ap (λ (s : Slot). s.generation) same))),
)

module _ (view : List (arena.Place Module)) (roots : List Slot) (path : List ℕ) where
  without_page : of_modules (is_at view path) ≡ is_at view path
  without_page = λ i asker. by asker i
    where
      by : (asker : Asker Slot) → of_modules (is_at view path) asker ≡ is_at view path asker
      by by_page = refl
      by (by_module slot) = refl

  found_is : (out : Option (List ℕ)) → ComesTo view roots path out → IsFound (targets_in view roots) (is_at view path) out
  found_is out searched =
      subst (λ wanted. IsFound (targets_in view roots) wanted out) without_page
      (finds_shortest (targets_in view roots) is_slot (is_at view path) out slot_same searched)

  pub no_answer : ComesTo view roots path None → Answers view roots path None
  no_answer searched = found_is None searched

  pub answer : (keys : List Reached) (goal : Reached) (steps : List (ℕ × Slot)) → IsFoundGoal view roots path keys goal
      → Traces keys goal steps → IsAnswer view roots path steps
  answer keys goal steps found traces =
      let led = traces (targets_in view roots) found.back found.goal_is in
      record {
        shortest = subst (IsShortest (targets_in view roots) (is_at view path)) (sym led.0) (found_is (Some found.back) found.searched);
        slots = led.1;
      }

pub goal_within : (targets : Targets Slot) (keys : List Reached) (goal : Reached) (back : List ℕ) → IsGoal targets keys goal back
    → goal.from ≤ length keys
goal_within targets keys goal back is =
    let count = one_more targets keys is.places is.shows in
    let below = slice_get_within is.places goal.from is.from is.there in
    omega (arith, count, below)
