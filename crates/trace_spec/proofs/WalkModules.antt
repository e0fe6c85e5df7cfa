-- The modules that a walk comes to, by one step of its rules: a request puts its target at the end of the table, where
-- it isn't there yet.
use Rattle.std.specs.Prelude.{◌≡◌, ◌↔◌, ℕ, zero, suc, true, List, [], ◌∷◌, ◌++◌, slice_get, length, Option, Some, None}
use Rattle.std.specs.Prelude.{Result, Ok, filter_map, Contains}
use Rattle.std.specs.List.{cons_option}
use Rattle.std.proofs.Common.{refl, sym, ap, ◌∙◌, subst, arith, append_assoc, append-nil, length-append}
use Rattle.asking_spec.specs.Askings.{Asking, answered, outcome, and_ok}
use Rattle.asking_spec.proofs.AskingLemmas.{ok_parts}
use Rattle.trace_spec.specs.Walking.{Referrer, the_page, a_module, Opened, Rules, new_modules, followed, visited}
use Rattle.trace_spec.specs.Walking.{where_some, walked, walk}
use Rattle.trace_spec.specs.Levels.{Levels, Reached}
use Rattle.trace_spec.proofs.Queues.{Queue, ends, goes, new_modules-append, levels_of, reached_are_visited}
use Rattle.trace_spec.proofs.Queues.{visited_are_reached}

pub slice_there : {X : Type 0} (done rest : List X) → slice_get (done ++ rest) (length done) ≡ slice_get rest 0
slice_there [] rest = refl
slice_there (x ∷ done) rest = slice_there done rest

-- the visit at a place of the table
abbrev pub next_visit : {M B R Q : Type 0} {A : Q → Type 0} → Rules M B R Q A → ℕ → B → ℕ → Option M
    → Asking Q A (Result B R)
next_visit rules room before place found =
    where_some (answered (Ok before)) (λ m. and_ok (visited rules before (a_module m))
    (λ after. walked rules room after (suc place))) found

module _ {M B R Q : Type 0} {A : Q → Type 0} (answers : (question : Q) → A question) (rules : Rules M B R Q A) where
  -- what a referrer asks for and where each request leads, whatever came before; and what they put into the table
  pub record LeadsBy (specifiers : Referrer M → List (List ℕ)) (leads : Referrer M → List ℕ → Option M) : Type 0 where
    pub starts : rules.modules rules.start ≡ []
    pub opens : (before : B) (referrer : Referrer M) (opened : Opened B)
        → outcome answers (rules.opens before referrer) ≡ Ok opened
        → (opened.specifiers ≡ specifiers referrer) × (rules.modules opened.after ≡ rules.modules before)
    pub follows : (before : B) (referrer : Referrer M) (specifier : List ℕ) (after : B)
        → outcome answers (rules.follows before referrer specifier) ≡ Ok after
        → (target : M) × (leads referrer specifier ≡ Some target)
        × (rules.modules after ≡ rules.modules before
        ++ new_modules rules.same (rules.modules before) (target ∷ []))

  module _ (specifiers : Referrer M → List (List ℕ)) (leads : Referrer M → List ℕ → Option M)
      (by : LeadsBy specifiers leads) where
    abbrev pub targets_by : Referrer M → List M
    targets_by referrer = filter_map (leads referrer) (specifiers referrer)

    followed_modules : (referrer : Referrer M) (some : List (List ℕ)) (before after : B)
        → outcome answers (followed rules before referrer some) ≡ Ok after
        → rules.modules after ≡ rules.modules before
        ++ new_modules rules.same (rules.modules before) (filter_map (leads referrer) some)
    followed_modules referrer [] before after e =
        let same : before ≡ after = cc in ap rules.modules (sym same) ∙ sym (append-nil (rules.modules before))
    followed_modules referrer (specifier ∷ more) before after e =
        let parts =
        ok_parts answers (rules.follows before referrer specifier)
        (λ next. followed rules next referrer more) after e in
        let one = by.follows before referrer specifier parts.value parts.first_is in
        let new = new_modules rules.same (rules.modules before) (one.0 ∷ []) in
        let rest = filter_map (leads referrer) more in
        followed_modules referrer more parts.value after parts.next_is
        ∙ ((λ i. one.2 i ++ new_modules rules.same (one.2 i) rest)
        ∙ (append_assoc (rules.modules before) new (new_modules rules.same (rules.modules before ++ new) rest)
        ∙ (ap (λ ms. rules.modules before ++ ms)
        (sym (new_modules-append rules.same (rules.modules before) (one.0 ∷ []) rest))
        ∙ ap (λ o. rules.modules before ++ new_modules rules.same (rules.modules before) (cons_option o rest))
        (sym one.1))))

    pub visited_modules : (referrer : Referrer M) (before after : B)
        → outcome answers (visited rules before referrer) ≡ Ok after
        → rules.modules after ≡ rules.modules before
        ++ new_modules rules.same (rules.modules before) (targets_by referrer)
    visited_modules referrer before after e =
        let parts =
        ok_parts answers (rules.opens before referrer)
        (λ opened. followed rules opened.after referrer opened.specifiers) after e in
        let opened = by.opens before referrer parts.value parts.first_is in
        followed_modules referrer parts.value.specifiers parts.value.after after parts.next_is
        ∙ (λ i. opened.1 i ++ new_modules rules.same (opened.1 i) (filter_map (leads referrer) (opened.0 i)))

    walked_queue : (room : ℕ) (before : B) (place : ℕ) (after : B) (done rest : List M)
        → outcome answers (walked rules room before place) ≡ Ok after → rules.modules before ≡ done ++ rest
        → place ≡ length done → Queue M rules.same targets_by done rest (rules.modules after)
    walked_queue zero before place after done rest e is at = absurd (cc)
    walked_queue (suc room) before place after done [] e is at =
        let none : slice_get (rules.modules before) place ≡ None =
        ap (slice_get (rules.modules before)) at
        ∙ (ap (λ ms. slice_get ms (length done)) is ∙ slice_there done []) in
        let same : before ≡ after =
        (let P = subst (λ o. outcome answers (next_visit rules room before place o) ≡ Ok after) none e in cc) in
        subst (Queue M rules.same targets_by done []) (sym (ap rules.modules (sym same) ∙ (is ∙ append-nil done))) ends
    walked_queue (suc room) before place after done (m ∷ rest) e is at =
        let some : slice_get (rules.modules before) place ≡ Some m =
        ap (slice_get (rules.modules before)) at
        ∙ (ap (λ ms. slice_get ms (length done)) is ∙ slice_there done (m ∷ rest)) in
        let parts =
        ok_parts answers (visited rules before (a_module m)) (λ next. walked rules room next (suc place)) after
        (subst (λ o. outcome answers (next_visit rules room before place o) ≡ Ok after) some e) in
        let added = new_modules rules.same (done ++ m ∷ rest) (targets_by (a_module m)) in
        let all : rules.modules parts.value ≡ (done ++ m ∷ []) ++ (rest ++ added) =
        visited_modules (a_module m) before parts.value parts.first_is
        ∙ ((λ i. is i ++ new_modules rules.same (is i) (targets_by (a_module m)))
        ∙ (append_assoc done (m ∷ rest) added ∙ sym (append_assoc done (m ∷ []) (rest ++ added)))) in
        let next : suc place ≡ length (done ++ m ∷ []) = omega (arith, length-append done (m ∷ [])) in
        goes (walked_queue room parts.value (suc place) after (done ++ m ∷ []) (rest ++ added) parts.next_is all next)

    walk_queue : (all : B) → outcome answers (walk rules) ≡ Ok all
        → Queue M rules.same targets_by [] (new_modules rules.same [] (targets_by the_page)) (rules.modules all)
    walk_queue all e =
        let parts =
        ok_parts answers (visited rules rules.start the_page)
        (λ after. walked rules (suc rules.most) after 0) all e in
        walked_queue (suc rules.most) parts.value 0 all []
        (new_modules rules.same [] (targets_by the_page)) parts.next_is
        (visited_modules the_page rules.start parts.value parts.first_is
        ∙ (λ i. by.starts i ++ new_modules rules.same (by.starts i) (targets_by the_page))) refl

    pub walk_has_levels : (all : B) → outcome answers (walk rules) ≡ Ok all
        → Levels M rules.same targets_by [] (the_page ∷ []) (rules.modules all)
    walk_has_levels all e = levels_of rules.same targets_by (rules.modules all) (walk_queue all e)

    pub walk_is_reached : ((a b : M) → rules.same a b ≡ true → a ≡ b) → (all : B)
        → outcome answers (walk rules) ≡ Ok all → (m : M)
        → Contains (rules.modules all) m ↔ Reached M targets_by (a_module m)
    walk_is_reached decides all e m = (
      visited_are_reached rules.same targets_by (rules.modules all) (walk_queue all e) m,
      reached_are_visited rules.same targets_by decides (rules.modules all) (walk_queue all e) m,
    )
