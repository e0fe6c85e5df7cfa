-- Where the modules of a table are visited in its own order, and each visit puts the new targets at its end, the table
-- has the levels, and holds what is reached.
use Rattle.std.specs.Prelude.{◌≡◌, ◌⊎◌, Bool, true, List, [], ◌∷◌, ◌++◌, map, flat_map, Contains}
use Rattle.std.specs.List.{list_any}
use Rattle.std.proofs.Common.{refl, sym, ap, ◌∙◌, subst, ⊎_elim, append_assoc, append-nil}
use mathlib.Core.Logic.{inl, inr}
use Rattle.std.proofs.lemmas.Bool.{cases_Bool, cond-true, cond-false}
use Rattle.std.proofs.lemmas.Grind.{flat_map-append}
use Rattle.trace_spec.specs.Walking.{Referrer, the_page, a_module, new_modules}
use Rattle.std.proofs.lemmas.List.Elements.{Contains-append_left, Contains-append_right, Contains-append_cases}
use Rattle.std.proofs.lemmas.List.Elements.{Contains-push, Contains-push_cases}
use Rattle.std.proofs.lemmas.Map.Views.{Contains-from_any}
use Rattle.layout_spec.proofs.Contained.{contains_here, contains_there, contains_cases, contains_none}
use Rattle.trace_spec.specs.Levels.{Levels, last_level, next_level, Reached, page, requested}

pub new_modules-append : {M : Type 0} (same : M → M → Bool) (seen some more : List M)
    → new_modules same seen (some ++ more) ≡ new_modules same seen some
    ++ new_modules same (seen ++ new_modules same seen some) more
new_modules-append same seen [] more = ap (λ s. new_modules same s more) (sym (append-nil seen))
new_modules-append same seen (m ∷ some) more =
    ⊎_elim
    (λ known. cond-true (list_any (same m) seen) _ _ known
    ∙ (new_modules-append same seen some more
    ∙ (λ i. sym (cond-true (list_any (same m) seen) (new_modules same seen some)
    (m ∷ new_modules same (seen ++ m ∷ []) some) known) i
    ++ new_modules same (seen ++ sym (cond-true (list_any (same m) seen) (new_modules same seen some)
    (m ∷ new_modules same (seen ++ m ∷ []) some) known) i) more)))
    (λ new.
    let here : new_modules same seen (m ∷ some) ≡ m ∷ new_modules same (seen ++ m ∷ []) some =
    cond-false (list_any (same m) seen) _ _ new in
    let behind = new_modules-append same (seen ++ m ∷ []) some more in
    cond-false (list_any (same m) seen) _ _ new
    ∙ (ap (λ ms. m ∷ ms) behind
    ∙ ((λ i. m ∷ (new_modules same (seen ++ m ∷ []) some
    ++ new_modules same (append_assoc seen (m ∷ []) (new_modules same (seen ++ m ∷ []) some) i) more))
    ∙ (λ i. sym here i ++ new_modules same (seen ++ sym here i) more))))
    (cases_Bool (list_any (same m) seen))

-- the modules that have their visits behind those that had theirs: first those that wait
pub data Queue (M : Type 0) (same : M → M → Bool) (targets : Referrer M → List M) : List M → List M → List M
    → Type 0 where
  ends : {done : List M} → Queue M same targets done [] done
  goes : {done rest all : List M} {m : M} → Queue M same targets (done ++ m ∷ [])
      (rest ++ new_modules same (done ++ m ∷ rest) (targets (a_module m))) all
      → Queue M same targets done (m ∷ rest) all

-- ---- levels

module _ {M : Type 0} (same : M → M → Bool) (targets : Referrer M → List M) where
  -- the modules `all` are those that were seen, of which `now` still wait for their visits, and then levels behind
  -- `level` and `now`
  record Behind (seen now : List M) (level : List (Referrer M)) (all : List M) : Type 0 where
    more : List M
    is_all : all ≡ seen ++ more
    levels : Levels M same targets seen (level ++ map a_module now) more

  abbrev LevelsFrom : List M → List M → List M → Type 0
  LevelsFrom done rest all =
      (now next : List M) (level : List (Referrer M)) → rest ≡ now ++ next
      → next ≡ new_modules same (done ++ now) (flat_map targets level) → Behind (done ++ now) now level all

  -- one visit of the level
  one_visit : (done rest all : List M) (m : M) (now next : List M) (level : List (Referrer M))
      → LevelsFrom (done ++ m ∷ []) (rest ++ new_modules same (done ++ m ∷ rest) (targets (a_module m))) all
      → rest ≡ now ++ next → next ≡ new_modules same (done ++ m ∷ now) (flat_map targets level)
      → Behind (done ++ m ∷ now) (m ∷ now) level all
  one_visit done rest all m now next level later split is =
      let seen : (done ++ m ∷ []) ++ now ≡ done ++ m ∷ now = append_assoc done (m ∷ []) now in
      let behind : done ++ m ∷ rest ≡ (done ++ m ∷ now) ++ next =
      ap (λ r. done ++ m ∷ r) split ∙ sym (append_assoc done (m ∷ now) next) in
      let added = new_modules same (done ++ m ∷ rest) (targets (a_module m)) in
      let whole : rest ++ added ≡ now ++ (next ++ added) = ap (λ r. r ++ added) split ∙ append_assoc now next added in
      let both : flat_map targets (level ++ a_module m ∷ []) ≡ flat_map targets level ++ targets (a_module m) =
      flat_map-append targets level (a_module m ∷ [])
      ∙ ap (λ ts. flat_map targets level ++ ts) (append-nil (targets (a_module m))) in
      let new : next ++ added ≡ new_modules same (done ++ m ∷ now) (flat_map targets (level ++ a_module m ∷ [])) =
      ap (λ s. next ++ new_modules same s (targets (a_module m))) behind
      ∙ ((λ i. is i ++ new_modules same ((done ++ m ∷ now) ++ is i) (targets (a_module m)))
      ∙ (sym (new_modules-append same (done ++ m ∷ now) (flat_map targets level) (targets (a_module m)))
      ∙ ap (new_modules same (done ++ m ∷ now)) (sym both))) in
      let found =
      later now (next ++ added) (level ++ a_module m ∷ []) whole
      (new ∙ ap (λ s. new_modules same s (flat_map targets (level ++ a_module m ∷ []))) (sym seen)) in
      record {
        more = found.more;
        is_all = found.is_all ∙ ap (λ s. s ++ found.more) seen;
        levels = subst (λ s. Levels M same targets s (level ++ map a_module (m ∷ now)) found.more) seen
            (subst (λ l. Levels M same targets ((done ++ m ∷ []) ++ now) l found.more)
            (append_assoc level (a_module m ∷ []) (map a_module now)) found.levels);
      }

  levels_by : (done rest all : List M) (m : M)
      → LevelsFrom (done ++ m ∷ []) (rest ++ new_modules same (done ++ m ∷ rest) (targets (a_module m))) all
      → LevelsFrom done (m ∷ rest) all
  levels_by done rest all m later (n ∷ now) next level split is =
      let first : n ≡ m = cc in
      let others : rest ≡ now ++ next = cc in
      subst (λ x. Behind (done ++ x ∷ now) (x ∷ now) level all) (sym first)
      (one_visit done rest all m now next level later others
      (subst (λ x. next ≡ new_modules same (done ++ x ∷ now) (flat_map targets level)) first is))
  levels_by done rest all m later [] next level split is =
      let found = one_visit done rest all m rest [] [] later (sym (append-nil rest)) refl in
      let new : new_modules same (done ++ []) (flat_map targets (level ++ [])) ≡ m ∷ rest =
      ap (λ l. new_modules same (done ++ []) (flat_map targets l)) (append-nil level) ∙ sym (split ∙ is) in
      record {
        more = (m ∷ rest) ++ found.more;
        is_all =
            found.is_all ∙ (append_assoc done (m ∷ rest) found.more
            ∙ ap (λ d. d ++ ((m ∷ rest) ++ found.more)) (sym (append-nil done)));
        levels =
            next_level new (subst (λ d. Levels M same targets (d ++ m ∷ rest) (map a_module (m ∷ rest)) found.more)
            (sym (append-nil done)) found.levels);
      }

  levels_from : (done rest all : List M) → Queue M same targets done rest all → LevelsFrom done rest all
  levels_from done rest all ends (n ∷ now) next level split is = absurd (cc)
  levels_from done rest all ends [] next level split is = record {
    more = [];
    is_all = sym (append-nil (done ++ []) ∙ append-nil done);
    levels =
        last_level (ap (λ l. new_modules same (done ++ []) (flat_map targets l)) (append-nil level)
        ∙ sym (split ∙ is));
  }
  levels_from done rest all (goes {done = d} {rest = r} {all = a} {m = m} later) now next level split is =
      levels_by d r a m (levels_from _ _ _ later) now next level split is

  -- the modules that the page asks for, and those behind them, are the levels
  pub levels_of : (all : List M) → Queue M same targets [] (new_modules same [] (targets the_page)) all
      → Levels M same targets [] (the_page ∷ []) all
  levels_of all queue =
      let found =
      levels_from [] (new_modules same [] (targets the_page)) all queue [] (new_modules same [] (targets the_page))
      (the_page ∷ []) refl (ap (new_modules same []) (sym (append-nil (targets the_page)))) in
      subst (Levels M same targets [] (the_page ∷ [])) (sym found.is_all) found.levels

-- ---- what is reached

module _ {M : Type 0} (same : M → M → Bool) where
  pub new_is_target : (seen some : List M) (m : M) → Contains (new_modules same seen some) m → Contains some m
  new_is_target seen [] m c = c
  new_is_target seen (first ∷ more) m c =
      elim (cases_Bool (list_any (same first) seen)) [
        | inl known ↦
            contains_there m first more (new_is_target seen more m
            (subst (λ ms. Contains ms m) (cond-true _ (new_modules same seen more)
            (first ∷ new_modules same (seen ++ first ∷ []) more) known) c))
        | inr new ↦
            elim (contains_cases m first _ (subst (λ ms. Contains ms m)
            (cond-false _ (new_modules same seen more) (first ∷ new_modules same (seen ++ first ∷ []) more) new) c)) [
              | inl is ↦ subst (Contains (first ∷ more)) is (contains_here first more)
              | inr later ↦ contains_there m first more (new_is_target (seen ++ first ∷ []) more m later)
            ]
      ]

  -- a list's modules stand among those that were seen, or are new
  covered : ((a b : M) → same a b ≡ true → a ≡ b) → (seen some : List M) (m : M) → Contains some m
      → Contains (seen ++ new_modules same seen some) m
  covered decides seen [] m c = absurd (contains_none m c)
  covered decides seen (first ∷ more) m c =
      elim (cases_Bool (list_any (same first) seen)) [
        | inl known ↦
            subst (λ ms. Contains (seen ++ ms) m)
            (sym (cond-true _ (new_modules same seen more) (first ∷ new_modules same (seen ++ first ∷ []) more) known))
            (elim (contains_cases m first more c) [
              | inl is ↦
                  subst (Contains (seen ++ new_modules same seen more)) is
                  (Contains-append_left seen (new_modules same seen more) first
                  (Contains-from_any decides first seen known))
              | inr later ↦ covered decides seen more m later
            ])
        | inr new ↦
            subst (λ ms. Contains (seen ++ ms) m)
            (sym (cond-false _ (new_modules same seen more) (first ∷ new_modules same (seen ++ first ∷ []) more) new))
            (subst (λ ms. Contains ms m) (append_assoc seen (first ∷ []) (new_modules same (seen ++ first ∷ []) more))
            (elim (contains_cases m first more c) [
              | inl is ↦
                  Contains-append_left (seen ++ first ∷ []) (new_modules same (seen ++ first ∷ []) more) m
                  (subst (Contains (seen ++ first ∷ [])) is (Contains-push seen first))
              | inr later ↦ covered decides (seen ++ first ∷ []) more m later
            ]))
      ]

  module _ (targets : Referrer M → List M) where
    all_reached : (done rest all : List M) → Queue M same targets done rest all
        → ((m : M) → Contains (done ++ rest) m → Reached M targets (a_module m)) → (m : M) → Contains all m
        → Reached M targets (a_module m)
    all_reached done rest all ends are m c = are m (subst (λ ms. Contains ms m) (sym (append-nil done)) c)
    all_reached done rest all (goes {done = d} {rest = r} {all = a} {m = first} later) are m c =
        all_reached (d ++ first ∷ []) _ a later
        (λ x held. elim (Contains-append_cases (d ++ first ∷ r)
        (new_modules same (d ++ first ∷ r) (targets (a_module first))) x
        (subst (λ ms. Contains ms x) (append_assoc d (first ∷ []) _ ∙ sym (append_assoc d (first ∷ r) _)) held)) [
          | inl old ↦ are x old
          | inr new ↦
              requested (are first (Contains-append_right d (first ∷ r) first (contains_here first r)))
              (new_is_target (d ++ first ∷ r) (targets (a_module first)) x new)
        ])
        m c

    -- what waits, or was seen, is among all
    stays : (done rest all : List M) → Queue M same targets done rest all → (m : M) → Contains (done ++ rest) m
        → Contains all m
    stays done rest all ends m c = subst (λ ms. Contains ms m) (append-nil done) c
    stays done rest all (goes {done = d} {rest = r} {all = a} {m = first} later) m c =
        stays (d ++ first ∷ []) _ a later m
        (subst (λ ms. Contains ms m) (append_assoc d (first ∷ r) _ ∙ sym (append_assoc d (first ∷ []) _))
        (Contains-append_left (d ++ first ∷ r) (new_modules same (d ++ first ∷ r) (targets (a_module first))) m c))

    -- the targets of each module whose visit comes are among all
    closed : ((a b : M) → same a b ≡ true → a ≡ b) → (done rest all : List M) → Queue M same targets done rest all
        → (m : M) → Contains all m → Contains done m ⊎ ((t : M) → Contains (targets (a_module m)) t → Contains all t)
    closed decides done rest all ends m c = inl c
    closed decides done rest all (goes {done = d} {rest = r} {all = a} {m = first} later) m c =
        elim (closed decides (d ++ first ∷ []) _ a later m c) [
          | inr held ↦ inr held
          | inl earlier ↦ elim (Contains-push_cases d first m earlier) [
            | inl old ↦ inl old
            | inr is ↦
                inr (subst (λ x. (t : M) → Contains (targets (a_module x)) t → Contains a t) is
                (λ t held. stays (d ++ first ∷ []) _ a later t
                (subst (λ ms. Contains ms t) (append_assoc d (first ∷ r) _ ∙ sym (append_assoc d (first ∷ []) _))
                (covered decides (d ++ first ∷ r) (targets (a_module first)) t held))))
          ]
        ]

    -- the modules that have their visits are those that are reached
    pub reached_are_visited : ((a b : M) → same a b ≡ true → a ≡ b) → (all : List M)
        → Queue M same targets [] (new_modules same [] (targets the_page)) all → (m : M)
        → Reached M targets (a_module m) → Contains all m
    reached_are_visited decides all queue m (requested {referrer = the_page} reached c) =
        stays [] (new_modules same [] (targets the_page)) all queue m (covered decides [] (targets the_page) m c)
    reached_are_visited decides all queue m (requested {referrer = a_module n} reached c) =
        elim (closed decides [] (new_modules same [] (targets the_page)) all queue n
        (reached_are_visited decides all queue n reached)) [
          | inl none ↦ absurd (contains_none n none)
          | inr held ↦ held m c
        ]

    pub visited_are_reached : (all : List M) → Queue M same targets [] (new_modules same [] (targets the_page)) all
        → (m : M) → Contains all m → Reached M targets (a_module m)
    visited_are_reached all queue =
        all_reached [] (new_modules same [] (targets the_page)) all queue
        (λ m c. requested page (new_is_target [] (targets the_page) m c))
