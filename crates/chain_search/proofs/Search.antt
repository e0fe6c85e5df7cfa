-- A search by levels finds the shortest chain.
use Rattle.std.proofs.Common.{◌≡◌, ◌≤◌, ◌+◌, ◌⊎◌, ◌++◌, [], ◌∷◌, ℕ, zero, suc, Bool, true, false, List, Option, Some, refl, sym, ap, ◌∙◌, subst, inl, inr, arith, reverse, append_assoc}
use Rattle.std.specs.Prelude.{slice_get, Contains, ◌||◌}
use Rattle.std.specs.Bool.{Decides}
use Rattle.std.proofs.lemmas.Bool.{cond_both, true≢false, cases_lt}
use Rattle.std.proofs.lemmas.List.{reverse-reverse}
use Rattle.std.proofs.lemmas.List.Elements.{Contains-append_left, Contains-append_right, Contains-append_cases}
use Rattle.chain_spec.specs.Chains.{Asker, by_page, by_module, Targets, end_of, IsChain, of_modules}
use Rattle.chain_search.specs.Backs.{LeadsTo, at_page, asks, Before, UpTo}
use Rattle.chain_search.specs.Searches.{Place, is_at, is_reached, fresh, FirstGoal, NoGoal, Searched, ends, hits, goes}
use Rattle.chain_search.specs.Laws.{the_start, IsFound, is_goal, FindsShortest}
use Rattle.chain_search.proofs.Contained.{contains_here, contains_there, contains_cases, contains_none}
use Rattle.chain_search.proofs.Backwards.{ComesFirst, through, upto_then, upto_before, same_number, own_front, comes_first, one_end, ends_there, leads_back}

module _ {M : Type 0} (targets : Targets M) (is_same : M → M → Bool) (is_wanted : Asker M → Bool)
    (decides : (one other : M) → Decides (is_same one other) (one ≡ other)) where
  -- ---- places

  record HasPlace (all : List (Place M)) (at : Asker M) (back : List ℕ) : Type 0 where
    place : Place M
    held : Contains all place
    there : place.at ≡ at
    upto : UpTo place.back back

  more_places : (all more : List (Place M)) (at : Asker M) (back : List ℕ) → HasPlace all at back
      → HasPlace (all ++ more) at back
  more_places all more at back has =
      record { place = has.place; held = Contains-append_left all more has.place has.held; there = has.there; upto = has.upto }

  record IsIn (all : List (Place M)) (m : M) : Type 0 where
    place : Place M
    held : Contains all place
    there : place.at ≡ by_module m

  at_is : (m : M) (at : Asker M) → is_at is_same m at ≡ true → at ≡ by_module m
  at_is m by_page e = absurd (cc)
  at_is m (by_module other) e = ap by_module (sym ((decides m other).0 e))

  reached_in : (all : List (Place M)) (m : M) → is_reached is_same all m ≡ true → IsIn all m
  reached_in [] m e = absurd (cc)
  reached_in (place ∷ all) m e = by (is_at is_same m place.at) refl e (reached_in all m)
    where
      by : (b : Bool) → is_at is_same m place.at ≡ b → (b || is_reached is_same all m) ≡ true
          → (is_reached is_same all m ≡ true → IsIn all m) → IsIn (place ∷ all) m
      by true here f rest = record { place = place; held = contains_here place all; there = at_is m place.at here }
      by false here f rest =
          let later = rest f in
          record { place = later.place; held = contains_there later.place place all later.held; there = later.there }

  -- ---- fresh places

  module _ (back : List ℕ) where
    abbrev new_place : M → ℕ → Place M
    new_place m number = record { at = by_module m; back = number ∷ back }

    record IsNew (start : ℕ) (modules : List M) (place : Place M) : Type 0 where
      offset : ℕ
      m : M
      there : slice_get modules offset ≡ Some m
      is : place ≡ new_place m (start + offset)

    new_later : (start : ℕ) (first : M) (modules : List M) (place : Place M) → IsNew (suc start) modules place
        → IsNew start (first ∷ modules) place
    new_later start first modules place new = record {
      offset = suc new.offset;
      m = new.m;
      there = new.there;
      is = new.is ∙ ap (new_place new.m) (let e : suc start + new.offset ≡ start + suc new.offset = omega arith in e);
    }

    fresh_new : (all : List (Place M)) (start : ℕ) (modules : List M) (place : Place M)
        → Contains (fresh is_same all back start modules) place → IsNew start modules place
    fresh_new all start [] place held = absurd (contains_none place held)
    fresh_new all start (m ∷ more) place held =
        let itself : start ≡ start + 0 = omega arith in
        cond_both (is_reached is_same all m) (fresh is_same all back (suc start) more)
        (new_place m start ∷ fresh is_same (all ++ new_place m start ∷ []) back (suc start) more)
        (λ ps. Contains ps place → IsNew start (m ∷ more) place)
        (λ old h. new_later start m more place (fresh_new all (suc start) more place h))
        (λ new h.
        elim (contains_cases place (new_place m start) (fresh is_same (all ++ new_place m start ∷ []) back (suc start) more) h) [
          | inl same ↦ record { offset = 0; m = m; there = refl; is = sym same ∙ ap (new_place m) itself }
          | inr later ↦ new_later start m more place (fresh_new (all ++ new_place m start ∷ []) (suc start) more place later)
        ]) held

    IsBehind : ℕ → List (Place M) → Type 0
    IsBehind start all = (place : Place M) → Contains all place → (number : ℕ) → start ≤ number → Before place.back (number ∷ back)

    fresh_covers : (all : List (Place M)) (start : ℕ) (modules : List M)
        → ((place : Place M) → Contains all place → (number : ℕ) → start ≤ number → Before place.back (number ∷ back))
        → (offset : ℕ) (m : M) → slice_get modules offset ≡ Some m
        → HasPlace (all ++ fresh is_same all back start modules) (by_module m) ((start + offset) ∷ back)
    fresh_covers all start [] behind offset m e = absurd (cc)
    fresh_covers all start (first ∷ more) behind zero m e =
        let same : first ≡ m = cc in
        cond_both (is_reached is_same all first) (fresh is_same all back (suc start) more)
        (new_place first start ∷ fresh is_same (all ++ new_place first start ∷ []) back (suc start) more)
        (λ ps. HasPlace (all ++ ps) (by_module m) ((start + 0) ∷ back))
        (λ old.
        let at = reached_in all first old in
        record {
          place = at.place;
          held = Contains-append_left all _ at.place at.held;
          there = at.there ∙ ap by_module same;
          upto = inr (behind at.place at.held (start + 0) (omega arith));
        })
        (λ new. record {
          place = new_place first start;
          held = Contains-append_right all _ (new_place first start) (contains_here (new_place first start) _);
          there = ap by_module same;
          upto = inl (ap (λ n. n ∷ back) (let f : start ≡ start + 0 = omega arith in f));
        })
    fresh_covers all start (first ∷ more) behind (suc offset) m e =
        let moved : suc start + offset ≡ start + suc offset = omega arith in
        cond_both (is_reached is_same all first) (fresh is_same all back (suc start) more)
        (new_place first start ∷ fresh is_same (all ++ new_place first start ∷ []) back (suc start) more)
        (λ ps. HasPlace (all ++ ps) (by_module m) ((start + suc offset) ∷ back))
        (λ old.
        subst (λ n. HasPlace (all ++ fresh is_same all back (suc start) more) (by_module m) (n ∷ back)) moved
        (fresh_covers all (suc start) more (λ place held number from. behind place held number (omega (arith, from))) offset m e))
        (λ new.
        subst (λ ps. HasPlace ps (by_module m) ((start + suc offset) ∷ back)) (append_assoc all (new_place first start ∷ []) _)
        (subst (λ n. HasPlace ((all ++ new_place first start ∷ []) ++ fresh is_same (all ++ new_place first start ∷ []) back (suc start) more) (by_module m) (n ∷ back)) moved
        (fresh_covers (all ++ new_place first start ∷ []) (suc start) more
        (λ place held number from.
        elim (Contains-append_cases all (new_place first start ∷ []) place held) [
          | inl old ↦ behind place old number (omega (arith, from))
          | inr last ↦ elim (contains_cases place (new_place first start) [] last) [
            | inl same ↦ subst (λ (p : Place M). Before p.back (number ∷ back)) same (inr (refl, omega (arith, from)))
            | inr none ↦ absurd (contains_none place none)
          ]
        ])
        offset m e)))

  -- ---- in ascending order

  abbrev Ascends : List (Place M) → Type 0
  Ascends [] = Unit {0}
  Ascends (place ∷ rest) = ((other : Place M) → Contains rest other → Before place.back other.back) × Ascends rest

  fresh_ascends : (back : List ℕ) (all : List (Place M)) (start : ℕ) (modules : List M)
      → Ascends (fresh is_same all back start modules)
  fresh_ascends back all start [] = tt
  fresh_ascends back all start (m ∷ more) =
      cond_both (is_reached is_same all m) (fresh is_same all back (suc start) more)
      (new_place back m start ∷ fresh is_same (all ++ new_place back m start ∷ []) back (suc start) more) Ascends
      (λ old. fresh_ascends back all (suc start) more)
      (λ new. (
        (λ other held.
            let is = fresh_new back (all ++ new_place back m start ∷ []) (suc start) more other held in
            subst (λ (p : Place M). Before (start ∷ back) p.back) (sym is.is) (inr (refl, omega arith))),
        fresh_ascends back (all ++ new_place back m start ∷ []) (suc start) more,
      ))

  ascends_append : (front more : List (Place M)) → Ascends front → Ascends more
      → ((one other : Place M) → Contains front one → Contains more other → Before one.back other.back)
      → Ascends (front ++ more)
  ascends_append [] more a b between = b
  ascends_append (place ∷ front) more a b between = (
    (λ other held. elim (Contains-append_cases front more other held) [
      | inl old ↦ a.0 other old
      | inr new ↦ between place other (contains_here place front) new
    ]),
    ascends_append front more a.1 b (λ one other h k. between one other (contains_there one place front h) k),
  )

  -- ---- what holds as the search goes on

  abbrev IsNear : List (Place M) → List (Place M) → Type 0
  IsNear all [] = Unit {0}
  IsNear all (head ∷ rest) = (place : Place M) → Contains all place → (number : ℕ) → Before place.back (number ∷ head.back)

  record Holds (done rest all : List (Place M)) : Type 0 where
    split : all ≡ done ++ rest
    leads : (place : Place M) → Contains all place → LeadsTo targets place.back place.at
    no_goal : (place : Place M) → Contains all place → (m : M) → place.at ≡ by_module m → is_wanted (by_module m) ≡ false
    page : HasPlace all by_page []
    covers :
        (place : Place M) → Contains done place → (number : ℕ) (m : M) → slice_get (targets place.at) number ≡ Some m
        → HasPlace all (by_module m) (number ∷ place.back)
    ascends : Ascends rest
    near : IsNear all rest

  near_moved : (a b c : List ℕ) → Before a (0 ∷ b) → Before b c → (number : ℕ) → Before a (number ∷ c)
  near_moved [] b c p q number = tt
  near_moved (x ∷ a) b c (inl p) q number = inl (through a b c p q)
  near_moved (x ∷ a) b c (inr p) q number = (let below = p.1 in absurd (omega arith))

  -- the next one comes behind
  heads : (back : List ℕ) (all rest : List (Place M)) → ((place : Place M) → Contains rest place → Before back place.back)
      → ((place : Place M) → Contains all place → (later : List ℕ) → Before back later → (number : ℕ)
      → Before place.back (number ∷ later))
      → IsNear all rest
  heads back all [] after near = tt
  heads back all (head ∷ rest) after near =
      λ place held number. near place held head.back (after head (contains_here head rest)) number

  step : (done rest all : List (Place M)) (place : Place M) → NoGoal (is_goal is_wanted) (targets place.at)
      → Holds done (place ∷ rest) all
      → Holds (done ++ place ∷ []) (rest ++ fresh is_same all place.back 0 (targets place.at))
      (all ++ fresh is_same all place.back 0 (targets place.at))
  step done rest all place none holds =
      let new : List (Place M) = fresh is_same all place.back 0 (targets place.at) in
      let here : Contains all place =
      subst (λ ps. Contains ps place) (sym holds.split) (Contains-append_right done (place ∷ rest) place (contains_here place rest)) in
      let is_new : (p : Place M) → Contains new p → IsNew place.back 0 (targets place.at) p =
      λ p held. fresh_new place.back all 0 (targets place.at) p held in
      let of_rest : (p : Place M) → Contains rest p → Contains all p =
      λ p held. subst (λ ps. Contains ps p) (sym holds.split)
      (Contains-append_right done (place ∷ rest) p (contains_there p place rest held)) in
      record {
        split = ap (λ ps. ps ++ new) holds.split ∙ (append_assoc done (place ∷ rest) new
            ∙ sym (append_assoc done (place ∷ []) (rest ++ new)));
        leads = λ p held. elim (Contains-append_cases all new p held) [
          | inl old ↦ holds.leads p old
          | inr later ↦
              (let is = is_new p later in
              subst (λ (q : Place M). LeadsTo targets q.back q.at) (sym is.is)
              (asks (0 + is.offset) place.back place.at is.m (holds.leads place here)
              (ap (slice_get (targets place.at)) (let e : 0 + is.offset ≡ is.offset = omega arith in e) ∙ is.there)))
        ];
        no_goal = λ p held m e. elim (Contains-append_cases all new p held) [
          | inl old ↦ holds.no_goal p old m e
          | inr later ↦
              (let is = is_new p later in
              let same : by_module is.m ≡ by_module m = sym (ap (λ (q : Place M). q.at) is.is) ∙ e in
              let modules : is.m ≡ m = cc in
              subst (λ n. is_wanted (by_module n) ≡ false) modules (none is.offset is.m is.there))
        ];
        page = more_places all new by_page [] holds.page;
        covers = λ p held number m e. elim (Contains-append_cases done (place ∷ []) p held) [
          | inl old ↦ more_places all new (by_module m) (number ∷ p.back) (holds.covers p old number m e)
          | inr last ↦ elim (contains_cases p place [] last) [
            | inl same ↦
                subst (λ (q : Place M). HasPlace (all ++ new) (by_module m) (number ∷ q.back)) same
                (subst (λ n. HasPlace (all ++ new) (by_module m) (n ∷ place.back)) (let z : 0 + number ≡ number = omega arith in z)
                (fresh_covers place.back all 0 (targets place.at) (λ q h n from. holds.near q h n) number m
                (ap (λ (q : Place M). slice_get (targets q.at) number) same ∙ e)))
            | inr nothing ↦ absurd (contains_none p nothing)
          ]
        ];
        ascends =
            ascends_append rest new holds.ascends.1 (fresh_ascends place.back all 0 (targets place.at))
            (λ one other h k.
            let is = is_new other k in
            subst (λ (q : Place M). Before one.back q.back) (sym is.is) (holds.near one (of_rest one h) (0 + is.offset)));
        near =
            heads place.back (all ++ new) (rest ++ new)
            (λ p held. elim (Contains-append_cases rest new p held) [
              | inl old ↦ holds.ascends.0 p old
              | inr later ↦
                  (let is = is_new p later in
                  subst (λ (q : Place M). Before place.back q.back) (sym is.is) (own_front place.back (0 + is.offset)))
            ])
            (λ p held later after number. elim (Contains-append_cases all new p held) [
              | inl old ↦ near_moved p.back place.back later (holds.near p old 0) after number
              | inr fresh_one ↦
                  (let is = is_new p fresh_one in
                  subst (λ (q : Place M). Before q.back (number ∷ later)) (sym is.is) (inl after))
            ]);
      }

  begins : Holds [] the_start the_start
  begins = record {
    split = refl;
    leads = λ p held. elim (contains_cases p (record { at = by_page; back = [] }) [] held) [
      | inl same ↦ subst (λ (q : Place M). LeadsTo targets q.back q.at) same at_page
      | inr nothing ↦ absurd (contains_none p nothing)
    ];
    no_goal = λ p held m e. elim (contains_cases p (record { at = by_page; back = [] }) [] held) [
      | inl same ↦ absurd (no_module m (ap (λ (q : Place M). q.at) same ∙ e))
      | inr nothing ↦ absurd (contains_none p nothing)
    ];
    page = record {
      place = record { at = by_page; back = [] };
      held = contains_here (record { at = by_page; back = [] }) [];
      there = refl;
      upto = inl refl;
    };
    covers = λ p held number m e. absurd (contains_none p held);
    ascends = ((λ other held. absurd (contains_none other held)), tt);
    near = λ p held number. elim (contains_cases p (record { at = by_page; back = [] }) [] held) [
      | inl same ↦ subst (λ (q : Place M). Before q.back (number ∷ [])) same tt
      | inr nothing ↦ absurd (contains_none p nothing)
    ];
  }
    where
      no_module : (m : M) → by_page ≡ by_module m → ⊥
      no_module m e = cc

  -- ---- every chain is covered, or leads through what is left

  abbrev Ahead : List ℕ → List ℕ → Type 0
  Ahead back [] = ⊥
  Ahead back (number ∷ front) = UpTo back front ⊎ Ahead back front

  record IsAhead (rest : List (Place M)) (back : List ℕ) : Type 0 where
    place : Place M
    held : Contains rest place
    ahead : Ahead place.back back

  moved_has : (all : List (Place M)) (from : Asker M) (back : List ℕ) (number : ℕ) (m : M) (place : Place M)
      → UpTo place.back back → HasPlace all (by_module m) (number ∷ place.back) → HasPlace all (by_module m) (number ∷ back)
  moved_has all from back number m place upto has = record {
    place = has.place;
    held = has.held;
    there = has.there;
    upto = upto_then has.place.back (number ∷ place.back) (number ∷ back) has.upto (same_number place.back back number upto);
  }

  reaches : (done rest all : List (Place M)) → Holds done rest all → (back : List ℕ) (at : Asker M)
      → LeadsTo targets back at → HasPlace all at back ⊎ IsAhead rest back
  reaches done rest all holds _ _ at_page = inl holds.page
  reaches done rest all holds _ _ (asks number back from m leads e) =
      elim (reaches done rest all holds back from leads) [
        | inl has ↦
            (let asked : slice_get (targets has.place.at) number ≡ Some m =
            ap (λ r. slice_get (targets r) number) has.there ∙ e in
            elim (Contains-append_cases done rest has.place (subst (λ ps. Contains ps has.place) holds.split has.held)) [
              | inl old ↦ inl (moved_has all from back number m has.place has.upto (holds.covers has.place old number m asked))
              | inr left ↦ inr (record { place = has.place; held = left; ahead = inl has.upto })
            ])
        | inr later ↦ inr (record { place = later.place; held = later.held; ahead = inr later.ahead })
      ]

  ahead_before : (back other : List ℕ) → Ahead back other → Before back other
  ahead_before back [] a = absurd (a)
  ahead_before back (number ∷ front) (inl upto) = upto_before back front (number ∷ front) upto (own_front front number)
  ahead_before back (number ∷ front) (inr a) =
      through back front (number ∷ front) (ahead_before back front a) (own_front front number)

  ahead_upto : (first back other : List ℕ) → UpTo first back → Ahead back other → Ahead first other
  ahead_upto first back [] upto a = absurd (a)
  ahead_upto first back (number ∷ front) upto (inl other) = inl (upto_then first back front upto other)
  ahead_upto first back (number ∷ front) upto (inr a) = inr (ahead_upto first back front upto a)

  -- the first target that is looked for, of the first place that is left
  least : (place : Place M) (number : ℕ) (first : FirstGoal (is_goal is_wanted) (targets place.at) number) (back : List ℕ) (m : M)
      → LeadsTo targets place.back place.at → LeadsTo targets back (by_module m) → is_wanted (by_module m) ≡ true
      → Ahead place.back back → UpTo (number ∷ place.back) back
  least place number first _ _ at (asks other back from m leads e) goal (inr a) =
      inr (inl (ahead_before place.back back a))
  least place number first _ _ at (asks other back from m leads e) goal (inl (inr before)) = inr (inl before)
  least place number first _ _ at (asks other back from m leads e) goal (inl (inl same)) =
      let from_is : place.at ≡ from = one_end targets back place.at from (subst (λ b. LeadsTo targets b place.at) same at) leads in
      let asked : slice_get (targets place.at) other ≡ Some m = ap (λ r. slice_get (targets r) other) from_is ∙ e in
      elim (cases_lt other number) [
        | inl less ↦ absurd (first.first other m asked goal less)
        | inr not_less ↦ elim (cases_lt number other) [
          | inl more ↦ inr (inr (same, more))
          | inr not_more ↦ inl (λ i. (let e : number ≡ other = omega (arith, not_less, not_more) in e) i ∷ same i)
        ]
      ]

  first_left : (place : Place M) (rest : List (Place M)) (other : Place M) → Ascends (place ∷ rest)
      → Contains (place ∷ rest) other → UpTo place.back other.back
  first_left place rest other ascends held =
      elim (contains_cases other place rest held) [
        | inl same ↦ inl (ap (λ (p : Place M). p.back) same)
        | inr later ↦ inr (ascends.0 other later)
      ]

  never : (all : List (Place M)) (m : M) (back : List ℕ) → ((place : Place M) → Contains all place → (n : M)
      → place.at ≡ by_module n → is_wanted (by_module n) ≡ false) → is_wanted (by_module m) ≡ true → HasPlace all (by_module m) back → ⊥
  never all m back none goal has = true≢false (sym goal ∙ none has.place has.held m has.there)

  -- ---- what the search comes to

  -- a chain to a module that is looked for
  record ToGoal (numbers : List ℕ) : Type 0 where
    goal : M
    leads : end_of targets by_page numbers ≡ Some (by_module goal)
    is : is_wanted (by_module goal) ≡ true

  to_goal : (numbers : List ℕ) → IsChain targets (of_modules is_wanted) numbers → ToGoal numbers
  to_goal numbers chain = by chain.last chain.leads chain.wanted
    where
      by : (last : Asker M) → end_of targets by_page numbers ≡ Some last → of_modules is_wanted last ≡ true → ToGoal numbers
      by by_page e wanted = absurd (true≢false (sym wanted))
      by (by_module goal) e wanted = record { goal = goal; leads = e; is = wanted }

  found : (done rest all : List (Place M)) (out : Option (List ℕ)) → Searched targets is_same (is_goal is_wanted) done rest out
      → all ≡ done ++ rest → Holds done rest all → IsFound targets (of_modules is_wanted) out
  found _ _ all _ (ends done) same holds = λ numbers is_chain.
      let chain = to_goal numbers is_chain in
      elim (reaches done [] all holds (reverse numbers) (by_module chain.goal) (leads_back targets numbers (by_module chain.goal) chain.leads)) [
        | inl has ↦ never all chain.goal (reverse numbers) holds.no_goal chain.is has
        | inr ahead ↦ contains_none ahead.place ahead.held
      ]
  found _ _ all _ (hits done rest place number first) same holds =
      let at : LeadsTo targets place.back place.at =
      holds.leads place (subst (λ ps. Contains ps place) (sym holds.split)
      (Contains-append_right done (place ∷ rest) place (contains_here place rest))) in
      record {
        is_chain = record {
          last = by_module first.goal;
          leads = ends_there targets (number ∷ place.back) (by_module first.goal)
              (asks number place.back place.at first.goal at first.there);
          wanted = first.is;
        };
        first = λ others is_chain.
            let chain = to_goal others is_chain in
            let leads = leads_back targets others (by_module chain.goal) chain.leads in
            elim (reaches done (place ∷ rest) all holds (reverse others) (by_module chain.goal) leads) [
              | inl has ↦ absurd (never all chain.goal (reverse others) holds.no_goal chain.is has)
              | inr ahead ↦
                  subst (ComesFirst (reverse (number ∷ place.back))) (reverse-reverse others)
                  (comes_first (number ∷ place.back) (reverse others)
                  (least place number first (reverse others) chain.goal at leads chain.is
                  (ahead_upto place.back ahead.place.back (reverse others)
                  (first_left place rest ahead.place holds.ascends ahead.held) ahead.ahead)))
            ];
      }
  found _ _ all _ (goes done rest place out none searched) same holds =
      let moved : fresh is_same all place.back 0 (targets place.at) ≡ fresh is_same (done ++ place ∷ rest) place.back 0 (targets place.at) =
      ap (λ ps. fresh is_same ps place.back 0 (targets place.at)) same in
      let after = step done rest all place none holds in
      found (done ++ place ∷ []) (rest ++ fresh is_same (done ++ place ∷ rest) place.back 0 (targets place.at))
      (all ++ fresh is_same (done ++ place ∷ rest) place.back 0 (targets place.at)) out searched
      (ap (λ ps. all ++ ps) (sym moved) ∙ (after.split ∙ ap (λ ps. (done ++ place ∷ []) ++ (rest ++ ps)) moved))
      (subst (λ ps. Holds (done ++ place ∷ []) (rest ++ ps) (all ++ ps)) moved after)

  pub finds : (out : Option (List ℕ)) → Searched targets is_same (is_goal is_wanted) [] the_start out → IsFound targets (of_modules is_wanted) out
  finds out searched = found [] the_start the_start out searched refl begins

pub finds_shortest : {M : Type 0} → FindsShortest M
finds_shortest targets is_same is_wanted out decides searched = finds targets is_same is_wanted decides out searched
