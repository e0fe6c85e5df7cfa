-- The key that is taken, as a function, is the choice among the keys.
use Rattle.std.proofs.Common.{◌≡◌, ◌≢◌, ◌≤◌, ◌<◌, ◌-◌, ◌==◌, ◌⊎◌, ℕ, suc, nat_le, nat_lt, nat_eq, List, [], ◌∷◌, ◌++◌, length, Bool, true, false, Option, Some, None, bytes_eq, refl, sym, ap, ◌∙◌, subst, inl, inr, arith}
use Rattle.std.specs.Bool.{Decides}
use Rattle.std.specs.List.{ends_with}
use Rattle.std.specs.Prelude.{◌&&◌, ◌||◌, not, cond, Contains, MatchOption}
use Rattle.std.proofs.lemmas.Bool.{cond-false, and_parts, cases_Bool, eqb-true, eqb-false, true≢false}
use Rattle.std.proofs.lemmas.Bool.Decides.{Decides-eqb, Decides-ltb, leb_tells}
use Rattle.std.proofs.lemmas.List.Elements.{All-nil, All-cons, Contains-push_cases, Contains-append_cases, Contains-append_left, Contains-append_right, Contains-push}
use Rattle.std.proofs.lemmas.Slice.Eq.{bytes_eq-Decides, starts_is, ends_is}
use Rattle.url_spec.specs.Specifiers.{begins}
use Rattle.node_spec.proofs.PatternChoice.{none_among}
use Rattle.node_spec.proofs.PatternOrder.{precedes_before, before_through, never_before_itself, keys_are_in_order}
use Rattle.node_spec.proofs.PatternParts.{no_exact_match, many_stars, same_pattern, no_pattern}
use Rattle.node_spec.specs.Laws.{FindsKey}
use Rattle.node_spec.specs.PatternKeyCompare.{KeyFound, star_count, pattern_base, pattern_trailer, fits, pattern_at, key_match, goes_before, better_key, with_key, first_key}
use Rattle.node_spec.specs.PatternKeys.{HasNoStar, IsPattern, StartsWith, EndsWith, FitsPattern, KeyMatch, Itself, PatternMatch, Matches, Precedes, IsChoice, MatchesNone, GoesBefore}
use Rattle.node_spec.specs.PatternKeys.Matches.{by_itself, by_pattern}

-- ---- the first star

record Starless (text : List ℕ) : Type 0 where
  none : HasNoStar text
  count : star_count text ≡ 0

record SplitAtStar (text base trailer : List ℕ) : Type 0 where
  parts : text ≡ base ++ 42 ∷ trailer
  before : HasNoStar base
  count : star_count text ≡ suc (star_count trailer)

abbrev HasStar : List ℕ → Type 0
HasStar text = SplitAtStar text (pattern_base text) (pattern_trailer text)

at_star : (text : List ℕ) → HasStar (42 ∷ text)
at_star text = record { parts = refl; before = All-nil (λ b. b ≢ 42); count = refl }

module _ (b : ℕ) (text : List ℕ) (other : (b == 42) ≡ false) where
  is_other : b ≢ 42
  is_other = eqb-false b 42 other

  same_count : star_count (b ∷ text) ≡ star_count text
  same_count = ap length (cond-false _ _ _ other)

  base_is : pattern_base (b ∷ text) ≡ b ∷ pattern_base text
  base_is = cond-false _ _ _ other

  trailer_is : pattern_trailer (b ∷ text) ≡ pattern_trailer text
  trailer_is = cond-false _ _ _ other

  behind_other : HasStar text → HasStar (b ∷ text)
  behind_other split =
      let whole : SplitAtStar (b ∷ text) (b ∷ pattern_base text) (pattern_trailer text) = record {
        parts = ap (λ t. b ∷ t) split.parts;
        before = All-cons (λ c. c ≢ 42) b (pattern_base text) is_other split.before;
        count = same_count ∙ split.count;
      } in
      subst (λ t. SplitAtStar (b ∷ text) (pattern_base (b ∷ text)) t) (sym trailer_is)
      (subst (λ t. SplitAtStar (b ∷ text) t (pattern_trailer text)) (sym base_is) whole)

  more_starless : Starless text → Starless (b ∷ text)
  more_starless s = record {
    none = All-cons (λ c. c ≢ 42) b text is_other s.none;
    count = same_count ∙ s.count;
  }

split_by : (b : ℕ) (text : List ℕ) → ((b == 42) ≡ true) ⊎ ((b == 42) ≡ false) → Starless text ⊎ HasStar text
    → Starless (b ∷ text) ⊎ HasStar (b ∷ text)
split_by b text (inl e) rest = inr (subst (λ c. HasStar (c ∷ text)) (sym (eqb-true b 42 e)) (at_star text))
split_by b text (inr e) (inl s) = inl (more_starless b text e s)
split_by b text (inr e) (inr s) = inr (behind_other b text e s)

star_or_none : (text : List ℕ) → Starless text ⊎ HasStar text
star_or_none [] = inl (record { none = All-nil (λ b. b ≢ 42); count = refl })
star_or_none (b ∷ text) = split_by b text (cases_Bool (b == 42)) (star_or_none text)

-- ---- whether a pattern fits

module _ (asked key base trailer : List ℕ) where
  starts : begins asked base ≡ true → StartsWith asked base
  starts e = (_, (starts_is Decides-eqb asked base (begins asked base) refl).0 e)

  begins_from : StartsWith asked base → begins asked base ≡ true
  begins_from s = (starts_is Decides-eqb asked base (begins asked base) refl).1 s.0 s.1

  ends : ends_with nat_eq asked trailer ≡ true → EndsWith asked trailer
  ends e = (_, (ends_is Decides-eqb asked trailer (ends_with nat_eq asked trailer) refl).0 e)

  ends_from : EndsWith asked trailer → ends_with nat_eq asked trailer ≡ true
  ends_from s = (ends_is Decides-eqb asked trailer (ends_with nat_eq asked trailer) refl).1 s.0 s.1

  long : nat_le (length key) (length asked) ≡ true → length key ≤ length asked
  long e = elim (leb_tells (length key) (length asked)) [ inl t ↦ t.1 | inr t ↦ absurd (true≢false (sym e ∙ t.0)) ]

  long_from : length key ≤ length asked → nat_le (length key) (length asked) ≡ true
  long_from l = elim (leb_tells (length key) (length asked)) [ inl t ↦ t.0 | inr t ↦ absurd (let s : length asked < length key = t.1 in omega arith) ]

  abbrev Ending : Type 0
  Ending = (trailer ≡ []) ⊎ (EndsWith asked trailer × (length key ≤ length asked))

  abbrev ending : Bool
  ending = bytes_eq trailer [] || (ends_with nat_eq asked trailer && nat_le (length key) (length asked))

  ending_by : (empty : Bool) → Decides empty (trailer ≡ [])
      → (empty || (ends_with nat_eq asked trailer && nat_le (length key) (length asked))) ≡ true → Ending
  ending_by true d e = inl (d.0 refl)
  ending_by false d e =
      let parts = and_parts (ends_with nat_eq asked trailer) (nat_le (length key) (length asked)) e in
      inr (ends parts.0, long parts.1)

  ending_from : (empty : Bool) → Decides empty (trailer ≡ []) → Ending
      → (empty || (ends_with nat_eq asked trailer && nat_le (length key) (length asked))) ≡ true
  ending_from true d s = refl
  ending_from false d (inl e) = absurd (true≢false (sym (d.1 e)))
  ending_from false d (inr s) = rw (ends_from s.0, long_from s.1) refl

  other_by : (same : Bool) → Decides same (asked ≡ base) → not same ≡ true → asked ≢ base
  other_by true d e = absurd (cc)
  other_by false d e = λ s. true≢false (sym (d.1 s))

  other_from : (same : Bool) → Decides same (asked ≡ base) → asked ≢ base → not same ≡ true
  other_from true d n = absurd (n (d.0 refl))
  other_from false d n = refl

  fits_is : fits asked key base trailer ≡ true → FitsPattern asked key base trailer
  fits_is e =
      let one = and_parts (begins asked base) (not (bytes_eq asked base) && ending) e in
      let two = and_parts (not (bytes_eq asked base)) ending one.1 in
      record {
        starts = starts one.0;
        is_longer = other_by (bytes_eq asked base) (bytes_eq-Decides asked base) two.0;
        ends = ending_by (bytes_eq trailer []) (bytes_eq-Decides trailer []) two.1;
      }

  fits_from : FitsPattern asked key base trailer → fits asked key base trailer ≡ true
  fits_from f =
      let one = begins_from f.starts in
      let two = other_from (bytes_eq asked base) (bytes_eq-Decides asked base) f.is_longer in
      let three = ending_from (bytes_eq trailer []) (bytes_eq-Decides trailer []) f.ends in
      rw (one, two, three) refl

-- ---- how one key matches

abbrev KeyDecided : List ℕ → List ℕ → Option KeyMatch → Type 0
KeyDecided asked key found = MatchOption found ((also : KeyMatch) → Matches asked key also → ⊥) (Matches asked key)

module _ (asked key : List ℕ) where
  abbrev exact : Option KeyMatch
  exact = cond (bytes_eq key asked) (Some Itself) None

  abbrev pattern : Option KeyMatch
  pattern = pattern_at asked key (pattern_base key) (pattern_trailer key)

  exact_by : (same : Bool) → Decides same (key ≡ asked) → HasNoStar key → KeyDecided asked key (cond same (Some Itself) None)
  exact_by true d none = by_itself (d.0 refl) none
  exact_by false d none = no_exact_match asked key none (λ e. true≢false (sym (d.1 e)))

  no_fit : (base trailer : List ℕ) → IsPattern key base trailer → (FitsPattern asked key base trailer → ⊥)
      → (also : KeyMatch) → Matches asked key also → ⊥
  no_fit base trailer p not_fits _ (by_itself e none) = no_pattern key base trailer p none
  no_fit base trailer p not_fits _ (by_pattern b t q f) =
      let same = same_pattern key b t base trailer q p in
      not_fits (subst (λ x. FitsPattern asked key base x) same.1 (subst (λ x. FitsPattern asked key x t) same.0 f))

  fit_by : (base trailer : List ℕ) → IsPattern key base trailer → (b : Bool) → fits asked key base trailer ≡ b
      → KeyDecided asked key (cond b (Some (PatternMatch (length base) (length asked - length trailer))) None)
  fit_by base trailer p true e = by_pattern base trailer p (fits_is asked key base trailer e)
  fit_by base trailer p false e =
      no_fit base trailer p (λ f. true≢false (sym (fits_from asked key base trailer f) ∙ e))

  counted : (n : ℕ) → star_count key ≡ n → key_match asked key ≡ cond (n == 0) exact (cond (n == 1) pattern None)
  counted n e = ap (λ m. cond (m == 0) exact (cond (m == 1) pattern None)) e

  no_star_match : Starless key → KeyDecided asked key (key_match asked key)
  no_star_match s =
      subst (KeyDecided asked key) (sym (counted 0 s.count))
      (exact_by (bytes_eq key asked) (bytes_eq-Decides key asked) s.none)

  one_star_match : HasStar key → Starless (pattern_trailer key) → KeyDecided asked key (key_match asked key)
  one_star_match split s =
      let p : IsPattern key (pattern_base key) (pattern_trailer key) =
      record { parts = split.parts; before_star = split.before; after_star = s.none } in
      subst (KeyDecided asked key) (sym (counted 1 (split.count ∙ ap suc s.count)))
      (fit_by (pattern_base key) (pattern_trailer key) p (fits asked key (pattern_base key) (pattern_trailer key)) refl)

  many_match : HasStar key → HasStar (pattern_trailer key) → KeyDecided asked key (key_match asked key)
  many_match split more =
      let n : ℕ = suc (suc (star_count (pattern_trailer (pattern_trailer key)))) in
      let count : star_count key ≡ n = split.count ∙ ap suc more.count in
      let zero_not : (n == 0) ≡ false = elim (cases_Bool (n == 0)) [ inl e ↦ absurd (let s : n ≡ 0 = eqb-true n 0 e in omega arith) | inr e ↦ e ] in
      let one_not : (n == 1) ≡ false = elim (cases_Bool (n == 1)) [ inl e ↦ absurd (let s : n ≡ 1 = eqb-true n 1 e in omega arith) | inr e ↦ e ] in
      subst (KeyDecided asked key)
      (sym (counted n count ∙ (cond-false _ exact _ zero_not ∙ cond-false _ pattern None one_not)))
      (many_stars asked key (pattern_base key) (pattern_trailer key) _ _ split.parts split.before more.parts)

  by_split : Starless key ⊎ HasStar key → Starless (pattern_trailer key) ⊎ HasStar (pattern_trailer key)
      → KeyDecided asked key (key_match asked key)
  by_split (inl s) rest = no_star_match s
  by_split (inr split) (inl s) = one_star_match split s
  by_split (inr split) (inr more) = many_match split more

  pub key_match_is : KeyDecided asked key (key_match asked key)
  key_match_is = by_split (star_or_none key) (star_or_none (pattern_trailer key))

-- ---- the order

order_by : (of ot from to : ℕ) (shorter same ends : Bool) → Decides shorter (of < from) → Decides same (from ≡ of)
    → Decides ends (to < ot) → (shorter || (same && ends)) ≡ true → GoesBefore (PatternMatch from to) (PatternMatch of ot)
order_by of ot from to true same ends d s t e = inl (d.0 refl)
order_by of ot from to false true true d s t e = inr (s.0 refl, t.0 refl)
order_by of ot from to false true false d s t e = absurd (cc)
order_by of ot from to false false ends d s t e = absurd (cc)

order_from : (of ot from to : ℕ) (shorter same ends : Bool) → Decides shorter (of < from) → Decides same (from ≡ of)
    → Decides ends (to < ot) → GoesBefore (PatternMatch from to) (PatternMatch of ot)
    → (shorter || (same && ends)) ≡ true
order_from of ot from to true same ends d s t g = refl
order_from of ot from to false same ends d s t (inl l) = absurd (true≢false (sym (d.1 l)))
order_from of ot from to false same ends d s t (inr g) = rw (s.1 g.0, t.1 g.1) refl

before_is : (found other : KeyMatch) → goes_before found other ≡ true → GoesBefore found other
before_is Itself Itself e = absurd (cc)
before_is Itself (PatternMatch from to) e = tt
before_is (PatternMatch from to) Itself e = absurd (cc)
before_is (PatternMatch from to) (PatternMatch of ot) e =
    order_by of ot from to (nat_lt of from) (from == of) (nat_lt to ot) (Decides-ltb of from) (Decides-eqb from of)
    (Decides-ltb to ot) e

before_from : (found other : KeyMatch) → GoesBefore found other → goes_before found other ≡ true
before_from Itself Itself g = absurd g
before_from Itself (PatternMatch from to) g = refl
before_from (PatternMatch from to) Itself g = absurd g
before_from (PatternMatch from to) (PatternMatch of ot) g =
    order_from of ot from to (nat_lt of from) (from == of) (nat_lt to ot) (Decides-ltb of from) (Decides-eqb from of)
    (Decides-ltb to ot) g

-- ---- one key more, before the others

abbrev Finds : List (List ℕ) → List ℕ → Option KeyFound → Type 0
Finds keys asked best =
    MatchOption best (MatchesNone keys asked) (λ (chosen : KeyFound). IsChoice keys asked chosen.key chosen.found)

module _ (asked key : List ℕ) (more : List (List ℕ)) where
  abbrev keys : List (List ℕ)
  keys = key ∷ more

  one_of : (other : List ℕ) → Contains keys other → (key ≡ other) ⊎ Contains more other
  one_of other c = elim (Contains-append_cases (key ∷ []) more other c) [
    | inl first ↦ elim (Contains-push_cases [] key other first) [
      | inl none ↦ absurd (let l : none.0 < 0 = none.1 in omega arith)
      | inr same ↦ inl same
    ]
    | inr later ↦ inr later
  ]

  among_more : (other : List ℕ) → Contains more other → Contains keys other
  among_more other c = Contains-append_right (key ∷ []) more other c

  among_first : Contains keys key
  among_first = Contains-append_left (key ∷ []) more key (Contains-push [] key)

  none_matches : ((also : KeyMatch) → Matches asked key also → ⊥) → MatchesNone more asked → MatchesNone keys asked
  none_matches not rest other also c m = elim (one_of other c) [
    | inl same ↦ not also (subst (λ k. Matches asked k also) (sym same) m)
    | inr later ↦ rest other also later m
  ]

  -- nothing that matches precedes the key
  keeps_first : (found : KeyMatch) → Matches asked key found
      → ((other : List ℕ) (also : KeyMatch) → Contains more other → Matches asked other also → Precedes other key → ⊥)
      → IsChoice keys asked key found
  keeps_first found m rest = record {
    among = among_first;
    matches = m;
    is_first = λ other also c n p. elim (one_of other c) [
      | inl same ↦ keys_are_in_order.never_itself asked key found m (subst (λ k. Precedes k key) (sym same) p)
      | inr later ↦ rest other also later n p
    ];
  }

  -- the key doesn't precede the choice among the others
  keeps_choice : (held : List ℕ) (holds : KeyMatch) → IsChoice more asked held holds
      → ((also : KeyMatch) → Matches asked key also → Precedes key held → ⊥) → IsChoice keys asked held holds
  keeps_choice held holds choice not = record {
    among = among_more held choice.among;
    matches = choice.matches;
    is_first = λ other also c n p. elim (one_of other c) [
      | inl same ↦ not also (subst (λ k. Matches asked k also) (sym same) n) (subst (λ k. Precedes k held) (sym same) p)
      | inr later ↦ choice.is_first other also later n p
    ];
  }

  module _ (found : KeyMatch) (m : Matches asked key found) (held : KeyFound) (choice : IsChoice more asked held.key held.found) where
    later_first : GoesBefore held.found found → IsChoice keys asked held.key held.found
    later_first before = keeps_choice held.key held.found choice (λ also n p.
        never_before_itself held.found (before_through held.found found held.found before
        (precedes_before asked key held.key found held.found m choice.matches p)))

    precedes_held : (other : List ℕ) (also : KeyMatch) → Matches asked other also → Precedes other key
        → (GoesBefore held.found found → ⊥)
        → (key ≡ held.key) ⊎ (Precedes key held.key ⊎ Precedes held.key key) → Precedes other held.key
    precedes_held other also n p not (inl same) = subst (Precedes other) same p
    precedes_held other also n p not (inr (inl q)) =
        keys_are_in_order.through asked other key held.key also found held.found n m choice.matches p q
    precedes_held other also n p not (inr (inr q)) =
        absurd (not (precedes_before asked held.key key held.found found choice.matches m q))

    itself_first : (GoesBefore held.found found → ⊥) → IsChoice keys asked key found
    itself_first not = keeps_first found m (λ other also c n p. choice.is_first other also c n
        (precedes_held other also n p not
        (keys_are_in_order.total asked key held.key found held.found m choice.matches)))

    better_by : (b : Bool) → goes_before held.found found ≡ b
        → Finds keys asked (cond b (Some held) (Some (record { key = key; found = found })))
    better_by true e = later_first (before_is held.found found e)
    better_by false e = itself_first (λ g. true≢false (sym (before_from held.found found g) ∙ e))

  with_better : (found : KeyMatch) → Matches asked key found → (best : Option KeyFound) → Finds more asked best
      → Finds keys asked (better_key key found best)
  with_better found m None none = keeps_first found m (λ other also c n p. none other also c n)
  with_better found m (Some held) choice = better_by found m held choice (goes_before held.found found) refl

  with_more : (match : Option KeyMatch) → KeyDecided asked key match → (best : Option KeyFound) → Finds more asked best
      → Finds keys asked (with_key key match best)
  with_more None not None none = none_matches not none
  with_more None not (Some held) choice =
      keeps_choice held.key held.found choice (λ also n p. not also n)
  with_more (Some found) m best rest = with_better found m best rest

pub finds_key : FindsKey
finds_key asked [] = none_among asked
finds_key asked (key ∷ more) =
    with_more asked key more (key_match asked key) (key_match_is asked key) (first_key asked more) (finds_key asked more)
