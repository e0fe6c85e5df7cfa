-- What is found in the index is the choice among the keys.
use Rattle.std.proofs.Common.{◌≡◌, ◌≢◌, ◌<◌, ◌≤◌, ◌+◌, ◌-◌, ◌++◌, ◌∷◌, ℕ, zero, suc, true, false, List, [], length, take, Some, None, refl, sym, ap, ◌∙◌, subst, arith, length-append, append_assoc}
use Rattle.std.specs.Prelude.{min, Option, Result, Ok, Err, IfOk, IfSome, MatchOption, reverse, slice_get, slice_index_or, IsUtf8}
use Rattle.std.specs.List.{Contains}
use Rattle.std.specs.Map.{keys_of}
use Rattle.std.proofs.lemmas.List.{append-nil, reverse-append, reverse-reverse, length-reverse, length-take, append_cancel_left, take_at}
use Rattle.std.proofs.lemmas.Bool.{cases_lt}
use mathlib.Core.Logic.{inl, inr, ◌⊎◌}
use Rattle.node_spec.specs.Laws.{PartStands}
use Rattle.node_spec.specs.PatternKeys.{HasNoStar, IsPattern, KeyMatch, Matches, MatchesNone, Precedes, StartsWith}
use Rattle.node_spec.specs.PatternKeys.Matches.{by_itself, by_pattern}
use Rattle.node_spec.specs.PatternKeys.Precedes.{without_star, by_longer_base, by_longer_key}
use Rattle.node_spec.proofs.PatternParts.{part_of_match, part_length, same_pattern, no_pattern, pattern_length}
use Rattle.exports_patterns.specs.declared.pattern_keys.Match.{Match}
use Rattle.exports_patterns.specs.Fitting.{NoneFits, IsFitting, IsBestFitting, IsTried}
use Rattle.exports_patterns.specs.Found.{HasSpan, IsMatch, IsFound}
use Rattle.exports_patterns.specs.Fronts.{text_at, StandsAt, IsTop}
use Rattle.exports_patterns.specs.Indexes.{Group, IsPart, IsIndexOf}
use Rattle.exports_patterns.proofs.FrontLemmas.{front_length, same_front, whole_front, key_here}
use Rattle.exports_patterns.proofs.KeyLemmas.{is_pattern_match, span_of_pattern}

-- ---- a part of the text between a base and a trailer

-- behind the base and one byte more the text, from its end, begins with the trailer from its end
turned_rest : (base rest : List ℕ) (first : ℕ) → take (length rest) (reverse (base ++ first ∷ rest)) ≡ reverse rest
turned_rest base rest first =
    let turned : reverse (first ∷ rest) ≡ reverse rest ++ first ∷ [] = reverse-append (first ∷ []) rest in
    ap (take (length rest)) (reverse-append base (first ∷ rest) ∙ (ap (λ xs. xs ++ reverse base) turned ∙ append_assoc (reverse rest) (first ∷ []) (reverse base)))
    ∙ take_at (reverse rest) (first ∷ reverse base) (length rest) (length-reverse rest)

part_from_front : (asked base rest back : List ℕ) (first : ℕ) → asked ≡ base ++ first ∷ rest → StartsWith (reverse rest) back → PartStands asked base (reverse back)
part_from_front asked base rest back first e s =
    let turned : rest ≡ reverse s.0 ++ reverse back = sym (reverse-reverse rest) ∙ (ap reverse s.1 ∙ reverse-append back s.0) in
    record { part = first ∷ reverse s.0; stands = e ∙ ap (λ xs. base ++ first ∷ xs) turned; some = omega arith }

front_from_part : (asked base rest back : List ℕ) (first : ℕ) → asked ≡ base ++ first ∷ rest → PartStands asked base (reverse back) → StartsWith (reverse rest) back
front_from_part asked base rest back first e p = split p.part refl
  where
    split : (part : List ℕ) → p.part ≡ part → StartsWith (reverse rest) back
    split [] none = (let some = p.some in let l : length p.part ≡ 0 = ap length none in absurd (omega arith))
    split (c ∷ part) is =
        let both : first ∷ rest ≡ c ∷ part ++ reverse back = append_cancel_left base _ _ (sym e ∙ (p.stands ∙ ap (λ xs. base ++ (xs ++ reverse back)) is)) in
        let more : rest ≡ part ++ reverse back = cc in
        (reverse part, ap reverse more ∙ (reverse-append part (reverse back) ∙ ap (λ xs. xs ++ reverse part) (reverse-reverse back)))

-- what is behind the base, with its first byte
behind_base : (asked base : List ℕ) → StartsWith asked base → length base < length asked → (first : ℕ) × (rest : List ℕ) × (asked ≡ base ++ first ∷ rest)
behind_base asked base s l = split s.0 s.1
  where
    split : (rest : List ℕ) → asked ≡ base ++ rest → (first : ℕ) × (rest : List ℕ) × (asked ≡ base ++ first ∷ rest)
    split [] e = (let n : length asked ≡ length base = ap length (e ∙ append-nil base) in absurd (omega arith))
    split (first ∷ rest) e = (first, rest, e)

rest_length : (asked base rest : List ℕ) (first : ℕ) → asked ≡ base ++ first ∷ rest → length asked ≡ length base + (1 + length rest)
rest_length asked base rest first e = let n : length asked ≡ length (base ++ first ∷ rest) = ap length e in omega (arith, length-append base (first ∷ rest))

-- what is searched for in a group
searched : (asked base rest : List ℕ) (first room : ℕ) (text back : List ℕ) → asked ≡ base ++ first ∷ rest → back ≡ reverse asked → room ≡ length asked - length base - 1 → text ≡ take room back → text ≡ reverse rest
searched asked base rest first room text back e turned r is =
    let l = rest_length asked base rest first e in
    let n : room ≡ length rest = omega arith in
    is ∙ (λ i. take (n i) ((turned ∙ ap reverse e) i)) ∙ turned_rest base rest first

-- ---- a group

pub too_short : (asked base : List ℕ) (group : Group) → length asked ≤ length base → NoneFits asked base group
too_short asked base group short back place c p =
    let l = part_length asked base (reverse back) p in
    let some : 0 < length p.part = p.some in
    absurd (omega arith)

module _ (asked base : List ℕ) (group : Group) (room at : ℕ) (back text : List ℕ) (starts : StartsWith asked base) (longer : length base < length asked) (turned : back ≡ reverse asked) (is_room : room ≡ length asked - length base - 1) (is : text ≡ take room back) (top : IsTop (keys_of group) text (length group) at) where
  abbrev behind : (first : ℕ) × (rest : List ℕ) × (asked ≡ base ++ first ∷ rest)
  behind = behind_base asked base starts longer

  abbrev is_rest : text ≡ reverse behind.1
  is_rest = searched asked base behind.1 behind.0 room text back behind.2 turned is_room is

  reached : (other : List ℕ) (place : ℕ) → Contains group (other, place) → PartStands asked base (reverse other) → (k : ℕ) × (k < at) × (text_at (keys_of group) k ≡ other) × StartsWith (text_at (keys_of group) (at - 1)) other
  reached other place c p =
      let here = key_here group c.0 (other, place) (c.1, c.2) in
      let front : StartsWith text other = subst (λ t. StartsWith t other) (sym is_rest) (front_from_part asked base behind.1 other behind.0 behind.2 p) in
      let covered = top.covers c.0 c.1 (subst (StartsWith text) (sym here) front) in
      (c.0, covered.0, here, subst (StartsWith (text_at (keys_of group) (at - 1))) here covered.1)

  pub fits_none : at ≡ 0 → NoneFits asked base group
  fits_none none other place c p = let k = reached other place c p in let l = k.1 in absurd (omega arith)

  pub fits_found : (found : List ℕ) (place : ℕ) → 0 < at → StandsAt group (at - 1) (found, place) → IsFitting asked base group (record { index = place; exact = false; from = length base; to = length asked - length found })
  fits_found found place some stands =
      let here = key_here group (at - 1) (found, place) stands in
      let front : StartsWith (reverse behind.1) found = subst (λ t. StartsWith t found) is_rest (subst (StartsWith text) here (top.begins some)) in
      record {
        back = found;
        at = place;
        listed = (at - 1, stands.0, stands.1);
        fits = part_from_front asked base behind.1 found behind.0 behind.2 front;
        is = refl;
        longest = λ other also c p. (let k = reached other also c p in front_length found other (subst (λ t. StartsWith t other) here k.3));
      }

pub trailer_within : (asked back text found : List ℕ) (room : ℕ) → back ≡ reverse asked → text ≡ take room back → StartsWith text found → length found ≤ length asked
trailer_within asked back text found room turned is s =
    let l = front_length text found s in
    let n : length text ≡ min room (length back) = ap length is ∙ length-take room back in
    let m : length back ≡ length asked = ap length turned ∙ length-reverse asked in
    omega arith

-- ---- all groups

pub record IsSought (asked : List ℕ) (patterns : List (List ℕ × Group)) (at : ℕ) : Type 0 where
  pub most : ℕ
  pub within : most ≤ length patterns
  pub top : IsTop (keys_of patterns) asked most at
  pub tried : IsTried asked patterns most

module _ (asked : List ℕ) (patterns : List (List ℕ × Group)) where
  pub sought_first : (at : ℕ) → IsTop (keys_of patterns) asked (length patterns) at → IsSought asked patterns at
  sought_first at top = record { most = length patterns; within = omega arith; top = top; tried = λ k base group least s. (let l = s.0 in absurd (omega arith)) }

  -- a front at or behind the last one was tried
  front_tried : (at : ℕ) → IsSought asked patterns at → IsTried asked patterns at
  front_tried at held k base group least s starts =
      elim (cases_lt k held.most) [
        | inl before ↦ (let here = key_here patterns k (base, group) s in let l = (held.top.covers k before (subst (StartsWith asked) (sym here) starts)).0 in absurd (omega arith))
        | inr behind ↦ held.tried k base group behind s starts
      ]

  pub sought_next : (at next : ℕ) → 0 < at → IsSought asked patterns at → ((base : List ℕ) (group : Group) → StandsAt patterns (at - 1) (base, group) → StartsWith asked base → NoneFits asked base group) → IsTop (keys_of patterns) asked (at - 1) next → IsSought asked patterns next
  sought_next at next some held none top =
      let w = held.within in let v = held.top.within in
      record {
        most = at - 1;
        within = omega arith;
        top = top;
        tried = λ k base group least s starts.
            elim (cases_lt k at) [
              | inl last ↦ (let here : k ≡ at - 1 = omega arith in none base group (subst (λ n. StandsAt patterns n (base, group)) here s) starts)
              | inr behind ↦ front_tried at held k base group behind s starts
            ];
      }

  pub sought_all : (at : ℕ) → at ≤ 0 → IsSought asked patterns at → IsTried asked patterns 0
  sought_all at none held k base group least s starts = front_tried at held k base group (omega arith) s starts

  pub sought_found : (at : ℕ) (base : List ℕ) (group : Group) (found : Match) → 0 < at → IsSought asked patterns at → StandsAt patterns (at - 1) (base, group) → IsFitting asked base group found → IsBestFitting asked patterns found
  sought_found at base group found some held stands fitting = record {
    place = at - 1;
    base = base;
    group = group;
    stands = stands;
    fitting = fitting;
    others = λ k other also s starts.
        elim (cases_lt k held.most) [
          | inl before ↦ (let here = key_here patterns k (other, also) s in let last = key_here patterns (at - 1) (base, group) stands in
              inr (front_length base other (subst (λ t. StartsWith t other) last (subst (StartsWith (text_at (keys_of patterns) (at - 1))) here (held.top.covers k before (subst (StartsWith asked) (sym here) starts)).1))))
          | inr behind ↦ inl (held.tried k other also behind s starts)
        ];
  }

  -- the entry that stands before a place that was reached begins the text
  pub last_begins : (at : ℕ) (base : List ℕ) (group : Group) → 0 < at → IsSought asked patterns at → StandsAt patterns (at - 1) (base, group) → StartsWith asked base
  last_begins at base group some held stands = subst (StartsWith asked) (key_here patterns (at - 1) (base, group) stands) (held.top.begins some)

-- ---- the keys

name_place : (names : List (List ℕ)) (key : List ℕ) → Contains names key → (place : ℕ) × (slice_get names place ≡ Some key)
name_place names key c = (c.0, at_place names c.0 c.1 c.2)
  where
    at_place : (xs : List (List ℕ)) (k : ℕ) → k < length xs → slice_index_or xs k key ≡ key → slice_get xs k ≡ Some key
    at_place [] k l e = absurd (omega arith)
    at_place (x ∷ xs) zero l e = ap Some e
    at_place (x ∷ xs) (suc k) l e = at_place xs k (omega arith) e

name_listed : (names : List (List ℕ)) (key : List ℕ) (place : ℕ) → slice_get names place ≡ Some key → Contains names key
name_listed [] key place e = absurd (cc)
name_listed (name ∷ names) key zero e = (0, omega arith, (let s : name ≡ key = cc in s))
name_listed (name ∷ names) key (suc place) e = (let more = name_listed names key place e in (suc more.0, (let l = more.1 in omega arith), more.2))

module _ (names : List (List ℕ)) (exact : List (List ℕ × ℕ)) (patterns : List (List ℕ × Group)) (index : IsIndexOf names exact patterns) (asked : List ℕ) where
  abbrev pub NoKey : Type 0
  NoKey = (place : ℕ) → HasNoStar asked → slice_get names place ≡ Some asked → ⊥

  pub no_key_before : (at : ℕ) → IsTop (keys_of exact) asked (length exact) at → at ≡ 0 → NoKey
  no_key_before at top none place n s =
      let c = index.key_listed asked place s n in
      let here = key_here exact c.0 (asked, place) (c.1, c.2) in
      let l = (top.covers c.0 c.1 (subst (StartsWith asked) (sym here) ([], sym (append-nil asked)))).0 in
      absurd (omega arith)

  pub no_key_there : (at place : ℕ) (key : List ℕ) → 0 < at → IsTop (keys_of exact) asked (length exact) at → StandsAt exact (at - 1) (key, place) → length key ≢ length asked → NoKey
  no_key_there at place key some top stands other also n s =
      let c = index.key_listed asked also s n in
      let here = key_here exact c.0 (asked, also) (c.1, c.2) in
      let last = key_here exact (at - 1) (key, place) stands in
      let covered = (top.covers c.0 c.1 (subst (StartsWith asked) (sym here) ([], sym (append-nil asked)))).1 in
      let least = front_length key asked (subst (λ t. StartsWith t asked) last (subst (StartsWith (text_at (keys_of exact) (at - 1))) here covered)) in
      let most = front_length asked key (subst (StartsWith asked) last (top.begins some)) in
      other (omega arith)

  pub key_there : (at place : ℕ) (key : List ℕ) → 0 < at → IsTop (keys_of exact) asked (length exact) at → StandsAt exact (at - 1) (key, place) → length key ≡ length asked → (slice_get names place ≡ Some asked) × HasNoStar asked
  key_there at place key some top stands long =
      let last = key_here exact (at - 1) (key, place) stands in
      let same : key ≡ asked = whole_front asked key (subst (StartsWith asked) last (top.begins some)) long in
      let c : Contains exact (key, place) = (at - 1, stands.0, stands.1) in
      (index.key_stands key place c ∙ ap Some same, subst HasNoStar same (index.key_has_no_star key place c))

  -- a pattern among the names that fits
  fitting_part : (key base trailer : List ℕ) → Contains names key → IsPattern key base trailer → PartStands asked base trailer → (place : ℕ) × (slice_get names place ≡ Some (base ++ 42 ∷ reverse (reverse trailer)))
  fitting_part key base trailer c p stands =
      let at = name_place names key c in
      (at.0, at.1 ∙ ap Some (p.parts ∙ ap (λ t. base ++ 42 ∷ t) (sym (reverse-reverse trailer))))

  no_star_turned : (trailer : List ℕ) → HasNoStar trailer → HasNoStar (reverse (reverse trailer))
  no_star_turned trailer n = subst HasNoStar (sym (reverse-reverse trailer)) n

  part_turned : (base trailer : List ℕ) → PartStands asked base trailer → PartStands asked base (reverse (reverse trailer))
  part_turned base trailer p = subst (PartStands asked base) (sym (reverse-reverse trailer)) p

  starts_with_base : (base trailer : List ℕ) → PartStands asked base trailer → StartsWith asked base
  starts_with_base base trailer p = (p.part ++ trailer, p.stands)

  pub matches_none : NoKey → IsTried asked patterns 0 → MatchesNone names asked
  matches_none no_key tried key found c (by_itself e n) =
      let at = name_place names key c in
      no_key at.0 (subst HasNoStar e n) (at.1 ∙ ap Some e)
  matches_none no_key tried key found c (by_pattern base trailer p f) =
      let stands = part_of_match asked key base trailer p f in
      let at = fitting_part key base trailer c p stands in
      let m = no_star_turned trailer p.after_star in
      let group = index.group_listed base (reverse trailer) at.0 at.1 p.before_star m in
      let listed = index.pattern_listed base (reverse trailer) at.0 group.0 at.1 p.before_star m group.1 in
      tried group.1.0 base group.0 (omega arith) (group.1.1, group.1.2) (starts_with_base base trailer stands) (reverse trailer) at.0 listed (part_turned base trailer stands)

  pub exact_found : (place : ℕ) → slice_get names place ≡ Some asked → HasNoStar asked → IsFound names asked (record { index = place; exact = true; from = 0; to = 0 })
  exact_found place s n = record {
    key = asked;
    stands = s;
    chosen = record {
      among = name_listed names asked place s;
      matches = by_itself refl n;
      is_first = none_before;
    };
    no_span = λ e. (refl, refl);
  }
    where
      none_before : (other : List ℕ) (also : KeyMatch) → Contains names other → Matches asked other also → Precedes other asked → ⊥
      none_before other also c m (without_star base trailer o p) = no_pattern asked base trailer p n
      none_before other also c m (by_longer_base base trailer b t o p l) = no_pattern asked b t p n
      none_before other also c m (by_longer_key base trailer b t o p l k) = no_pattern asked b t p n

  module _ (no_key : NoKey) (base : List ℕ) (group : Group) (back : List ℕ) (place k : ℕ) (stands : StandsAt patterns k (base, group)) (listed : Contains group (back, place)) (fits : PartStands asked base (reverse back)) (longest : (other : List ℕ) (place : ℕ) → Contains group (other, place) → PartStands asked base (reverse other) → length other ≤ length back) (others : (k : ℕ) (other : List ℕ) (also : Group) → StandsAt patterns k (other, also) → StartsWith asked other → NoneFits asked other also ⊎ (length other ≤ length base)) where
    abbrev is_listed : Contains patterns (base, group)
    is_listed = (k, stands.0, stands.1)

    abbrev part : IsPart names base back place
    part = index.pattern_stands base group back place is_listed listed

    abbrev key : List ℕ
    key = base ++ 42 ∷ reverse back

    is_pattern : IsPattern key base (reverse back)
    is_pattern = record { parts = refl; before_star = part.before_star; after_star = part.after_star }

    abbrev match_there : Match
    match_there = record { index = place; exact = false; from = length base; to = length asked - length back }

    ends_at : length asked - length back ≡ length base + length fits.part
    ends_at =
        let l = part_length asked base (reverse back) fits in
        let r = length-reverse back in
        omega arith

    is_match : IsMatch asked key match_there
    is_match = is_pattern_match asked key base (reverse back) fits.part place (length asked - length back) is_pattern fits.stands (λ e. (let some = fits.some in let l : length fits.part ≡ 0 = ap length e in absurd (omega arith))) ends_at

    pub is_span : IsUtf8 asked → HasSpan asked match_there
    is_span u = span_of_pattern asked base (reverse back) fits.part place (length asked - length back) u part.is_base part.is_trailer fits.stands ends_at

    none_better : (other base_there trailer_there : List ℕ) → Contains names other → IsPattern other base_there trailer_there → PartStands asked base_there trailer_there → (length base_there ≤ length base) × (length base_there ≡ length base → length trailer_there ≤ length back)
    none_better other b t c p s =
        let at = fitting_part other b t c p s in
        let m = no_star_turned t p.after_star in
        let there = index.group_listed b (reverse t) at.0 at.1 p.before_star m in
        let also = index.pattern_listed b (reverse t) at.0 there.0 at.1 p.before_star m there.1 in
        let begins = starts_with_base b t s in
        let turned = part_turned b t s in (
          elim (others there.1.0 b there.0 (there.1.1, there.1.2) begins) [
            | inl none ↦ absurd (none (reverse t) at.0 also turned)
            | inr shorter ↦ shorter
          ],
          λ long. (let same : b ≡ base = same_front asked b base begins (starts_with_base base (reverse back) fits) long in
              let in_group : Contains group (reverse t, at.0) = index.pattern_listed b (reverse t) at.0 group at.1 p.before_star m (subst (λ x. Contains patterns (x, group)) (sym same) is_listed) in
              let l = longest (reverse t) at.0 in_group (subst (λ x. PartStands asked x (reverse (reverse t))) same turned) in
              let r = length-reverse t in
              omega arith),
        )

    none_before : (other : List ℕ) (also : KeyMatch) → Contains names other → Matches asked other also → Precedes other key → ⊥
    none_before other also c (by_itself e n) before =
        let at = name_place names other c in
        no_key at.0 (subst HasNoStar e n) (at.1 ∙ ap Some e)
    none_before other also c (by_pattern b t p f) (without_star x y n q) = no_pattern other b t p n
    none_before other also c (by_pattern b t p f) (by_longer_base x y z w q o l) =
        let better = (none_better other b t c p (part_of_match asked other b t p f)).0 in
        let one : length b ≡ length x = ap length (same_pattern other b t x y p q).0 in
        let two : length base ≡ length z = ap length (same_pattern key base (reverse back) z w is_pattern o).0 in
        absurd (omega arith)
    none_before other also c (by_pattern b t p f) (by_longer_key x y z w q o e l) =
        let better = none_better other b t c p (part_of_match asked other b t p f) in
        let one : length b ≡ length x = ap length (same_pattern other b t x y p q).0 in
        let two : length base ≡ length z = ap length (same_pattern key base (reverse back) z w is_pattern o).0 in
        let long = better.1 (omega arith) in
        let here = pattern_length key base (reverse back) is_pattern in
        let there = pattern_length other b t p in
        let r = length-reverse back in
        absurd (omega arith)

    pub is_found : IsFound names asked match_there
    is_found = record {
      key = key;
      stands = part.stands;
      chosen = record {
        among = name_listed names key place part.stands;
        matches = is_match.matches;
        is_first = none_before;
      };
      no_span = is_match.no_span;
    }

  pub pattern_found : NoKey → (found : Match) → IsBestFitting asked patterns found → IsFound names asked found
  pattern_found no_key found best =
      let f = best.fitting in
      subst (IsFound names asked) (sym f.is) (is_found no_key best.base best.group f.back f.at best.place best.stands f.listed f.fits f.longest best.others)

  pub pattern_span : NoKey → IsUtf8 asked → (found : Match) → IsBestFitting asked patterns found → HasSpan asked found
  pattern_span no_key u found best =
      let f = best.fitting in
      subst (HasSpan asked) (sym f.is) (is_span no_key best.base best.group f.back f.at best.place best.stands f.listed f.fits f.longest best.others u)

  pub chosen : NoKey → (found : Option Match) → MatchOption found (IsTried asked patterns 0) (IsBestFitting asked patterns) → MatchOption found (MatchesNone names asked) (IsFound names asked)
  chosen no_key None tried = matches_none no_key tried
  chosen no_key (Some found) best = pattern_found no_key found best

  pub spanned : NoKey → IsUtf8 asked → (found : Option Match) → MatchOption found (IsTried asked patterns 0) (IsBestFitting asked patterns) → IfSome found (HasSpan asked)
  spanned no_key u None tried = tt
  spanned no_key u (Some found) best = pattern_span no_key u found best

-- ---- what is said of whatever keys an index is of

pub at_names : {X E : Type 0} (Is : List (List ℕ) → Type 0) (Says : List (List ℕ) → X → Type 0) (result : Result X E) (names : List (List ℕ))
    → Is names → IfOk result (λ x. (ns : List (List ℕ)) → Is ns → Says ns x) → IfOk result (Says names)
at_names Is Says (Ok x) names is says = says names is
at_names Is Says (Err fault) names is says = tt

pub place_few : (names : List (List ℕ)) (asked : List ℕ) (result : Option ℕ)
    → MatchOption result ((place : ℕ) → slice_get names place ≡ Some asked → ⊥) (λ place. slice_get names place ≡ Some asked)
    → MatchOption result ((place : ℕ) → HasNoStar asked → slice_get names place ≡ Some asked → ⊥) (λ place. slice_get names place ≡ Some asked)
place_few names asked None none = λ place n e. none place e
place_few names asked (Some place) there = there

pub place_there : (names : List (List ℕ)) (asked : List ℕ) (result : Option ℕ)
    → MatchOption result ((place : ℕ) → HasNoStar asked → slice_get names place ≡ Some asked → ⊥) (λ place. (slice_get names place ≡ Some asked) × HasNoStar asked)
    → MatchOption result ((place : ℕ) → HasNoStar asked → slice_get names place ≡ Some asked → ⊥) (λ place. slice_get names place ≡ Some asked)
place_there names asked None none = none
place_there names asked (Some place) there = there.0
