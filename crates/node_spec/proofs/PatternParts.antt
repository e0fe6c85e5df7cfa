-- The parts of a pattern key, and the parts of a text that it matches.
use Rattle.std.proofs.Common.{refl, arith, sym, ◌∙◌, subst, ap, length-append, append_assoc}
use Rattle.std.proofs.lemmas.List.{append-nil}
use Rattle.std.proofs.lemmas.List.Elements.{All-head, All-tail}
use Rattle.std.specs.Prelude.{◌≡◌, ◌≤◌, ℕ, List, [], ◌∷◌, ◌++◌, length, ◌≢◌, ◌+◌, ◌<◌}
use mathlib.Core.Logic.{inl, inr}
use Rattle.json_spec.proofs.NumberBack.{longer_front}
use Rattle.node_spec.specs.Laws.{PartStands, PatternMatchStands}
use Rattle.node_spec.specs.PatternKeys.{HasNoStar, IsPattern, FitsPattern, KeyMatch, Matches}
use Rattle.node_spec.specs.PatternKeys.Matches.{by_itself, by_pattern}

pub same_fronts : (a x b y : List ℕ) → a ++ x ≡ b ++ y → length a ≡ length b → (a ≡ b) × (x ≡ y)
same_fronts [] x [] y e l = (refl, e)
same_fronts [] x (d ∷ b) y e l = absurd (omega arith)
same_fronts (c ∷ a) x [] y e l = absurd (omega arith)
same_fronts (c ∷ a) x (d ∷ b) y e l =
    let h : c ≡ d = cc in
    let t : a ++ x ≡ b ++ y = cc in
    let r = same_fronts a x b y t (omega arith) in
    let s : c ∷ a ≡ d ∷ b = (let u : a ≡ b = r.0 in cc) in
    (s, r.1)

-- the first star of a text stands at one place
pub same_parts : (a x b y : List ℕ) → a ++ 42 ∷ x ≡ b ++ 42 ∷ y → HasNoStar a → HasNoStar b → (a ≡ b) × (x ≡ y)
same_parts [] x [] y e n o = let t : x ≡ y = cc in (refl, t)
same_parts [] x (d ∷ b) y e n o = let h : d ≡ 42 = cc in absurd (All-head (λ c. c ≢ 42) d b o h)
same_parts (c ∷ a) x [] y e n o = let h : c ≡ 42 = cc in absurd (All-head (λ c. c ≢ 42) c a n h)
same_parts (c ∷ a) x (d ∷ b) y e n o =
    let h : c ≡ d = cc in
    let t : a ++ 42 ∷ x ≡ b ++ 42 ∷ y = cc in
    let r = same_parts a x b y t (All-tail (λ c. c ≢ 42) c a n) (All-tail (λ c. c ≢ 42) d b o) in
    let s : c ∷ a ≡ d ∷ b = (let u : a ≡ b = r.0 in cc) in
    (s, r.1)

pub no_star_inside : (a x : List ℕ) → HasNoStar (a ++ 42 ∷ x) → ⊥
no_star_inside [] x n = All-head (λ c. c ≢ 42) 42 x n refl
no_star_inside (c ∷ a) x n = no_star_inside a x (All-tail (λ c. c ≢ 42) c (a ++ 42 ∷ x) n)

-- ---- patterns

pub same_pattern : (key base trailer other_base other_trailer : List ℕ) → IsPattern key base trailer → IsPattern key other_base other_trailer → (base ≡ other_base) × (trailer ≡ other_trailer)
same_pattern key base trailer other_base other_trailer p q = same_parts base trailer other_base other_trailer (sym p.parts ∙ q.parts) p.before_star q.before_star

pub no_pattern : (key base trailer : List ℕ) → IsPattern key base trailer → HasNoStar key → ⊥
no_pattern key base trailer p n = no_star_inside base trailer (subst HasNoStar p.parts n)

pub pattern_length : (key base trailer : List ℕ) → IsPattern key base trailer → length key ≡ length base + (1 + length trailer)
pattern_length key base trailer p = let e : length key ≡ length (base ++ 42 ∷ trailer) = ap length p.parts in omega (arith, length-append base (42 ∷ trailer))

nonempty : (text rest front : List ℕ) → text ≡ front ++ rest → text ≢ front → 0 < length rest
nonempty text [] front e n = absurd (n (e ∙ append-nil front))
nonempty text (c ∷ rest) front e n = omega arith

pub part_of_match : (asked key base trailer : List ℕ) → IsPattern key base trailer → FitsPattern asked key base trailer → PartStands asked base trailer
part_of_match asked key base trailer p f = elim f.ends [ inl none ↦ without none | inr ends ↦ with_end ends.0.0 ends.0.1 ends.1 ]
  where
    without : trailer ≡ [] → PartStands asked base trailer
    without none = record {
      part = f.starts.0;
      stands = f.starts.1 ∙ ap (λ t. base ++ t) (sym (append-nil f.starts.0) ∙ ap (λ t. f.starts.0 ++ t) (sym none));
      some = nonempty asked f.starts.0 base f.starts.1 f.is_longer;
    }

    with_end : (front : List ℕ) → asked ≡ front ++ trailer → length key ≤ length asked → PartStands asked base trailer
    with_end front e l =
        let k = pattern_length key base trailer p in
        let n : length asked ≡ length front + length trailer = ap length e ∙ length-append front trailer in
        let m = longer_front base f.starts.0 front trailer (sym f.starts.1 ∙ e) (omega arith) in
        let s : length front ≡ length base + length m.0 = ap length m.1 ∙ length-append base m.0 in
        record { part = m.0; stands = f.starts.1 ∙ ap (λ t. base ++ t) m.2; some = omega arith }

pub part_length : (asked base trailer : List ℕ) → (s : PartStands asked base trailer) → length asked ≡ length base + (length s.part + length trailer)
part_length asked base trailer s = let e : length asked ≡ length (base ++ (s.part ++ trailer)) = ap length s.stands in omega (arith, length-append base (s.part ++ trailer), length-append s.part trailer)

pub fits_from_part : (asked key base trailer : List ℕ) → IsPattern key base trailer → PartStands asked base trailer → FitsPattern asked key base trailer
fits_from_part asked key base trailer p s =
    let k = pattern_length key base trailer p in
    let u = part_length asked base trailer s in
    let some : 0 < length s.part = s.some in
    record {
      starts = (s.part ++ trailer, s.stands);
      is_longer = λ e. (let l : length asked ≡ length base = ap length e in absurd (omega arith));
      ends = inr ((base ++ s.part, s.stands ∙ sym (append_assoc base s.part trailer)), omega arith);
    }

pub pattern_match_stands : PatternMatchStands
pattern_match_stands asked key base trailer p = (part_of_match asked key base trailer p, fits_from_part asked key base trailer p)

-- ---- keys that don't match

pub no_exact_match : (asked key : List ℕ) → HasNoStar key → key ≢ asked → (found : KeyMatch) → Matches asked key found → ⊥
no_exact_match asked key n d found (by_itself e m) = d e
no_exact_match asked key n d found (by_pattern base trailer p f) = no_pattern key base trailer p n

pub many_stars : (asked key base trailer more end : List ℕ) → key ≡ base ++ 42 ∷ trailer → HasNoStar base → trailer ≡ more ++ 42 ∷ end → (found : KeyMatch) → Matches asked key found → ⊥
many_stars asked key base trailer more end e n t found (by_itself same m) = no_star_inside base trailer (subst HasNoStar e m)
many_stars asked key base trailer more end e n t found (by_pattern b u q f) =
    let same = same_parts b u base trailer (sym q.parts ∙ e) q.before_star n in
    no_star_inside more end (subst HasNoStar (same.1 ∙ t) q.after_star)

pub no_pattern_match : (asked key base trailer : List ℕ) → IsPattern key base trailer → ((part : List ℕ) → asked ≡ base ++ (part ++ trailer) → part ≡ []) → (found : KeyMatch) → Matches asked key found → ⊥
no_pattern_match asked key base trailer p none found (by_itself e n) = no_pattern key base trailer p n
no_pattern_match asked key base trailer p none found (by_pattern b t q f) =
    let s = part_of_match asked key b t q f in
    let same = same_pattern key b t base trailer q p in
    let e : asked ≡ base ++ (s.part ++ trailer) = s.stands ∙ (ap (λ front. front ++ (s.part ++ t)) same.0 ∙ ap (λ end. base ++ (s.part ++ end)) same.1) in
    let l : length s.part ≡ 0 = ap length (none s.part e) in
    let some : 0 < length s.part = s.some in
    absurd (omega arith)
