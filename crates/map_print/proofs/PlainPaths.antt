-- The path that the URL parser makes of a plain rest: the path before it, a `/` and the rest.
use Rattle.std.proofs.Common.{◌≡◌, ◌≢◌, ◌<◌, ◌≤◌, ◌⊎◌, ℕ, Bool, true, false, cond, not, ◌&&◌, ◌||◌, ◌==◌, List, [], ◌∷◌, ◌++◌, All, length, refl, sym, ap, ◌∙◌, subst, ⊎_elim, arith, inl, inr}
use Rattle.std.proofs.lemmas.Bool.{cases_Bool, cases_eq, cases_lt, cond-true, cond-false, ne_eqb, eqb-true, true≢false, and_parts, or_parts}
use Rattle.std.proofs.lemmas.Bool.Decides.{nat_tests}
use Rattle.std.proofs.lemmas.List.Elements.{All-nil, All-cons, All-head, All-tail, All-weaker}
use Rattle.percent_encoding.specs.Percent.{IsKept}
use Rattle.url.proofs.InputLemmas.{Passes, All_from_list_all}
use Rattle.url.proofs.RoundTrip.{parse_own_segments, stays_unless_file}
use Rattle.url.proofs.SetLemmas.{kept_from_passes, checked, all_below}
use Rattle.url.specs.Path.{dot_len, dot_count, IsSegment, join_segments, parse_path}
use Rattle.url.specs.Scheme.{is_slash, is_file}
use Rattle.url.specs.declared.scheme.SchemeType.{SchemeType}
use Rattle.url.specs.declared.sets.TheConstants.{PATH}
use Rattle.map_print.specs.PlainRests.{is_path_byte, goes_on, begins_segment, begin_segments, is_plain_rest}

pub path_small : (b : ℕ) → is_path_byte b ≡ true → b < 128
path_small b is = ⊎_elim (λ small. small) (λ large. absurd (true≢false (sym is ∙ not_large b large))) (cases_lt b 128)
  where
    not_large : (b : ℕ) → 128 ≤ b → is_path_byte b ≡ false
    not_large b large = grind (arith, nat_tests)

-- a test that passes with each path byte
implied : (test other : ℕ → Bool) → all_below (λ x. not (test x) || other x) 128 ≡ true → (b : ℕ) → b < 128 → test b ≡ true → other b ≡ true
implied test other all b small is = rw is at (checked (λ x. not (test x) || other x) 128 all b small)

pub path_implies : (other : ℕ → Bool) → all_below (λ x. not (is_path_byte x) || other x) 128 ≡ true → (b : ℕ) → is_path_byte b ≡ true → other b ≡ true
path_implies other all b is = implied is_path_byte other all b (path_small b is) is

pub path_differs : (c : ℕ) → is_path_byte c ≡ false → (b : ℕ) → is_path_byte b ≡ true → b ≢ c
path_differs c none b is = λ same. true≢false (sym is ∙ (ap is_path_byte same ∙ none))

path_kept : (b : ℕ) → is_path_byte b ≡ true → IsKept PATH b
path_kept b is = kept_from_passes is_path_byte PATH refl b (path_small b is) is

pub path_no_slash : (kind : SchemeType) (b : ℕ) → b ≢ 47 → is_path_byte b ≡ true → is_slash kind b ≡ false
path_no_slash kind b other is = rw (ne_eqb b 47 other, ne_eqb b 92 (path_differs 92 refl b is)) refl

-- ---- no segment reads as `.` or `..`

no_dot : (b : ℕ) (xs : List ℕ) → (b == 46) ≡ false → (b == 37) ≡ false → dot_len (b ∷ xs) ≡ 0
no_dot b xs other no_percent = rw (other, no_percent) refl

no_escape : (c : ℕ) (xs : List ℕ) → (c == 50) ≡ false → dot_len (37 ∷ c ∷ xs) ≡ 0
no_escape c xs other = rw other refl

no_dots_from : (xs : List ℕ) → dot_len xs ≡ 0 → dot_count xs ≡ 0
unfolding dot_count
no_dots_from xs none = rw none refl

no_dots_after : (xs : List ℕ) → length xs ≢ 0 → dot_len xs ≢ length xs → dot_count (46 ∷ xs) ≡ 0
unfolding dot_count
no_dots_after xs some other = rw (ne_eqb (length xs) 0 some, ne_eqb (dot_len xs) (length xs) other) refl

record Goes (c : ℕ) : Type 0 where
  dot : (c == 46) ≡ false
  percent : (c == 37) ≡ false
  slash : (c == 47) ≡ false
  two : (c == 50) ≡ false

not_true : (x : Bool) → not x ≡ true → x ≡ false
not_true false e = refl
not_true true e = sym e

goes : (c : ℕ) (rest : List ℕ) → goes_on (c ∷ rest) ≡ true → Goes c
goes c rest e =
    let all = or_parts (c == 46 || c == 37 || c == 47) (c == 50) (not_true (c == 46 || c == 37 || c == 47 || c == 50) e) in
    let three = or_parts (c == 46 || c == 37) (c == 47) all.0 in
    let two = or_parts (c == 46) (c == 37) three.0 in
    record { dot = two.0; percent = two.1; slash = three.1; two = all.1 }

resolved_from : (b c : ℕ) (more : List ℕ) → Goes c → dot_count (b ∷ c ∷ more) ≡ 0
resolved_from b c more g =
    ⊎_elim
    (λ dot. subst (λ n. dot_count (n ∷ c ∷ more) ≡ 0) (sym dot) (no_dots_after (c ∷ more) (λ none. absurd (omega arith)) (λ same. let zero = no_dot c more g.dot g.percent in absurd (omega arith))))
    (λ no_dot_byte. ⊎_elim
    (λ percent. subst (λ n. dot_count (n ∷ c ∷ more) ≡ 0) (sym percent) (no_dots_from (37 ∷ c ∷ more) (no_escape c more g.two)))
    (λ other. no_dots_from (b ∷ c ∷ more) (no_dot b (c ∷ more) (ne_eqb b 46 no_dot_byte) (ne_eqb b 37 other)))
    (cases_eq b 37))
    (cases_eq b 46)

-- ---- a rest by its segments

record IsStart (s : List ℕ) (c : ℕ) : Type 0 where
  more : List ℕ
  is : s ≡ c ∷ more

record Cut (kind : SchemeType) (rest : List ℕ) : Type 0 where
  s : List ℕ
  segments : List (List ℕ)
  joined : rest ≡ s ++ join_segments segments
  kept : All (IsKept PATH) s
  whole : All (λ b. is_slash kind b ≡ false) s
  resolved : begins_segment rest ≡ true → dot_count s ≡ 0
  starts : (c : ℕ) (more : List ℕ) → rest ≡ c ∷ more → (c == 47) ≡ false → IsStart s c
  others : All (IsSegment kind) segments

first_resolved : (kind : SchemeType) (b : ℕ) (rest : List ℕ) → (later : Cut kind rest) → begins_segment (b ∷ rest) ≡ true → dot_count (b ∷ later.s) ≡ 0
first_resolved kind b rest later begins =
    ⊎_elim (λ mark. marked rest later (sym (cond-true _ _ _ mark) ∙ begins))
    (λ none. let both = or_parts (b == 46) (b == 37) none in no_dots_from (b ∷ later.s) (no_dot b later.s both.0 both.1))
    (cases_Bool (b == 46 || b == 37))
  where
    marked : (rest : List ℕ) → (later : Cut kind rest) → goes_on rest ≡ true → dot_count (b ∷ later.s) ≡ 0
    marked [] later e = absurd (true≢false (sym e))
    marked (c ∷ more) later e =
        let g = goes c more e in
        let start = later.starts c more refl g.slash in
        subst (λ xs. dot_count (b ∷ xs) ≡ 0) (sym start.is) (resolved_from b c start.more g)

at_slash : (kind : SchemeType) (b : ℕ) (rest : List ℕ) → b ≡ 47 → begins_segment rest ≡ true → Cut kind rest → Cut kind (b ∷ rest)
at_slash kind b rest slash begins later = record {
  s = [];
  segments = later.s ∷ later.segments;
  joined = λ i. slash i ∷ later.joined i;
  kept = All-nil (IsKept PATH);
  whole = All-nil (λ c. is_slash kind c ≡ false);
  resolved = λ _. no_dots_from [] refl;
  starts = λ c more e other. absurd (let is : b ≡ c = cc in true≢false (sym (ap (λ n. n == 47) (sym is ∙ slash)) ∙ other));
  others = All-cons (IsSegment kind) later.s later.segments (record { escaped = later.kept; whole = later.whole; resolved = later.resolved begins }) later.others;
}

at_byte : (kind : SchemeType) (b : ℕ) (rest : List ℕ) → b ≢ 47 → is_path_byte b ≡ true → Cut kind rest → Cut kind (b ∷ rest)
at_byte kind b rest other is later = record {
  s = b ∷ later.s;
  segments = later.segments;
  joined = ap (λ xs. b ∷ xs) later.joined;
  kept = All-cons (IsKept PATH) b later.s (path_kept b is) later.kept;
  whole = All-cons (λ c. is_slash kind c ≡ false) b later.s (path_no_slash kind b other is) later.whole;
  resolved = first_resolved kind b rest later;
  starts = λ c more e no_slash. let same : b ≡ c = cc in record { more = later.s; is = ap (λ n. n ∷ later.s) same };
  others = later.others;
}

cut : (kind : SchemeType) (rest : List ℕ) → All (Passes is_path_byte) rest → begin_segments rest ≡ true → Cut kind rest
cut kind [] all begin = record {
  s = [];
  segments = [];
  joined = refl;
  kept = All-nil (IsKept PATH);
  whole = All-nil (λ c. is_slash kind c ≡ false);
  resolved = λ _. no_dots_from [] refl;
  starts = λ c more e other. absurd (cc);
  others = All-nil (IsSegment kind);
}
cut kind (b ∷ rest) all begin =
    let later = cut kind rest (All-tail (Passes is_path_byte) b rest all) (and_parts _ _ begin).1 in
    ⊎_elim
    (λ slash. at_slash kind b rest slash (sym (cond-true (b == 47) (begins_segment rest) true (ap (λ n. n == 47) slash)) ∙ (and_parts _ _ begin).0) later)
    (λ other. at_byte kind b rest other (All-head (Passes is_path_byte) b rest all) later)
    (cases_eq b 47)

pub path_bytes : (rest : List ℕ) → is_plain_rest rest ≡ true → All (Passes is_path_byte) rest
path_bytes rest plain = All_from_list_all is_path_byte rest (and_parts _ _ plain).0

pub plain_path : (kind : SchemeType) (path rest : List ℕ) → is_file kind ≡ false → is_plain_rest rest ≡ true → parse_path kind path rest ≡ path ++ 47 ∷ rest
plain_path kind path rest web plain =
    let parts = and_parts _ _ (and_parts _ _ plain).1 in
    let c = cut kind rest (path_bytes rest plain) parts.1 in
    ap (parse_path kind path) c.joined
    ∙ (parse_own_segments kind path c.s c.segments (stays_unless_file kind path c.s web) (record { escaped = c.kept; whole = c.whole; resolved = c.resolved parts.0 }) c.others
    ∙ ap (λ xs. path ++ 47 ∷ xs) (sym c.joined))
