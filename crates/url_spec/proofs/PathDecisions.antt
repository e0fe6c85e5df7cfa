-- The test of paths decides.
use Rattle.std.proofs.Common.{◌≡◌, ◌≢◌, ◌≤◌, ◌&&◌, ◌||◌, ◌==◌, ◌+◌, not, nat_le, ℕ, suc, true, false, List, [], ◌∷◌, ◌++◌, length, refl, sym, ap, ◌∙◌, subst, inl, inr, arith, All}
use Rattle.std.specs.Prelude.{codes, bytes_eq, flat_map}
use Rattle.std.specs.List.{list_all}
use Rattle.std.proofs.lemmas.Bool.{and_parts, cases_Bool, cond-true, cond-false, eqb-false, eqb-true, ne_eqb, not-true, leb-true, le-leb, true≢false}
use Rattle.std.proofs.lemmas.Bool.{or_cases, or_right}
use Rattle.std.proofs.lemmas.List.{append-nil, append_assoc, length_push}
use Rattle.std.proofs.lemmas.List.Elements.{All-nil, All-cons, All-head, All-tail}
use Rattle.std.proofs.lemmas.Slice.Eq.{bytes_eq-Decides}
use Rattle.tree_spec.specs.Paths.{IsSegment, joined, HasDepth, root, child, IsPath}
use Rattle.tree_spec.proofs.ByteLists.{other_text, texts_differ}
use Rattle.url_spec.specs.PathTests.{with_first, parts, is_segment, is_path}

-- ---- segments

without_marks : (name : List ℕ) → list_all (λ b. not (b == 47) && not (b == 0)) name ≡ true → All (λ b. b ≢ 47) name × All (λ b. b ≢ 0) name
without_marks [] e = (All-nil _, All-nil _)
without_marks (b ∷ name) e =
    let both = and_parts (not (b == 47) && not (b == 0)) (list_all (λ b. not (b == 47) && not (b == 0)) name) e in
    let first = and_parts (not (b == 47)) (not (b == 0)) both.0 in
    let rest = without_marks name both.1 in
    (All-cons (λ x. x ≢ 47) b name (eqb-false b 47 (not-true _ first.0)) rest.0, All-cons (λ x. x ≢ 0) b name (eqb-false b 0 (not-true _ first.1)) rest.1)

pub segment_by_test : (name : List ℕ) → is_segment name ≡ true → IsSegment name
segment_by_test name e =
    let marks = and_parts _ (list_all (λ b. not (b == 47) && not (b == 0)) name) e in
    let up = and_parts _ (not (bytes_eq name (codes ".."))) marks.0 in
    let here = and_parts (not (bytes_eq name [])) (not (bytes_eq name (codes "."))) up.0 in
    let bytes = without_marks name marks.1 in
    record { nonempty = texts_differ name [] (not-true _ here.0); no_slash = bytes.0; no_nul = bytes.1; not_here = texts_differ name (codes ".") (not-true _ here.1); not_up = texts_differ name (codes "..") (not-true _ up.1) }

marks_pass : (name : List ℕ) → All (λ b. b ≢ 47) name → All (λ b. b ≢ 0) name → list_all (λ b. not (b == 47) && not (b == 0)) name ≡ true
marks_pass [] s n = refl
marks_pass (b ∷ name) s n =
    let slash : (b == 47) ≡ false = ne_eqb b 47 (All-head (λ x. x ≢ 47) b name s) in
    let nul : (b == 0) ≡ false = ne_eqb b 0 (All-head (λ x. x ≢ 0) b name n) in
    let rest = marks_pass name (All-tail (λ x. x ≢ 47) b name s) (All-tail (λ x. x ≢ 0) b name n) in
    (λ i. (not (slash i) && not (nul i)) && rest i)

pub test_by_segment : (name : List ℕ) → IsSegment name → is_segment name ≡ true
test_by_segment name is =
    let empty = other_text name [] is.nonempty in
    let here = other_text name (codes ".") is.not_here in
    let up = other_text name (codes "..") is.not_up in
    let marks = marks_pass name is.no_slash is.no_nul in
    λ i. ((not (empty i) && not (here i)) && not (up i)) && marks i

-- ---- what the parts are

abbrev slashed : List (List ℕ) → List ℕ
slashed names = flat_map (λ name. 47 ∷ name) names

with_first_slashed : (b : ℕ) (names : List (List ℕ)) (rest : List ℕ) → slashed names ≡ 47 ∷ rest → slashed (with_first b names) ≡ 47 ∷ b ∷ rest
with_first_slashed b [] rest e = absurd (cc)
with_first_slashed b (name ∷ more) rest e = let behind : name ++ slashed more ≡ rest = cc in ap (λ r. 47 ∷ b ∷ r) behind

parts_slashed : (rest : List ℕ) → slashed (parts rest) ≡ 47 ∷ rest
parts_slashed [] = refl
parts_slashed (b ∷ rest) = elim (cases_Bool (b == 47)) [
  | inl same ↦
      let is : b ≡ 47 = eqb-true b 47 same in
      ap slashed (cond-true _ ([] ∷ parts rest) (with_first b (parts rest)) same) ∙ (ap (λ r. 47 ∷ r) (parts_slashed rest) ∙ ap (λ x. 47 ∷ x ∷ rest) (sym is))
  | inr other ↦ ap slashed (cond-false _ ([] ∷ parts rest) (with_first b (parts rest)) other) ∙ with_first_slashed b (parts rest) rest (parts_slashed rest)
]

-- a text without a slash is one part
one_part : (name : List ℕ) → All (λ b. b ≢ 47) name → parts name ≡ name ∷ []
one_part [] s = refl
one_part (b ∷ name) s =
    cond-false _ ([] ∷ parts name) (with_first b (parts name)) (ne_eqb b 47 (All-head (λ x. x ≢ 47) b name s)) ∙ ap (with_first b) (one_part name (All-tail (λ x. x ≢ 47) b name s))

with_first_behind : (b : ℕ) (names : List (List ℕ)) (name : List ℕ) (rest : List ℕ) → slashed names ≡ 47 ∷ rest → with_first b (names ++ name ∷ []) ≡ with_first b names ++ name ∷ []
with_first_behind b [] name rest e = absurd (cc)
with_first_behind b (first ∷ more) name rest e = refl

-- a slash ends the parts before it
parts_behind : (rest name : List ℕ) → All (λ b. b ≢ 47) name → parts (rest ++ 47 ∷ name) ≡ parts rest ++ name ∷ []
parts_behind [] name s = ap (λ ps. [] ∷ ps) (one_part name s)
parts_behind (b ∷ rest) name s = elim (cases_Bool (b == 47)) [
  | inl same ↦
      cond-true _ ([] ∷ parts (rest ++ 47 ∷ name)) (with_first b (parts (rest ++ 47 ∷ name))) same
      ∙ (ap (λ ps. [] ∷ ps) (parts_behind rest name s) ∙ ap (λ ps. ps ++ name ∷ []) (sym (cond-true _ ([] ∷ parts rest) (with_first b (parts rest)) same)))
  | inr other ↦
      cond-false _ ([] ∷ parts (rest ++ 47 ∷ name)) (with_first b (parts (rest ++ 47 ∷ name))) other
      ∙ (ap (with_first b) (parts_behind rest name s) ∙ (with_first_behind b (parts rest) name rest (parts_slashed rest) ∙ ap (λ ps. ps ++ name ∷ []) (sym (cond-false _ ([] ∷ parts rest) (with_first b (parts rest)) other))))
]

-- ---- a text that passes is a path

joined_deep : (above name : List ℕ) → above ≢ codes "/" → joined above name ≡ above ++ 47 ∷ name
joined_deep above name deep = ap (λ front. front ++ 47 ∷ name) (cond-false _ [] above (other_text above (codes "/") deep))

not_root : (above name : List ℕ) → name ≢ [] → above ++ 47 ∷ name ≢ codes "/"
not_root [] name some e = some (let f = e in cc)
not_root (a ∷ []) name some e = let f = e in absurd (cc)
not_root (a ∷ b ∷ above) name some e = let f = e in absurd (cc)

extended : (depth : ℕ) (above : List ℕ) (names : List (List ℕ)) → HasDepth depth above → above ≢ codes "/" → list_all is_segment names ≡ true → HasDepth (depth + length names) (above ++ slashed names)
extended depth above [] has deep e = subst (λ d. HasDepth d (above ++ [])) (omega arith) (subst (HasDepth depth) (sym (append-nil above)) has)
extended depth above (name ∷ names) has deep e =
    let both = and_parts (is_segment name) (list_all is_segment names) e in
    let segment = segment_by_test name both.0 in
    let here : HasDepth (depth + 1) (above ++ 47 ∷ name) = child depth (depth + 1) above name (above ++ 47 ∷ name) has segment refl (sym (joined_deep above name deep)) in
    let all : HasDepth (depth + 1 + length names) ((above ++ 47 ∷ name) ++ slashed names) = extended (depth + 1) (above ++ 47 ∷ name) names here (not_root above name segment.nonempty) both.1 in
    subst (λ d. HasDepth d (above ++ slashed (name ∷ names))) (omega arith) (subst (HasDepth (depth + 1 + length names)) (append_assoc above (47 ∷ name) (slashed names)) all)

below_root : (names : List (List ℕ)) (text : List ℕ) → slashed names ≡ text → text ≢ [] → list_all is_segment names ≡ true → HasDepth (length names) text
below_root [] text e some passes = absurd (some (sym e))
below_root (name ∷ names) text e some passes =
    let both = and_parts (is_segment name) (list_all is_segment names) passes in
    let segment = segment_by_test name both.0 in
    let here : HasDepth 1 (47 ∷ name) = child 0 1 (codes "/") name (47 ∷ name) (root (codes "/") refl) segment refl refl in
    subst (HasDepth (suc (length names))) e (subst (λ d. HasDepth d (slashed (name ∷ names))) (omega arith) (extended 1 (47 ∷ name) names here (not_root [] name segment.nonempty) both.1))

pub path_by_test : (text : List ℕ) → is_path text ≡ true → IsPath text
path_by_test [] e = absurd (cc)
path_by_test (b ∷ rest) e =
    let outer = and_parts _ (nat_le (length rest) 1023) e in
    let inner = and_parts (b == 47) _ outer.0 in
    let slash : b ≡ 47 = eqb-true b 47 inner.0 in
    let few : length rest ≤ 1023 = leb-true _ _ outer.1 in
    let short : length (b ∷ rest) ≤ 1024 = omega arith in
    elim (or_cases (bytes_eq rest []) _ inner.1) [
      | inl none ↦
          let same : b ∷ rest ≡ codes "/" = (λ i. slash i ∷ (bytes_eq-Decides rest []).0 none i) in
          record { depth = 0; segments = root (b ∷ rest) same; few = omega arith; short = short }
      | inr some ↦
          let names = and_parts (list_all is_segment (parts rest)) (nat_le (length (parts rest)) 64) some in
          record {
            depth = length (parts rest);
            segments = below_root (parts rest) (b ∷ rest) (parts_slashed rest ∙ ap (λ x. x ∷ rest) (sym slash)) (λ f. cc) names.0;
            few = leb-true _ _ names.1;
            short = short;
          }
    ]

-- ---- a path passes

record HasParts (depth : ℕ) (text : List ℕ) : Type 0 where
  rest : List ℕ
  whole : text ≡ 47 ∷ rest
  passes : list_all is_segment (parts rest) ≡ true
  count : length (parts rest) ≡ depth

all_behind : (names : List (List ℕ)) (name : List ℕ) → list_all is_segment names ≡ true → is_segment name ≡ true → list_all is_segment (names ++ name ∷ []) ≡ true
all_behind [] name e f = ap (λ b. b && true) f
all_behind (first ∷ names) name e f =
    let both = and_parts (is_segment first) (list_all is_segment names) e in
    (λ i. both.0 i && all_behind names name both.1 f i)

at_top : (name text : List ℕ) → IsSegment name → text ≡ 47 ∷ name → HasParts 1 text
at_top name text segment whole = record {
  rest = name;
  whole = whole;
  passes = ap (list_all is_segment) (one_part name segment.no_slash) ∙ ap (λ b. b && true) (test_by_segment name segment);
  count = ap length (one_part name segment.no_slash);
}

behind_parts : (depth : ℕ) (parent name text : List ℕ) → HasParts depth parent → IsSegment name → text ≡ parent ++ 47 ∷ name → HasParts (depth + 1) text
behind_parts depth parent name text has segment whole = record {
  rest = has.rest ++ 47 ∷ name;
  whole = whole ∙ ap (λ p. p ++ 47 ∷ name) has.whole;
  passes = ap (list_all is_segment) (parts_behind has.rest name segment.no_slash) ∙ all_behind (parts has.rest) name has.passes (test_by_segment name segment);
  count = ap length (parts_behind has.rest name segment.no_slash) ∙ (length_push (parts has.rest) name ∙ ap (λ n. n + 1) has.count);
}

root_depth : (depth : ℕ) → HasDepth depth (codes "/") → depth ≡ 0
root_depth _ (root text e) = refl
root_depth _ (child depth deeper parent name text has segment e same) = absurd (elim (cases_Bool (bytes_eq parent (codes "/"))) [
  | inl at ↦ segment.nonempty (let f : codes "/" ≡ 47 ∷ name = same ∙ ap (λ front. front ++ 47 ∷ name) (cond-true _ [] parent at) in cc)
  | inr deep ↦ not_root parent name segment.nonempty (sym (same ∙ ap (λ front. front ++ 47 ∷ name) (cond-false _ [] parent deep)))
])

has_parts : (depth : ℕ) (text : List ℕ) → HasDepth depth text → text ≢ codes "/" → HasParts depth text
has_parts _ _ (root text e) deep = absurd (deep e)
has_parts _ _ (child depth deeper parent name text has segment e same) deep = elim (cases_Bool (bytes_eq parent (codes "/"))) [
  | inl at ↦
      let is_root : parent ≡ codes "/" = (bytes_eq-Decides parent (codes "/")).0 at in
      let zero_deep : depth ≡ 0 = root_depth depth (subst (HasDepth depth) is_root has) in
      subst (λ d. HasParts d text) (sym (e ∙ ap (λ d. d + 1) zero_deep)) (at_top name text segment (same ∙ ap (λ front. front ++ 47 ∷ name) (cond-true _ [] parent at)))
  | inr other ↦
      let apart_from : parent ≢ codes "/" = (λ f. true≢false (sym ((bytes_eq-Decides parent (codes "/")).1 f) ∙ other)) in
      subst (λ d. HasParts d text) (sym e) (behind_parts depth parent name text (has_parts depth parent has apart_from) segment (same ∙ joined_deep parent name apart_from))
]

pub test_by_path : (text : List ℕ) → IsPath text → is_path text ≡ true
test_by_path text is = elim (cases_Bool (bytes_eq text (codes "/"))) [
  | inl at ↦ ap is_path ((bytes_eq-Decides text (codes "/")).0 at)
  | inr other ↦
      let has = has_parts is.depth text is.segments (λ f. true≢false (sym ((bytes_eq-Decides text (codes "/")).1 f) ∙ other)) in
      let long : length text ≡ suc (length has.rest) = ap length has.whole in
      let names : (list_all is_segment (parts has.rest) && nat_le (length (parts has.rest)) 64) ≡ true =
      (λ i. has.passes i && le-leb (length (parts has.rest)) 64 (let c = has.count in let f = is.few in omega arith) i) in
      let within : (bytes_eq has.rest [] || list_all is_segment (parts has.rest) && nat_le (length (parts has.rest)) 64) ≡ true = or_right _ _ names in
      ap is_path has.whole ∙ (λ i. within i && le-leb (length has.rest) 1023 (let s = is.short in omega arith) i)
]
