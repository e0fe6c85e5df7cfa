-- Texts without `%` hold no escape, and they spell themselves.
use Rattle.std.proofs.Common.{◌≡◌, ◌≢◌, ◌==◌, ◌∷◌, ◌++◌, ◌||◌, [], ℕ, List, false, not, length, take, refl, sym, ap, ◌∙◌, subst, All, arith, inl, inr, append-nil}
use Rattle.std.specs.Prelude.{codes, filter, flat_map, bytes_eq, if◌then◌else◌}
use Rattle.std.specs.List.{list_any, onto_first}
use Rattle.std.specs.Char.{to_ascii_lowercase}
use Rattle.std.proofs.lemmas.Bool.{cond-true, cond-false, cases_Bool, ne_eqb, eqb-true, true≢false, or_left, false_from_ne_true}
use Rattle.std.proofs.lemmas.Bool.Decides.{nat_tests}
use Rattle.std.proofs.lemmas.Slice.Eq.{bytes_eq-Decides}
use Rattle.std.proofs.lemmas.List.Elements.{All-nil, All-cons, All-head, All-tail}
use Rattle.percent_encoding.specs.Percent.{percent_decode}
use Rattle.percent_encoding.proofs.PercentLemmas.{percent_decode-nil, percent_decode_not_percent}
use Rattle.url.specs.Input.{lowercase}
use Rattle.tree_spec.specs.Paths.{IsPath, IsSegment, HasDepth, root, child}
use Rattle.tree_spec.proofs.PathParts.{IsFront, at_root as front_at_root, at_other, front_of}
use Rattle.tree_spec.proofs.Fronts.{all_front, all_behind}
use Rattle.url_spec.specs.ServedPaths.{holds_escape, read_segment, segments}
use Rattle.url_spec.specs.FileUrls.{escapes_separator, spelled_path}
use Rattle.url_spec.proofs.SpelledPaths.{HasFirst, is_some_name, spelled, spelled_behind}
use Rattle.web_url.proofs.PathLemmas.{or_root_is}

abbrev pub IsPlain : List ℕ → Type 0
IsPlain text = All (λ b. b ≢ 37) text

pub plain : (text : List ℕ) → list_any (λ b. b == 37) text ≡ false → IsPlain text
plain [] none = All-nil (λ b. b ≢ 37)
plain (b ∷ text) none =
    elim (cases_Bool (b == 37)) [
      | inl here ↦ absurd (true≢false (sym (or_left (b == 37) (list_any (λ c. c == 37) text) here) ∙ none))
      | inr other ↦
          All-cons (λ c. c ≢ 37) b text (λ same. true≢false (ap (λ c. c == 37) (sym same) ∙ other))
          (plain text (ap (λ test. test || list_any (λ c. c == 37) text) (sym other) ∙ none))
    ]

-- ---- no escape

other_lower : (b : ℕ) → b ≢ 37 → to_ascii_lowercase b ≢ 37
other_lower b other e = grind (arith, nat_tests)

no_escape : (high low : ℕ) (text : List ℕ) → IsPlain text → holds_escape (37 ∷ high ∷ low ∷ []) text ≡ false
unfolding holds_escape
no_escape high low [] all = refl
no_escape high low (b ∷ text) all =
    let escape : List ℕ = 37 ∷ high ∷ low ∷ [] in
    let here = lowercase (take 3 (b ∷ text)) in
    let decides = bytes_eq-Decides here escape in
    ap (λ test. test || holds_escape escape text)
    (false_from_ne_true (bytes_eq here escape)
    (λ yes. let same : here ≡ escape = decides.0 yes in
    let head : to_ascii_lowercase b ≡ 37 = cc in
    other_lower b (All-head (λ c. c ≢ 37) b text all) head))
    ∙ no_escape high low text (All-tail (λ c. c ≢ 37) b text all)

pub no_slash_escape : (text : List ℕ) → IsPlain text → holds_escape (codes "%2f") text ≡ false
no_slash_escape text all = no_escape 50 102 text all

pub no_separator : (text : List ℕ) → IsPlain text → escapes_separator text ≡ false
no_separator text all =
    ap (λ test. test || holds_escape (codes "%5c") text) (no_slash_escape text all) ∙ no_escape 53 99 text all

-- ---- the text itself

decoded : (name : List ℕ) → IsPlain name → percent_decode name ≡ name
decoded [] all = percent_decode-nil
decoded (b ∷ name) all =
    percent_decode_not_percent b name (All-head (λ c. c ≢ 37) b name all)
    ∙ ap (λ xs. b ∷ xs) (decoded name (All-tail (λ c. c ≢ 37) b name all))

-- the segments of a text, read, where its first byte isn't a slash
read_onto : (b : ℕ) (parts : List (List ℕ)) (text : List ℕ) → b ≢ 37 → HasFirst parts
    → flat_map read_segment parts ≡ 47 ∷ text → flat_map read_segment (onto_first b parts) ≡ 47 ∷ b ∷ text
read_onto b parts text other h e =
    let read : percent_decode h.first ++ flat_map read_segment h.more ≡ text =
    (let whole : 47 ∷ (percent_decode h.first ++ flat_map read_segment h.more) ≡ 47 ∷ text
    = sym (ap (flat_map read_segment) h.split) ∙ e in cc) in
    ap (λ ps. flat_map read_segment (onto_first b ps)) h.split
    ∙ ap (λ xs. 47 ∷ (xs ++ flat_map read_segment h.more)) (percent_decode_not_percent b h.first other)
    ∙ ap (λ xs. 47 ∷ b ∷ xs) read

first_segment : (text : List ℕ) → HasFirst (segments text)
first_segment [] = record { first = []; more = []; split = refl }
first_segment (b ∷ text) =
    elim (cases_Bool (b == 47)) [
      | inl slash ↦ record { first = []; more = segments text; split = cond-true _ _ _ slash }
      | inr other ↦ let tail = first_segment text in record { first = b ∷ tail.first; more = tail.more; split = cond-false _ _ _ other ∙ ap (onto_first b) tail.split }
    ]

pub itself : (text : List ℕ) → IsPlain text → flat_map read_segment (segments text) ≡ 47 ∷ text
itself [] all = ap (λ xs. 47 ∷ (xs ++ [])) percent_decode-nil
itself (b ∷ text) all =
    let more = itself text (All-tail (λ c. c ≢ 37) b text all) in
    elim (cases_Bool (b == 47)) [
      | inl slash ↦
          ap (flat_map read_segment) (cond-true _ _ _ slash)
          ∙ (ap (λ xs. 47 ∷ (xs ++ flat_map read_segment (segments text))) percent_decode-nil
          ∙ (ap (λ xs. 47 ∷ xs) more ∙ ap (λ c. 47 ∷ c ∷ text) (sym (eqb-true b 47 slash))))
      | inr other ↦
          ap (flat_map read_segment) (cond-false _ _ _ other)
          ∙ read_onto b (segments text) text (All-head (λ c. c ≢ 37) b text all) (first_segment text) more
    ]

-- ---- a path

one_segment : (text : List ℕ) → All (λ b. b ≢ 47) text → segments text ≡ text ∷ []
one_segment [] none = refl
one_segment (b ∷ text) none =
    cond-false _ _ _ (ne_eqb b 47 (All-head (λ c. c ≢ 47) b text none)) ∙ ap (onto_first b) (one_segment text (All-tail (λ c. c ≢ 47) b text none))

some_length : (name : List ℕ) → name ≢ [] → length name ≢ 0
some_length [] some e = some refl
some_length (b ∷ name) some e = absurd (omega (arith, e))

name_spelled : (name : List ℕ) → IsSegment name → IsPlain name → spelled name ≡ 47 ∷ name
name_spelled name is all =
    let kept : filter is_some_name (name ∷ []) ≡ name ∷ [] = cond-true _ _ _ (ap not (ne_eqb (length name) 0 (some_length name is.nonempty))) in
    ap (λ parts. flat_map read_segment (filter is_some_name parts)) (one_segment name is.no_slash)
    ∙ (ap (flat_map read_segment) kept
    ∙ (ap (λ xs. 47 ∷ xs) (append-nil (percent_decode name)) ∙ ap (λ xs. 47 ∷ xs) (decoded name all)))

front_spelled : (parent front : List ℕ) → IsFront parent front → IsPlain front
    → (parent ≢ codes "/" → IsPlain parent → spelled parent ≡ parent) → spelled front ≡ front
front_spelled parent front (front_at_root _ _ a b) all up = ap spelled b ∙ sym b
front_spelled parent front (at_other _ _ a b) all up = ap spelled b ∙ (up a (subst IsPlain b all) ∙ sym b)

depth_spelled : (depth : ℕ) (path : List ℕ) → HasDepth depth path → path ≢ codes "/" → IsPlain path → spelled path ≡ path
depth_spelled _ path (root _ e) other all = absurd (other e)
depth_spelled _ path (child depth deeper parent name _ up is next e) other all =
    let has = front_of parent name in
    let text : path ≡ has.front ++ 47 ∷ name = e ∙ has.text_is in
    let parts : IsPlain (has.front ++ 47 ∷ name) = subst IsPlain text all in
    let front_plain : IsPlain has.front = all_front (λ b. b ≢ 37) has.front (47 ∷ name) parts in
    let name_plain : IsPlain name = All-tail (λ b. b ≢ 37) 47 name (all_behind (λ b. b ≢ 37) has.front (47 ∷ name) parts) in
    ap spelled text
    ∙ (spelled_behind has.front name
    ∙ (ap (λ xs. spelled has.front ++ xs) (name_spelled name is name_plain)
    ∙ (ap (λ xs. xs ++ 47 ∷ name) (front_spelled parent has.front has.is_front front_plain (λ a s. depth_spelled depth parent up a s)) ∙ sym text)))

root_spelled : codes "/" ≡ spelled_path (codes "/")
unfolding spelled_path
root_spelled = refl

spelled_whole : (path : List ℕ) → spelled path ≡ path → path ≢ [] → path ≡ spelled_path path
unfolding spelled_path
spelled_whole path e some =
    let full : (length path == 0) ≡ false = ne_eqb (length path) 0 (some_length path some) in
    sym (cond-false (length path == 0) (codes "/") path full)
    ∙ (ap (λ xs. if length xs == 0 then codes "/" else xs) (sym e) ∙ or_root_is (filter is_some_name (segments path)))

never_empty : (depth : ℕ) (path : List ℕ) → HasDepth depth path → path ≢ []
never_empty _ path (root _ e) none = let wrong : [] ≡ codes "/" = sym none ∙ e in cc
never_empty _ path (child depth deeper parent name _ up is next e) none =
    let has = front_of parent name in
    let text : [] ≡ has.front ++ 47 ∷ name = sym none ∙ (e ∙ has.text_is) in
    never_split has.front name text
  where
    never_split : (front name : List ℕ) → [] ≡ front ++ 47 ∷ name → ⊥
    never_split [] name e = cc
    never_split (b ∷ front) name e = cc

pub path_itself : (path : List ℕ) → IsPath path → IsPlain path → path ≡ spelled_path path
path_itself path is all =
    let decides = bytes_eq-Decides path (codes "/") in
    elim (cases_Bool (bytes_eq path (codes "/"))) [
      | inl at_root ↦ let same : path ≡ codes "/" = decides.0 at_root in same ∙ (root_spelled ∙ ap spelled_path (sym same))
      | inr elsewhere ↦
          let other : path ≢ codes "/" = λ same. true≢false (sym (decides.1 same) ∙ elsewhere) in
          spelled_whole path (depth_spelled is.depth path is.segments other all) (never_empty is.depth path is.segments)
    ]
