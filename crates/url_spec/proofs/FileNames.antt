-- The web name of a file's path ends in no `/`.
use Rattle.std.proofs.Common.{◌≡◌, ℕ, false, not, List, ◌++◌, length, All, sym, ap, ◌∙◌, subst, ◌≢◌, ◌<◌, arith, [], drop, ◌-◌, take, None, refl, Option, Some, true, ◌==◌, ◌∷◌, append-nil, reverse, append_assoc}
use Rattle.std.proofs.Math.Seq.{take-append_seam, take-length}
use Rattle.std.proofs.lemmas.Bool.{true≢false, cond-true, cond-false, cases_Bool, ne_eqb}
use Rattle.std.proofs.lemmas.Bool.Decides.{nat_tests}
use Rattle.std.proofs.lemmas.Grind.{flat_map-append}
use Rattle.std.proofs.lemmas.List.{take-append-drop, reverse-append}
use Rattle.std.proofs.lemmas.List.Elements.{All-take, All-weaker, All-nil, All-append, All-drop, All-filter, All-cons}
use Rattle.std.specs.Cmp.Lexicographic.{same_text}
use Rattle.std.specs.List.{prefix_len, suffix_len, ends_with}
use Rattle.std.specs.Prelude.{Ok, Err, codes, nat_eq, ◌⊎◌, flat_map}
use mathlib.Core.Logic.{inl, inr}
use Rattle.percent_encoding.proofs.PercentLemmas.{IsEscapeByte}
use Rattle.percent_encoding.specs.Percent.{percent_decode}
use Rattle.url.proofs.InputLemmas.{IsNot, Passes, All-take-prefix_len, split_once_none, prefix_len_at}
use Rattle.url.proofs.RoundTrip.{split_fragment, split_query}
use Rattle.url.specs.Input.{trim_start, is_c0_control_or_space, trim_c0_control_and_space, strip_tabs_and_new_lines, is_tab_or_new_line, lowercase, split_once}
use Rattle.url.specs.Parser.{Parsed, and_then, with_tail, before_tail, parse_body, parse_parts, parse_by_scheme, split_scheme, parse_url}
use Rattle.url.specs.Parts.{Parts, IsValid, serialize, text_before}
use Rattle.url.specs.declared.slicing.Position.TheVariants.{AfterQuery}
use Rattle.tree_spec.proofs.PathParts.{last_of}
use Rattle.tree_spec.specs.Paths.{IsPath}
use Rattle.url_spec.proofs.FileUrls.{All_escaped}
use Rattle.url_spec.proofs.SpelledPaths.{segments_behind}
use Rattle.url_spec.specs.Laws.{FilesEndInNoSlash}
use Rattle.url_spec.specs.Parsing.{text_of}
use Rattle.url_spec.specs.ServedPaths.{IsServed, segments, read_segment}
use Rattle.url_spec.specs.Suffixes.{is_suffix_mark, before_suffix}
use Rattle.url_spec.specs.WebNames.{is_plain, escaped}

-- a base under which a URL is served has none
pub served_base : (mark : ℕ) (base url path : List ℕ) → not (is_suffix_mark mark) ≡ false → IsServed base url path → All (IsNot mark) base
served_base mark base url path is_mark served =
    let front : All (Passes (λ b. not (is_suffix_mark b))) (before_suffix url) = All-take-prefix_len (λ b. not (is_suffix_mark b)) url in
    let both : All (Passes (λ b. not (is_suffix_mark b))) (base ++ served.rest) = subst (All (Passes (λ b. not (is_suffix_mark b)))) served.below front in
    let own : All (Passes (λ b. not (is_suffix_mark b))) base = subst (All (Passes (λ b. not (is_suffix_mark b)))) (take-append_seam base served.rest) (All-take (Passes (λ b. not (is_suffix_mark b))) (length base) (base ++ served.rest) both) in
    All-weaker (Passes (λ b. not (is_suffix_mark b))) (IsNot mark) (λ b passes same. absurd (true≢false (sym passes ∙ (ap (λ c. not (is_suffix_mark c)) same ∙ is_mark)))) base own

-- an escaped path has none
escaped_without : (mark : ℕ) (path : List ℕ) → is_plain mark ≡ false → ((b : ℕ) → IsEscapeByte b → b ≢ mark) → All (λ b. b < 256) path → All (IsNot mark) (escaped path)
escaped_without mark path no_plain no_escape small = All_escaped (IsNot mark) (λ b. b < 256) path small (λ b _ plain same. absurd (true≢false (sym plain ∙ (ap is_plain same ∙ no_plain)))) no_escape

escape_no_hash : (b : ℕ) → IsEscapeByte b → b ≢ 35
escape_no_hash b escape e = grind arith

escape_no_question : (b : ℕ) → IsEscapeByte b → b ≢ 63
escape_no_question b escape e = grind arith

name_without : (mark : ℕ) (base path : List ℕ) → All (IsNot mark) base → All (IsNot mark) (escaped path) → All (IsNot mark) (base ++ (drop 1 (escaped path) ++ []))
name_without mark base path of_base of_path = All-append (IsNot mark) base _ of_base (All-append (IsNot mark) (drop 1 (escaped path)) [] (All-drop (IsNot mark) 1 (escaped path) of_path) (All-nil (IsNot mark)))

trimmed_without : (mark : ℕ) (text : List ℕ) → All (IsNot mark) text → All (IsNot mark) (strip_tabs_and_new_lines (trim_c0_control_and_space text))
unfolding strip_tabs_and_new_lines trim_c0_control_and_space
trimmed_without mark text all =
    let started = trim_start is_c0_control_or_space text in
    let left = length started - suffix_len is_c0_control_or_space started in
    All-filter (λ b. not (is_tab_or_new_line b)) (IsNot mark) (take left started) (All-take (IsNot mark) left started (All-drop (IsNot mark) (prefix_len is_c0_control_or_space text) text all))

-- ---- so the URL has no query and no fragment

pub record HasNoTail (url : Parts) : Type 0 where
  pub query : url.query ≡ None
  pub fragment : url.fragment ≡ None

same_ok : (one other : Parts) → ◌≡◌ {A = Parsed Parts} (Ok one) (Ok other) → one ≡ other
same_ok one other e = cc

no_tail_added : (body : Parsed Parts) (url : Parts) → and_then body (λ u. Ok (with_tail (before_tail u None None) None None)) ≡ Ok url → HasNoTail url
no_tail_added (Err fault) url e = absurd (cc)
no_tail_added (Ok u) url e = subst HasNoTail (same_ok _ url e) (record { query = refl; fragment = refl })

no_tail_by_scheme : (split : Option (List ℕ × List ℕ)) (body : List ℕ) (url : Parts) → parse_by_scheme split None body None None ≡ Ok url → HasNoTail url
unfolding parse_parts
no_tail_by_scheme None body url e = absurd (cc)
no_tail_by_scheme (Some split) body url e = no_tail_added (parse_body (lowercase split.0) None split.1) url e

no_tail_parsed : (text : List ℕ) (url : Parts) → All (IsNot 35) text → All (IsNot 63) text → parse_url None text ≡ Ok url → HasNoTail url
unfolding parse_url
no_tail_parsed text url no_hash no_question e =
    let stripped = strip_tabs_and_new_lines (trim_c0_control_and_space text) in
    let by_question = λ (fragment : Option (List ℕ)) (q : List ℕ × Option (List ℕ)). parse_by_scheme (split_scheme q.0) None q.0 q.1 fragment in
    let by_hash = λ (h : List ℕ × Option (List ℕ)). by_question h.1 (split_once 63 h.0) in
    no_tail_by_scheme (split_scheme stripped) stripped url
    (ap (by_question None) (sym (split_once_none 63 stripped (trimmed_without 63 text no_question))) ∙ (ap by_hash (sym (split_once_none 35 stripped (trimmed_without 35 text no_hash))) ∙ e))

-- ---- and its text none of the marks

pub record WithoutMark (mark : ℕ) (text : List ℕ) : Type 0 where
  pub all : All (IsNot mark) text
  pub whole : (split_once mark text).0 ≡ text

pub without_mark : (mark : ℕ) (text : List ℕ) → (split_once mark text).1 ≡ None → WithoutMark mark text
unfolding split_once
without_mark mark [] e = record { all = All-nil (IsNot mark); whole = refl }
without_mark mark (b ∷ text) e =
    elim (cases_Bool (b == mark)) [
      | inl same ↦ absurd (some_not_none text (ap (λ (r : List ℕ × Option (List ℕ)). r.1) (sym (cond-true _ _ _ same)) ∙ e))
      | inr other ↦ let tail : (split_once mark text).1 ≡ None = ap (λ (r : List ℕ × Option (List ℕ)). r.1) (sym (cond-false _ _ _ other)) ∙ e in
          let more = without_mark mark text tail in
          record {
            all = All-cons (IsNot mark) b text (λ same. absurd (true≢false (sym (let t : (b == mark) ≡ true = grind (arith, nat_tests) in t) ∙ other))) more.all;
            whole = ap (λ (r : List ℕ × Option (List ℕ)). r.0) (cond-false _ _ _ other) ∙ ap (λ xs. b ∷ xs) more.whole;
          }
    ]
  where
    some_not_none : (xs : List ℕ) → Some xs ≡ None → ⊥
    some_not_none xs q = cc

no_marks : (url : Parts) → IsValid url → HasNoTail url → All (IsNot 35) (serialize url) × All (IsNot 63) (serialize url)
no_marks url valid none =
    let fragment = split_fragment url valid in
    let hash = without_mark 35 (serialize url) (ap (λ (r : List ℕ × Option (List ℕ)). r.1) fragment ∙ none.fragment) in
    let before : text_before url AfterQuery ≡ serialize url = sym (ap (λ (r : List ℕ × Option (List ℕ)). r.0) fragment) ∙ hash.whole in
    let question = without_mark 63 (text_before url AfterQuery) (ap (λ (r : List ℕ × Option (List ℕ)). r.1) (split_query url valid) ∙ none.query) in
    (hash.all, subst (All (IsNot 63)) before question.all)

neither_mark : (b : ℕ) → b ≢ 63 → b ≢ 35 → not (is_suffix_mark b) ≡ true
neither_mark b no_question no_hash = rw (ne_eqb b 63 no_question, ne_eqb b 35 no_hash) refl

all_before : (text : List ℕ) → All (IsNot 35) text → All (IsNot 63) text → before_suffix text ≡ text
all_before text no_hash no_question =
    let all : All (Passes (λ b. not (is_suffix_mark b))) text = λ k d inside. neither_mark _ (no_question k d inside) (no_hash k d inside) in
    let whole : prefix_len (λ b. not (is_suffix_mark b)) text ≡ length text = ap (prefix_len (λ b. not (is_suffix_mark b))) (sym (append-nil text)) ∙ prefix_len_at (λ b. not (is_suffix_mark b)) text [] all tt in
    ap (λ n. take n text) whole ∙ take-length text

-- ---- a text that ends in `/` spells a path that does

pub ends_in : (text : List ℕ) → ends_with nat_eq text (codes "/") ≡ true → (front : List ℕ) × (text ≡ front ++ 47 ∷ [])
ends_in text e =
    let cut = length text - 1 in
    (take cut text, sym (take-append-drop cut text) ∙ ap (λ last. take cut text ++ last) (sym (same_text (codes "/") (drop cut text) (sym e))))

-- nothing, or a last byte behind others
last_byte : (text : List ℕ) → (text ≡ []) ⊎ ((front : List ℕ) × (b : ℕ) × (text ≡ front ++ b ∷ []))
last_byte [] = inl refl
last_byte (b ∷ text) =
    elim (last_byte text) [
      | inl none ↦ inr ([], b, ap (λ xs. b ∷ xs) none)
      | inr some ↦ inr (b ∷ some.0, some.1, ap (λ xs. b ∷ xs) some.2)
    ]

pub same_last : (one other : List ℕ) (a b : ℕ) → one ++ a ∷ [] ≡ other ++ b ∷ [] → a ≡ b
same_last one other a b e = let p : a ∷ reverse one ≡ b ∷ reverse other = sym (reverse-append one (a ∷ [])) ∙ (ap reverse e ∙ reverse-append other (b ∷ [])) in cc

nothing_spelled : flat_map read_segment (segments []) ≡ codes "/"
unfolding percent_decode
nothing_spelled = refl

slash_spelled : (rest : List ℕ) → flat_map read_segment (segments (rest ++ 47 ∷ [])) ≡ flat_map read_segment (segments rest) ++ 47 ∷ []
unfolding percent_decode
slash_spelled rest = ap (flat_map read_segment) (segments_behind rest []) ∙ flat_map-append read_segment (segments rest) ([] ∷ [])

no_final_slash : (path front : List ℕ) → IsPath path → path ≢ codes "/" → path ≡ front ++ 47 ∷ [] → ⊥
no_final_slash path front is not_root e = (last_of is.depth path front [] is.segments not_root e (All-nil (λ b. b ≢ 47))).segment.nonempty refl

slash_serves_folder : (base url path front : List ℕ) → IsServed base url path → path ≢ codes "/" → before_suffix url ≡ url → url ≡ front ++ 47 ∷ [] → ⊥
slash_serves_folder base url path front served not_root whole ends =
    elim (last_byte served.rest) [
      | inl none ↦ not_root (served.spelled ∙ (ap (λ rest. flat_map read_segment (segments rest)) none ∙ nothing_spelled))
      | inr some ↦ let b : some.1 ≡ 47 = same_last (base ++ some.0) front some.1 47 (append_assoc base some.0 (some.1 ∷ []) ∙ (ap (λ rest. base ++ rest) (sym some.2) ∙ (sym served.below ∙ (whole ∙ ends)))) in
          no_final_slash path (flat_map read_segment (segments some.0)) served.is_path not_root
          (served.spelled ∙ (ap (λ rest. flat_map read_segment (segments rest)) (some.2 ∙ ap (λ c. some.0 ++ c ∷ []) b) ∙ slash_spelled some.0))
    ]

pub files_end_in_no_slash : FilesEndInNoSlash
unfolding text_of
files_end_in_no_slash base path url parsed valid small served not_root =
    let no_hash = name_without 35 base path (served_base 35 base (serialize url) path refl served) (escaped_without 35 path refl escape_no_hash small) in
    let no_question = name_without 63 base path (served_base 63 base (serialize url) path refl served) (escaped_without 63 path refl escape_no_question small) in
    let clean = no_marks url valid (no_tail_parsed _ url no_hash no_question parsed) in
    elim (cases_Bool (ends_with nat_eq (serialize url) (codes "/"))) [
      | inr other ↦ other
      | inl slash ↦ let ends = ends_in (serialize url) slash in absurd (slash_serves_folder base (serialize url) path ends.0 served not_root (all_before (serialize url) clean.0 clean.1) ends.1)
    ]
