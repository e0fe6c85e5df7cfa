-- Texts of bytes that stand in a URL's path as they are: nothing is taken off them, and they have no query and no
-- fragment.
use Rattle.std.proofs.Common.{◌≡◌, ◌≢◌, ◌<◌, ◌≤◌, ◌-◌, ℕ, Bool, true, false, not, ◌||◌, ◌==◌, List, [], ◌∷◌, All, take, drop, length, reverse, Option, None, refl, sym, ap, ◌∙◌, subst, ⊎_elim, arith, append-nil, take_at}
use Rattle.std.specs.List.{list_all, prefix_len}
use Rattle.std.proofs.lemmas.Bool.{cases_lt, cond-false, true≢false}
use Rattle.std.proofs.lemmas.Bool.Decides.{nat_tests}
use Rattle.std.proofs.lemmas.List.{reverse-append}
use Rattle.std.proofs.lemmas.List.Elements.{All-nil, All-cons, All-head, All-tail, All-append, All-weaker}
use Rattle.url.proofs.InputLemmas.{Passes, IsNot, filter_all, split_once_none, All_from_list_all}
use Rattle.url.proofs.SetLemmas.{checked, all_below}
use Rattle.url.specs.Input.{trim_end, trim_c0_control_and_space, is_c0_control_or_space, strip_tabs_and_new_lines, is_tab_or_new_line, split_once}
use Rattle.url.specs.Parser.{Parsed, parse_url, parse_by_scheme, split_scheme}
use Rattle.url.specs.Parts.{Parts}
use Rattle.url_spec.specs.WebNames.{is_plain}

-- a byte that web names have as it is, or that begins an escape
abbrev pub is_path_byte : ℕ → Bool
is_path_byte b = is_plain b || b == 37

abbrev pub ArePath : List ℕ → Type 0
ArePath text = All (Passes is_path_byte) text

pub path_small : (b : ℕ) → is_path_byte b ≡ true → b < 128
path_small b is = ⊎_elim (λ small. small) (λ large. absurd (true≢false (sym is ∙ not_large b large))) (cases_lt b 128)
  where
    not_large : (b : ℕ) → 128 ≤ b → is_path_byte b ≡ false
    not_large b large = grind (arith, nat_tests)

-- a test that passes with each path byte
implied : (test other : ℕ → Bool) → all_below (λ x. not (test x) || other x) 128 ≡ true → (b : ℕ) → b < 128 → test b ≡ true → other b ≡ true
implied test other all b small is = rw is at (checked (λ x. not (test x) || other x) 128 all b small)

path_implies : (other : ℕ → Bool) → all_below (λ x. not (is_path_byte x) || other x) 128 ≡ true → (b : ℕ) → is_path_byte b ≡ true → other b ≡ true
path_implies other all b is = implied is_path_byte other all b (path_small b is) is

path_differs : (c : ℕ) → is_path_byte c ≡ false → (b : ℕ) → is_path_byte b ≡ true → b ≢ c
path_differs c none b is = λ same. true≢false (sym is ∙ (ap is_path_byte same ∙ none))

-- ---- nothing is taken off a text of path bytes

visible : (b : ℕ) → is_path_byte b ≡ true → is_c0_control_or_space b ≡ false
visible b is = from (is_c0_control_or_space b) (path_implies (λ x. not (is_c0_control_or_space x)) refl b is)
  where
    from : (x : Bool) → not x ≡ true → x ≡ false
    from false e = refl
    from true e = sym e

no_prefix : (text : List ℕ) → ArePath text → prefix_len is_c0_control_or_space text ≡ 0
no_prefix [] all = refl
no_prefix (b ∷ text) all = cond-false _ _ _ (visible b (All-head (Passes is_path_byte) b text all))

reversed : (text : List ℕ) → ArePath text → ArePath (reverse text)
reversed [] all = all
reversed (b ∷ text) all =
    subst ArePath (sym (reverse-append (b ∷ []) text))
    (All-append (Passes is_path_byte) (reverse text) (b ∷ []) (reversed text (All-tail (Passes is_path_byte) b text all))
    (All-cons (Passes is_path_byte) b [] (All-head (Passes is_path_byte) b text all) (All-nil (Passes is_path_byte))))

trimmed : (text : List ℕ) → ArePath text → trim_c0_control_and_space text ≡ text
unfolding trim_c0_control_and_space
trimmed text all =
    ap (λ n. trim_end is_c0_control_or_space (drop n text)) (no_prefix text all)
    ∙ (ap (λ n. take (length text - n) text) (no_prefix (reverse text) (reversed text all))
    ∙ take_whole text)
  where
    take_whole : (xs : List ℕ) → take (length xs - 0) xs ≡ xs
    take_whole xs = ap (λ n. take n xs) (omega arith) ∙ (ap (take (length xs)) (sym (append-nil xs)) ∙ take_at xs [] (length xs) refl)

stripped : (text : List ℕ) → ArePath text → strip_tabs_and_new_lines text ≡ text
unfolding strip_tabs_and_new_lines
stripped text all =
    filter_all (λ b. not (is_tab_or_new_line b)) text
    (All-weaker (Passes is_path_byte) (Passes (λ b. not (is_tab_or_new_line b))) (path_implies (λ b. not (is_tab_or_new_line b)) refl) text all)

abbrev after_question : Option Parts → Option (List ℕ) → List ℕ × Option (List ℕ) → Parsed Parts
after_question base fragment question = parse_by_scheme (split_scheme question.0) base question.0 question.1 fragment

abbrev after_hash : Option Parts → List ℕ × Option (List ℕ) → Parsed Parts
after_hash base hash = after_question base hash.1 (split_once 63 hash.0)

pub parse_plain : (base : Option Parts) (text : List ℕ) → ArePath text → parse_url base text ≡ parse_by_scheme (split_scheme text) base text None None
unfolding parse_url
parse_plain base text all =
    ap (λ clean. after_hash base (split_once 35 clean)) (ap strip_tabs_and_new_lines (trimmed text all) ∙ stripped text all)
    ∙ (ap (after_hash base) (split_once_none 35 text (All-weaker (Passes is_path_byte) (IsNot 35) (path_differs 35 refl) text all))
    ∙ ap (after_question base None) (split_once_none 63 text (All-weaker (Passes is_path_byte) (IsNot 63) (path_differs 63 refl) text all)))

-- ---- plain bytes

pub plain_passes : (b : ℕ) → is_plain b ≡ true → is_path_byte b ≡ true
plain_passes b plain = ap (λ (t : Bool). t || b == 37) plain

pub plain_texts : (text : List ℕ) → list_all is_plain text ≡ true → All (Passes is_plain) text
plain_texts text all = All_from_list_all is_plain text all

pub path_texts : (text : List ℕ) → list_all is_path_byte text ≡ true → ArePath text
path_texts text all = All_from_list_all is_path_byte text all

pub plain_small : (b : ℕ) → is_plain b ≡ true → b < 256
plain_small b plain = let small = path_small b (plain_passes b plain) in omega arith
