-- Cutting off the first segment, and looking through the segments.
use Rattle.std.proofs.Common.{◌≡◌, ◌<◌, ◌≤◌, ◌+◌, ◌||◌, ◌++◌, not, ℕ, true, false, List, [], ◌∷◌, length, take, drop, get_or, All, refl, sym, ap, subst, ◌∙◌, inl, inr, append_assoc, append-nil, arith}
use Rattle.std.specs.List.{list_any}
use Rattle.std.proofs.lemmas.Bool.{cases_Bool, true≢false, cond-true, cond-false}
use Rattle.std.proofs.lemmas.List.{drop_more, drop_all, take-append-drop, length-take-le, get_or-take}
use Rattle.std.proofs.lemmas.List.Splits.{slice_split_at, slice_split_none}
use Rattle.std.proofs.lemmas.List.Elements.{All-from_get_or}
use Rattle.url.specs.Input.{is_tab_or_new_line, strip_tabs_and_new_lines}
use Rattle.node_spec.specs.PackageTargets.{segments, is_invalid_segment, leaves_package}
use Rattle.condition_match.specs.Segments.{is_separator}

pub cut_at : (text front back : List ℕ) (at : ℕ) → at < length text → front ≡ take at text → back ≡ drop (at + 1) text → ((k : ℕ) → k < at → is_separator (get_or text k 0) ≡ false) → is_separator (get_or text at 0) ≡ true → segments text ≡ front ∷ segments back
cut_at text front back at inside e f before here =
    let clean : All (λ b. is_separator b ≡ false) (take at text) = All-from_get_or (λ b. is_separator b ≡ false) (take at text) 0 (λ i below. let small : i < at = omega (arith, length-take-le at text (omega (arith, inside)), below) in subst (λ b. is_separator b ≡ false) (sym (get_or-take at text i 0 small)) (before i small)) in
    let whole : take at text ++ get_or text at 0 ∷ drop (at + 1) text ≡ text = ap (λ xs. take at text ++ xs) (sym (drop_more text at 0 inside)) ∙ take-append-drop at text in
    ap segments (sym whole) ∙ (slice_split_at is_separator (take at text) (get_or text at 0) (drop (at + 1) text) clean here ∙ (ap (λ xs. xs ∷ segments (drop (at + 1) text)) (sym e) ∙ ap (λ xs. front ∷ segments xs) (sym f)))

pub uncut : (text : List ℕ) → ((k : ℕ) → k < length text → is_separator (get_or text k 0) ≡ false) → segments text ≡ text ∷ []
uncut text none = slice_split_none is_separator text (All-from_get_or (λ b. is_separator b ≡ false) text 0 none)

-- ---- without the bytes that are dropped

nothing_dropped : (text : List ℕ) → list_any is_tab_or_new_line text ≡ false → strip_tabs_and_new_lines text ≡ text
unfolding strip_tabs_and_new_lines
nothing_dropped [] none = refl
nothing_dropped (b ∷ text) none =
    elim (cases_Bool (is_tab_or_new_line b)) [
      | inl drops ↦ absurd (true≢false (ap (λ t. t || list_any is_tab_or_new_line text) (sym drops) ∙ none))
      | inr stays ↦ cond-true (not (is_tab_or_new_line b)) _ _ (ap not stays) ∙ ap (λ xs. b ∷ xs) (nothing_dropped text (ap (λ t. t || list_any is_tab_or_new_line text) (sym stays) ∙ none))
    ]

pub plain_leaves : (text : List ℕ) → list_any is_tab_or_new_line text ≡ false → list_any is_invalid_segment (drop 1 (segments text)) ≡ leaves_package text
plain_leaves text none = ap (λ xs. list_any is_invalid_segment (drop 1 (segments xs))) (sym (nothing_dropped text none))

strip_more : (b : ℕ) (text : List ℕ) → is_tab_or_new_line b ≡ false → strip_tabs_and_new_lines (b ∷ text) ≡ b ∷ strip_tabs_and_new_lines text
unfolding strip_tabs_and_new_lines
strip_more b text stays = cond-true (not (is_tab_or_new_line b)) _ _ (ap not stays)

strip_drop : (b : ℕ) (text : List ℕ) → is_tab_or_new_line b ≡ true → strip_tabs_and_new_lines (b ∷ text) ≡ strip_tabs_and_new_lines text
unfolding strip_tabs_and_new_lines
strip_drop b text drops = cond-false (not (is_tab_or_new_line b)) _ _ (ap not drops)

strip_nothing : strip_tabs_and_new_lines [] ≡ []
unfolding strip_tabs_and_new_lines
strip_nothing = refl

pub none_kept : (text kept : List ℕ) → kept ≡ [] → kept ++ strip_tabs_and_new_lines text ≡ strip_tabs_and_new_lines text
none_kept text kept e = ap (λ xs. xs ++ strip_tabs_and_new_lines text) e

pub byte_dropped : (text kept whole : List ℕ) (i : ℕ) → i < length text → is_tab_or_new_line (get_or text i 0) ≡ true → kept ++ strip_tabs_and_new_lines (drop i text) ≡ whole → kept ++ strip_tabs_and_new_lines (drop (i + 1) text) ≡ whole
byte_dropped text kept whole i inside drops so_far =
    ap (λ xs. kept ++ xs) (sym (ap strip_tabs_and_new_lines (drop_more text i 0 inside) ∙ strip_drop (get_or text i 0) (drop (i + 1) text) drops)) ∙ so_far

pub byte_kept : (text kept next whole : List ℕ) (i : ℕ) → i < length text → is_tab_or_new_line (get_or text i 0) ≡ false → next ≡ kept ++ get_or text i 0 ∷ [] → kept ++ strip_tabs_and_new_lines (drop i text) ≡ whole → next ++ strip_tabs_and_new_lines (drop (i + 1) text) ≡ whole
byte_kept text kept next whole i inside stays is so_far =
    ap (λ xs. xs ++ strip_tabs_and_new_lines (drop (i + 1) text)) is
    ∙ (append_assoc kept (get_or text i 0 ∷ []) (strip_tabs_and_new_lines (drop (i + 1) text))
    ∙ (ap (λ xs. kept ++ xs) (sym (ap strip_tabs_and_new_lines (drop_more text i 0 inside) ∙ strip_more (get_or text i 0) (drop (i + 1) text) stays)) ∙ so_far))

pub all_kept : (text kept whole : List ℕ) (i : ℕ) → length text ≤ i → kept ++ strip_tabs_and_new_lines (drop i text) ≡ whole → kept ≡ whole
all_kept text kept whole i past so_far = sym (append-nil kept) ∙ (ap (λ xs. kept ++ xs) (sym (ap strip_tabs_and_new_lines (drop_all i text past) ∙ strip_nothing)) ∙ so_far)

pub ruleset keeping = (none_kept, byte_dropped, byte_kept, all_kept)
