-- The folder of a map base, found from the base's end, and what stands behind it.
use Rattle.std.proofs.Common.{◌≡◌, ◌≢◌, ◌++◌, ◌∷◌, [], ℕ, ◌-◌, ◌+◌, ◌≤◌, List, Bool, true, false, not, ◌==◌, refl, sym, ap, ◌∙◌, take, drop, length, reverse, arith, append-nil, append_assoc, length-append, take_all, take_at, ⊎_elim, Bor, MatchOption, Option, Some, None}
use Rattle.std.proofs.lemmas.Bool.{cases_Bool, cond-true, cond-false, ne_eqb, true≢false}
use Rattle.std.proofs.lemmas.Bool.Decides.{Decides-eqb}
use Rattle.std.proofs.lemmas.List.{reverse-append, take-append-le, append_cancel_left}
use Rattle.std.proofs.lemmas.Slice.Eq.{starts_is}
use Rattle.std.specs.List.{suffix_len, prefix_len}
use Rattle.std.specs.Str.Pattern.{FindsTextPrefix, StripsPrefix}
use Rattle.layout_spec.proofs.ShortBack.{short_beside, short_by_cases}
use Rattle.layout_spec.specs.ShortForms.{folder_text, short, IsShort, is_beside, is_whole}
use Rattle.std.specs.Prelude.{codes}
use Rattle.url_spec.specs.Parsing.{parse_against}
use Rattle.url_spec.specs.Specifiers.{begins}

abbrev no_slash : ℕ → Bool
no_slash b = not (b == 47)

suffix_more : (front : List ℕ) (b : ℕ) → no_slash b ≡ true → suffix_len no_slash (front ++ b ∷ []) ≡ 1 + suffix_len no_slash front
suffix_more front b other = ap (prefix_len no_slash) (reverse-append front (b ∷ [])) ∙ cond-true _ _ _ other

suffix_none : (front : List ℕ) (b : ℕ) → no_slash b ≡ false → suffix_len no_slash (front ++ b ∷ []) ≡ 0
suffix_none front b slash = ap (prefix_len no_slash) (reverse-append front (b ∷ [])) ∙ cond-false _ _ _ slash

folder_before : (front : List ℕ) (b : ℕ) → b ≢ 47 → folder_text (front ++ b ∷ []) ≡ folder_text front
folder_before front b other =
    let more = suffix_more front b (ap not (ne_eqb b 47 other)) in
    let size : length (front ++ b ∷ []) - suffix_len no_slash (front ++ b ∷ []) ≡ length front - suffix_len no_slash front
    = omega (arith, length-append front (b ∷ []), more) in
    ap (λ n. take n (front ++ b ∷ [])) size ∙ take-append-le (length front - suffix_len no_slash front) front (b ∷ []) (omega arith)

folder_itself : (front : List ℕ) → folder_text (front ++ 47 ∷ []) ≡ front ++ 47 ∷ []
folder_itself front =
    ap (λ n. take (length (front ++ 47 ∷ []) - n) (front ++ 47 ∷ [])) (suffix_none front 47 refl)
    ∙ take_all _ (front ++ 47 ∷ []) (omega arith)

-- the base's folder is that of this front of the base
pub record IsLeft (base front : List ℕ) : Type 0 where
  pub rest : List ℕ
  pub split : base ≡ front ++ rest
  pub folder : folder_text base ≡ folder_text front

pub all_left : (base : List ℕ) → IsLeft base base
all_left base = record { rest = []; split = sym (append-nil base); folder = refl }

pub left_before : (base front shorter : List ℕ) (b : ℕ) → front ≡ shorter ++ b ∷ [] → b ≢ 47 → IsLeft base front → IsLeft base shorter
left_before base front shorter b ends other left = record {
  rest = b ∷ left.rest;
  split = left.split ∙ (ap (λ (xs : List ℕ). xs ++ left.rest) ends ∙ append_assoc shorter (b ∷ []) left.rest);
  folder = left.folder ∙ (ap folder_text ends ∙ folder_before shorter b other);
}

pub left_is_folder : (base front shorter : List ℕ) → front ≡ shorter ++ 47 ∷ [] → IsLeft base front → take (length front) base ≡ folder_text base
left_is_folder base front shorter ends left =
    ap (take (length front)) left.split
    ∙ (take_at front left.rest (length front) refl ∙ (ends ∙ (sym (folder_itself shorter) ∙ (ap folder_text (sym ends) ∙ sym left.folder))))

pub left_inside : (base front : List ℕ) → IsLeft base front → length front ≤ length base
left_inside base front left = omega (arith, ap length left.split, length-append front left.rest)

pub none_left : (base front : List ℕ) → length front ≡ 0 → IsLeft base front → take 0 base ≡ folder_text base
none_left base [] none left = sym left.folder
none_left base (b ∷ front) none left = absurd (omega arith)

pub stripped : (front text : List ℕ) (found : Option (Bor (List ℕ))) → MatchOption found (FindsTextPrefix front text None) (λ x. StripsPrefix (FindsTextPrefix front) text x.now) → MatchOption found (begins text front ≡ false) (λ rest. text ≡ front ++ rest.now)
stripped front text None none = ⊎_elim (λ e. absurd (none _ ((starts_is Decides-eqb text front _ refl).0 e))) (λ e. e) (cases_Bool (begins text front))
stripped front text (Some x) (n, is, same, _) = is.1 ∙ ap (λ rest. front ++ rest) (sym same)

-- ---- short forms

-- `./` and the rest, where it leads back
pub beside_is_short : (base url rest written lent : List ℕ) → url ≡ folder_text base ++ rest → written ≡ codes "./" ++ rest → lent ≡ written → parse_against base lent ≡ Some url → written ≡ short base url
beside_is_short base url rest written lent split is same parsed =
    is ∙ sym (short_beside base url rest split (ap (parse_against base) (sym is ∙ sym same) ∙ parsed))

-- and the URL, where it doesn't
whole_unless : (base url rest text : List ℕ) → url ≡ folder_text base ++ rest → (parse_against base (codes "./" ++ rest) ≡ Some url → ⊥) → IsShort base url text → text ≡ url
whole_unless base url rest text split never (is_beside other splits is parsed) =
    let same : rest ≡ other = append_cancel_left (folder_text base) rest other (sym split ∙ splits) in
    absurd (never (ap (parse_against base) (ap (λ xs. codes "./" ++ xs) same ∙ sym is) ∙ parsed))
whole_unless base url rest text split never (is_whole none is) = is

pub whole_is_short : (base url rest written lent : List ℕ) → url ≡ folder_text base ++ rest → written ≡ codes "./" ++ rest → lent ≡ written → (parse_against base lent ≡ Some url → ⊥) → short base url ≡ url
whole_is_short base url rest written lent split is same never =
    whole_unless base url rest (short base url) split (λ parsed. never (ap (parse_against base) (same ∙ is) ∙ parsed)) (short_by_cases base url)
