-- Each `*` of a text replaced, one after another.
use Rattle.std.proofs.Common.{◌≡◌, ◌≢◌, ◌<◌, ◌==◌, ◌++◌, ℕ, List, [], ◌∷◌, length, get_or, All, refl, sym, ap, ◌∙◌, append_assoc}
use Rattle.std.proofs.lemmas.Bool.{cond-false, ne_eqb}
use Rattle.std.proofs.lemmas.List.Elements.{All-head, All-tail, All-from_get_or}
use Rattle.std.proofs.lemmas.Grind.{flat_map-append}
use Rattle.condition_match.specs.Segments.{replaced}

unchanged : (part text : List ℕ) → All (λ b. b ≢ 42) text → replaced part text ≡ text
unchanged part [] none = refl
unchanged part (b ∷ text) none =
    ap (λ xs. xs ++ replaced part text) (cond-false (b == 42) part (b ∷ []) (ne_eqb b 42 (All-head (λ c. c ≢ 42) b text none))) ∙ ap (λ xs. b ∷ xs) (unchanged part text (All-tail (λ c. c ≢ 42) b text none))

pub no_star : (part text : List ℕ) → ((i : ℕ) → i < length text → get_or text i 0 ≢ 42) → replaced part text ≡ text
no_star part text none = unchanged part text (All-from_get_or (λ b. b ≢ 42) text 0 none)

pub at_star : (part text front back : List ℕ) → text ≡ front ++ 42 ∷ back → ((i : ℕ) → i < length front → get_or front i 0 ≢ 42) → replaced part text ≡ front ++ (part ++ replaced part back)
at_star part text front back split none =
    ap (replaced part) split ∙ (flat_map-append _ front (42 ∷ back) ∙ ap (λ xs. xs ++ (part ++ replaced part back)) (no_star part front none))

pub star_taken : (part whole done rest front back next : List ℕ) → done ++ replaced part rest ≡ whole → rest ≡ front ++ 42 ∷ back → ((i : ℕ) → i < length front → get_or front i 0 ≢ 42) → next ≡ (done ++ front) ++ part → next ++ replaced part back ≡ whole
star_taken part whole done rest front back next so_far split none is =
    ap (λ xs. xs ++ replaced part back) is ∙ (append_assoc (done ++ front) part (replaced part back) ∙ (append_assoc done front (part ++ replaced part back) ∙ (ap (λ xs. done ++ xs) (sym (at_star part rest front back split none)) ∙ so_far)))

pub all_taken : (part whole done rest : List ℕ) → done ++ replaced part rest ≡ whole → ((i : ℕ) → i < length rest → get_or rest i 0 ≢ 42) → done ++ rest ≡ whole
all_taken part whole done rest so_far none = ap (λ xs. done ++ xs) (sym (no_star part rest none)) ∙ so_far
