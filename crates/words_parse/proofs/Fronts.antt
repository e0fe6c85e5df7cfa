-- What stands behind a front.
use Rattle.std.proofs.Common.{◌≡◌, ◌≢◌, ◌==◌, ℕ, List, [], ◌∷◌, ◌++◌, Bool, true, false, Bor, MatchOption, Option, Some, None, if◌then◌else◌, option_map, refl, sym, ap, ◌∙◌}
use Rattle.std.proofs.lemmas.Bool.{eqb-true, eq-eqb}
use Rattle.std.specs.Str.Pattern.{FindsTextPrefix, StripsPrefix}
use Rattle.words_spec.specs.Reading.{behind}

chosen : (test : Bool) (found : Option (List ℕ)) → test ≡ true → (if test then found else None) ≡ found
chosen true found is = refl
chosen false found is = absurd (let bad : false ≡ true = is in cc)

behind-append : (front rest : List ℕ) → behind front (front ++ rest) ≡ Some rest
behind-append [] rest = refl
behind-append (first ∷ front) rest =
    chosen (first == first) (behind front (front ++ rest)) (eq-eqb first first refl) ∙ behind-append front rest

none_chosen : (test : Bool) (found : Option (List ℕ)) → (test ≡ true → found ≡ None) → (if test then found else None) ≡ None
none_chosen true found none = none refl
none_chosen false found none = refl

behind-none : (front text : List ℕ) → ((rest : List ℕ) → text ≢ front ++ rest) → behind front text ≡ None
behind-none [] text none = absurd (none text refl)
behind-none (first ∷ front) [] none = refl
behind-none (first ∷ front) (byte ∷ text) none =
    none_chosen (byte == first) (behind front text) (λ test.
    behind-none front text (λ rest is. none rest (let same : byte ≡ first = eqb-true byte first test in cc)))

pub stripped_is_behind : (front text : List ℕ) (found : Option (Bor (List ℕ))) → MatchOption found (FindsTextPrefix front text None) (λ x. StripsPrefix (FindsTextPrefix front) text x.now) → option_map (λ rest. rest.now) found ≡ behind front text
stripped_is_behind front text None none = sym (behind-none front text (λ rest is. none rest is))
stripped_is_behind front text (Some x) (n, is, same, _) =
    let split : text ≡ front ++ x.now = is.1 ∙ ap (λ rest. front ++ rest) (sym same) in
    sym (ap (behind front) split ∙ behind-append front x.now)
