-- Reading gives what plain words ask for.
use Rattle.std.proofs.Common.{◌≡◌, ◌≢◌, ◌≤◌, ◌<◌, ◌&&◌, ◌+◌, ◌*◌, ◌/◌, ◌%◌, ℕ, List, [], ◌∷◌, ◌++◌, codes, append-nil, append_assoc, Some, None, option_map, is_some, if◌then◌else◌, not, refl, sym, ap, ap₂, ◌∙◌, arith}
use Rattle.std.specs.Fmt.{decimal}
use Rattle.std.specs.List.{All}
use Rattle.std.specs.Prelude.{option_and_then}
use Rattle.std.proofs.lemmas.Bool.{ne_eqb}
use Rattle.std.proofs.lemmas.Bool.Decides.{nat_tests}
use Rattle.std.proofs.lemmas.Fmt.{decimal_by_steps}
use Rattle.std.proofs.lemmas.List.Elements.{All-head}
use Rattle.words_spec.specs.declared.LinkOption.{LinkOption}
use Rattle.words_spec.specs.declared.LinkOption.TheVariants.{Base, Page, Conditions}
use Rattle.words_spec.specs.Laws.{OneAsked}
use Rattle.words_spec.specs.PlainWords.{Asked, Asks, IsValue, LinkOptions, LinkWords, spelled, value_of, with_value, linking, unlinking, explaining, vendoring, measuring, entries, two_words, one_word, link, unlink, refresh, check, check_strictly, list, inject, session, why, vendor, measure}
use Rattle.words_spec.specs.Reading.{behind, by_spelling, entries_reading, link_reading, next_number, no_option, number_in, one_more, or_else, reading_of, spelling_as, spelling_by, spelling_of, with_number}
use Rattle.words_spec.proofs.Values.{no_hyphen_first, value_passes, values_pass}

no_spelling_as : (option : LinkOption) (byte : ℕ) (rest : List ℕ) → byte ≢ 45 → spelling_as option (byte ∷ rest) ≡ no_option
no_spelling_as Base byte rest ne =
    ap (λ same. spelling_by Base (if same then behind (codes "-base") rest else None)) (ne_eqb byte 45 ne)
no_spelling_as Page byte rest ne =
    ap (λ same. spelling_by Page (if same then behind (codes "-page") rest else None)) (ne_eqb byte 45 ne)
no_spelling_as Conditions byte rest ne =
    ap (λ same. spelling_by Conditions (if same then behind (codes "-conditions") rest else None)) (ne_eqb byte 45 ne)

-- a word that doesn't begin with `-` spells no option
no_spelling : (byte : ℕ) (rest : List ℕ) → byte ≢ 45 → spelling_of (byte ∷ rest) ≡ no_option
no_spelling byte rest ne =
    ap (λ s. or_else s (or_else (spelling_as Page (byte ∷ rest)) (spelling_as Conditions (byte ∷ rest))))
    (no_spelling_as Base byte rest ne)
    ∙ ap (λ s. or_else s (spelling_as Conditions (byte ∷ rest))) (no_spelling_as Page byte rest ne)
    ∙ no_spelling_as Conditions byte rest ne

one_more_is : (options : LinkOptions) (option : LinkOption) (value : List ℕ) → IsValue value → value_of option options ≡ None → one_more options option value ≡ Some (with_value option value options)
one_more_is options option value is free =
    ap₂ (λ a b. if a && not (is_some b) then Some (with_value option value options) else None)
    (value_passes value is) free

entries_read : (options : LinkOptions) (words : List (List ℕ)) → All IsValue words → link_reading words None options ≡ Some (linking options words)
entries_read options [] all = refl
entries_read options ([] ∷ words) all = absurd ((All-head IsValue [] words all).nonempty refl)
entries_read options ((byte ∷ rest) ∷ words) all =
    let ne = no_hyphen_first byte rest (All-head IsValue (byte ∷ rest) words all) in
    ap (λ s. by_spelling s options (entries_reading options ((byte ∷ rest) ∷ words)) (link_reading words))
    (no_spelling byte rest ne)
    ∙ ap (λ all_pass. if all_pass then Some (linking options ((byte ∷ rest) ∷ words)) else None)
    (values_pass ((byte ∷ rest) ∷ words) all)

two_words_read : (options : LinkOptions) (option : LinkOption) (value : List ℕ) (rest : List (List ℕ)) → link_reading (spelled option ∷ value ∷ rest) None options ≡ option_and_then (link_reading rest None) (one_more options option value)
two_words_read options Base value rest = refl
two_words_read options Page value rest = refl
two_words_read options Conditions value rest = refl

one_word_read : (options : LinkOptions) (option : LinkOption) (value : List ℕ) (rest : List (List ℕ)) → link_reading ((spelled option ++ 61 ∷ value) ∷ rest) None options ≡ option_and_then (link_reading rest None) (one_more options option value)
one_word_read options Base value rest = refl
one_word_read options Page value rest = refl
one_word_read options Conditions value rest = refl

link_read : {options : LinkOptions} {words : List (List ℕ)} {asked : Asked} → LinkWords options words asked → link_reading words None options ≡ Some asked
link_read (entries all) = entries_read _ _ all
link_read (two_words option value rest is free more) =
    two_words_read _ option value rest
    ∙ ap (option_and_then (link_reading rest None)) (one_more_is _ option value is free)
    ∙ link_read more
link_read (one_word option value rest is free more) =
    one_word_read _ option value rest
    ∙ ap (option_and_then (link_reading rest None)) (one_more_is _ option value is free)
    ∙ link_read more

next_number_is : (number digit next : ℕ) → digit < 10 → next ≡ number * 10 + digit → 1 ≤ next → next ≤ 2000 → next_number number (48 + digit) ≡ Some next
next_number_is number digit next small is least most = grind (arith, nat_tests)

-- the text is read as the number, whatever stands behind it
abbrev IsReadAs : ℕ → List ℕ → Type 0
IsReadAs number text = 1 ≤ number → number ≤ 2000 → (rest : List ℕ) → number_in (text ++ rest) 0 ≡ number_in rest number

one_digit_read : (n : ℕ) → n < 10 → IsReadAs n ((48 + n) ∷ [])
one_digit_read n small least most rest =
    ap (λ next. with_number next (number_in rest)) (next_number_is 0 n n small (omega arith) least most)

more_digits_read : (n : ℕ) (text : List ℕ) → 10 ≤ n → IsReadAs (n / 10) text → IsReadAs n (text ++ (48 + n % 10) ∷ [])
more_digits_read n text large before least most rest =
    ap (λ digits. number_in digits 0) (append_assoc text ((48 + n % 10) ∷ []) rest)
    ∙ before (omega arith) (omega arith) ((48 + n % 10) ∷ rest)
    ∙ ap (λ next. with_number next (number_in rest))
    (next_number_is (n / 10) (n % 10) n (omega arith) (omega arith) least most)

number_read : (n : ℕ) → 1 ≤ n → n ≤ 2000 → number_in (decimal n) 0 ≡ Some n
number_read n least most =
    ap (λ digits. number_in digits 0) (sym (append-nil (decimal n)))
    ∙ decimal_by_steps IsReadAs one_digit_read more_digits_read n (omega arith) least most []
    ∙ grind (arith, nat_tests)

pub plain_is_read : {words : List (List ℕ)} {asked : Asked} → Asks words asked → reading_of words ≡ Some asked
plain_is_read (link plain) = link_read plain
plain_is_read (unlink first more all) =
    ap (λ all_pass. if all_pass then Some (unlinking (first ∷ more)) else None) (values_pass (first ∷ more) all)
plain_is_read refresh = refl
plain_is_read check = refl
plain_is_read check_strictly = refl
plain_is_read list = refl
plain_is_read inject = refl
plain_is_read session = refl
plain_is_read (why path is) =
    ap (λ pass. if pass then Some (explaining path) else None) (value_passes path is)
plain_is_read (vendor path is) =
    ap (λ pass. if pass then Some (vendoring path) else None) (value_passes path is)
plain_is_read (measure number least most) = ap (option_map measuring) (number_read number least most)

pub one_asked : OneAsked
one_asked words some other plain same =
    let first = plain_is_read plain in
    let second = plain_is_read same in
    cc
