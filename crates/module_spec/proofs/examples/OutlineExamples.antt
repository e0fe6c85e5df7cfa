-- Worked examples of outlines and of the values of string literals.
use Rattle.std.proofs.Common.{◌≡◌, ◌≤◌, ◌+◌, ◌==◌, ℕ, zero, suc, Bool, true, false, List, [], ◌∷◌, ◌++◌, if◌then◌else◌, Some, Result, Ok, Err, length, codes, refl, sym, ap, ◌∙◌, arith, append_assoc, append-nil}
use Rattle.std.specs.Prelude.{replicate}
use Rattle.std.proofs.lemmas.List.{length-append}
use Rattle.std.proofs.lemmas.Bool.{ne_eqb, eq-eqb}
use Rattle.std.specs.Str.{chars}
use Rattle.std.specs.Char.{encode_utf8}
use Rattle.module_spec.specs.declared.request.Request.{Request}
use Rattle.module_spec.specs.declared.request.ModuleFault.{ModuleFault}
use Rattle.module_spec.specs.declared.request.ModuleFault.TheVariants.{TooManyRequests}
use Rattle.module_spec.specs.Places.{Placed}
use Rattle.module_spec.specs.StringValues.{string_value}
use Rattle.module_spec.specs.Outlines.{Finding, asked_by, asked_for, requests, most_requests}
use Rattle.module_spec.specs.Outlines.Finding.{specifier}
use Rattle.module_spec.specs.Examples.{text_at, ValueExamples, OutlineExamples, ManyExamples}

pub value_examples : ValueExamples
unfolding string_value chars encode_utf8
value_examples = record { plain = refl; nothing_inside = refl; past_ascii = refl; single_escapes = refl; other_escapes = refl; hex = refl; short_hex = refl; four_digits = refl; three_digits = refl; braced = refl; highest = refl; too_high = refl; no_digits = refl; seven_digits = refl; open_brace = refl; pair = refl; pair_over_a_line = refl; alone_before_another = refl; alone_at_the_end = refl; low_alone = refl; continued = refl; wide_continued = refl; zero_alone = refl; zero_before_a_digit = refl; octal = refl; nine = refl }

pub outline_examples : OutlineExamples
unfolding string_value chars encode_utf8
outline_examples = record { nothing = refl; effects = refl; default_binding = refl; default_and_name_space = refl; default_and_named = refl; name_space = refl; export_all = refl; export_named = refl; no_specifier = refl; export_default = refl; no_export = refl; no_from = refl; inner_word = refl; outer_word = refl; no_value = refl; meta = refl; call = refl; in_brackets = refl }

-- ---- the limit of requests

limited : (c : Bool) (f : Result (List Request) ModuleFault) → c ≡ false → (if c then Err TooManyRequests else f) ≡ f
limited true f e = absurd (cc)
limited false f e = refl

refused : (c : Bool) (f : Result (List Request) ModuleFault) → c ≡ true → (if c then Err TooManyRequests else f) ≡ Err TooManyRequests
refused true f e = refl
refused false f e = absurd (cc)

one_asked : (t : Placed) (text : List ℕ) (so_far : List Request) (rest : List Finding) → string_value t.text ≡ Some text → requests so_far (specifier t ∷ rest) ≡ (if length so_far == most_requests then Err TooManyRequests else requests (so_far ++ asked_by t text ∷ []) rest)
one_asked t text so_far rest e = ap (λ found. asked_for t found so_far (λ more. requests more rest)) e

all_asked : (t : Placed) (text : List ℕ) (count : ℕ) (so_far : List Request) → string_value t.text ≡ Some text → length so_far + count ≤ most_requests → requests so_far (replicate count (specifier t)) ≡ Ok (so_far ++ replicate count (asked_by t text))
all_asked t text zero so_far e l = ap (λ (xs : List Request). Ok xs) (sym (append-nil so_far))
all_asked t text (suc count) so_far e l =
    let size = length-append so_far (asked_by t text ∷ []) in
    one_asked t text so_far (replicate count (specifier t)) e
    ∙ (limited (length so_far == most_requests) (requests (so_far ++ asked_by t text ∷ []) (replicate count (specifier t))) (ne_eqb (length so_far) most_requests (λ f. omega arith))
    ∙ (all_asked t text count (so_far ++ asked_by t text ∷ []) e (omega (arith, size))
    ∙ ap (λ (xs : List Request). Ok xs) (append_assoc so_far (asked_by t text ∷ []) (replicate count (asked_by t text)))))

too_many_asked : (t : Placed) (text : List ℕ) (count : ℕ) (so_far : List Request) → string_value t.text ≡ Some text → length so_far + count ≡ most_requests → requests so_far (replicate (suc count) (specifier t)) ≡ Err TooManyRequests
too_many_asked t text zero so_far e l = one_asked t text so_far [] e ∙ refused (length so_far == most_requests) (requests (so_far ++ asked_by t text ∷ []) []) (eq-eqb (length so_far) most_requests (let f : length so_far ≡ most_requests = omega arith in f))
too_many_asked t text (suc count) so_far e l =
    let size = length-append so_far (asked_by t text ∷ []) in
    one_asked t text so_far (replicate (suc count) (specifier t)) e
    ∙ (limited (length so_far == most_requests) (requests (so_far ++ asked_by t text ∷ []) (replicate (suc count) (specifier t))) (ne_eqb (length so_far) most_requests (λ f. omega arith))
    ∙ too_many_asked t text count (so_far ++ asked_by t text ∷ []) e (let f : length (so_far ++ asked_by t text ∷ []) + count ≡ most_requests = omega (arith, size) in f))

pub many_examples : ManyExamples
unfolding string_value chars encode_utf8
many_examples = record { most = all_asked (text_at 7 (codes "'a'")) (codes "a") 4096 [] refl (omega arith); too_many = too_many_asked (text_at 7 (codes "'a'")) (codes "a") 4096 [] refl refl }
