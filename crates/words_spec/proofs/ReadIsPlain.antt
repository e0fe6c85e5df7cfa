-- What reading gives is asked for by plain words.
use Rattle.std.proofs.option.Match.{None-if_not_some}
use Rattle.std.proofs.Common.{◌≡◌, ◌≤◌, ◌<◌, ◌==◌, ◌&&◌, ◌+◌, ◌-◌, ◌*◌, ◌/◌, ◌%◌, ℕ, List, [], ◌∷◌, ◌++◌, codes, append-nil, append_assoc, Option, Some, None, option_map, is_some, if◌then◌else◌, Bool, true, false, not, refl, sym, ap, ap₂, ◌∙◌, subst, arith, inl, inr, ◌⊎◌}
use Rattle.std.specs.Fmt.{decimal}
use Rattle.std.specs.List.{list_all}
use Rattle.std.specs.Prelude.{bytes_eq, option_and_then}
use Rattle.std.proofs.lemmas.Bool.{eqb-true, not-true, and_parts}
use Rattle.std.proofs.lemmas.Bool.Decides.{nat_tests}
use Rattle.std.proofs.lemmas.Fmt.{decimal_step, decimal_by_steps}
use Rattle.std.proofs.lemmas.List.Elements.{All-nil}
use Rattle.std.proofs.lemmas.Slice.Eq.{bytes_eq-Decides}
use Rattle.words_spec.specs.declared.LinkOption.{LinkOption}
use Rattle.words_spec.specs.declared.LinkOption.TheVariants.{Base, Page, Conditions}
use Rattle.words_spec.specs.Laws.{ReadingIsExact}
use Rattle.words_spec.specs.PlainWords.{Asked, Asks, IsValue, LinkOptions, LinkWords, no_options, spelled, value_of, with_value, linking, unlinking, explaining, vendoring, checking_strictly, measuring, entries, two_words, one_word, link, unlink, refresh, check, check_strictly, list, inject, session, why, vendor, measure}
use Rattle.words_spec.specs.Reading.{Spelling, no_option, alone, joined, behind, by_spelling, check_reading, entries_reading, is_value, link_reading, measure_reading, next_number, number_in, one_more, or_else, path_reading, plain_command, reading_of, spelling_as, spelling_by, spelling_of, unlink_reading, with_number, without_more}
use Rattle.words_spec.proofs.PlainIsRead.{plain_is_read}
use Rattle.words_spec.proofs.Values.{passed_value, passed_values}

-- ---- options

behind_front : (front text rest : List ℕ) → behind front text ≡ Some rest → text ≡ front ++ rest
behind_front [] text rest is = cc
behind_front (first ∷ front) [] rest is = absurd (let bad : None ≡ Some rest = is in cc)
behind_front (first ∷ front) (byte ∷ text) rest is = by_test (byte == first) refl (behind_front front text rest) is
  where
    by_test : (same : Bool) → (byte == first) ≡ same → (behind front text ≡ Some rest → text ≡ front ++ rest)
        → (if same then behind front text else None) ≡ Some rest → byte ∷ text ≡ first ∷ (front ++ rest)
    by_test true same more is =
        let head : byte ≡ first = eqb-true byte first same in
        let tail : text ≡ front ++ rest = more is in
        cc
    by_test false same more is = absurd (let bad : None ≡ Some rest = is in cc)

abbrev Spells : List ℕ → Spelling → Type 0
Spells word no_option = Unit {0}
Spells word (alone option) = word ≡ spelled option
Spells word (joined option value) = word ≡ spelled option ++ 61 ∷ value

spells_by : (option : LinkOption) (word : List ℕ) (found : Option (List ℕ)) → behind (spelled option) word ≡ found → Spells word (spelling_by option found)
spells_by option word None is = tt
spells_by option word (Some []) is = behind_front (spelled option) word [] is ∙ append-nil (spelled option)
spells_by option word (Some (byte ∷ value)) is = by_test (byte == 61) refl
  where
    by_test : (same : Bool) → (byte == 61) ≡ same → Spells word (if same then joined option value else no_option)
    by_test true same =
        behind_front (spelled option) word (byte ∷ value) is
        ∙ ap (λ b. spelled option ++ b ∷ value) (eqb-true byte 61 same)
    by_test false same = tt

spells_or : (word : List ℕ) (some other : Spelling) → Spells word some → Spells word other → Spells word (or_else some other)
spells_or word no_option other first second = second
spells_or word (alone option) other first second = first
spells_or word (joined option value) other first second = first

spells_as : (option : LinkOption) (word : List ℕ) → Spells word (spelling_as option word)
spells_as option word = spells_by option word (behind (spelled option) word) refl

spells : (word : List ℕ) → Spells word (spelling_of word)
spells word =
    spells_or word (spelling_as Base word) (or_else (spelling_as Page word) (spelling_as Conditions word))
    (spells_as Base word)
    (spells_or word (spelling_as Page word) (spelling_as Conditions word) (spells_as Page word) (spells_as Conditions word))

record IsOneMore (options : LinkOptions) (option : LinkOption) (value : List ℕ) (more : LinkOptions) : Type 0 where
  pub is : IsValue value
  pub free : value_of option options ≡ None
  pub same : with_value option value options ≡ more

is_one_more : (options : LinkOptions) (option : LinkOption) (value : List ℕ) (more : LinkOptions) → one_more options option value ≡ Some more → IsOneMore options option value more
is_one_more options option value more is = by_test (is_value value && not (is_some (value_of option options))) refl is
  where
    by_test : (both : Bool) → (is_value value && not (is_some (value_of option options))) ≡ both
        → (if both then Some (with_value option value options) else None) ≡ Some more
        → IsOneMore options option value more
    by_test true both is =
        let parts = and_parts (is_value value) (not (is_some (value_of option options))) both in
        record {
          is = passed_value value parts.0;
          free = None-if_not_some (value_of option options) (not-true (is_some (value_of option options)) parts.1);
          same = cc;
        }
    by_test false both is = absurd (let bad : None ≡ Some more = is in cc)

-- ---- the words after `link`

-- the words, with the option before them that waits for its value
abbrev ReadLink : Option LinkOption → LinkOptions → List (List ℕ) → Asked → Type 0
ReadLink None options words asked = LinkWords options words asked
ReadLink (Some option) options words asked = LinkWords options (spelled option ∷ words) asked

two_words_back : (options : LinkOptions) (option : LinkOption) (value : List ℕ) (rest : List (List ℕ)) (asked : Asked) (found : Option LinkOptions) → one_more options option value ≡ found → ((more : LinkOptions) → link_reading rest None more ≡ Some asked → LinkWords more rest asked) → option_and_then (link_reading rest None) found ≡ Some asked → LinkWords options (spelled option ∷ value ∷ rest) asked
two_words_back options option value rest asked None found back is = absurd (let bad : None ≡ Some asked = is in cc)
two_words_back options option value rest asked (Some more) found back is =
    let added = is_one_more options option value more found in
    two_words option value rest added.is added.free (subst (λ o. LinkWords o rest asked) (sym added.same) (back more is))

one_word_back : (options : LinkOptions) (option : LinkOption) (value : List ℕ) (rest : List (List ℕ)) (asked : Asked) (found : Option LinkOptions) → one_more options option value ≡ found → ((more : LinkOptions) → link_reading rest None more ≡ Some asked → LinkWords more rest asked) → option_and_then (link_reading rest None) found ≡ Some asked → LinkWords options ((spelled option ++ 61 ∷ value) ∷ rest) asked
one_word_back options option value rest asked None found back is = absurd (let bad : None ≡ Some asked = is in cc)
one_word_back options option value rest asked (Some more) found back is =
    let added = is_one_more options option value more found in
    one_word option value rest added.is added.free (subst (λ o. LinkWords o rest asked) (sym added.same) (back more is))

entries_back : (options : LinkOptions) (words : List (List ℕ)) (asked : Asked) (pass : Bool) → list_all is_value words ≡ pass → (if pass then Some (linking options words) else None) ≡ Some asked → LinkWords options words asked
entries_back options words asked false pass is = absurd (let bad : None ≡ Some asked = is in cc)
entries_back options words asked true pass is =
    subst (λ a. LinkWords options words a) (let same : linking options words ≡ asked = cc in same)
    (entries (passed_values words pass))

word_back : (options : LinkOptions) (word : List ℕ) (rest : List (List ℕ)) (asked : Asked) (spelling : Spelling) → Spells word spelling → ((waiting : Option LinkOption) (more : LinkOptions) → link_reading rest waiting more ≡ Some asked → ReadLink waiting more rest asked) → by_spelling spelling options (entries_reading options (word ∷ rest)) (link_reading rest) ≡ Some asked → LinkWords options (word ∷ rest) asked
word_back options word rest asked no_option spelled_so back is =
    entries_back options (word ∷ rest) asked (list_all is_value (word ∷ rest)) refl is
word_back options word rest asked (alone option) spelled_so back is =
    subst (λ w. LinkWords options (w ∷ rest) asked) (sym spelled_so) (back (Some option) options is)
word_back options word rest asked (joined option value) spelled_so back is =
    subst (λ w. LinkWords options (w ∷ rest) asked) (sym spelled_so)
    (one_word_back options option value rest asked (one_more options option value) refl (back None) is)

link_back : (words : List (List ℕ)) (waiting : Option LinkOption) (options : LinkOptions) (asked : Asked) → link_reading words waiting options ≡ Some asked → ReadLink waiting options words asked
link_back [] None options asked is =
    subst (λ a. LinkWords options [] a) (let same : linking options [] ≡ asked = cc in same) (entries (All-nil IsValue))
link_back [] (Some option) options asked is = absurd (let bad : None ≡ Some asked = is in cc)
link_back (word ∷ rest) None options asked is =
    word_back options word rest asked (spelling_of word) (spells word) (λ waiting more. link_back rest waiting more asked) is
link_back (value ∷ rest) (Some option) options asked is =
    two_words_back options option value rest asked (one_more options option value) refl (λ more. link_back rest None more asked) is

-- ---- numbers

record IsNext (number digit next : ℕ) : Type 0 where
  pub low : 48 ≤ digit
  pub high : digit ≤ 57
  pub same : next ≡ number * 10 + (digit - 48)
  pub least : 1 ≤ next
  pub most : next ≤ 2000

is_next : (number digit next : ℕ) → next_number number digit ≡ Some next → IsNext number digit next
is_next number digit next is = grind (arith, nat_tests)

one_digit : (n : ℕ) → n < 10 → decimal n ≡ (48 + n) ∷ []
one_digit n small =
    decimal_by_steps (λ m digits. m < 10 → digits ≡ (48 + m) ∷ []) (λ m below few. refl)
    (λ m digits large before few. absurd (omega arith)) n (omega arith) small

-- the digits so far are those of the number so far, which has none before the first
abbrev IsFront : ℕ → List ℕ → Type 0
IsFront number front = ((number ≡ 0) × (front ≡ [])) ⊎ ((1 ≤ number) × (decimal number ≡ front))

longer_front : (number digit next : ℕ) (front : List ℕ) → IsFront number front → number ≤ 2000 → IsNext number digit next → decimal next ≡ front ++ digit ∷ []
longer_front number digit next front (inl (none, empty)) most is =
    let low = is.low in let high = is.high in let same = is.same in
    one_digit next (omega arith)
    ∙ ap₂ (λ f d. f ++ d ∷ []) (sym empty) (let e : 48 + next ≡ digit = omega arith in e)
longer_front number digit next front (inr (some, before)) most is =
    let low = is.low in let high = is.high in let same = is.same in
    decimal_step next (omega arith) (omega arith)
    ∙ ap₂ (λ n d. decimal n ++ d ∷ []) (let e : next / 10 ≡ number = omega arith in e) (let e : 48 + next % 10 ≡ digit = omega arith in e)
    ∙ ap (λ f. f ++ digit ∷ []) before

record IsNumber (text : List ℕ) (number : ℕ) : Type 0 where
  pub same : decimal number ≡ text
  pub least : 1 ≤ number
  pub most : number ≤ 2000

number_back : (text front : List ℕ) (number found : ℕ) → IsFront number front → number ≤ 2000 → number_in text number ≡ Some found → IsNumber (front ++ text) found
number_back [] front number found (inl (none, empty)) most is =
    absurd (let bad : None ≡ Some found = ap (λ n. if n == 0 then None else Some n) (sym none) ∙ is in cc)
number_back [] front number found (inr (some, before)) most is = by_test (number == 0) refl is
  where
    by_test : (zero_so_far : Bool) → (number == 0) ≡ zero_so_far → (if zero_so_far then None else Some number) ≡ Some found → IsNumber (front ++ []) found
    by_test true test is = absurd (let nothing : number ≡ 0 = eqb-true number 0 test in omega arith)
    by_test false test is =
        let same : number ≡ found = cc in
        record { same = ap decimal (sym same) ∙ before ∙ sym (append-nil front); least = omega arith; most = omega arith }
number_back (digit ∷ rest) front number found was most is =
    by_next (next_number number digit) refl (λ next more. number_back rest (front ++ digit ∷ []) next found more) is
  where
    by_next : (next : Option ℕ) → next_number number digit ≡ next
        → ((n : ℕ) → IsFront n (front ++ digit ∷ []) → n ≤ 2000 → number_in rest n ≡ Some found
        → IsNumber ((front ++ digit ∷ []) ++ rest) found)
        → with_number next (number_in rest) ≡ Some found → IsNumber (front ++ digit ∷ rest) found
    by_next None step back is = absurd (let bad : None ≡ Some found = is in cc)
    by_next (Some n) step back is =
        let next = is_next number digit n step in
        subst (λ t. IsNumber t found) (append_assoc front (digit ∷ []) rest)
        (back n (inr (next.least, longer_front number digit n front was most next)) next.most is)

measure_back : (words : List (List ℕ)) (asked : Asked) → measure_reading words ≡ Some asked → Asks (codes "measure" ∷ words) asked
measure_back [] asked is = absurd (let bad : None ≡ Some asked = is in cc)
measure_back (text ∷ more ∷ rest) asked is = absurd (let bad : None ≡ Some asked = is in cc)
measure_back (text ∷ []) asked is = by_number (number_in text 0) refl is
  where
    by_number : (found : Option ℕ) → number_in text 0 ≡ found → option_map measuring found ≡ Some asked → Asks (codes "measure" ∷ text ∷ []) asked
    by_number None read is = absurd (let bad : None ≡ Some asked = is in cc)
    by_number (Some number) read is =
        let back = number_back text [] 0 number (inl (refl, refl)) (omega arith) read in
        subst (λ t. Asks (codes "measure" ∷ t ∷ []) asked) back.same
        (subst (λ a. Asks (codes "measure" ∷ decimal number ∷ []) a) (let same : measuring number ≡ asked = cc in same)
        (measure number back.least back.most))

-- ---- the commands

unlink_back : (words : List (List ℕ)) (asked : Asked) → unlink_reading words ≡ Some asked → Asks (codes "unlink" ∷ words) asked
unlink_back [] asked is = absurd (let bad : None ≡ Some asked = is in cc)
unlink_back (word ∷ rest) asked is = by_test (list_all is_value (word ∷ rest)) refl is
  where
    by_test : (pass : Bool) → list_all is_value (word ∷ rest) ≡ pass → (if pass then Some (unlinking (word ∷ rest)) else None) ≡ Some asked → Asks (codes "unlink" ∷ word ∷ rest) asked
    by_test false pass is = absurd (let bad : None ≡ Some asked = is in cc)
    by_test true pass is =
        subst (λ a. Asks (codes "unlink" ∷ word ∷ rest) a) (let same : unlinking (word ∷ rest) ≡ asked = cc in same)
        (unlink word rest (passed_values (word ∷ rest) pass))

-- a command that takes a path
path_back :
    (name : List ℕ) (of : List ℕ → Asked) → ((path : List ℕ) → IsValue path → Asks (name ∷ path ∷ []) (of path))
    → (words : List (List ℕ)) (asked : Asked) → path_reading of words ≡ Some asked → Asks (name ∷ words) asked
path_back name of asks [] asked is = absurd (let bad : None ≡ Some asked = is in cc)
path_back name of asks (path ∷ more ∷ rest) asked is = absurd (let bad : None ≡ Some asked = is in cc)
path_back name of asks (path ∷ []) asked is = by_test (is_value path) refl is
  where
    by_test : (pass : Bool) → is_value path ≡ pass → (if pass then Some (of path) else None) ≡ Some asked → Asks (name ∷ path ∷ []) asked
    by_test false pass is = absurd (let bad : None ≡ Some asked = is in cc)
    by_test true pass is =
        subst (λ a. Asks (name ∷ path ∷ []) a) (let same : of path ≡ asked = cc in same)
        (asks path (passed_value path pass))

-- a choice by the text of the first word
by_name : (name command : List ℕ) (rest : List (List ℕ)) (asked : Asked) (chosen other : Option Asked) → (chosen ≡ Some asked → Asks (name ∷ rest) asked) → (other ≡ Some asked → Asks (command ∷ rest) asked) → (if bytes_eq command name then chosen else other) ≡ Some asked → Asks (command ∷ rest) asked
by_name name command rest asked chosen other is_chosen is_other is = by_test (bytes_eq command name) refl is
  where
    by_test : (same : Bool) → bytes_eq command name ≡ same → (if same then chosen else other) ≡ Some asked → Asks (command ∷ rest) asked
    by_test true same is =
        subst (λ w. Asks (w ∷ rest) asked) (sym ((bytes_eq-Decides command name).0 same)) (is_chosen is)
    by_test false same is = is_other is

asks_same : (words : List (List ℕ)) (some asked : Asked) → Asks words some → Some some ≡ Some asked → Asks words asked
asks_same words some asked plain is = subst (λ a. Asks words a) (let same : some ≡ asked = cc in same) plain

check_back : (words : List (List ℕ)) (asked : Asked) → check_reading words ≡ Some asked → Asks (codes "check" ∷ words) asked
check_back [] asked is = asks_same _ _ asked check is
check_back (word ∷ more ∷ rest) asked is = absurd (let bad : None ≡ Some asked = is in cc)
check_back (word ∷ []) asked is = by_test (bytes_eq word (codes "--strict")) refl is
  where
    by_test : (same : Bool) → bytes_eq word (codes "--strict") ≡ same → (if same then Some checking_strictly else None) ≡ Some asked → Asks (codes "check" ∷ word ∷ []) asked
    by_test false same is = absurd (let bad : None ≡ Some asked = is in cc)
    by_test true same is =
        subst (λ w. Asks (codes "check" ∷ w ∷ []) asked) (sym ((bytes_eq-Decides word (codes "--strict")).0 same))
        (asks_same _ _ asked check_strictly is)

plain_command_back : (command : List ℕ) (asked : Asked) → plain_command command ≡ Some asked → Asks (command ∷ []) asked
plain_command_back command asked =
    by_name (codes "refresh") command [] asked _ _ (asks_same _ _ asked refresh)
    (by_name (codes "list") command [] asked _ _ (asks_same _ _ asked list)
    (by_name (codes "inject") command [] asked _ _ (asks_same _ _ asked inject)
    (by_name (codes "session") command [] asked _ _ (asks_same _ _ asked session)
    (λ is. absurd (let bad : None ≡ Some asked = is in cc)))))

without_more_back : (command : List ℕ) (rest : List (List ℕ)) (asked : Asked) → without_more rest (plain_command command) ≡ Some asked → Asks (command ∷ rest) asked
without_more_back command [] asked is = plain_command_back command asked is
without_more_back command (word ∷ rest) asked is = absurd (let bad : None ≡ Some asked = is in cc)

pub read_is_plain : (words : List (List ℕ)) (asked : Asked) → reading_of words ≡ Some asked → Asks words asked
read_is_plain [] asked is = absurd (let bad : None ≡ Some asked = is in cc)
read_is_plain (command ∷ rest) asked is =
    by_name (codes "link") command rest asked _ _ (λ read. link (link_back rest None no_options asked read))
    (by_name (codes "unlink") command rest asked _ _ (unlink_back rest asked)
    (by_name (codes "measure") command rest asked _ _ (measure_back rest asked)
    (by_name (codes "why") command rest asked _ _ (path_back (codes "why") explaining why rest asked)
    (by_name (codes "vendor") command rest asked _ _ (path_back (codes "vendor") vendoring vendor rest asked)
    (by_name (codes "check") command rest asked _ _ (check_back rest asked)
    (without_more_back command rest asked)))))) is

pub reading_is_exact : ReadingIsExact
reading_is_exact words asked = (read_is_plain words asked, plain_is_read)
