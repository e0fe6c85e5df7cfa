-- What readers leave is no longer than what they began with.
use Rattle.std.specs.Char.{is_ascii_digit}
use Rattle.std.proofs.Common.{arith}
use Rattle.std.proofs.lemmas.Bool.{cond_both}
use Rattle.std.specs.Prelude.{ℕ, ◌≤◌, length, ⊤, ◌<◌, suc, List, Option, Some, None, zero, ◌+◌, ◌*◌, [], ◌∷◌, ◌==◌, Bool, true, false, cond, encode_utf8, codes}
use Rattle.json_spec.specs.Grammar.{is_space, after_space, as_number, Reading, word_else, scalar_at}
use Rattle.json_spec.specs.Numbers.{maybe, piece_then, one_of, after_digits, leading_digits, some_digits, digits_at, int_at, frac_at, exp_at, number_at}
use Rattle.std.specs.Char.Utf16.{is_high_surrogate, is_low_surrogate, surrogate_pair_char}
use Rattle.json_spec.specs.Strings.{taken_from, hex_value, hex_digits, behind, second_half, four_digits, unicode_character, short_escape, escape_at}
use Rattle.json_spec.specs.Taken.{Taken, taken, refused, and_then, Read, behind_piece, or_else}
use Rattle.json_spec.specs.Value.{Json, a_null, a_bool}

-- what is left has at most n bytes, and fewer
abbrev pub AtMost : {A E : Type 0} → ℕ → Taken A E → Type 0
AtMost n (taken x rest) = length rest ≤ n
AtMost n (refused e) = ⊤

abbrev pub Below : {A E : Type 0} → ℕ → Taken A E → Type 0
Below n (taken x rest) = length rest < n
Below n (refused e) = ⊤

pub more_room : {A E : Type 0} (n m : ℕ) (out : Taken A E) → n ≤ m → AtMost n out → AtMost m out
more_room n m (taken x rest) l a = omega arith
more_room n m (refused e) l a = tt

pub below_next : {A E : Type 0} (n : ℕ) (out : Taken A E) → AtMost n out → Below (suc n) out
below_next n (taken x rest) a = omega arith
below_next n (refused e) a = tt

pub then_at_most : {A B E : Type 0} (n : ℕ) (out : Taken A E) (next : A → List ℕ → Taken B E) → AtMost n out → ((x : A) (rest : List ℕ) → length rest ≤ n → AtMost n (next x rest)) → AtMost n (and_then out next)
then_at_most n (taken x rest) next a f = f x rest a
then_at_most n (refused e) next a f = tt

pub then_below : {A B E : Type 0} (n : ℕ) (out : Taken A E) (next : A → List ℕ → Taken B E) → Below n out → ((x : A) (rest : List ℕ) → length rest < n → Below n (next x rest)) → Below n (and_then out next)
then_below n (taken x rest) next a f = f x rest a
then_below n (refused e) next a f = tt

from_at_most : {A B : Type 0} (n : ℕ) (o : Option A) (next : A → Read B) → ((x : A) → AtMost n (next x)) → AtMost n (taken_from o next)
from_at_most n None next f = tt
from_at_most n (Some x) next f = f x

hex_at_most : (n v : ℕ) (bytes : List ℕ) → AtMost (length bytes) (hex_digits n v bytes)
hex_at_most zero v bytes = omega arith
hex_at_most (suc n) v [] = tt
hex_at_most (suc n) v (b ∷ bytes) = from_at_most _ (hex_value b) _ (λ d. more_room (length bytes) _ (hex_digits n (v * 16 + d) bytes) (omega arith) (hex_at_most n (v * 16 + d) bytes))

behind_at_most : {B : Type 0} (n : ℕ) (front bytes : List ℕ) (next : List ℕ → Read B) → length bytes ≤ n → ((rest : List ℕ) → length rest ≤ n → AtMost n (next rest)) → AtMost n (taken_from (behind front bytes) next)
behind_at_most n [] bytes next l f = f bytes l
behind_at_most n (c ∷ front) [] next l f = tt
behind_at_most n (c ∷ front) (b ∷ bytes) next l f =
    cond_both (c == b) (behind front bytes) None (λ o. AtMost n (taken_from o next)) (λ e. behind_at_most n front bytes next (omega arith) f) (λ e. tt)

either : {A E : Type 0} (n : ℕ) (b : Bool) (x y : Taken A E) → AtMost n x → AtMost n y → AtMost n (cond b x y)
either n true x y p q = p
either n false x y p q = q

half_at_most : (n high low : ℕ) (rest : List ℕ) → length rest ≤ n → AtMost n (second_half high low rest)
half_at_most n high low rest l = either n (is_low_surrogate low) (taken (encode_utf8 (surrogate_pair_char high low)) rest) (refused tt) l tt

pair_at_most : (n high : ℕ) (more : List ℕ) → length more ≤ n → AtMost n (and_then (four_digits more) (second_half high))
pair_at_most n high more l = then_at_most n (four_digits more) (second_half high) (more_room _ n (four_digits more) l (hex_at_most 4 0 more)) (half_at_most n high)

character_at_most : (n c : ℕ) (rest : List ℕ) → length rest ≤ n → AtMost n (unicode_character c rest)
character_at_most n c rest l =
    either n (is_high_surrogate c) (taken_from (behind (92 ∷ 117 ∷ []) rest) (λ more. and_then (four_digits more) (second_half c))) (cond (is_low_surrogate c) (refused tt) (taken (encode_utf8 c) rest))
    (behind_at_most n (92 ∷ 117 ∷ []) rest _ l (pair_at_most n c)) (either n (is_low_surrogate c) (refused tt) (taken (encode_utf8 c) rest) tt l)

pub escape_at_most : (bytes : List ℕ) → AtMost (length bytes) (escape_at bytes)
escape_at_most [] = tt
escape_at_most (b ∷ bytes) =
    either (length (b ∷ bytes)) (b == 117) (and_then (four_digits bytes) unicode_character) (taken_from (short_escape b) (λ c. taken (c ∷ []) bytes))
    (then_at_most _ (four_digits bytes) unicode_character (more_room (length bytes) _ (four_digits bytes) (omega arith) (hex_at_most 4 0 bytes)) (character_at_most (length (b ∷ bytes))))
    (from_at_most _ (short_escape b) (λ c. taken (c ∷ []) bytes) (λ c. omega arith))

pub space_at_most : (bytes : List ℕ) → length (after_space bytes) ≤ length bytes
space_at_most [] = omega arith
space_at_most (b ∷ bytes) = let l = space_at_most bytes in cond_both (is_space b) _ _ (λ (xs : List ℕ). length xs ≤ length (b ∷ bytes)) (λ e. omega arith) (λ e. omega arith)

-- readers that leave no more than they have, and less
abbrev Keeps : (List ℕ → Read (List ℕ)) → Type 0
Keeps read = (bytes : List ℕ) → AtMost (length bytes) (read bytes)

abbrev Takes : (List ℕ → Read (List ℕ)) → Type 0
Takes read = (bytes : List ℕ) → Below (length bytes) (read bytes)

below_at_most : {A E : Type 0} (n : ℕ) (out : Taken A E) → Below n out → AtMost n out
below_at_most n (taken x rest) l = omega arith
below_at_most n (refused e) l = tt

pub less_room : {A E : Type 0} (n m : ℕ) (out : Taken A E) → n ≤ m → Below n out → Below m out
less_room n m (taken x rest) l a = omega arith
less_room n m (refused e) l a = tt

keeps : (read : List ℕ → Read (List ℕ)) → Takes read → Keeps read
keeps read t bytes = below_at_most _ (read bytes) (t bytes)

pub piece_at_most : (n : ℕ) (piece : List ℕ) (out : Read (List ℕ)) → AtMost n out → AtMost n (behind_piece piece out)
piece_at_most n piece (taken x rest) l = l
piece_at_most n piece (refused e) l = tt

piece_below : (n : ℕ) (piece : List ℕ) (out : Read (List ℕ)) → Below n out → Below n (behind_piece piece out)
piece_below n piece (taken x rest) l = l
piece_below n piece (refused e) l = tt

keeps_maybe : (one : List ℕ → Read (List ℕ)) → Keeps one → Keeps (maybe one)
keeps_maybe one k bytes = go (one bytes) (k bytes)
  where
    go : (out : Read (List ℕ)) → AtMost (length bytes) out → AtMost (length bytes) (or_else out (taken [] bytes))
    go (taken x rest) l = l
    go (refused e) l = omega arith

keeps_joined : (one another : List ℕ → Read (List ℕ)) → Keeps one → Keeps another → Keeps (piece_then one another)
keeps_joined one another k l bytes =
    then_at_most (length bytes) (one bytes) (λ piece rest. behind_piece piece (another rest)) (k bytes) (λ piece rest m. piece_at_most _ piece (another rest) (more_room (length rest) _ (another rest) m (l rest)))

takes_first : (one another : List ℕ → Read (List ℕ)) → Takes one → Keeps another → Takes (piece_then one another)
takes_first one another t k bytes =
    then_below (length bytes) (one bytes) (λ piece rest. behind_piece piece (another rest)) (t bytes)
    (λ piece rest m. piece_below _ piece (another rest) (less_room (suc (length rest)) _ (another rest) m (below_next _ (another rest) (k rest))))

takes_second : (one another : List ℕ → Read (List ℕ)) → Keeps one → Takes another → Takes (piece_then one another)
takes_second one another k t bytes = go (one bytes) (k bytes)
  where
    go : (out : Read (List ℕ)) → AtMost (length bytes) out → Below (length bytes) (and_then out (λ piece rest. behind_piece piece (another rest)))
    go (taken piece rest) m = piece_below _ piece (another rest) (less_room (length rest) _ (another rest) m (t rest))
    go (refused e) m = tt

takes_one_of : (test : ℕ → Bool) → Takes (one_of test)
takes_one_of test [] = tt
takes_one_of test (b ∷ bytes) = go (test b)
  where
    go : (t : Bool) → Below (length (b ∷ bytes)) (cond {A = Read (List ℕ)} t (taken (b ∷ []) bytes) (refused tt))
    go true = omega arith
    go false = tt

after_digits_at_most : (bytes : List ℕ) → length (after_digits bytes) ≤ length bytes
after_digits_at_most [] = omega arith
after_digits_at_most (b ∷ bytes) = let l = after_digits_at_most bytes in cond_both (is_ascii_digit b) _ _ (λ (xs : List ℕ). length xs ≤ length (b ∷ bytes)) (λ e. omega arith) (λ e. omega arith)

takes_digits : Takes digits_at
takes_digits [] = tt
takes_digits (b ∷ bytes) = go (is_ascii_digit b)
  where
    go : (t : Bool) → Below (length (b ∷ bytes)) (some_digits (cond t (b ∷ leading_digits bytes) []) (cond t (after_digits bytes) (b ∷ bytes)))
    go true = let l = after_digits_at_most bytes in omega arith
    go false = tt

takes_int : Takes int_at
takes_int [] = tt
takes_int (b ∷ bytes) = go (b == 48)
  where
    go : (t : Bool) → Below (length (b ∷ bytes)) (cond {A = Read (List ℕ)} t (taken (b ∷ []) bytes) (digits_at (b ∷ bytes)))
    go true = omega arith
    go false = takes_digits (b ∷ bytes)

takes_frac : Takes frac_at
takes_frac = takes_first _ _ (takes_one_of _) (keeps _ takes_digits)

takes_exp : Takes exp_at
takes_exp = takes_first _ _ (takes_one_of _) (keeps_joined _ _ (keeps_maybe _ (keeps _ (takes_one_of _))) (keeps _ takes_digits))

takes_number : Takes number_at
takes_number = takes_second _ _ (keeps_maybe _ (keeps _ (takes_one_of _))) (takes_first _ _ takes_int (keeps_joined _ _ (keeps_maybe _ (keeps _ takes_frac)) (keeps_maybe _ (keeps _ takes_exp))))

number_below : (n : ℕ) (bytes : List ℕ) (out : Read (List ℕ)) → Below n out → Below n (as_number bytes out)
number_below n bytes (taken number rest) l = l
number_below n bytes (refused e) l = tt

-- what stands behind a word
abbrev Left : ℕ → Option (List ℕ) → Type 0
Left n None = ⊤
Left n (Some rest) = length rest < n

front_left : (n : ℕ) (front bytes : List ℕ) → length bytes < n → Left n (behind front bytes)
front_left n [] bytes l = l
front_left n (c ∷ front) [] l = tt
front_left n (c ∷ front) (b ∷ bytes) l = cond_both (c == b) _ _ (Left n) (λ e. front_left n front bytes (omega arith)) (λ e. tt)

word_left : (c : ℕ) (front bytes : List ℕ) → Left (length bytes) (behind (c ∷ front) bytes)
word_left c front [] = tt
word_left c front (b ∷ bytes) = cond_both (c == b) _ _ (Left (length (b ∷ bytes))) (λ e. front_left _ front bytes (omega arith)) (λ e. tt)

word_below : (n : ℕ) (value : Json) (o : Option (List ℕ)) (out : Reading Json) → Left n o → Below n out → Below n (word_else value o out)
word_below n value None out l m = m
word_below n value (Some rest) out l m = l

pub scalar_below : (bytes : List ℕ) → Below (length bytes) (scalar_at bytes)
scalar_below bytes =
    word_below _ (a_bool true) (behind (codes "true") bytes) _ (word_left 116 (codes "rue") bytes)
    (word_below _ (a_bool false) (behind (codes "false") bytes) _ (word_left 102 (codes "alse") bytes)
    (word_below _ a_null (behind (codes "null") bytes) _ (word_left 110 (codes "ull") bytes) (number_below _ bytes (number_at bytes) (takes_number bytes))))
