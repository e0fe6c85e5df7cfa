-- What is printed holds no `<`.
use Rattle.std.proofs.Common.{ap, arith, refl, sym, ◌∙◌}
use Rattle.std.proofs.lemmas.Bool.{cond_both, or_cases, or_parts, ltb-true, eqb-true, ne_eqb, true≢false}
use Rattle.std.proofs.lemmas.List.Elements.{All-nil, All-cons, All-append, All-weaker}
use Rattle.std.specs.Prelude.{ℕ, List, ◌∷◌, ◌+◌, nat_lt, ◌/◌, ◌%◌, ◌||◌, ◌==◌, ◌++◌, ◌≡◌, [], true, zero, suc, codes, false, All}
use mathlib.Core.Logic.{inl, inr}
use Rattle.json_spec.specs.Numbers.{IsNumber}
use Rattle.json_spec.proofs.NumberBack.{is_number_byte, IsNumberByte, number_bytes}
use Rattle.json_spec.specs.PrintedString.{hex_digit, unicode_escape, escaped_byte, escaped, quoted}
use Rattle.json_spec.specs.PrintedValue.{margin, line, printed, printed_items, printed_members, IsPrintable, ArePrintable, MembersArePrintable, printed_text}
use Rattle.json_spec.specs.Value.{Json, a_null, a_bool, a_number, a_text, a_list, an_object, Items, no_items, an_item, Members, no_members, a_member}

abbrev IsOther : ℕ → Type 0
IsOther b = (b == 60) ≡ false

record HasNone (bytes : List ℕ) : Type 0 where
  all : All IsOther bytes

nothing : HasNone []
nothing = record { all = All-nil IsOther }

first : (b : ℕ) (bytes : List ℕ) → IsOther b → HasNone bytes → HasNone (b ∷ bytes)
first b bytes other none = record { all = All-cons IsOther b bytes other none.all }

both : (front rest : List ℕ) → HasNone front → HasNone rest → HasNone (front ++ rest)
both front rest none more = record { all = All-append IsOther front rest none.all more.all }

two : (b c : ℕ) (rest : List ℕ) → IsOther b → IsOther c → HasNone rest → HasNone (b ∷ c ∷ rest)
two b c rest o p none = first b _ o (first c rest p none)

digit : (d : ℕ) → IsOther (hex_digit d)
digit d =
    cond_both (nat_lt d 10) (48 + d) (87 + d) IsOther (λ e. ne_eqb (48 + d) 60 (λ f. omega (arith, f, ltb-true d 10 e)))
    (λ e. ne_eqb (87 + d) 60 (λ f. omega (arith, f)))

digits : (b : ℕ) → HasNone (unicode_escape b)
digits b =
    first 92 _ refl (first 117 _ refl (first 48 _ refl (first 48 _ refl
    (first _ _ (digit (b / 16)) (first _ _ (digit (b % 16)) nothing)))))

escaped_mark : (b : ℕ) → (b == 34 || b == 92) ≡ true → IsOther b
escaped_mark b e =
    ne_eqb b 60
    (λ f. elim (or_cases (b == 34) (b == 92) e) [
      | inl g ↦ omega (arith, f, eqb-true b 34 g)
      | inr g ↦ omega (arith, f, eqb-true b 92 g)
    ])

byte_has_none : (b : ℕ) → HasNone (escaped_byte b)
byte_has_none b =
    cond_both (b == 34 || b == 92) _ _ HasNone (λ e. two 92 b [] refl (escaped_mark b e) nothing)
    (λ e. cond_both (nat_lt b 32 || b == 60) _ _ HasNone (λ f. digits b)
    (λ f. first b [] (or_parts (nat_lt b 32) (b == 60) f).1 nothing))

escaped_has_none : (text : List ℕ) → HasNone (escaped text)
escaped_has_none [] = nothing
escaped_has_none (b ∷ text) = both (escaped_byte b) (escaped text) (byte_has_none b) (escaped_has_none text)

quoted_on : (text rest : List ℕ) → HasNone rest → HasNone (quoted text ++ rest)
quoted_on text rest none =
    both (quoted text) rest
    (first 34 _ refl (both (escaped text) (34 ∷ []) (escaped_has_none text) (first 34 [] refl nothing))) none

margin_has_none : (n : ℕ) (rest : List ℕ) → HasNone rest → HasNone (margin n rest)
margin_has_none zero rest none = none
margin_has_none (suc n) rest none = two 32 32 _ refl refl (margin_has_none n rest none)

line_has_none : (n : ℕ) (rest : List ℕ) → HasNone rest → HasNone (line n rest)
line_has_none n rest none = first 10 _ refl (margin_has_none n rest none)

name_on : (name rest : List ℕ) → HasNone rest → HasNone (quoted name ++ (codes ": " ++ rest))
name_on name rest none = quoted_on name _ (two 58 32 rest refl refl none)

number_byte : (b : ℕ) → IsNumberByte b → IsOther b
number_byte b is = ne_eqb b 60 (λ e. true≢false (sym is ∙ ap is_number_byte e))

number_on : (number rest : List ℕ) → IsNumber number → HasNone rest → HasNone (number ++ rest)
number_on number rest is none =
    let all = All-weaker IsNumberByte IsOther number_byte number (number_bytes number is) in
    both number rest (record { all = all }) none

mutual
  printed_has_none :
      (depth n : ℕ) (v : Json) (rest : List ℕ) → IsPrintable depth v → HasNone rest → HasNone (printed n v rest)
  printed_has_none depth n a_null rest p u = two 110 117 _ refl refl (two 108 108 rest refl refl u)
  printed_has_none depth n (a_bool true) rest p u = two 116 114 _ refl refl (two 117 101 rest refl refl u)
  printed_has_none depth n (a_bool false) rest p u =
      first 102 _ refl (two 97 108 _ refl refl (two 115 101 rest refl refl u))
  printed_has_none depth n (a_number number) rest p u = number_on number rest p u
  printed_has_none depth n (a_text text) rest p u = quoted_on text rest u
  printed_has_none zero n (a_list vs) rest p u = absurd p
  printed_has_none zero n (an_object ms) rest p u = absurd p
  printed_has_none (suc depth) n (a_list no_items) rest p u = two 91 93 rest refl refl u
  printed_has_none (suc depth) n (a_list (an_item v more)) rest p u =
      let end = line_has_none n (93 ∷ rest) (first 93 rest refl u) in
      first 91 _ refl
      (line_has_none (suc n) _
      (printed_has_none depth (suc n) v _ p.0 (items_have_none depth (suc n) more _ p.1 end)))
  printed_has_none (suc depth) n (an_object no_members) rest p u = two 123 125 rest refl refl u
  printed_has_none (suc depth) n (an_object (a_member name v more)) rest p u =
      let end = line_has_none n (125 ∷ rest) (first 125 rest refl u) in
      first 123 _ refl
      (line_has_none (suc n) _
      (name_on name _ (printed_has_none depth (suc n) v _ p.1.1 (members_have_none depth (suc n) more _ p.1.2 end))))

  items_have_none :
      (depth n : ℕ) (vs : Items) (rest : List ℕ) → ArePrintable depth vs → HasNone rest
      → HasNone (printed_items n vs rest)
  items_have_none depth n no_items rest p u = u
  items_have_none depth n (an_item v more) rest p u =
      first 44 _ refl
      (line_has_none n _ (printed_has_none depth n v _ p.0 (items_have_none depth n more rest p.1 u)))

  members_have_none :
      (depth n : ℕ) (ms : Members) (rest : List ℕ) → MembersArePrintable depth ms → HasNone rest
      → HasNone (printed_members n ms rest)
  members_have_none depth n no_members rest p u = u
  members_have_none depth n (a_member name v more) rest p u =
      first 44 _ refl
      (line_has_none n _
      (name_on name _ (printed_has_none depth n v _ p.1 (members_have_none depth n more rest p.2 u))))

pub prints_no_markup : (depth : ℕ) (v : Json) → IsPrintable depth v → All (λ b. (b == 60) ≡ false) (printed_text v)
prints_no_markup depth v p = (printed_has_none depth 0 v (10 ∷ []) p (first 10 [] refl nothing)).all
