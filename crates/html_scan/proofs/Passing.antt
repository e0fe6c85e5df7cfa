-- Runs of bytes that leave a tokenizer's state as it is.
use Rattle.std.specs.Char.{is_ascii_whitespace}
use Rattle.std.proofs.Common.{◌≡◌, ℕ, ◌==◌, ◌&&◌, ◌||◌, List, [], ◌∷◌, Bool, true, false, Some, if◌then◌else◌, refl, sym, ◌∙◌, ap}
use Rattle.std.proofs.Math.Bool.{and-false}
use Rattle.std.proofs.lemmas.Bool.{or_parts}
use Rattle.page_spec.specs.declared.kinds.State.{State}
use Rattle.page_spec.specs.declared.kinds.State.TheVariants.{BogusComment, Comment, CommentEndDash, TagName, BeforeAttributeName, AttributeName, AfterAttributeName, BeforeAttributeValue, AttributeValueDoubleQuoted, AttributeValueSingleQuoted, AttributeValueUnquoted}
use Rattle.page_spec.specs.Tokenizer.{is_last, next_state, behind_markup}
use Rattle.page_spec.specs.Pieces.{ends_name}
use Rattle.page_spec.specs.Attributes.{behind, ends_attribute_name, ends_unquoted}

record Stays (state : State) (b : ℕ) : Type 0 where
  goes_on : is_last state b ≡ false
  same : next_state state b ≡ state

one_byte : (state : State) (b : ℕ) (rest : List ℕ) → Stays state b → behind_markup state (b ∷ rest) ≡ behind_markup state rest
one_byte state b rest s = ap (λ c. if c then Some rest else behind_markup (next_state state b) rest) s.goes_on ∙ ap (λ t. behind_markup t rest) s.same

passed : (state : State) (is_end : ℕ → Bool) → ((b : ℕ) → is_end b ≡ false → Stays state b) → (bytes : List ℕ) → behind_markup state (behind is_end bytes) ≡ behind_markup state bytes
passed state is_end stays [] = refl
passed state is_end stays (b ∷ rest) = by_test (is_end b) refl (passed state is_end stays rest) where
  by_test : (c : Bool) → is_end b ≡ c → behind_markup state (behind is_end rest) ≡ behind_markup state rest → behind_markup state (if c then b ∷ rest else behind is_end rest) ≡ behind_markup state (b ∷ rest)
  by_test true e later = refl
  by_test false e later = later ∙ sym (one_byte state b rest (stays b e))

pub bogus_comment : (bytes : List ℕ) → behind_markup BogusComment (behind (λ b. b == 62) bytes) ≡ behind_markup BogusComment bytes
bogus_comment = passed BogusComment (λ b. b == 62) (λ b e. record { goes_on = ap (λ c. c && true) e; same = refl })

pub comment : (bytes : List ℕ) → behind_markup Comment (behind (λ b. b == 45) bytes) ≡ behind_markup Comment bytes
comment = passed Comment (λ b. b == 45) (λ b e. record { goes_on = and-false (b == 62); same = ap (λ c. if c then CommentEndDash else Comment) e })

pub double_quoted : (bytes : List ℕ) → behind_markup AttributeValueDoubleQuoted (behind (λ b. b == 34) bytes) ≡ behind_markup AttributeValueDoubleQuoted bytes
double_quoted = passed AttributeValueDoubleQuoted (λ b. b == 34) (λ b e. record { goes_on = and-false (b == 62); same = ap (λ c. if c then BeforeAttributeName else AttributeValueDoubleQuoted) e })

pub single_quoted : (bytes : List ℕ) → behind_markup AttributeValueSingleQuoted (behind (λ b. b == 39) bytes) ≡ behind_markup AttributeValueSingleQuoted bytes
single_quoted = passed AttributeValueSingleQuoted (λ b. b == 39) (λ b e. record { goes_on = and-false (b == 62); same = ap (λ c. if c then BeforeAttributeName else AttributeValueSingleQuoted) e })

pub unquoted : (bytes : List ℕ) → behind_markup AttributeValueUnquoted (behind ends_unquoted bytes) ≡ behind_markup AttributeValueUnquoted bytes
unquoted = passed AttributeValueUnquoted ends_unquoted (λ b e. record { goes_on = ap (λ c. c && true) (or_parts (is_ascii_whitespace b) (b == 62) e).1; same = ap (λ c. if c then BeforeAttributeName else AttributeValueUnquoted) (or_parts (is_ascii_whitespace b) (b == 62) e).0 })

-- white space, `/` and `>` apart
record NoEnd (b : ℕ) : Type 0 where
  space : is_ascii_whitespace b ≡ false
  slash : (b == 47) ≡ false
  greater : (b == 62) ≡ false

no_end : (b : ℕ) → ends_name b ≡ false → NoEnd b
no_end b e = by_tests (is_ascii_whitespace b) (b == 47) (b == 62) refl refl refl e where
  by_tests : (x y z : Bool) → is_ascii_whitespace b ≡ x → (b == 47) ≡ y → (b == 62) ≡ z → (x || y || z) ≡ false → NoEnd b
  by_tests true y z p q r e = absurd (cc)
  by_tests false true z p q r e = absurd (cc)
  by_tests false false true p q r e = absurd (cc)
  by_tests false false false p q r e = record { space = p; slash = q; greater = r }

pub tag_name_run : (bytes : List ℕ) → behind_markup TagName (behind ends_name bytes) ≡ behind_markup TagName bytes
tag_name_run = passed TagName ends_name (λ b e. let n = no_end b e in record { goes_on = ap (λ c. c && true) n.greater; same = ap (λ c. if (c || b == 47) then BeforeAttributeName else TagName) n.space ∙ ap (λ c. if c then BeforeAttributeName else TagName) n.slash })

in_name : (b : ℕ) → ends_attribute_name b ≡ false → Stays AttributeName b
in_name b e =
    let n = no_end b (or_parts (ends_name b) (b == 61) e).0 in
    let equals = (or_parts (ends_name b) (b == 61) e).1 in
    record {
      goes_on = ap (λ c. c && true) n.greater;
      same = ap (λ c. if c then BeforeAttributeValue else if b == 47 then BeforeAttributeName else if is_ascii_whitespace b then AfterAttributeName else AttributeName) equals ∙ (ap (λ c. if c then BeforeAttributeName else if is_ascii_whitespace b then AfterAttributeName else AttributeName) n.slash ∙ ap (λ c. if c then AfterAttributeName else AttributeName) n.space);
    }

pub attribute_name_run : (bytes : List ℕ) → behind_markup AttributeName (behind ends_attribute_name bytes) ≡ behind_markup AttributeName bytes
attribute_name_run = passed AttributeName ends_attribute_name in_name

-- as a run is passed
pub run : (state other : State) (is_end : ℕ → Bool) (bytes left : List ℕ) → ((bs : List ℕ) → behind_markup other (behind is_end bs) ≡ behind_markup other bs) → state ≡ other → left ≡ behind is_end bytes → behind_markup state left ≡ behind_markup state bytes
run state other is_end bytes left go e l = rw e (ap (λ bs. behind_markup other bs) l ∙ go bytes)
