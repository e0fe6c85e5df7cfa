-- An attribute's value stands in its tag.
use Rattle.std.specs.Char.{is_ascii_whitespace}
use Rattle.std.specs.Prelude.{not, drop}
use Rattle.std.proofs.Common.{◌≡◌, ℕ, List, [], ◌∷◌, ◌++◌, Bool, true, false, ◌==◌, ◌||◌, Some, if◌then◌else◌, append_assoc, refl, sym, ◌∙◌, ap, subst}
use Rattle.std.specs.Prelude.{bytes_eq}
use Rattle.std.proofs.lemmas.Option.{same_Some}
use Rattle.page_spec.specs.declared.kinds.State.{State}
use Rattle.page_spec.specs.declared.kinds.State.TheVariants.{TagOpen}
use Rattle.page_spec.specs.Tokenizer.{lowered, is_last, next_state}
use Rattle.page_spec.specs.Attributes.{before, behind, skip_whitespace, Value, value, ends_unquoted, value_at, value_behind, ends_attribute_name, Attribute, attribute_at, begins_attribute, attributes, first_named, attribute}
use Rattle.page_spec.specs.Laws.{StandsIn, ValuesStandInTags}

pub parted : (is_end : ℕ → Bool) (bytes : List ℕ) → bytes ≡ before is_end bytes ++ behind is_end bytes
parted is_end [] = refl
parted is_end (b ∷ rest) = by_test (is_end b) (parted is_end rest) where
  by_test : (c : Bool) → rest ≡ before is_end rest ++ behind is_end rest → b ∷ rest ≡ (if c then [] else b ∷ before is_end rest) ++ (if c then b ∷ rest else behind is_end rest)
  by_test true e = refl
  by_test false e = ap (λ r. b ∷ r) e

-- a value that stands in the bytes behind some stands in all
further : (front bytes rest : List ℕ) (v : Value) → bytes ≡ front ++ rest → StandsIn rest v → StandsIn bytes v
further front bytes rest v e s = record { front = front ++ s.front; back = s.back; ends = e ∙ (ap (λ r. front ++ r) s.ends ∙ sym (append_assoc front s.front v.tail)); begins = s.begins }

at_front : (is_end : ℕ → Bool) (bytes : List ℕ) → StandsIn bytes (value (before is_end bytes) bytes)
at_front is_end bytes = record { front = []; back = behind is_end bytes; ends = refl; begins = parted is_end bytes }

empty_at : (bytes : List ℕ) → StandsIn bytes (value [] bytes)
empty_at bytes = record { front = []; back = bytes; ends = refl; begins = refl }

value_stands : (bytes : List ℕ) → StandsIn bytes (value_at bytes)
value_stands [] = empty_at []
value_stands (b ∷ rest) = by_quote (b == 34 || b == 39) where
  by_quote : (c : Bool) → StandsIn (b ∷ rest) (if c then value (before (λ c. c == b) rest) rest else value (before ends_unquoted (b ∷ rest)) (b ∷ rest))
  by_quote true = further (b ∷ []) (b ∷ rest) rest _ refl (at_front (λ c. c == b) rest)
  by_quote false = at_front ends_unquoted (b ∷ rest)

behind_stands : (tail bytes front : List ℕ) → tail ≡ front ++ bytes → StandsIn tail (value_behind tail bytes)
behind_stands tail [] front e = empty_at tail
behind_stands tail (b ∷ rest) front e = by_equals (b == 61) where
  by_equals : (c : Bool) → StandsIn tail (if c then value_at (skip_whitespace rest) else value [] tail)
  by_equals true =
      let skipped = parted (λ b. not (is_ascii_whitespace b)) rest in
      further front tail (b ∷ rest) _ e (further (b ∷ before (λ b. not (is_ascii_whitespace b)) rest) (b ∷ rest) (skip_whitespace rest) _ (ap (λ r. b ∷ r) skipped) (value_stands (skip_whitespace rest)))
  by_equals false = empty_at tail

attribute_stands : (b : ℕ) (rest : List ℕ) → StandsIn (b ∷ rest) (attribute_at b rest).value
attribute_stands b rest =
    let tail = behind ends_attribute_name rest in
    further (b ∷ before ends_attribute_name rest) (b ∷ rest) tail _ (ap (λ r. b ∷ r) (parted ends_attribute_name rest)) (behind_stands tail (skip_whitespace tail) (before (λ b. not (is_ascii_whitespace b)) tail) (parted (λ b. not (is_ascii_whitespace b)) tail))

first_stands : (name : List ℕ) (b : ℕ) (rest : List ℕ) (c : Bool) (v : Value) (more : List Attribute) → (if c then Some (attribute_at b rest).value else first_named name more) ≡ Some v → (first_named name more ≡ Some v → StandsIn (b ∷ rest) v) → StandsIn (b ∷ rest) v
first_stands name b rest true v more e go = subst (λ v. StandsIn (b ∷ rest) v) (same_Some _ _ e) (attribute_stands b rest)
first_stands name b rest false v more e go = go e

named_stands : (name : List ℕ) (state : State) (bytes : List ℕ) (v : Value) → first_named name (attributes state bytes) ≡ Some v → StandsIn bytes v
named_stands name state [] v e = absurd (cc)
named_stands name state (b ∷ rest) v e = by_state (is_last state b) (begins_attribute state b) e (λ f. further (b ∷ []) (b ∷ rest) rest v refl (named_stands name (next_state state b) rest v f)) where
  by_state : (l c : Bool) → first_named name (if l then [] else if c then attribute_at b rest ∷ attributes (next_state state b) rest else attributes (next_state state b) rest) ≡ Some v → (first_named name (attributes (next_state state b) rest) ≡ Some v → StandsIn (b ∷ rest) v) → StandsIn (b ∷ rest) v
  by_state true c e go = absurd (cc)
  by_state false true e go = first_stands name b rest (bytes_eq (lowered (attribute_at b rest).name) (lowered name)) v (attributes (next_state state b) rest) e go
  by_state false false e go = go e

pub values_stand_in_tags : ValuesStandInTags
unfolding attribute
values_stand_in_tags name text v e = behind_first text (named_stands name TagOpen (drop 1 text) v e) where
  behind_first : (text : List ℕ) → StandsIn (drop 1 text) v → StandsIn text v
  behind_first [] s = s
  behind_first (b ∷ rest) s = further (b ∷ []) (b ∷ rest) rest v refl s
