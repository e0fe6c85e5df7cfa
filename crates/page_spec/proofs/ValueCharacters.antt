-- An attribute's value begins and ends between characters: its name, its white space and its quotes end with ASCII bytes.
use Rattle.std.specs.Char.{is_ascii_whitespace}
use Rattle.std.specs.Prelude.{IsUtf8, All, not, bytes_eq, option_map}
use Rattle.std.proofs.Common.{◌≡◌, ℕ, ◌+◌, ◌-◌, ◌<◌, List, [], ◌∷◌, ◌++◌, length, Bool, true, false, ◌==◌, ◌||◌, Option, Some, None, if◌then◌else◌, append_assoc, refl, sym, ◌∙◌, ap, subst, arith}
use Rattle.std.proofs.lemmas.Option.{same_Some}
use Rattle.std.proofs.lemmas.Bool.Decides.{nat_tests}
use Rattle.std.proofs.Math.Seq.{get_or-append_seam}
use Rattle.std.proofs.lemmas.Bool.{eqb-true}
use Rattle.std.proofs.lemmas.List.{length-append}
use Rattle.std.proofs.lemmas.List.Elements.{All-head, All-tail}
use Rattle.std.proofs.lemmas.Str.{IsUtf8-append, IsUtf8-nil, IsCharBoundary-before_ascii, IsCharBoundary-after_ascii}
use Rattle.page_spec.specs.declared.kinds.Piece.{Piece}
use Rattle.page_spec.specs.declared.kinds.State.{State}
use Rattle.page_spec.specs.declared.kinds.State.TheVariants.{TagOpen}
use Rattle.page_spec.specs.Tokenizer.{lowered, is_last, next_state}
use Rattle.page_spec.specs.Pieces.{Part, page_of}
use Rattle.page_spec.specs.Attributes.{before, behind, skip_whitespace, Value, value, ends_unquoted, value_at, value_behind, ends_attribute_name, Attribute, attribute_at, begins_attribute, attributes, first_named, attribute}
use Rattle.page_spec.specs.ImportMaps.{is_start}
use Rattle.page_spec.specs.Places.{IsPieceOf, AtBoundaries, text_at, span_of}
use Rattle.page_spec.specs.Laws.{StandsIn, ValuesEndAtBoundaries}
use Rattle.page_spec.proofs.Cover.{pieces_cover, page_of-append}
use Rattle.page_spec.proofs.Characters.{Both, at_seam, at_end, boundary, page_utf8, pieces_are_utf8}
use Rattle.page_spec.proofs.Reading.{text_is}
use Rattle.page_spec.proofs.Values.{parted, values_stand_in_tags}

abbrev IsAscii : (ℕ → Bool) → Type 0
IsAscii is_end = (b : ℕ) → is_end b ≡ true → b < 128

whitespace_ascii : (b : ℕ) → is_ascii_whitespace b ≡ true → b < 128
whitespace_ascii b e = grind (arith, nat_tests)

unquoted_ascii : (b : ℕ) → ends_unquoted b ≡ true → b < 128
unquoted_ascii b e = grind (arith, nat_tests)

name_ascii : (b : ℕ) → ends_attribute_name b ≡ true → b < 128
name_ascii b e = grind (arith, nat_tests)

-- ---- what ends before an ASCII byte

before_ascii : (xs ys : List ℕ) (b : ℕ) → b < 128 → IsUtf8 (xs ++ b ∷ ys) → Both xs (b ∷ ys)
before_ascii xs ys b l u = at_seam xs (b ∷ ys) u (IsCharBoundary-before_ascii (xs ++ b ∷ ys) (length xs) (let n = length-append xs (b ∷ ys) in omega (arith, n)) (let e = get_or-append_seam xs b ys 0 in omega (arith, e, l)))

behind_ascii : (b : ℕ) (ys : List ℕ) → b < 128 → IsUtf8 (b ∷ ys) → IsUtf8 ys
behind_ascii b ys l u = (at_seam (b ∷ []) ys u (IsCharBoundary-after_ascii (b ∷ ys) 0 u (omega arith) l)).second

cut_utf8 : (is_end : ℕ → Bool) → IsAscii is_end → (xs bytes : List ℕ) → IsUtf8 (xs ++ behind is_end bytes) → Both xs (behind is_end bytes)
cut_utf8 is_end a xs [] u = at_end xs u
cut_utf8 is_end a xs (b ∷ rest) u = by_test (is_end b) refl (cut_utf8 is_end a xs rest) u where
  by_test : (c : Bool) → is_end b ≡ c → (IsUtf8 (xs ++ behind is_end rest) → Both xs (behind is_end rest)) → IsUtf8 (xs ++ (if c then b ∷ rest else behind is_end rest)) → Both xs (if c then b ∷ rest else behind is_end rest)
  by_test true e go u = before_ascii xs rest b (a b e) u
  by_test false e go u = go u

-- ---- the parts of an attribute

-- the value's text, and what is behind it in the tail
record ValueCut (v : Value) : Type 0 where
  back : List ℕ
  begins : v.tail ≡ v.text ++ back
  text : IsUtf8 v.text
  behind : IsUtf8 back
  tail : IsUtf8 v.tail

ended_cut : (is_end : ℕ → Bool) → IsAscii is_end → (bytes : List ℕ) → IsUtf8 bytes → ValueCut (value (before is_end bytes) bytes)
ended_cut is_end a bytes u =
    let b = cut_utf8 is_end a (before is_end bytes) bytes (subst IsUtf8 (parted is_end bytes) u) in
    record { back = behind is_end bytes; begins = parted is_end bytes; text = b.first; behind = b.second; tail = u }

empty_cut : (bytes : List ℕ) → IsUtf8 bytes → ValueCut (value [] bytes)
empty_cut bytes u = record { back = bytes; begins = refl; text = IsUtf8-nil; behind = u; tail = u }

skipped_utf8 : (bytes : List ℕ) → IsUtf8 bytes → IsUtf8 (skip_whitespace bytes)
skipped_utf8 [] u = u
skipped_utf8 (b ∷ rest) u = by_test (is_ascii_whitespace b) refl (skipped_utf8 rest) where
  by_test : (c : Bool) → is_ascii_whitespace b ≡ c → (IsUtf8 rest → IsUtf8 (skip_whitespace rest)) → IsUtf8 (if not c then b ∷ rest else skip_whitespace rest)
  by_test true e go = go (behind_ascii b rest (whitespace_ascii b e) u)
  by_test false e go = u

quote_ascii : (b : ℕ) → (b == 34 || b == 39) ≡ true → b < 128
quote_ascii b e = grind (arith, nat_tests)

same_ascii : (b : ℕ) → b < 128 → IsAscii (λ c. c == b)
same_ascii b l c e = let p = eqb-true c b e in omega (arith, p, l)

value_cut : (bytes : List ℕ) → IsUtf8 bytes → ValueCut (value_at bytes)
value_cut [] u = empty_cut [] u
value_cut (b ∷ rest) u = by_quote (b == 34 || b == 39) refl where
  by_quote : (c : Bool) → (b == 34 || b == 39) ≡ c → ValueCut (if c then value (before (λ c. c == b) rest) rest else value (before ends_unquoted (b ∷ rest)) (b ∷ rest))
  by_quote true e = let l = quote_ascii b e in ended_cut (λ c. c == b) (same_ascii b l) rest (behind_ascii b rest l u)
  by_quote false e = ended_cut ends_unquoted unquoted_ascii (b ∷ rest) u

behind_cut : (tail bytes : List ℕ) → IsUtf8 tail → IsUtf8 bytes → ValueCut (value_behind tail bytes)
behind_cut tail [] t u = empty_cut tail t
behind_cut tail (b ∷ rest) t u = by_equals (b == 61) refl where
  by_equals : (c : Bool) → (b == 61) ≡ c → ValueCut (if c then value_at (skip_whitespace rest) else value [] tail)
  by_equals true e = let l = eqb-true b 61 e in value_cut (skip_whitespace rest) (skipped_utf8 rest (behind_ascii b rest (omega (arith, l)) u))
  by_equals false e = empty_cut tail t

attribute_cut : (front : List ℕ) (b : ℕ) (rest : List ℕ) → IsUtf8 (front ++ b ∷ rest)
    → ValueCut (attribute_at b rest).value
attribute_cut front b rest u =
    let tail = behind ends_attribute_name rest in
    let name = b ∷ before ends_attribute_name rest in
    let same : front ++ b ∷ rest ≡ (front ++ name) ++ tail = ap (λ r. front ++ b ∷ r) (parted ends_attribute_name rest) ∙ sym (append_assoc front name tail) in
    let t = (cut_utf8 ends_attribute_name name_ascii (front ++ name) rest (subst IsUtf8 same u)).second in
    behind_cut tail (skip_whitespace tail) t (skipped_utf8 tail t)

first_value_cut : (name : List ℕ) (front : List ℕ) (b : ℕ) (rest : List ℕ) (c : Bool) (v : Value) (more : List Attribute) → IsUtf8 (front ++ b ∷ rest) → (if c then Some (attribute_at b rest).value else first_named name more) ≡ Some v → (first_named name more ≡ Some v → ValueCut v) → ValueCut v
first_value_cut name front b rest true v more u e go = subst ValueCut (same_Some _ _ e) (attribute_cut front b rest u)
first_value_cut name front b rest false v more u e go = go e

named_cut : (name : List ℕ) (state : State) (front bytes : List ℕ) (v : Value) → IsUtf8 (front ++ bytes) → first_named name (attributes state bytes) ≡ Some v → ValueCut v
named_cut name state front [] v u e = absurd (cc)
named_cut name state front (b ∷ rest) v u e = by_state (is_last state b) (begins_attribute state b) e (λ f. named_cut name (next_state state b) (front ++ b ∷ []) rest v (subst IsUtf8 (sym (append_assoc front (b ∷ []) rest)) u) f) where
  by_state : (l c : Bool) → first_named name (if l then [] else if c then attribute_at b rest ∷ attributes (next_state state b) rest else attributes (next_state state b) rest) ≡ Some v → (first_named name (attributes (next_state state b) rest) ≡ Some v → ValueCut v) → ValueCut v
  by_state true c e go = absurd (cc)
  by_state false true e go = first_value_cut name front b rest (bytes_eq (lowered (attribute_at b rest).name) (lowered name)) v (attributes (next_state state b) rest) u e go
  by_state false false e go = go e

value_of_tag : (name tag : List ℕ) (v : Value) → IsUtf8 tag → attribute name tag ≡ Some v → ValueCut v
unfolding attribute
value_of_tag name [] v u e = absurd (cc)
value_of_tag name (b ∷ rest) v u e = named_cut name TagOpen (b ∷ []) rest v u e

-- ---- in the page

front_utf8 : (parts : List Part) (p : Part) (behind : List Part) → All (λ p. IsUtf8 p.text) (parts ++ p ∷ behind) → All (λ p. IsUtf8 p.text) (p ∷ behind)
front_utf8 [] p behind a = a
front_utf8 (q ∷ parts) p behind a = front_utf8 parts p behind (All-tail (λ p. IsUtf8 p.text) q (parts ++ p ∷ behind) a)

at_value : (page xs tag ys : List ℕ) (n : ℕ) (v : Value) → page ≡ xs ++ (tag ++ ys) → n ≡ length xs + length tag → IsUtf8 ys → StandsIn tag v → ValueCut v → AtBoundaries page (span_of n v).0 (span_of n v).1
at_value page xs tag ys n v e l u s c =
    let first : page ≡ (xs ++ s.front) ++ (v.tail ++ ys) = e ∙ (ap (λ t. xs ++ (t ++ ys)) s.ends ∙ (ap (λ r. xs ++ r) (append_assoc s.front v.tail ys) ∙ sym (append_assoc xs s.front (v.tail ++ ys)))) in
    let second : page ≡ ((xs ++ s.front) ++ v.text) ++ (c.back ++ ys) = first ∙ (ap (λ t. (xs ++ s.front) ++ (t ++ ys)) c.begins ∙ (ap (λ r. (xs ++ s.front) ++ r) (append_assoc v.text c.back ys) ∙ sym (append_assoc (xs ++ s.front) v.text (c.back ++ ys)))) in
    let a = length-append xs s.front in
    let b = ap length s.ends ∙ length-append s.front v.tail in
    let d = length-append (xs ++ s.front) v.text in
    let from : n - length v.tail ≡ length (xs ++ s.front) = omega (arith, l, a, b) in
    let to : (n - length v.tail) + length v.text ≡ length ((xs ++ s.front) ++ v.text) = omega (arith, from, d) in
    record {
      begin = boundary page (xs ++ s.front) (v.tail ++ ys) (n - length v.tail) first from (IsUtf8-append v.tail ys c.tail u);
      end = boundary page ((xs ++ s.front) ++ v.text) (c.back ++ ys) ((n - length v.tail) + length v.text) second to (IsUtf8-append c.back ys c.behind u);
    }

tag_at : (page name : List ℕ) (found : Piece) (o : IsPieceOf page found) (v : Value) → IsUtf8 page → attribute name (text_at page found) ≡ Some v → AtBoundaries page (span_of found.to v).0 (span_of found.to v).1
tag_at page name found o v u e =
    let all = front_utf8 o.before o.p o.behind (pieces_are_utf8 page (o.before ++ o.p ∷ o.behind) o.pieces u) in
    let whole : page ≡ page_of o.before ++ (o.p.text ++ page_of o.behind) = pieces_cover page (o.before ++ o.p ∷ o.behind) o.pieces ∙ page_of-append o.before (o.p ∷ o.behind) in
    let is : attribute name o.p.text ≡ Some v = ap (λ t. attribute name t) (sym (text_is page found o)) ∙ e in
    let tag = All-head (λ p. IsUtf8 p.text) o.p o.behind all in
    let rest = page_utf8 o.behind (All-tail (λ p. IsUtf8 p.text) o.p o.behind all) in
    at_value page (page_of o.before) o.p.text (page_of o.behind) found.to v whole (ap (λ s. s.to) o.is) rest (values_stand_in_tags name o.p.text v is) (value_of_tag name o.p.text v tag is)

pub values_end_at_boundaries : ValuesEndAtBoundaries
values_end_at_boundaries page name found sp o u e = by_kind (is_start found.kind) (attribute name (text_at page found)) refl e where
  by_kind : (c : Bool) (v : Option Value) → attribute name (text_at page found) ≡ v → (if c then option_map (span_of found.to) v else None) ≡ Some sp → AtBoundaries page sp.0 sp.1
  by_kind true (Some v) i e = subst (λ s. AtBoundaries page s.0 s.1) (same_Some _ _ e) (tag_at page name found o v u i)
  by_kind true None i e = absurd (cc)
  by_kind false v i e = absurd (cc)
