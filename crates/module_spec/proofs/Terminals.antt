-- A token has one kind, and one spelling.
use Rattle.std.proofs.Common.{◌≡◌, ℕ, Bool, true, false, ◌&&◌, bytes_eq, List, refl, sym, subst}
use Rattle.std.proofs.lemmas.Slice.Eq.{bytes_eq-Decides}
use Rattle.module_spec.specs.declared.token.Kind.{Kind}
use Rattle.module_spec.specs.declared.token.Kind.TheVariants as kind
use Rattle.module_spec.specs.Places.{Placed, is_name_kind, is_text_kind, is_punctuator_kind, is_name, is_text, is_word, is_mark}

-- a name, a text, a punctuator, or none of them
pub data OneKind : Bool → Bool → Bool → Type 0 where
  a_name : OneKind true false false
  a_text : OneKind false true false
  a_mark : OneKind false false true
  another : OneKind false false false

pub one_kind : (k : Kind) → OneKind (is_name_kind k) (is_text_kind k) (is_punctuator_kind k)
one_kind kind.Name = a_name
one_kind kind.Private = another
one_kind kind.Number = another
one_kind kind.Text = a_text
one_kind kind.TemplateWhole = another
one_kind kind.TemplateHead = another
one_kind kind.TemplateMiddle = another
one_kind kind.TemplateTail = another
one_kind kind.Regex = another
one_kind kind.Punctuator = a_mark

no_text : {name text mark : Bool} → OneKind name text mark → name ≡ true → text ≡ false
no_text a_name e = refl
no_text a_text e = absurd (cc)
no_text a_mark e = refl
no_text another e = refl

pub name_no_text : (t : Placed) → is_name t ≡ true → is_text t ≡ false
name_no_text t e = no_text (one_kind t.token.kind) e

-- what a punctuator isn't, whatever else is asked of the token
no_name_by : {name text mark : Bool} (c d : Bool) → OneKind name text mark → (mark && c) ≡ true → (name && d) ≡ false
no_name_by c d a_name e = absurd (cc)
no_name_by c d a_text e = refl
no_name_by c d a_mark e = refl
no_name_by c d another e = refl

no_name : {name text mark : Bool} (c : Bool) → OneKind name text mark → (mark && c) ≡ true → name ≡ false
no_name c a_name e = absurd (cc)
no_name c a_text e = refl
no_name c a_mark e = refl
no_name c another e = refl

no_text_mark : {name text mark : Bool} (c : Bool) → OneKind name text mark → (mark && c) ≡ true → text ≡ false
no_text_mark c a_name e = refl
no_text_mark c a_text e = absurd (cc)
no_text_mark c a_mark e = refl
no_text_mark c another e = refl

pub mark_no_name : (t : Placed) (m : List ℕ) → is_mark t m ≡ true → is_name t ≡ false
mark_no_name t m e = no_name (bytes_eq t.text m) (one_kind t.token.kind) e

pub mark_no_text : (t : Placed) (m : List ℕ) → is_mark t m ≡ true → is_text t ≡ false
mark_no_text t m e = no_text_mark (bytes_eq t.text m) (one_kind t.token.kind) e

pub mark_no_word : (t : Placed) (m w : List ℕ) → is_mark t m ≡ true → is_word t w ≡ false
mark_no_word t m w e = no_name_by (bytes_eq t.text m) (bytes_eq t.text w) (one_kind t.token.kind) e

word_name : (name c : Bool) → (name && c) ≡ true → name ≡ true
word_name true c e = refl
word_name false c e = absurd (cc)

pub word_is_name : (t : Placed) (w : List ℕ) → is_word t w ≡ true → is_name t ≡ true
word_is_name t w e = word_name (is_name t) (bytes_eq t.text w) e

no_mark_by : {name text mark : Bool} (c : Bool) → OneKind name text mark → name ≡ true → (mark && c) ≡ false
no_mark_by c a_name e = refl
no_mark_by c a_text e = absurd (cc)
no_mark_by c a_mark e = absurd (cc)
no_mark_by c another e = absurd (cc)

pub name_no_mark : (t : Placed) (m : List ℕ) → is_name t ≡ true → is_mark t m ≡ false
name_no_mark t m e = no_mark_by (bytes_eq t.text m) (one_kind t.token.kind) e

other_by : (mark : Bool) (spelled m w : List ℕ) (c : Bool) → bytes_eq spelled m ≡ c → (mark && c) ≡ true → bytes_eq m w ≡ false → (mark && bytes_eq spelled w) ≡ false
other_by false spelled m w c e f g = refl
other_by true spelled m w false e f g = absurd (cc)
other_by true spelled m w true e f g = subst (λ x. bytes_eq x w ≡ false) (sym ((bytes_eq-Decides spelled m).0 e)) g

-- the token is this punctuator and no other
pub one_mark : (t : Placed) (m w : List ℕ) → is_mark t m ≡ true → bytes_eq m w ≡ false → is_mark t w ≡ false
one_mark t m w e f = other_by (is_punctuator_kind t.token.kind) t.text m w (bytes_eq t.text m) refl e f

pub one_word : (t : Placed) (w v : List ℕ) → is_word t w ≡ true → bytes_eq w v ≡ false → is_word t v ≡ false
one_word t w v e f = other_by (is_name t) t.text w v (bytes_eq t.text w) refl e f
