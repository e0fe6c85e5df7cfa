-- What a piece is, by its kind.
use Rattle.std.specs.Char.{is_ascii_alphabetic}
use Rattle.std.specs.Prelude.{◌&&◌, ◌||◌, codes, is_some, ⊤}
use Rattle.std.proofs.Common.{◌≡◌, ℕ, List, [], ◌∷◌, ◌++◌, Bool, true, false, ◌==◌, Option, Some, None, if◌then◌else◌, refl, sym, ap, subst}
use Rattle.std.proofs.lemmas.Option.{same_Some}
use Rattle.std.proofs.lemmas.Bool.{eqb-true}
use Rattle.std.proofs.lemmas.List.{append-nil}
use Rattle.page_spec.specs.declared.kinds.RawElement.{RawElement}
use Rattle.page_spec.specs.declared.kinds.PieceKind.{PieceKind}
use Rattle.page_spec.specs.declared.kinds.PieceKind.TheVariants.{Text, Comment, Start, End, Raw, Broken}
use Rattle.page_spec.specs.declared.kinds.State.TheVariants.{TagOpen}
use Rattle.page_spec.specs.Tokenizer.{behind_markup}
use Rattle.page_spec.specs.Pieces.{opening, opening_end, tag_name, is_name, raw_element, closes, behind_raw, ends_text, behind_text, Front, front, broken, ended, started, markup, first_piece}
use Rattle.page_spec.proofs.Markup.{Whole, markup_cut}

-- ---- where text and raw text end

pub record TextEnd (bytes : List ℕ) : Type 0 where
  pub text : List ℕ
  pub cut : bytes ≡ text ++ behind_text bytes
  pub stopped : ends_text (behind_text bytes) ≡ true

text_end_by : (b : ℕ) (rest : List ℕ) (c : Bool) → ends_text (b ∷ rest) ≡ c → TextEnd rest → TextEnd (b ∷ rest)
text_end_by b rest true e t = record { text = []; cut = rw e refl; stopped = rw e e }
text_end_by b rest false e t = record { text = b ∷ t.text; cut = rw e (ap (λ r. b ∷ r) t.cut); stopped = rw e t.stopped }

pub text_end : (bytes : List ℕ) → TextEnd bytes
text_end [] = record { text = []; cut = refl; stopped = refl }
text_end (b ∷ rest) = text_end_by b rest (ends_text (b ∷ rest)) refl (text_end rest)

record RawEnd (element : RawElement) (bytes rest : List ℕ) : Type 0 where
  text : List ℕ
  cut : bytes ≡ text ++ rest
  closed : closes element rest ≡ true

raw_end_by : (element : RawElement) (b : ℕ) (bytes rest : List ℕ) (c : Bool) → closes element (b ∷ bytes) ≡ c → (if c then Some (b ∷ bytes) else behind_raw element bytes) ≡ Some rest → (behind_raw element bytes ≡ Some rest → RawEnd element bytes rest) → RawEnd element (b ∷ bytes) rest
raw_end_by element b bytes rest true l e go = let p = same_Some _ _ e in record { text = []; cut = p; closed = subst (λ r. closes element r ≡ true) p l }
raw_end_by element b bytes rest false l e go = let w = go e in record { text = b ∷ w.text; cut = ap (λ r. b ∷ r) w.cut; closed = w.closed }

raw_end : (element : RawElement) (bytes rest : List ℕ) → behind_raw element bytes ≡ Some rest → RawEnd element bytes rest
raw_end element [] rest e = absurd (cc)
raw_end element (b ∷ bytes) rest e = raw_end_by element b bytes rest (closes element (b ∷ bytes)) refl e (λ f. raw_end element bytes rest f)

-- ---- a piece by its kind

pub data Bare : PieceKind → Type 0 where
  an_end : Bare End
  a_comment : Bare Comment

pub data Shape : Option RawElement → List ℕ → Front → Type 0 where
  raw_text : {element : RawElement} {bytes rest : List ℕ} (u : List ℕ) → bytes ≡ u ++ rest → behind_raw element (u ++ rest) ≡ Some rest → closes element rest ≡ true → Shape (Some element) bytes (front Raw None rest)
  words : {bytes rest : List ℕ} (b : ℕ) (u : List ℕ) → bytes ≡ b ∷ (u ++ rest) → ends_text bytes ≡ false → behind_text (u ++ rest) ≡ rest → ends_text rest ≡ true → Shape None bytes (front Text None rest)
  start : {bytes : List ℕ} (t rest : List ℕ) → bytes ≡ 60 ∷ (t ++ rest) → Whole TagOpen t → opening (t ++ rest) ≡ Some Start → is_name (codes "plaintext") (tag_name (t ++ rest)) ≡ false → Shape None bytes (front Start (raw_element (tag_name (t ++ rest))) rest)
  bare : {bytes rest : List ℕ} (k : PieceKind) (t : List ℕ) → Bare k → bytes ≡ 60 ∷ (t ++ rest) → Whole TagOpen t → opening (t ++ rest) ≡ Some k → Shape None bytes (front k None rest)
  cut_off : {within : Option RawElement} {bytes : List ℕ} → Shape within bytes broken

raw_shape : (element : RawElement) (bytes : List ℕ) (m : Option (List ℕ)) → behind_raw element bytes ≡ m → Shape (Some element) bytes (ended Raw m)
raw_shape element bytes None e = cut_off
raw_shape element bytes (Some rest) e = let w = raw_end element bytes rest e in raw_text w.text w.cut (subst (λ x. behind_raw element x ≡ Some rest) w.cut e) w.closed

words_shape : (b : ℕ) (x : List ℕ) → ends_text (b ∷ x) ≡ false → Shape None (b ∷ x) (front Text None (behind_text x))
words_shape b x s = let t = text_end x in words b t.text (ap (λ r. b ∷ r) t.cut) s (ap behind_text (sym t.cut)) t.stopped

bare_shape : (k : PieceKind) → Bare k → (x : List ℕ) (m : Option (List ℕ)) → opening x ≡ Some k → behind_markup TagOpen x ≡ m → Shape None (60 ∷ x) (ended k m)
bare_shape k b x None o e = cut_off
bare_shape k b x (Some rest) o e = let w = markup_cut TagOpen x rest e in bare k w.text b (ap (λ x. 60 ∷ x) w.cut) w.whole (subst (λ y. opening y ≡ Some k) w.cut o)

start_whole : (t rest : List ℕ) (c : Bool) → is_name (codes "plaintext") (tag_name (t ++ rest)) ≡ c → Whole TagOpen t → opening (t ++ rest) ≡ Some Start → Shape None (60 ∷ (t ++ rest)) (if c then broken else front Start (raw_element (tag_name (t ++ rest))) rest)
start_whole t rest true p w o = cut_off
start_whole t rest false p w o = start t rest refl w o p

start_shape : (x : List ℕ) (m : Option (List ℕ)) → opening x ≡ Some Start → behind_markup TagOpen x ≡ m → Shape None (60 ∷ x) (started (tag_name x) m)
start_shape x None o e = cut_off
start_shape x (Some rest) o e =
    let w = markup_cut TagOpen x rest e in
    subst (λ y. opening y ≡ Some Start → Shape None (60 ∷ y) (started (tag_name y) (Some rest))) (sym w.cut) (λ p. start_whole w.text rest (is_name (codes "plaintext") (tag_name (w.text ++ rest))) refl w.whole p) o

-- a `<` opens a tag or a comment
abbrev Opens : PieceKind → Type 0
Opens Start = ⊤
Opens End = ⊤
Opens Comment = ⊤
Opens other = ⊥

opens_by : (a b c : Bool) (later : Option PieceKind) (k : PieceKind) → ((j : PieceKind) → later ≡ Some j → Opens j) → (if a then Some Start else if b then Some Comment else if c then later else None) ≡ Some k → Opens k
opens_by true b c later k go e = subst Opens (same_Some _ _ e) tt
opens_by false true c later k go e = subst Opens (same_Some _ _ e) tt
opens_by false false true later k go e = go k e
opens_by false false false later k go e = absurd (cc)

opens_end : (rest : List ℕ) (k : PieceKind) → opening_end rest ≡ Some k → Opens k
opens_end [] k e = absurd (cc)
opens_end (b ∷ rest) k e = by_letter (is_ascii_alphabetic b) e where
  by_letter : (c : Bool) → Some (if c then End else Comment) ≡ Some k → Opens k
  by_letter true e = subst Opens (same_Some _ _ e) tt
  by_letter false e = subst Opens (same_Some _ _ e) tt

opens : (x : List ℕ) (k : PieceKind) → opening x ≡ Some k → Opens k
opens [] k e = absurd (cc)
opens (b ∷ rest) k e = opens_by (is_ascii_alphabetic b) (b == 33 || b == 63) (b == 47) (opening_end rest) k (opens_end rest) e

markup_shape : (o : Option PieceKind) (x : List ℕ) → opening x ≡ o → Shape None (60 ∷ x) (markup o x)
markup_shape None x o = words_shape 60 x (ap is_some o)
markup_shape (Some Start) x o = start_shape x (behind_markup TagOpen x) o refl
markup_shape (Some End) x o = bare_shape End an_end x (behind_markup TagOpen x) o refl
markup_shape (Some Comment) x o = bare_shape Comment a_comment x (behind_markup TagOpen x) o refl
markup_shape (Some Text) x o = absurd (opens x Text o)
markup_shape (Some Raw) x o = absurd (opens x Raw o)
markup_shape (Some Broken) x o = absurd (opens x Broken o)

if_markup : (c : Bool) (b : ℕ) (x : List ℕ) → (b == 60) ≡ c → Shape None (b ∷ x) (if c then markup (opening x) x else front Text None (behind_text x))
if_markup true b x e = let p = eqb-true b 60 e in rw p (markup_shape (opening x) x refl)
if_markup false b x e = words_shape b x (ap (λ c. c && is_some (opening x)) e)

pub shape_of : (within : Option RawElement) (bytes : List ℕ) (f : Front) → first_piece within bytes ≡ Some f → Shape within bytes f
unfolding first_piece
shape_of None [] f e = absurd (cc)
shape_of None (b ∷ x) f e = subst (λ f. Shape None (b ∷ x) f) (same_Some _ _ e) (if_markup (b == 60) b x refl)
shape_of (Some element) bytes f e = subst (λ f. Shape (Some element) bytes f) (same_Some _ _ e) (raw_shape element bytes (behind_raw element bytes) refl)

-- ---- its text

pub record Cut (bytes rest : List ℕ) : Type 0 where
  pub text : List ℕ
  pub cut : bytes ≡ text ++ rest

pub cut_of : (within : Option RawElement) (bytes : List ℕ) (f : Front) → Shape within bytes f → Cut bytes f.rest
cut_of within bytes f (raw_text u e r c) = record { text = u; cut = e }
cut_of within bytes f (words b u e s t z) = record { text = b ∷ u; cut = e }
cut_of within bytes f (start t rest e w o p) = record { text = 60 ∷ t; cut = e }
cut_of within bytes f (bare k t b e w o) = record { text = 60 ∷ t; cut = e }
cut_of within bytes f cut_off = record { text = bytes; cut = sym (append-nil bytes) }

pub first_cut : (within : Option RawElement) (bytes : List ℕ) (f : Front) → first_piece within bytes ≡ Some f → Cut bytes f.rest
first_cut within bytes f e = cut_of within bytes f (shape_of within bytes f e)
