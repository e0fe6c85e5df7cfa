-- A piece stays what it is where other bytes stand behind it that end it as well.
use Rattle.std.specs.Prelude.{◌&&◌, codes, is_some}
use Rattle.std.proofs.Common.{◌≡◌, ℕ, List, [], ◌∷◌, ◌++◌, Bool, true, false, ◌==◌, Option, Some, None, if◌then◌else◌, refl, sym, ◌∙◌, ap, subst}
use Rattle.std.proofs.lemmas.Bool.{and_parts, eqb-true}
use Rattle.page_spec.specs.declared.kinds.RawElement.{RawElement}
use Rattle.page_spec.specs.declared.kinds.PieceKind.{PieceKind}
use Rattle.page_spec.specs.declared.kinds.PieceKind.TheVariants.{Text, Start, Raw}
use Rattle.page_spec.specs.declared.kinds.State.TheVariants.{TagOpen}
use Rattle.page_spec.specs.Pieces.{opening, tag_name, is_name, name_of, raw_element, closes, behind_raw, ends_text, behind_text, Front, front, ended, markup, first_piece}
use Rattle.page_spec.specs.ImportMaps.{is_broken}
use Rattle.page_spec.proofs.Markup.{Whole, whole_markup, name_moved, opening_moved, closes_moved, ends_text_moved}
use Rattle.page_spec.proofs.Joins.{Joins, RawJoins, ends_text_joined, text_moved, raw_moved}
use Rattle.page_spec.proofs.Joins.Joins.{markup_comes}
use Rattle.page_spec.proofs.Joins.RawJoins.{end_tags}
use Rattle.page_spec.proofs.Shapes.{Shape, Bare}
use Rattle.page_spec.proofs.Shapes.Bare.{an_end, a_comment}
use Rattle.page_spec.proofs.Shapes.Shape.{raw_text, words, start, bare, cut_off}

-- what ends before the first bytes ends before the others
pub record Alike (r s : List ℕ) : Type 0 where
  pub joins : ends_text r ≡ true → Joins r s
  pub raws : (element : RawElement) → closes element r ≡ true → RawJoins element r s

closes_ends_text : (element : RawElement) (bytes : List ℕ) → closes element bytes ≡ true → ends_text bytes ≡ true
closes_ends_text element [] e = absurd (cc)
closes_ends_text element (b ∷ []) e = absurd (cc)
closes_ends_text element (b ∷ c ∷ []) e = let p = and_parts (b == 60 && c == 47) false e in absurd (let q = p.1 in cc)
closes_ends_text element (b ∷ c ∷ d ∷ v) e =
    let p = and_parts (b == 60 && c == 47) (is_name (name_of element) (tag_name (d ∷ v))) e in
    let q = and_parts (b == 60) (c == 47) p.0 in
    let r = eqb-true c 47 q.1 in
    let s = q.0 in rw (r, s) refl

raw_joins : (element : RawElement) (t r s : List ℕ) → Whole TagOpen t → closes element (60 ∷ (t ++ r)) ≡ true → RawJoins element (60 ∷ (t ++ r)) (60 ∷ (t ++ s))
raw_joins element [] r s w e = elim w [ ]
raw_joins element (b ∷ t) r s w e = made (eqb-true b 47 (and_parts (b == 47) (is_name (name_of element) (tag_name (t ++ r))) e).0) e (sym (closes_moved element (b ∷ t) r s w) ∙ e) where
  made : {b : ℕ} {x y : List ℕ} → b ≡ 47 → closes element (60 ∷ b ∷ x) ≡ true → closes element (60 ∷ b ∷ y) ≡ true → RawJoins element (60 ∷ b ∷ x) (60 ∷ b ∷ y)
  made {x} {y} p m k = subst (λ b. closes element (60 ∷ b ∷ x) ≡ true → closes element (60 ∷ b ∷ y) ≡ true → RawJoins element (60 ∷ b ∷ x) (60 ∷ b ∷ y)) (sym p) (λ m k. end_tags m k) m k

-- what the piece is where s stands behind it
pub record Stays (within : Option RawElement) (bytes text : List ℕ) (f : Front) (s : List ℕ) : Type 0 where
  pub again : first_piece within (text ++ s) ≡ Some (front f.kind f.within s)
  pub alike : within ≡ None → Alike bytes (text ++ s)

pub record Step (within : Option RawElement) (bytes : List ℕ) (f : Front) : Type 0 where
  pub text : List ℕ
  pub cut : bytes ≡ text ++ f.rest
  pub stays : (s : List ℕ) → (f.within ≡ None → Alike f.rest s) → Stays within bytes text f s

raw_step : (element : RawElement) (bytes u rest : List ℕ) → bytes ≡ u ++ rest → behind_raw element (u ++ rest) ≡ Some rest → closes element rest ≡ true → Step (Some element) bytes (front Raw None rest)
unfolding first_piece
raw_step element bytes u rest e r c = record { text = u; cut = e; stays = λ s a. record { again = ap (λ m. Some (ended Raw m)) (raw_moved element u rest s ((a refl).raws element c) r); alike = λ n. absurd (cc) } }

pub words_there : (b : ℕ) (y : List ℕ) → ends_text (b ∷ y) ≡ false → first_piece None (b ∷ y) ≡ Some (front Text None (behind_text y))
unfolding first_piece
words_there b y e = ap (λ f. Some f) (chosen (b == 60) (opening y) y e) where
  chosen : (c : Bool) (o : Option PieceKind) (y : List ℕ) → (c && is_some o) ≡ false → (if c then markup o y else front Text None (behind_text y)) ≡ front Text None (behind_text y)
  chosen true None y e = refl
  chosen true (Some k) y e = absurd (cc)
  chosen false o y e = refl

words_step : (bytes rest : List ℕ) (b : ℕ) (u : List ℕ) → bytes ≡ b ∷ (u ++ rest) → ends_text bytes ≡ false → behind_text (u ++ rest) ≡ rest → ends_text rest ≡ true → Step None bytes (front Text None rest)
words_step bytes rest b u e n t z = record {
  text = b ∷ u;
  cut = e;
  stays = λ s a.
      let j : Joins rest s = (a refl).joins z in
      let m : ends_text (b ∷ (u ++ s)) ≡ false = sym (ends_text_joined b u rest s j) ∙ (ap ends_text (sym e) ∙ n) in
      record {
        again = words_there b (u ++ s) m ∙ ap (λ r. Some (front Text None r)) (text_moved u rest s j t);
        alike = λ i. record { joins = λ y. absurd (cc); raws = λ element y. absurd (let z = closes_ends_text element bytes y in cc) };
      };
}

alike_at : (t r s : List ℕ) → Whole TagOpen t → Alike (60 ∷ (t ++ r)) (60 ∷ (t ++ s))
alike_at t r s w = record { joins = λ y. markup_comes y (sym (ends_text_moved t r s w) ∙ y); raws = λ element y. raw_joins element t r s w y }

alike_markup : (bytes t r s : List ℕ) → bytes ≡ 60 ∷ (t ++ r) → Whole TagOpen t → Alike bytes (60 ∷ (t ++ s))
alike_markup bytes t r s e w = subst (λ x. Alike x (60 ∷ (t ++ s))) (sym e) (alike_at t r s w)

pub start_there : (t s : List ℕ) → Whole TagOpen t → opening (t ++ s) ≡ Some Start → is_name (codes "plaintext") (tag_name (t ++ s)) ≡ false → first_piece None (60 ∷ (t ++ s)) ≡ Some (front Start (raw_element (tag_name (t ++ s))) s)
unfolding first_piece
start_there t s w o p = let m = whole_markup TagOpen t s w in rw (o, m, p) refl

start_step : (bytes t rest : List ℕ) → bytes ≡ 60 ∷ (t ++ rest) → Whole TagOpen t → opening (t ++ rest) ≡ Some Start → is_name (codes "plaintext") (tag_name (t ++ rest)) ≡ false → Step None bytes (front Start (raw_element (tag_name (t ++ rest))) rest)
start_step bytes t rest e w o p = record {
  text = 60 ∷ t;
  cut = e;
  stays = λ s a.
      let n = name_moved TagOpen t s rest w in
      record {
        again = start_there t s w (opening_moved t s rest w ∙ o) (ap (λ m. is_name (codes "plaintext") m) n ∙ p) ∙ ap (λ m. Some (front Start (raw_element m) s)) n;
        alike = λ i. alike_markup bytes t rest s e w;
      };
}

pub bare_there : (k : PieceKind) (t s : List ℕ) → Bare k → Whole TagOpen t → opening (t ++ s) ≡ Some k → first_piece None (60 ∷ (t ++ s)) ≡ Some (front k None s)
unfolding first_piece
bare_there k t s an_end w o = let m = whole_markup TagOpen t s w in rw (o, m) refl
bare_there k t s a_comment w o = let m = whole_markup TagOpen t s w in rw (o, m) refl

bare_step : (k : PieceKind) (bytes t rest : List ℕ) → Bare k → bytes ≡ 60 ∷ (t ++ rest) → Whole TagOpen t → opening (t ++ rest) ≡ Some k → Step None bytes (front k None rest)
bare_step k bytes t rest b e w o = record {
  text = 60 ∷ t;
  cut = e;
  stays = λ s a.
      record { again = bare_there k t s b w (opening_moved t s rest w ∙ o); alike = λ i. alike_markup bytes t rest s e w };
}

pub step_of : (within : Option RawElement) (bytes : List ℕ) (f : Front) → is_broken f.kind ≡ false → Shape within bytes f → Step within bytes f
step_of within bytes f n (raw_text u e r c) = raw_step _ bytes u _ e r c
step_of within bytes f n (words b u e s t z) = words_step bytes _ b u e s t z
step_of within bytes f n (start t rest e w o p) = start_step bytes t rest e w o p
step_of within bytes f n (bare k t b e w o) = bare_step k bytes t _ b e w o
step_of within bytes f n cut_off = absurd (cc)
