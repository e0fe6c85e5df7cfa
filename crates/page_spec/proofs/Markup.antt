-- Markup is the same whatever stands behind it.
use Rattle.std.specs.Char.{to_ascii_lowercase}
use Rattle.std.specs.Prelude.{◌&&◌, is_some, option_map}
use Rattle.std.proofs.Common.{◌≡◌, ℕ, List, [], ◌∷◌, ◌++◌, Bool, true, false, ◌==◌, Some, if◌then◌else◌, refl, ap}
use Rattle.std.proofs.lemmas.Option.{same_Some}
use Rattle.std.proofs.lemmas.Bool.{and_parts, eqb-true}
use Rattle.page_spec.specs.declared.kinds.RawElement.{RawElement}
use Rattle.page_spec.specs.declared.kinds.State.{State}
use Rattle.page_spec.specs.declared.kinds.State.TheVariants.{TagOpen}
use Rattle.page_spec.specs.Tokenizer.{is_last, may_end, next_state, behind_markup}
use Rattle.page_spec.specs.Pieces.{opening, ends_name, tag_name, is_name, name_of, closes, ends_text}

-- the text is one whole markup behind its `<`
pub data Whole : State → List ℕ → Type 0 where
  last : {state : State} {b : ℕ} → is_last state b ≡ true → Whole state (b ∷ [])
  more : {state : State} {b : ℕ} {text : List ℕ} → is_last state b ≡ false → Whole (next_state state b) text → Whole state (b ∷ text)

pub record MarkupCut (state : State) (bytes rest : List ℕ) : Type 0 where
  pub text : List ℕ
  pub whole : Whole state text
  pub cut : bytes ≡ text ++ rest

cut_by : (state : State) (b : ℕ) (bytes rest : List ℕ) (c : Bool) → is_last state b ≡ c → (if c then Some bytes else behind_markup (next_state state b) bytes) ≡ Some rest → (behind_markup (next_state state b) bytes ≡ Some rest → MarkupCut (next_state state b) bytes rest) → MarkupCut state (b ∷ bytes) rest
cut_by state b bytes rest true l e go = record { text = b ∷ []; whole = last l; cut = ap (λ r. b ∷ r) (same_Some _ _ e) }
cut_by state b bytes rest false l e go = let w = go e in record { text = b ∷ w.text; whole = more l w.whole; cut = ap (λ r. b ∷ r) w.cut }

pub markup_cut : (state : State) (bytes rest : List ℕ) → behind_markup state bytes ≡ Some rest
    → MarkupCut state bytes rest
markup_cut state [] rest e = absurd (cc)
markup_cut state (b ∷ bytes) rest e = cut_by state b bytes rest (is_last state b) refl e (λ f. markup_cut (next_state state b) bytes rest f)

pub whole_markup : (state : State) (text rest : List ℕ) → Whole state text → behind_markup state (text ++ rest) ≡ Some rest
whole_markup state text rest (last l) = rw l refl
whole_markup state text rest (more {text = t} l w) = rw l (whole_markup _ t rest w)

pub no_last : (b : ℕ) → is_last TagOpen b ≡ true → ⊥
no_last b l = absurd (let p = (and_parts (b == 62) false l).1 in cc)

-- ---- what is read in it

pub name_moved : (state : State) (text r s : List ℕ) → Whole state text → tag_name (text ++ r) ≡ tag_name (text ++ s)
name_moved state text r s (last {b} l) = let p = eqb-true b 62 (and_parts (b == 62) (may_end state) l).0 in rw p refl
name_moved state text r s (more {b} {text = t} l w) = ap (λ n. if ends_name b then Some [] else option_map (λ name. to_ascii_lowercase b ∷ name) n) (name_moved _ t r s w)

pub opening_moved : (text r s : List ℕ) → Whole TagOpen text → opening (text ++ r) ≡ opening (text ++ s)
opening_moved text r s (last {b} l) = absurd (no_last b l)
opening_moved text r s (more l (last m)) = refl
opening_moved text r s (more l (more m w)) = refl

pub closes_moved : (element : RawElement) (text r s : List ℕ) → Whole TagOpen text → closes element (60 ∷ (text ++ r)) ≡ closes element (60 ∷ (text ++ s))
closes_moved element text r s (last {b} l) = absurd (no_last b l)
closes_moved element text r s (more {b} {text = t} l w) = ap (λ n. b == 47 && is_name (name_of element) n) (name_moved _ t r s w)

pub ends_text_moved : (text r s : List ℕ) → Whole TagOpen text → ends_text (60 ∷ (text ++ r)) ≡ ends_text (60 ∷ (text ++ s))
ends_text_moved text r s w = ap is_some (opening_moved text r s w)

-- ---- its last byte

pub record EndsSo (text : List ℕ) : Type 0 where
  pub front : List ℕ
  pub is : text ≡ front ++ 62 ∷ []

pub ends_so : (state : State) (text : List ℕ) → Whole state text → EndsSo text
ends_so state text (last {b} l) = record { front = []; is = ap (λ b. b ∷ []) (eqb-true b 62 (and_parts (b == 62) (may_end state) l).0) }
ends_so state text (more {b} {text = t} l w) = let e = ends_so _ t w in record { front = b ∷ e.front; is = ap (λ t. b ∷ t) e.is }
