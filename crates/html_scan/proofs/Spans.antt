-- Where values stand.
use Rattle.std.proofs.Common.{◌≡◌, ℕ, ◌+◌, ◌≤◌, List, ◌++◌, length, Bool, Some, sym, ◌∙◌, ap, arith}
use Rattle.std.proofs.lemmas.List.{length-append}
use Rattle.page_spec.specs.declared.kinds.Piece.{Piece}
use Rattle.page_spec.specs.Attributes.{behind, before, Value, attribute}
use Rattle.page_spec.specs.Places.{IsPieceOf, text_at}
use Rattle.page_spec.proofs.Values.{parted, values_stand_in_tags}
use Rattle.page_spec.proofs.Reading.{text_is}

pub behind_shorter : (is_end : ℕ → Bool) (bytes rest : List ℕ) → rest ≡ behind is_end bytes → length rest ≤ length bytes
behind_shorter is_end bytes rest e =
    let l = ap length (parted is_end bytes) in
    let m = length-append (before is_end bytes) (behind is_end bytes) in
    let k = ap length e in
    omega (arith, l, m, k)

pub before_is : (is_end : ℕ → Bool) (bytes rest text : List ℕ) → rest ≡ behind is_end bytes → ((t : List ℕ) → bytes ≡ t ++ rest → text ≡ t) → text ≡ before is_end bytes
before_is is_end bytes rest text e go = go (before is_end bytes) (parted is_end bytes ∙ ap (λ r. before is_end bytes ++ r) (sym e))

-- the text of a piece is as long as its places say
pub text_length : (page : List ℕ) (found : Piece) → IsPieceOf page found → found.from + length (text_at page found) ≡ found.to
text_length page found o =
    let l = ap length (text_is page found o) in
    let f = ap (λ s. s.from) o.is in
    let t = ap (λ s. s.to) o.is in
    omega (arith, l, f, t)

pub record Fits (found : Piece) (v : Value) : Type 0 where
  pub tail : length v.tail ≤ found.to
  pub text : length v.text ≤ length v.tail

pub value_fits : (page name : List ℕ) (found : Piece) (v : Value) → IsPieceOf page found → Some v ≡ attribute name (text_at page found) → Fits found v
value_fits page name found v o e =
    let s = values_stand_in_tags name (text_at page found) v (sym e) in
    let l = ap length s.ends in
    let m = length-append s.front v.tail in
    let k = ap length s.begins in
    let n = length-append v.text s.back in
    let t = text_length page found o in
    record { tail = omega (arith, l, m, t); text = omega (arith, k, n) }
