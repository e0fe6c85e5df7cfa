-- The worked examples hold: each is computed.
use Rattle.std.specs.Prelude.{option_map}
use Rattle.std.specs.Str.{is_utf8, chars}
use Rattle.std.specs.Str.Lossy.{utf8_valid_len}
use Rattle.std.proofs.Common.{◌≡◌, ℕ, zero, suc, ◌-◌, List, [], ◌∷◌, ◌++◌, length, take, true, false, Option, Some, None, Result, Err, refl, sym, ◌∙◌, ap, subst, arith}
use Rattle.std.proofs.Math.Seq.{take-append_seam}
use Rattle.std.proofs.lemmas.Option.{same_Some}
use Rattle.std.proofs.lemmas.List.{length-append}
use Rattle.page_spec.specs.declared.kinds.InjectFault.{InjectFault}
use Rattle.page_spec.specs.declared.kinds.InjectFault.TheVariants.{PageUnclear}
use Rattle.page_spec.specs.declared.kinds.RawElement.{RawElement}
use Rattle.page_spec.specs.Pieces.{Front, first_piece, Part, part, Pieces}
use Rattle.page_spec.specs.Pieces.Pieces.{none, piece}
use Rattle.page_spec.specs.Attributes.{attribute}
use Rattle.page_spec.specs.ImportMaps.{is_map_start}
use Rattle.page_spec.specs.Injection.{injected, Injection}
use Rattle.page_spec.specs.Injection.Injection.{not_utf8, utf8}
use Rattle.page_spec.proofs.Shapes.{first_cut}
use Rattle.page_spec.specs.Examples.{PageExamples, CommentExamples, TextExamples, TagExamples, RawExamples, AttributeExamples, ImportMapExamples, InjectionExamples, RefusalExamples, WorkedExamples}

page_examples : PageExamples
unfolding first_piece
page_examples = record { pieces = piece refl refl (piece refl refl (piece refl refl (none refl))); places = refl }

comment_examples : CommentExamples
unfolding first_piece
comment_examples = record { plain = refl; bang = refl; empty = refl; dash = refl; nested = refl; more_dashes = refl; one_dash = refl; doctype = refl; cdata = refl; instruction = refl; no_name = refl; bare = refl; unended = refl; only = refl }

text_examples : TextExamples
unfolding first_piece
text_examples = record { less = refl; slash_ends = refl; end = refl }

tag_examples : TagExamples
unfolding first_piece
tag_examples = record { quoted = refl; unquoted = refl; no_value = refl; name_begins_so = refl; end = refl; unended = refl; plaintext = refl }

raw_examples : RawExamples
unfolding first_piece
raw_examples = record { begins = refl; ends = refl; empty = refl; unended = refl; page_ends = refl }

attribute_examples : AttributeExamples
unfolding attribute
attribute_examples = record { first = refl; unquoted = refl; no_value = refl; equals_first = refl; in_value = refl; no_name = refl }

import_map_examples : ImportMapExamples
unfolding attribute is_map_start
import_map_examples = record { plain = refl; other_case = refl; first_decides = refl; other_element = refl; other_type = refl }

-- ---- pieces that are computed, in as many steps as the number says

within_of : Option Front → Option RawElement
within_of None = None
within_of (Some f) = f.within

rest_of : Option Front → List ℕ
rest_of None = []
rest_of (Some f) = f.rest

with_first : List ℕ → Option Front → Option (List Part) → Option (List Part)
with_first bytes None parts = Some []
with_first bytes (Some f) None = None
with_first bytes (Some f) (Some parts) = Some (part f.kind (take (length bytes - length f.rest) bytes) ∷ parts)

parts_of : ℕ → Option RawElement → List ℕ → Option (List Part)
parts_of zero within bytes = None
parts_of (suc n) within bytes = with_first bytes (first_piece within bytes) (parts_of n (within_of (first_piece within bytes)) (rest_of (first_piece within bytes)))

first_text : (bytes text rest : List ℕ) → bytes ≡ text ++ rest → bytes ≡ take (length bytes - length rest) bytes ++ rest
first_text bytes text rest e =
    let l : length bytes - length rest ≡ length text = (let a = ap length e in let b = length-append text rest in omega (arith, a, b)) in
    let t : take (length bytes - length rest) bytes ≡ text = ap (λ n. take n bytes) l ∙ (ap (λ b. take (length text) b) e ∙ take-append_seam text rest) in
    e ∙ ap (λ t. t ++ rest) (sym t)

step_by : (n : ℕ) (within : Option RawElement) (bytes : List ℕ) (o : Option Front) (later : Option (List Part)) (parts : List Part) → first_piece within bytes ≡ o → parts_of n (within_of o) (rest_of o) ≡ later → with_first bytes o later ≡ Some parts → ((tail : List Part) → parts_of n (within_of o) (rest_of o) ≡ Some tail → Pieces (within_of o) (rest_of o) tail) → Pieces within bytes parts
unfolding with_first within_of rest_of
step_by n within bytes None later parts f l e go = subst (λ ps. Pieces within bytes ps) (same_Some _ _ e) (none f)
step_by n within bytes (Some f) None parts g l e go = absurd (cc)
step_by n within bytes (Some f) (Some tail) parts g l e go =
    let c = first_cut within bytes f g in
    subst (λ ps. Pieces within bytes ps) (same_Some _ _ e) (piece {rest = f.rest} (first_text bytes c.text f.rest c.cut) g (go tail l))

parts_hold : (n : ℕ) (within : Option RawElement) (bytes : List ℕ) (parts : List Part) → parts_of n within bytes ≡ Some parts → Pieces within bytes parts
unfolding parts_of
parts_hold zero within bytes parts e = absurd (cc)
parts_hold (suc n) within bytes parts e = step_by n within bytes (first_piece within bytes) (parts_of n (within_of (first_piece within bytes)) (rest_of (first_piece within bytes))) parts refl refl e (λ tail f. parts_hold n _ _ tail f)

outcome_by : (text page : List ℕ) (o : Option (List Part)) (out : Result (List ℕ) InjectFault) → is_utf8 page ≡ true → parts_of 12 None page ≡ o → option_map (λ parts. injected text page parts) o ≡ Some out → Injection text page out
outcome_by text page None out u p e = absurd (cc)
outcome_by text page (Some parts) out u p e = subst (λ out. Injection text page out) (same_Some _ _ e) (utf8 u (parts_hold 12 None page parts p))

comes_of : (text page : List ℕ) (out : Result (List ℕ) InjectFault) → is_utf8 page ≡ true → option_map (λ parts. injected text page parts) (parts_of 12 None page) ≡ Some out → Injection text page out
comes_of text page out u e = outcome_by text page (parts_of 12 None page) out u refl e

injection_examples : InjectionExamples
unfolding parts_of with_first within_of rest_of first_piece attribute is_map_start is_utf8 chars lib.Utf8.encode
injection_examples = record { head_end = comes_of _ _ _ refl refl; again = comes_of _ _ _ refl refl; other_map = comes_of _ _ _ refl refl; before_link = comes_of _ _ _ refl refl; behind_a_script = comes_of _ _ _ refl refl }

bad_byte : (text page : List ℕ) (n : ℕ) → is_utf8 page ≡ false → utf8_valid_len page ≡ n → Injection text page (Err (PageUnclear n))
bad_byte text page n u e = subst (λ n. Injection text page (Err (PageUnclear n))) e (not_utf8 u)

refusal_examples : RefusalExamples
unfolding parts_of with_first within_of rest_of first_piece attribute is_map_start is_utf8 chars utf8_valid_len lib.Utf8.encode
refusal_examples = record { no_place = comes_of _ _ _ refl refl; cut_off = comes_of _ _ _ refl refl; not_utf8 = bad_byte _ _ _ refl refl; two_maps = comes_of _ _ _ refl refl; second_with_src = comes_of _ _ _ refl refl; base_before = comes_of _ _ _ refl refl; reference = comes_of _ _ _ refl refl; hidden = comes_of _ _ _ refl refl; unended_map = comes_of _ _ _ refl refl }

pub worked_examples : WorkedExamples
worked_examples = (page_examples, comment_examples, text_examples, tag_examples, raw_examples, attribute_examples, import_map_examples, injection_examples, refusal_examples)
