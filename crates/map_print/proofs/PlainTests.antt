-- The tests of plain texts, byte after byte.
use Rattle.std.proofs.Common.{◌≡◌, ◌==◌, ◌&&◌, ◌++◌, ◌∷◌, [], ℕ, Bool, true, false, not, List, length, refl, sym, ap, ◌∙◌, arith, All, flat_map, if◌then◌else◌, codes, subst, append_assoc}
use Rattle.std.specs.List.{list_all}
use Rattle.std.specs.Prelude.{nat_lt, ◌||◌}
use Rattle.std.proofs.lemmas.Bool.{and_from, and_parts, cond-true, cond-false, and_left}
use Rattle.std.proofs.lemmas.List.Elements.{All-head, All-tail, All-cons}
use Rattle.json_spec.specs.PrintedString.{escaped_byte, escaped, quoted}
use Rattle.url.proofs.InputLemmas.{Passes}
use Rattle.map_print.proofs.PlainPaths.{path_implies, path_bytes}
use Rattle.map_print.proofs.PlainRests.{plain_rests}
use Rattle.map_print.specs.PlainRests.{is_path_byte, begins_segment, begin_segments, is_plain_rest, HasPlainSegments, IsPlainBase, IsPlainShort}

-- a byte that fails, one that passes, and none
pub fails_here : (text rest more : List ℕ) (first : ℕ) → rest ≡ first ∷ more → list_all is_path_byte text ≡ list_all is_path_byte rest → is_path_byte first ≡ false → list_all is_path_byte text ≡ false
fails_here text rest more first split same fails = same ∙ (ap (list_all is_path_byte) split ∙ and_left _ _ fails)

pub passes_here : (text rest more : List ℕ) (first : ℕ) → rest ≡ first ∷ more → list_all is_path_byte text ≡ list_all is_path_byte rest → is_path_byte first ≡ true → list_all is_path_byte text ≡ list_all is_path_byte more
passes_here text rest more first split same passes = same ∙ (ap (list_all is_path_byte) split ∙ ap (λ (t : Bool). t && list_all is_path_byte more) passes)

pub none_left : (text rest : List ℕ) → length rest ≡ 0 → list_all is_path_byte text ≡ list_all is_path_byte rest → list_all is_path_byte text ≡ true
none_left text [] none same = same
none_left text (b ∷ rest) none same = absurd (omega arith)

-- what is right of the rest is right of the text
pub record Leads (text rest : List ℕ) : Type 0 where
  pub bytes : list_all is_path_byte rest ≡ true → list_all is_path_byte text ≡ true
  pub segments : begin_segments rest ≡ true → begin_segments text ≡ true

pub leads_itself : (text : List ℕ) → Leads text text
leads_itself text = record { bytes = λ e. e; segments = λ e. e }

pub leads_on : (text rest more : List ℕ) (first : ℕ) → rest ≡ first ∷ more → Leads text rest → (is_path_byte first && (if first == 47 then begins_segment more else true)) ≡ true → Leads text more
leads_on text rest more first split leads well =
    let both = and_parts _ _ well in
    record {
      bytes = λ e. leads.bytes (ap (list_all is_path_byte) split ∙ and_from _ _ both.0 e);
      segments = λ e. leads.segments (ap begin_segments split ∙ and_from _ _ both.1 e);
    }

pub leads_to_end : (text rest : List ℕ) → length rest ≡ 0 → Leads text rest → HasPlainSegments text
leads_to_end text [] none leads = record { bytes = leads.bytes refl; segments = leads.segments refl }
leads_to_end text (b ∷ rest) none leads = absurd (omega arith)

pub plain_from : (text : List ℕ) → begins_segment text ≡ true → HasPlainSegments text → is_plain_rest text ≡ true
plain_from text begins has = and_from _ _ has.bytes (and_from _ _ begins has.segments)

-- ---- nothing is escaped in it

path_unescaped : (b : ℕ) → is_path_byte b ≡ true → escaped_byte b ≡ b ∷ []
path_unescaped b is =
    cond-false _ _ _ (from_not (b == 34 || b == 92) (path_implies (λ x. not (x == 34 || x == 92)) refl b is))
    ∙ cond-false _ _ _ (from_not (nat_lt b 32 || b == 60) (path_implies (λ x. not (nat_lt x 32 || x == 60)) refl b is))
  where
    from_not : (x : Bool) → not x ≡ true → x ≡ false
    from_not false e = refl
    from_not true e = sym e

unescaped : (text : List ℕ) → All (Passes is_path_byte) text → escaped text ≡ text
unescaped [] all = refl
unescaped (b ∷ text) all =
    ap (λ (xs : List ℕ). xs ++ escaped text) (path_unescaped b (All-head (Passes is_path_byte) b text all))
    ∙ ap (λ (xs : List ℕ). b ∷ xs) (unescaped text (All-tail (Passes is_path_byte) b text all))

pub plain_quoted : (rest : List ℕ) → is_plain_rest rest ≡ true → quoted (codes "./" ++ rest) ≡ 34 ∷ 46 ∷ 47 ∷ (rest ++ 34 ∷ [])
plain_quoted rest plain = ap (λ (xs : List ℕ). 34 ∷ 46 ∷ 47 ∷ (xs ++ 34 ∷ [])) (unescaped rest (path_bytes rest plain))

-- the pieces that are written are the short form
pub plain_pushed : (out one two three front bytes rest : List ℕ) → one ≡ out ++ front → front ≡ 34 ∷ 46 ∷ 47 ∷ [] → two ≡ one ++ bytes → bytes ≡ rest → three ≡ two ++ 34 ∷ [] → is_plain_rest rest ≡ true → three ≡ out ++ quoted (codes "./" ++ rest)
plain_pushed out one two three front bytes rest first is second same third plain =
    third
    ∙ (ap (λ (xs : List ℕ). xs ++ 34 ∷ []) (second ∙ (ap (λ (xs : List ℕ). xs ++ bytes) (first ∙ ap (λ (xs : List ℕ). out ++ xs) is) ∙ ap (λ (xs : List ℕ). (out ++ 34 ∷ 46 ∷ 47 ∷ []) ++ xs) same))
    ∙ (append_assoc (out ++ 34 ∷ 46 ∷ 47 ∷ []) rest (34 ∷ [])
    ∙ (append_assoc out (34 ∷ 46 ∷ 47 ∷ []) (rest ++ 34 ∷ [])
    ∙ ap (λ (xs : List ℕ). out ++ xs) (sym (plain_quoted rest plain)))))

pub short_of_plain : (base rest : List ℕ) → IsPlainBase base → is_plain_rest rest ≡ true → IsPlainShort base rest
short_of_plain base rest base_is plain = record { bytes = plain; is_short = plain_rests base rest base_is plain }
