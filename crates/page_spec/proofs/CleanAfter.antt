-- Pieces among which a map was put have no fault, and one import map element.
use Rattle.std.specs.Prelude.{◌&&◌, ◌||◌, codes, is_some, nat_eq}
use Rattle.std.specs.List.{starts_with}
use Rattle.std.specs.Cmp.{nat_eq_equiv}
use Rattle.std.proofs.Common.{◌≡◌, ℕ, ◌+◌, List, [], ◌∷◌, All, Bool, true, false, ◌==◌, Some, None, if◌then◌else◌, refl, sym, ◌∙◌, ap, subst}
use Rattle.std.proofs.Math.Bool.{and-false}
use Rattle.std.proofs.lemmas.Option.{same_Some}
use Rattle.std.proofs.lemmas.List.Elements.{All-head, All-tail}
use Rattle.page_spec.specs.declared.kinds.PieceKind.TheVariants.{Text, Start, End, Raw}
use Rattle.page_spec.specs.Pieces.{Part, part}
use Rattle.page_spec.specs.Attributes.{attribute, attribute_text}
use Rattle.page_spec.specs.ImportMaps.{is_raw, is_map_start, raw_behind, map_of, begins_map, with_map, import_maps}
use Rattle.page_spec.specs.Faults.{comment_at}
use Rattle.page_spec.specs.Injection.{start_tag, end_tag}
use Rattle.page_spec.proofs.Clean.{Clean, Fine, fine_moved, fine_seen}
use Rattle.page_spec.proofs.Clean.Clean.{no_more, fine}
use Rattle.page_spec.proofs.Maps.{NoMaps, no_import_maps, none_after, begun, begins_alike, no_start, raw_is_no_start}
use Rattle.page_spec.proofs.Maps.NoMaps.{no_piece, another}
use Rattle.page_spec.proofs.Putting.{Replaced, Inserted, replaced_raw, inserted_raw, map_of_alike}
use Rattle.page_spec.proofs.Putting.Replaced.{here, later}
use Rattle.page_spec.proofs.Putting.Inserted.{before, behind}

no_comment : (n : ℕ) (text : List ℕ) → All (λ b. (b == 60) ≡ false) text → comment_at n text ≡ None
no_comment n [] a = refl
no_comment n (b ∷ text) a = by_first (60 == b) (nat_eq_equiv.symm 60 b ∙ All-head (λ b. (b == 60) ≡ false) b text a) (no_comment (n + 1) text (All-tail (λ b. (b == 60) ≡ false) b text a)) where
  by_first : (c : Bool) → c ≡ false → comment_at (n + 1) text ≡ None → (if c && starts_with nat_eq text (codes "!--") then Some n else comment_at (n + 1) text) ≡ None
  by_first false e f = f
  by_first true e f = absurd (cc)

raw_begins_none : (text : List ℕ) (parts : List Part) → begins_map (part Raw text) parts ≡ false
raw_begins_none text parts = ap is_some (no_start (part Raw text) parts (raw_is_no_start (part Raw text) refl))

raw_fine : (seen : Bool) (text : List ℕ) (parts : List Part) → Fine seen (part Raw text) parts
raw_fine seen text parts =
    let n = raw_begins_none text parts in
    record { clear = ap (λ c. c && is_some (attribute_text (codes "src") text)) n; single = ap (λ c. seen && c) n ∙ and-false seen; uncommented = λ s. absurd (cc) }

raw_part_behind : (q : Part) (parts : List Part) → is_raw q.kind ≡ true → raw_behind (q ∷ parts) ≡ Some q.text
raw_part_behind q parts k = rw k refl

pub replaced_clean : (text : List ℕ) (seen : Bool) (parts others : List Part) → All (λ b. (b == 60) ≡ false) text → Clean seen parts → Replaced text parts others → Clean seen others
replaced_clean text seen parts others a no_more r = elim r [ ]
replaced_clean text seen parts others a (fine {p} f (fine {p = q} {parts = left} g l)) (here m k) =
    let begins_same : begins_map p (q ∷ left) ≡ begins_map p (part Raw text ∷ left) = begins_alike p (q ∷ left) (part Raw text ∷ left) (ap is_some (raw_part_behind q left k)) in
    let old : begins_map q left ≡ false = ap is_some (no_start q left (raw_is_no_start q k)) in
    let same : ((seen || begins_map p (q ∷ left)) || begins_map q left) ≡ ((seen || begins_map p (part Raw text ∷ left)) || begins_map (part Raw text) left) = ap (λ c. (seen || c) || begins_map q left) begins_same ∙ ap (λ c. (seen || begins_map p (part Raw text ∷ left)) || c) (old ∙ sym (raw_begins_none text left)) in
    fine (fine_moved seen p (q ∷ left) (part Raw text ∷ left) begins_same (λ raw s e. subst (λ r. comment_at 0 r ≡ None) (same_Some _ _ e) (no_comment 0 text a)) f) (fine (raw_fine (seen || begins_map p (part Raw text ∷ left)) text left) (subst (λ s. Clean s left) same l))
replaced_clean text seen parts others a (fine {p} {parts = left} f l) (later {others = right} n r) =
    let e = replaced_raw text left right r in
    let begins_same = ap is_some (map_of_alike p left right e) in
    fine (fine_moved seen p left right begins_same (λ raw s x. f.uncommented s raw (e ∙ x)) f) (replaced_clean text (seen || begins_map p right) left right a (subst (λ c. Clean (seen || c) left) begins_same l) r)

-- ---- a new element

seen_clean : (seen more : Bool) (parts : List Part) → NoMaps parts → Clean seen parts → Clean more parts
seen_clean seen more parts no_piece c = no_more
seen_clean seen more parts (another {p} {parts = left} e n) (fine f l) = fine (fine_seen seen more p left (ap is_some e) f) (seen_clean (seen || begins_map p left) (more || begins_map p left) left n l)

start_begins : (text : List ℕ) (parts : List Part) → map_of (part Start start_tag) (part Raw text ∷ parts) ≡ Some text
unfolding is_map_start attribute
start_begins text parts = refl

end_begins_none : (parts : List Part) → map_of (part End end_tag) parts ≡ None
unfolding is_map_start
end_begins_none parts = refl

text_begins_none : (text : List ℕ) (parts : List Part) → map_of (part Text text) parts ≡ None
unfolding is_map_start
text_begins_none text parts = refl

start_fine : (text : List ℕ) (parts : List Part) → All (λ b. (b == 60) ≡ false) text → Fine false (part Start start_tag) (part Raw text ∷ parts)
unfolding is_map_start attribute
start_fine text parts a = record { clear = refl; single = refl; uncommented = λ s raw e. subst (λ r. comment_at 0 r ≡ None) (same_Some _ _ e) (no_comment 0 text a) }

end_fine : (seen : Bool) (parts : List Part) → Fine seen (part End end_tag) parts
unfolding is_map_start
end_fine true parts = record { clear = refl; single = refl; uncommented = λ s. absurd (cc) }
end_fine false parts = record { clear = refl; single = refl; uncommented = λ s. absurd (cc) }

text_fine : (seen : Bool) (text : List ℕ) (parts : List Part) → Fine seen (part Text text) parts
unfolding is_map_start
text_fine true text parts = record { clear = refl; single = refl; uncommented = λ s. absurd (cc) }
text_fine false text parts = record { clear = refl; single = refl; uncommented = λ s. absurd (cc) }

pub inserted_clean : (text : List ℕ) (parts others : List Part) → All (λ b. (b == 60) ≡ false) text → NoMaps parts → Clean false parts → Inserted text parts others → Clean false others
inserted_clean text parts others a n c (before {p} {parts = left} i) =
    fine (start_fine text _ a) (fine (raw_fine _ text _) (fine (end_fine _ _) (fine (text_fine _ (10 ∷ []) _) (seen_clean false _ (p ∷ left) n c))))
inserted_clean text parts others a (another {p} e n) (fine {parts = left} f l) (behind {others = right} i r) =
    let raw = inserted_raw text left right r in
    let begins_same = ap is_some (map_of_alike p left right raw) in
    let none : begins_map p right ≡ false = sym begins_same ∙ ap is_some e in
    fine (fine_moved false p left right begins_same (λ raw_text s x. f.uncommented s raw_text (raw ∙ x)) f) (subst (λ c. Clean c right) (sym none) (inserted_clean text left right a n (subst (λ c. Clean c left) (ap is_some e) l) r))

-- ---- the one import map element

pub replaced_maps : (text : List ℕ) (parts others : List Part) → Clean false parts → Replaced text parts others → import_maps others ≡ text ∷ []
replaced_maps text parts others no_more r = elim r [ ]
replaced_maps text parts others (fine {p} f (fine {p = q} {parts = left} g l)) (here m k) =
    let first : map_of p (part Raw text ∷ left) ≡ Some text = begun p (part Raw text) left m refl in
    let next : map_of (part Raw text) left ≡ None = no_start (part Raw text) left (raw_is_no_start (part Raw text) refl) in
    let b : begins_map p (q ∷ left) ≡ true = ap is_some (begun p q left m k) in
    let rest : import_maps left ≡ [] = no_import_maps left (none_after _ left (ap (λ c. (false || c) || begins_map q left) b) l) in
    ap (λ o. with_map o (import_maps (part Raw text ∷ left))) first ∙ ap (λ r. text ∷ r) (ap (λ o. with_map o (import_maps left)) next ∙ rest)
replaced_maps text parts others (fine {p} {parts = left} f l) (later {others = right} n r) =
    let same = map_of_alike p left right (replaced_raw text left right r) in
    ap (λ o. with_map o (import_maps right)) (sym same ∙ n) ∙ replaced_maps text left right (subst (λ c. Clean c left) (ap is_some n) l) r

pub inserted_maps : (text : List ℕ) (parts others : List Part) → NoMaps parts → Inserted text parts others → import_maps others ≡ text ∷ []
inserted_maps text parts others n (before {p} {parts = left} i) =
    let after : import_maps (part Raw text ∷ part End end_tag ∷ part Text (10 ∷ []) ∷ p ∷ left) ≡ [] = no_import_maps _ (another (no_start (part Raw text) (part End end_tag ∷ part Text (10 ∷ []) ∷ p ∷ left) (raw_is_no_start (part Raw text) refl)) (another (end_begins_none (part Text (10 ∷ []) ∷ p ∷ left)) (another (text_begins_none (10 ∷ []) (p ∷ left)) n))) in
    ap (λ o. with_map o (import_maps (part Raw text ∷ part End end_tag ∷ part Text (10 ∷ []) ∷ p ∷ left))) (start_begins text (part End end_tag ∷ part Text (10 ∷ []) ∷ p ∷ left)) ∙ ap (λ r. text ∷ r) after
inserted_maps text parts others (another {p} e n) (behind {parts = left} {others = right} i r) =
    ap (λ o. with_map o (import_maps right)) (sym (map_of_alike p left right (inserted_raw text left right r)) ∙ e) ∙ inserted_maps text left right n r
