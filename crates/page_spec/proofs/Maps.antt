-- Where an import map element begins, and pieces without one.
use Rattle.std.specs.Prelude.{◌&&◌, ◌||◌, is_some}
use Rattle.std.proofs.Common.{◌≡◌, ℕ, ◌+◌, List, [], ◌∷◌, length, Bool, true, false, Option, Some, None, if◌then◌else◌, refl, ◌∙◌, ap, subst}
use Rattle.std.proofs.lemmas.Option.{same_Some}
use Rattle.page_spec.specs.declared.kinds.PieceKind.{PieceKind}
use Rattle.page_spec.specs.declared.kinds.PieceKind.TheVariants.{Text, Comment, Start, End, Raw, Broken}
use Rattle.page_spec.specs.Pieces.{Part}
use Rattle.page_spec.specs.ImportMaps.{is_start, is_raw, is_map_start, raw_behind, map_of, begins_map, with_map, import_maps}
use Rattle.page_spec.specs.Injection.{span_or, map_span}
use Rattle.page_spec.proofs.Clean.{Clean}
use Rattle.page_spec.proofs.Clean.Clean.{no_more, fine}

-- an import map element begins with the piece: the raw text behind it
pub data Begins (p : Part) : List Part → List ℕ → Type 0 where
  begins : {q : Part} {left : List Part} → is_map_start p ≡ true → is_raw q.kind ≡ true → Begins p (q ∷ left) q.text

begins_by : (c d : Bool) (p q : Part) (left : List Part) (raw : List ℕ) → is_map_start p ≡ c → is_raw q.kind ≡ d → (if c then (if d then Some q.text else None) else None) ≡ Some raw → Begins p (q ∷ left) raw
begins_by true true p q left raw m k e = subst (λ r. Begins p (q ∷ left) r) (same_Some _ _ e) (begins m k)
begins_by true false p q left raw m k e = absurd (cc)
begins_by false d p q left raw m k e = absurd (cc)

nothing_behind : (c : Bool) (raw : List ℕ) → (if c then None else None) ≡ Some raw → ⊥
nothing_behind true raw e = absurd (cc)
nothing_behind false raw e = absurd (cc)

pub map_begins : (p : Part) (parts : List Part) (raw : List ℕ) → map_of p parts ≡ Some raw → Begins p parts raw
map_begins p [] raw e = absurd (nothing_behind (is_map_start p) raw e)
map_begins p (q ∷ left) raw e = begins_by (is_map_start p) (is_raw q.kind) p q left raw refl refl e

pub begun : (p q : Part) (left : List Part) → is_map_start p ≡ true → is_raw q.kind ≡ true → map_of p (q ∷ left) ≡ Some q.text
begun p q left m k = rw (m, k) refl

-- whether one begins turns on the piece and on whether raw text follows
pub begins_alike : (p : Part) (parts others : List Part) → is_some (raw_behind parts) ≡ is_some (raw_behind others) → begins_map p parts ≡ begins_map p others
begins_alike p parts others e = by_start (is_map_start p) where
  by_start : (c : Bool) → is_some (if c then raw_behind parts else None) ≡ is_some (if c then raw_behind others else None)
  by_start true = e
  by_start false = refl

pub no_map : (p : Part) (parts : List Part) → begins_map p parts ≡ false → map_of p parts ≡ None
no_map p parts e = none (map_of p parts) e where
  none : (o : Option (List ℕ)) → is_some o ≡ false → o ≡ None
  none None e = refl
  none (Some x) e = absurd (cc)

pub no_start : (p : Part) (parts : List Part) → is_map_start p ≡ false → map_of p parts ≡ None
no_start p parts e = rw e refl

pub only_starts : (p : Part) → is_start p.kind ≡ false → is_map_start p ≡ false
unfolding is_map_start
only_starts p e = rw e refl

pub raw_is_no_start : (p : Part) → is_raw p.kind ≡ true → is_map_start p ≡ false
raw_is_no_start p e = only_starts p (other p.kind e) where
  other : (k : PieceKind) → is_raw k ≡ true → is_start k ≡ false
  other Raw e = refl
  other Start e = absurd (cc)
  other End e = refl
  other Text e = refl
  other Comment e = refl
  other Broken e = refl

-- ---- pieces without an import map element

pub data NoMaps : List Part → Type 0 where
  no_piece : NoMaps []
  another : {p : Part} {parts : List Part} → map_of p parts ≡ None → NoMaps parts → NoMaps (p ∷ parts)

pub no_import_maps : (parts : List Part) → NoMaps parts → import_maps parts ≡ []
no_import_maps parts no_piece = refl
no_import_maps parts (another {p} {parts = more} e n) = ap (λ o. with_map o (import_maps more)) e ∙ no_import_maps more n

no_span_by : (n : ℕ) (p : Part) (parts : List Part) (o : Option (List ℕ)) → map_of p parts ≡ o → span_or n o (map_span n parts) ≡ None → (map_span n parts ≡ None → NoMaps parts) → NoMaps (p ∷ parts)
no_span_by n p parts None m e go = another m (go e)
no_span_by n p parts (Some raw) m e go = absurd (cc)

pub no_span : (n : ℕ) (parts : List Part) → map_span n parts ≡ None → NoMaps parts
no_span n [] e = no_piece
no_span n (p ∷ parts) e = no_span_by (n + length p.text) p parts (map_of p parts) refl e (λ f. no_span (n + length p.text) parts f)

pub none_after : (seen : Bool) (parts : List Part) → seen ≡ true → Clean seen parts → NoMaps parts
none_after seen parts s no_more = no_piece
none_after seen parts s (fine {p} {parts = more} f c) = another (no_map p more (subst (λ b. (b && begins_map p more) ≡ false) s f.single)) (none_after _ more (ap (λ b. b || begins_map p more) s) c)
