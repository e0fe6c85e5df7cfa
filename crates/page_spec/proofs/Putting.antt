-- A map put among the pieces: in the place of an import map element's raw text, or as a new element before a place.
use Rattle.std.specs.Prelude.{◌&&◌, ◌||◌, codes, drop}
use Rattle.std.proofs.Common.{◌≡◌, ℕ, ◌+◌, List, [], ◌∷◌, ◌++◌, length, Bool, true, false, Option, Some, None, if◌then◌else◌, append_assoc, refl, sym, ◌∙◌, ap, arith}
use Rattle.std.proofs.lemmas.List.{length-append}
use Rattle.page_spec.specs.declared.kinds.PieceKind.{PieceKind}
use Rattle.page_spec.specs.declared.kinds.PieceKind.TheVariants.{Text, Comment, Start, End, Raw, Broken}
use Rattle.page_spec.specs.Pieces.{Part, part, tag_name, is_name, page_of}
use Rattle.page_spec.specs.ImportMaps.{is_raw, is_start, is_end, is_map_start, raw_behind, map_of}
use Rattle.page_spec.specs.Injection.{span_or, map_span, is_place, place, start_tag, end_tag, element}
use Rattle.page_spec.specs.Laws.{map_element, PutBetween}
use Rattle.page_spec.specs.Laws.PutBetween.{in_place, new}
use Rattle.page_spec.proofs.Maps.{Begins, map_begins, begun}
use Rattle.page_spec.proofs.Maps.Begins.{begins}

pub data Replaced (text : List ℕ) : List Part → List Part → Type 0 where
  here : {p q : Part} {parts : List Part} → is_map_start p ≡ true → is_raw q.kind ≡ true → Replaced text (p ∷ q ∷ parts) (p ∷ part Raw text ∷ parts)
  later : {p : Part} {parts others : List Part} → map_of p parts ≡ None → Replaced text parts others → Replaced text (p ∷ parts) (p ∷ others)

pub data Inserted (text : List ℕ) : List Part → List Part → Type 0 where
  before : {p : Part} {parts : List Part} → is_place p ≡ true → Inserted text (p ∷ parts) (map_element text ++ p ∷ parts)
  behind : {p : Part} {parts others : List Part} → is_place p ≡ false → Inserted text parts others → Inserted text (p ∷ parts) (p ∷ others)

-- ---- the other pieces stand

put_behind : (text : List ℕ) (p : Part) (parts others : List Part) → PutBetween text parts others → PutBetween text (p ∷ parts) (p ∷ others)
put_behind text p parts others (in_place some start raw more) = in_place (p ∷ some) start raw more
put_behind text p parts others (new some more) = new (p ∷ some) more

pub replaced_between : (text : List ℕ) (parts others : List Part) → Replaced text parts others → PutBetween text parts others
replaced_between text parts others (here {p} {q} {parts = left} m k) = in_place [] p q left
replaced_between text parts others (later {p} {parts = left} {others = right} n r) = put_behind text p left right (replaced_between text left right r)

pub inserted_between : (text : List ℕ) (parts others : List Part) → Inserted text parts others → PutBetween text parts others
inserted_between text parts others (before {p} {parts = left} i) = new [] (p ∷ left)
inserted_between text parts others (behind {p} {parts = left} {others = right} i r) = put_behind text p left right (inserted_between text left right r)

-- ---- what follows a piece before the map

pub replaced_raw : (text : List ℕ) (parts others : List Part) → Replaced text parts others → raw_behind parts ≡ raw_behind others
replaced_raw text parts others (here m k) = refl
replaced_raw text parts others (later n r) = refl

place_kind_by : (k : PieceKind) (a b c : Bool) → (is_start k && a || is_start k && b || is_end k && c) ≡ true → is_raw k ≡ false
place_kind_by Start a b c e = refl
place_kind_by End a b c e = refl
place_kind_by Text a b c e = refl
place_kind_by Comment a b c e = refl
place_kind_by Broken a b c e = refl
place_kind_by Raw a b c e = absurd (cc)

pub place_kind : (p : Part) → is_place p ≡ true → is_raw p.kind ≡ false
place_kind p i = place_kind_by p.kind (is_name (codes "script") (tag_name (drop 1 p.text))) (is_name (codes "link") (tag_name (drop 1 p.text))) (is_name (codes "head") (tag_name (drop 2 p.text))) i

pub inserted_raw : (text : List ℕ) (parts others : List Part) → Inserted text parts others → raw_behind parts ≡ raw_behind others
inserted_raw text parts others (before {p} i) = let k = place_kind p i in rw k refl
inserted_raw text parts others (behind i r) = refl

pub map_of_alike : (p : Part) (parts others : List Part) → raw_behind parts ≡ raw_behind others → map_of p parts ≡ map_of p others
map_of_alike p parts others e = ap (λ r. if is_map_start p then r else None) e

-- ---- where the bytes change

pub record Site (text : List ℕ) (n : ℕ) (parts others : List Part) : Type 0 where
  pub front : List ℕ
  pub old : List ℕ
  pub back : List ℕ
  pub span : map_span n parts ≡ Some (n + length front, (n + length front) + length old)
  pub was : page_of parts ≡ front ++ (old ++ back)
  pub now : page_of others ≡ front ++ (text ++ back)

-- an offset behind two texts, one after the other, and behind both as one
pub longer : (n : ℕ) (xs ys : List ℕ) → (n + length xs) + length ys ≡ n + length (xs ++ ys)
longer n xs ys = let l = length-append xs ys in omega (arith, l)

pub replaced_site : (text : List ℕ) (n : ℕ) (parts others : List Part) → Replaced text parts others → Site text n parts others
replaced_site text n parts others (here {p} {q} {parts = left} m k) = record { front = p.text; old = q.text; back = page_of left; span = ap (λ o. span_or (n + length p.text) o (map_span (n + length p.text) (q ∷ left))) (begun p q left m k); was = refl; now = refl }
replaced_site text n parts others (later {p} {parts = left} {others = right} e r) =
    let s = replaced_site text (n + length p.text) left right r in
    record {
      front = p.text ++ s.front;
      old = s.old;
      back = s.back;
      span = ap (λ o. span_or (n + length p.text) o (map_span (n + length p.text) left)) e ∙ (s.span ∙ ap (λ m. Some (m, m + length s.old)) (longer n p.text s.front));
      was = ap (λ r. p.text ++ r) s.was ∙ sym (append_assoc p.text s.front (s.old ++ s.back));
      now = ap (λ r. p.text ++ r) s.now ∙ sym (append_assoc p.text s.front (text ++ s.back));
    }

pub record Place (text : List ℕ) (n : ℕ) (parts others : List Part) : Type 0 where
  pub front : List ℕ
  pub back : List ℕ
  pub at_place : place n parts ≡ Some (n + length front)
  pub was : page_of parts ≡ front ++ back
  pub now : page_of others ≡ front ++ (element text ++ back)

element_texts : (text : List ℕ) (parts : List Part) → page_of (map_element text ++ parts) ≡ element text ++ page_of parts
element_texts text parts = sym (append_assoc start_tag (text ++ (end_tag ++ 10 ∷ [])) (page_of parts) ∙ ap (λ r. start_tag ++ r) (append_assoc text (end_tag ++ 10 ∷ []) (page_of parts) ∙ ap (λ r. text ++ r) (append_assoc end_tag (10 ∷ []) (page_of parts))))

zero_more : (n : ℕ) → n ≡ n + 0
zero_more n = omega arith

pub inserted_place : (text : List ℕ) (n : ℕ) (parts others : List Part) → Inserted text parts others → Place text n parts others
inserted_place text n parts others (before {p} {parts = left} i) = record { front = []; back = page_of (p ∷ left); at_place = rw i (ap Some (zero_more n)); was = refl; now = element_texts text (p ∷ left) }
inserted_place text n parts others (behind {p} {parts = left} {others = right} i r) =
    let s = inserted_place text (n + length p.text) left right r in
    record {
      front = p.text ++ s.front;
      back = s.back;
      at_place = rw i (s.at_place ∙ ap (λ m. Some m) (longer n p.text s.front));
      was = ap (λ r. p.text ++ r) s.was ∙ sym (append_assoc p.text s.front s.back);
      now = ap (λ r. p.text ++ r) s.now ∙ sym (append_assoc p.text s.front (element text ++ s.back));
    }

-- ---- the pieces that a span and a place tell of

pub record SomeReplaced (text : List ℕ) (parts : List Part) : Type 0 where
  pub others : List Part
  pub is : Replaced text parts others

replaced_by : (text : List ℕ) (p : Part) (parts : List Part) (raw : List ℕ) → Begins p parts raw → SomeReplaced text (p ∷ parts)
replaced_by text p parts raw (begins {q} {left} m k) = record { others = p ∷ part Raw text ∷ left; is = here m k }

some_replaced_by : (text : List ℕ) (n : ℕ) (p : Part) (parts : List Part) (o : Option (List ℕ)) {sp : ℕ × ℕ} → map_of p parts ≡ o → span_or n o (map_span n parts) ≡ Some sp → (map_span n parts ≡ Some sp → SomeReplaced text parts) → SomeReplaced text (p ∷ parts)
some_replaced_by text n p parts None m e go = let s = go e in record { others = p ∷ s.others; is = later m s.is }
some_replaced_by text n p parts (Some raw) m e go = replaced_by text p parts raw (map_begins p parts raw m)

pub some_replaced : (text : List ℕ) (n : ℕ) (parts : List Part) {sp : ℕ × ℕ} → map_span n parts ≡ Some sp → SomeReplaced text parts
some_replaced text n [] e = absurd (cc)
some_replaced text n (p ∷ parts) e = some_replaced_by text (n + length p.text) p parts (map_of p parts) refl e (λ f. some_replaced text (n + length p.text) parts f)

pub record SomeInserted (text : List ℕ) (parts : List Part) : Type 0 where
  pub others : List Part
  pub is : Inserted text parts others

some_inserted_by : (text : List ℕ) (n : ℕ) (p : Part) (parts : List Part) (c : Bool) {m : ℕ} → is_place p ≡ c → (if c then Some n else place (n + length p.text) parts) ≡ Some m → (place (n + length p.text) parts ≡ Some m → SomeInserted text parts) → SomeInserted text (p ∷ parts)
some_inserted_by text n p parts true i e go = record { others = map_element text ++ p ∷ parts; is = before i }
some_inserted_by text n p parts false i e go = let s = go e in record { others = p ∷ s.others; is = behind i s.is }

pub some_inserted : (text : List ℕ) (n : ℕ) (parts : List Part) {m : ℕ} → place n parts ≡ Some m → SomeInserted text parts
some_inserted text n [] e = absurd (cc)
some_inserted text n (p ∷ parts) e = some_inserted_by text n p parts (is_place p) refl e (λ f. some_inserted text (n + length p.text) parts f)

-- ---- again

pub replaced_again : (text : List ℕ) (parts others : List Part) → Replaced text parts others → Replaced text others others
replaced_again text parts others (here m k) = here m refl
replaced_again text parts others (later {p} {parts = left} {others = right} n r) = later (sym (map_of_alike p left right (replaced_raw text left right r)) ∙ n) (replaced_again text left right r)
