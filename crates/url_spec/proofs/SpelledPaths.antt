-- What the segments of an escaped path spell.
use Rattle.std.proofs.Common.{◌≡◌, ◌≢◌, ◌<◌, ◌==◌, ◌∷◌, ◌++◌, [], ℕ, List, Bool, true, not, length, refl, sym, ap, ◌∙◌, subst, All, arith, inl, inr, append-nil}
use Rattle.std.specs.Prelude.{codes, filter, flat_map}
use Rattle.std.specs.List.{onto_first}
use Rattle.std.proofs.lemmas.Bool.{cond-true, cond-false, cases_Bool, ne_eqb, true≢false}
use Rattle.std.proofs.lemmas.Grind.{flat_map-append}
use Rattle.std.proofs.lemmas.List.Elements.{All-head, All-tail, filter-append}
use Rattle.percent_encoding.specs.Percent.{percent_decode}
use Rattle.percent_encoding.proofs.PercentLemmas.{percent_decode-nil, percent_decode_not_percent, percent_decode-percent_encode_byte, IsEscapeByte}
use Rattle.tree_spec.proofs.PathParts.{IsFront, at_root as front_at_root, at_other, front_of}
use Rattle.tree_spec.proofs.Fronts.{all_front, all_behind}
use Rattle.tree_spec.specs.Paths.{IsPath, IsSegment, HasDepth, root, child}
use Rattle.url_spec.specs.ServedPaths.{segments, read_segment}
use Rattle.url_spec.specs.WebNames.{is_plain, escaped}
use Rattle.url_spec.proofs.FileUrls.{All_escaped, escaped-append, escaped_plain, escaped_other, some_escaped, nothing_escaped}

-- ---- segments

pub record HasFirst (parts : List (List ℕ)) : Type 0 where
  pub first : List ℕ
  pub more : List (List ℕ)
  pub split : parts ≡ first ∷ more

first_segment : (text : List ℕ) → HasFirst (segments text)
first_segment [] = record { first = []; more = []; split = refl }
first_segment (b ∷ text) =
    elim (cases_Bool (b == 47)) [
      | inl slash ↦ record { first = []; more = segments text; split = cond-true _ _ _ slash }
      | inr other ↦ let tail = first_segment text in record { first = b ∷ tail.first; more = tail.more; split = cond-false _ _ _ other ∙ ap (onto_first b) tail.split }
    ]

onto_front : (b : ℕ) (parts others : List (List ℕ)) → HasFirst parts → onto_first b (parts ++ others) ≡ onto_first b parts ++ others
onto_front b parts others h = ap (λ ps. onto_first b (ps ++ others)) h.split ∙ sym (ap (λ ps. onto_first b ps ++ others) h.split)

pub segments_behind : (text more : List ℕ) → segments (text ++ 47 ∷ more) ≡ segments text ++ segments more
segments_behind [] more = refl
segments_behind (b ∷ text) more =
    elim (cases_Bool (b == 47)) [
      | inl slash ↦ cond-true _ _ _ slash ∙ (ap (λ (parts : List (List ℕ)). [] ∷ parts) (segments_behind text more) ∙ sym (ap (λ (parts : List (List ℕ)). parts ++ segments more) (cond-true _ _ _ slash)))
      | inr other ↦ cond-false _ _ _ other
          ∙ (ap (onto_first b) (segments_behind text more) ∙ (onto_front b (segments text) (segments more) (first_segment text) ∙ sym (ap (λ (parts : List (List ℕ)). parts ++ segments more) (cond-false _ _ _ other))))
    ]

one_segment : (text : List ℕ) → All (λ b. b ≢ 47) text → segments text ≡ text ∷ []
one_segment [] none = refl
one_segment (b ∷ text) none =
    cond-false _ _ _ (ne_eqb b 47 (All-head (λ c. c ≢ 47) b text none)) ∙ ap (onto_first b) (one_segment text (All-tail (λ c. c ≢ 47) b text none))

-- ---- what an escaped name spells

plain_no_percent : (b : ℕ) → is_plain b ≡ true → b ≢ 37
plain_no_percent b plain e = true≢false (sym plain ∙ ap is_plain e)

pub decoded : (name : List ℕ) → All (λ b. b < 256) name → percent_decode (escaped name) ≡ name
unfolding escaped
decoded [] small = percent_decode-nil
decoded (b ∷ name) small =
    let rest = decoded name (All-tail (λ c. c < 256) b name small) in
    elim (cases_Bool (is_plain b)) [
      | inl plain ↦ ap percent_decode (escaped_plain b name plain) ∙ (percent_decode_not_percent b (escaped name) (plain_no_percent b plain) ∙ ap (λ xs. b ∷ xs) rest)
      | inr other ↦ ap percent_decode (escaped_other b name other) ∙ (percent_decode-percent_encode_byte b (escaped name) (All-head (λ c. c < 256) b name small) ∙ ap (λ xs. b ∷ xs) rest)
    ]

escape_apart_from_slash : (b : ℕ) → IsEscapeByte b → b ≢ 47
escape_apart_from_slash b escape e = grind arith

abbrev pub is_some_name : List ℕ → Bool
is_some_name name = not (length name == 0)

abbrev pub spelled : List ℕ → List ℕ
spelled text = flat_map read_segment (filter is_some_name (segments text))

some_kept : (name : List ℕ) → 0 < length name → filter is_some_name (name ∷ []) ≡ name ∷ []
some_kept name some =
    cond-true _ _ _ (ap not (ne_eqb (length name) 0 (λ e. absurd (omega (arith, e, some)))))

name_segments : (name : List ℕ) → IsSegment name → All (λ b. b < 256) name
    → filter is_some_name (segments (escaped name)) ≡ escaped name ∷ []
name_segments name is small =
    ap (filter is_some_name)
    (one_segment (escaped name) (All_escaped (λ b. b ≢ 47) (λ b. b ≢ 47) name is.no_slash (λ b other plain. other) escape_apart_from_slash))
    ∙ some_kept (escaped name) (some_escaped name is.nonempty)

name_spelled : (name : List ℕ) → IsSegment name → All (λ b. b < 256) name → spelled (escaped name) ≡ 47 ∷ name
name_spelled name is small =
    ap (flat_map read_segment) (name_segments name is small)
    ∙ (ap (λ xs. 47 ∷ xs) (append-nil (percent_decode (escaped name))) ∙ ap (λ xs. 47 ∷ xs) (decoded name small))

pub spelled_behind : (text more : List ℕ) → spelled (text ++ 47 ∷ more) ≡ spelled text ++ spelled more
spelled_behind text more =
    ap (λ ps. flat_map read_segment (filter is_some_name ps)) (segments_behind text more)
    ∙ (ap (flat_map read_segment) (filter-append is_some_name (segments text) (segments more))
    ∙ flat_map-append read_segment (filter is_some_name (segments text)) (filter is_some_name (segments more)))

-- ---- what an escaped path spells

at_slash : (front name : List ℕ) → escaped (front ++ 47 ∷ name) ≡ escaped front ++ 47 ∷ escaped name
at_slash front name = escaped-append front (47 ∷ name) ∙ ap (λ xs. escaped front ++ xs) (escaped_plain 47 name refl)

front_spelled : (parent front : List ℕ) → IsFront parent front → All (λ b. b < 256) front
    → (parent ≢ codes "/" → All (λ b. b < 256) parent → spelled (escaped parent) ≡ parent)
    → spelled (escaped front) ≡ front
front_spelled parent front (front_at_root _ _ a b) small up = ap (λ f. spelled (escaped f)) b ∙ (ap spelled nothing_escaped ∙ sym b)
front_spelled parent front (at_other _ _ a b) small up =
    ap (λ f. spelled (escaped f)) b ∙ (up a (subst (All (λ c. c < 256)) b small) ∙ sym b)

spelled_depth : (depth : ℕ) (path : List ℕ) → HasDepth depth path → path ≢ codes "/" → All (λ b. b < 256) path
    → spelled (escaped path) ≡ path
spelled_depth _ path (root _ e) other small = absurd (other e)
spelled_depth _ path (child depth deeper parent name _ up is next e) other small =
    let has = front_of parent name in
    let text : path ≡ has.front ++ 47 ∷ name = e ∙ has.text_is in
    let parts : All (λ b. b < 256) (has.front ++ 47 ∷ name) = subst (All (λ b. b < 256)) text small in
    let front_small : All (λ b. b < 256) has.front = all_front (λ b. b < 256) has.front (47 ∷ name) parts in
    let name_small : All (λ b. b < 256) name = All-tail (λ b. b < 256) 47 name (all_behind (λ b. b < 256) has.front (47 ∷ name) parts) in
    ap (λ p. spelled (escaped p)) text
    ∙ (ap spelled (at_slash has.front name)
    ∙ (spelled_behind (escaped has.front) (escaped name)
    ∙ (ap (λ xs. spelled (escaped has.front) ++ xs) (name_spelled name is name_small)
    ∙ (ap (λ xs. xs ++ 47 ∷ name)
    (front_spelled parent has.front has.is_front front_small (λ a s. spelled_depth depth parent up a s)) ∙ sym text))))

pub path_spelled : (path : List ℕ) → IsPath path → path ≢ codes "/" → All (λ b. b < 256) path
    → spelled (escaped path) ≡ path
path_spelled path is other small = spelled_depth is.depth path is.segments other small
