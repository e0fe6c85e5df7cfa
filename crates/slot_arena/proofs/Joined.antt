-- The rows of the chunks as one row.
use Rattle.std.proofs.Common.{◌≡◌, ℕ, zero, suc, ◌+◌, ◌*◌, ◌-◌, ◌/◌, ◌%◌, ◌<◌, List, [], ◌∷◌, ◌++◌, length, get_or, slice_set, replicate, Option, None, refl, sym, ap, ◌∙◌, subst, arith, length-append, length-set}
use Rattle.std.proofs.lemmas.List.{get_or_append_left, set-append_left, get_or-append_right, set-append_right, append-nil, append_assoc, append_cancel_right, replicate-append-replicate, replicate_more, same_from_push}
use native.Mathlib.Nat.{zero-mul, suc-mul, div-add-mod', mod-lt}
use Rattle.slot_arena.specs.Rows.{joined, AreChunks, with_chunks}

module _ {X : Type 0} where
  pub length-joined : (rows : List (List X)) → AreChunks rows → length (joined rows) ≡ length rows * 64
  length-joined [] w = refl
  length-joined (row ∷ rows) w = omega (arith, length-append row (joined rows), length-joined rows w.1, w.0, suc-mul (length rows) 64)

  pub length-chunk : (rows : List (List X)) (w : AreChunks rows) (q : ℕ) (c : List X) → q < length rows → c ≡ get_or rows q c → length c ≡ 64
  length-chunk [] w q c lt is = absurd (omega arith)
  length-chunk (row ∷ rows) w zero c lt is = ap length is ∙ w.0
  length-chunk (row ∷ rows) w (suc q) c lt is = length-chunk rows w.1 q c (omega arith) is

  pub chunks-set : (rows : List (List X)) (w : AreChunks rows) (q : ℕ) (c : List X) → length c ≡ 64 → AreChunks (slice_set rows q c)
  chunks-set [] w q c long = tt
  chunks-set (row ∷ rows) w zero c long = (long, w.1)
  chunks-set (row ∷ rows) w (suc q) c long = (w.0, chunks-set rows w.1 q c long)

  -- where the i-th place lies
  pub record Lies (rows : List (List X)) (i : ℕ) : Type 0 where
    pub chunk : i / 64 < length rows
    pub place : i % 64 < 64
    pub whole : i ≡ i / 64 * 64 + i % 64

  pub lies : (rows : List (List X)) → AreChunks rows → (i : ℕ) → i < length (joined rows) → Lies rows i
  lies rows w i lt =
      let whole : i ≡ i / 64 * 64 + i % 64 = sym (div-add-mod' i 64) in
      record {
        chunk = omega (arith, length-joined rows w, lt, whole);
        place = mod-lt i (omega arith);
        whole = whole;
      }

  get_or-joined_at : (rows : List (List X)) (w : AreChunks rows) (i q r : ℕ) (c : List X) (d : X) → i ≡ q * 64 + r → q < length rows → r < 64
      → c ≡ get_or rows q c → get_or (joined rows) i d ≡ get_or c r d
  get_or-joined_at [] w i q r c d e lt small is = absurd (omega arith)
  get_or-joined_at (row ∷ rows) w i zero r c d e lt small is =
      let same : i ≡ r = omega (arith, e, zero-mul 64) in
      subst (λ k. get_or (row ++ joined rows) k d ≡ get_or c r d) (sym same)
      (get_or_append_left row (joined rows) d r (omega (arith, w.0)) ∙ ap (λ l. get_or l r d) (sym is))
  get_or-joined_at (row ∷ rows) w i (suc q) r c d e lt small is =
      get_or-append_right row (joined rows) 64 i d w.0 (omega (arith, e, suc-mul q 64))
      ∙ get_or-joined_at rows w.1 (i - 64) q r c d (omega (arith, e, suc-mul q 64)) (omega arith) small is

  joined-set_at : (rows : List (List X)) (w : AreChunks rows) (i q r : ℕ) (c : List X) (v : X) → i ≡ q * 64 + r → q < length rows → r < 64
      → c ≡ get_or rows q c → joined (slice_set rows q (slice_set c r v)) ≡ slice_set (joined rows) i v
  joined-set_at [] w i q r c v e lt small is = absurd (omega arith)
  joined-set_at (row ∷ rows) w i zero r c v e lt small is =
      let same : i ≡ r = omega (arith, e, zero-mul 64) in
      subst (λ k. slice_set c r v ++ joined rows ≡ slice_set (row ++ joined rows) k v) (sym same)
      (ap (λ l. slice_set l r v ++ joined rows) is ∙ sym (set-append_left row (joined rows) r v (omega (arith, w.0))))
  joined-set_at (row ∷ rows) w i (suc q) r c v e lt small is =
      ap (λ l. row ++ l) (joined-set_at rows w.1 (i - 64) q r c v (omega (arith, e, suc-mul q 64)) (omega arith) small is)
      ∙ sym (set-append_right row (joined rows) 64 i v w.0 (omega (arith, e, suc-mul q 64)))

  -- the i-th place, by the chunk in which it lies
  pub get_or-joined : (rows : List (List X)) → AreChunks rows → (i : ℕ) → i < length (joined rows) → (c : List X) (d : X) → c ≡ get_or rows (i / 64) c
      → get_or (joined rows) i d ≡ get_or c (i % 64) d
  get_or-joined rows w i lt c d is = let l = lies rows w i lt in get_or-joined_at rows w i (i / 64) (i % 64) c d l.whole l.chunk l.place is

  pub joined-set : (rows : List (List X)) → AreChunks rows → (i : ℕ) → i < length (joined rows) → (c : List X) (v : X) → c ≡ get_or rows (i / 64) c
      → joined (slice_set rows (i / 64) (slice_set c (i % 64) v)) ≡ slice_set (joined rows) i v
  joined-set rows w i lt c v is = let l = lies rows w i lt in joined-set_at rows w i (i / 64) (i % 64) c v l.whole l.chunk l.place is

  pub chunks-set_at : (rows : List (List X)) (w : AreChunks rows) (i : ℕ) → i < length (joined rows) → (c : List X) (v : X) → c ≡ get_or rows (i / 64) c
      → AreChunks (slice_set rows (i / 64) (slice_set c (i % 64) v))
  chunks-set_at rows w i lt c v is =
      let l = lies rows w i lt in chunks-set rows w (i / 64) (slice_set c (i % 64) v) (length-set c (i % 64) v ∙ length-chunk rows w (i / 64) c l.chunk is)

pub all_empty : {X : Type 0} (row : List (Option X)) (n : ℕ) → length row ≡ n → ((i : ℕ) → i < n → get_or row i None ≡ None) → row ≡ replicate n None
all_empty [] zero e none = refl
all_empty [] (suc n) e none = absurd (omega (arith, e))
all_empty (v ∷ row) zero e none = absurd (omega (arith, e))
all_empty (v ∷ row) (suc n) e none = λ j. none 0 (omega arith) j ∷ all_empty row n (omega (arith, e)) (λ i lt. none (suc i) (omega (arith, lt))) j

-- chunks without a value behind the others
module _ {X : Type 0} where
  pub chunks-more : (rows : List (List (Option X))) → AreChunks rows → (n : ℕ) → AreChunks (with_chunks rows n)
  chunks-more [] w zero = tt
  chunks-more [] w (suc n) = (refl, chunks-more [] tt n)
  chunks-more (row ∷ rows) w n = (w.0, chunks-more rows w.1 n)

  pub joined-more : (rows : List (List (Option X))) (n : ℕ) → joined (with_chunks rows n) ≡ joined rows ++ replicate (n * 64) None
  joined-more [] zero = let none : Option X = None in let nothing : 0 ≡ 0 * 64 = omega arith in ap (λ k. replicate k none) nothing
  joined-more [] (suc n) =
      let none : Option X = None in let more : 64 + n * 64 ≡ suc n * 64 = omega (arith, suc-mul n 64) in
      ap (λ l. replicate 64 none ++ l) (joined-more [] n) ∙ replicate-append-replicate 64 (n * 64) none ∙ ap (λ k. replicate k none) more
  joined-more (row ∷ rows) n = ap (λ l. row ++ l) (joined-more rows n) ∙ sym (append_assoc row (joined rows) (replicate (n * 64) None))

  pub chunks-next : (rows : List (List (Option X))) (n : ℕ) → with_chunks rows n ++ replicate 64 None ∷ [] ≡ with_chunks rows (n + 1)
  chunks-next rows n =
      let empty : List (Option X) = replicate 64 None in
      append_assoc rows (replicate n empty) (empty ∷ []) ∙ ap (λ l. rows ++ l) (replicate_more n empty)

  pub chunks-last : (rows rest : List (List (Option X))) (last : List (Option X)) (n : ℕ) → 0 < n → rows ++ last ∷ [] ≡ with_chunks rest n
      → (rows ≡ with_chunks rest (n - 1)) × (last ≡ replicate 64 None)
  chunks-last rows rest last zero lt is = absurd (omega (arith, lt))
  chunks-last rows rest last (suc n) lt is =
      let more : n + 1 ≡ suc n = omega arith in let less : n ≡ suc n - 1 = omega arith in
      let same = same_from_push rows (with_chunks rest n) last (replicate 64 None) (is ∙ sym (chunks-next rest n ∙ ap (with_chunks rest) more)) in
      (same.0 ∙ ap (with_chunks rest) less, same.1)

  pub chunks-same : (rows others : List (List (Option X))) (n : ℕ) → with_chunks rows n ≡ with_chunks others n → rows ≡ others
  chunks-same rows others n is = append_cancel_right rows others (replicate n (replicate 64 None)) is
