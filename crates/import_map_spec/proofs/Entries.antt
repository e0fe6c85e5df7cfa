-- What stands among the entries of a finite map from texts.
use Rattle.std.proofs.Common.{refl, ap, sym, ◌∙◌}
use Rattle.std.proofs.lemmas.Bool.{cond-true, cond-false, cases_Bool}
use Rattle.std.proofs.lemmas.Cmp.{tied_itself}
use Rattle.std.specs.Cmp.Lexicographic.{slice_cmp, nat_list_cmp_total}
use Rattle.std.specs.FinMap.{slice_cmp-IsAntisymmetric, nat_cmp-IsAntisymmetric, get, insert, get-insert, empty, get-empty, same_map, entries, find, is_sorted, get-entries, entries_sorted, len-entries, len-empty}
use Rattle.std.proofs.lemmas.List.{nil_from_length}
use Rattle.std.specs.FinMap.Entries.{below_all}
use Rattle.std.specs.Ordering.{nat_cmp, eq_by_cmp, is_eq, is_lt}
use Rattle.std.specs.Prelude.{◌⊎◌, ℕ, Bool, List, ◌≡◌, true, false, ◌&&◌, T, Option, Some, None, cond, [], ◌∷◌, ⊤}
use Rattle.std.specs.declared.cmp.Ordering.{Ordering}
use Rattle.std.specs.declared.cmp.Ordering.TheVariants.{Less, Equal, Greater}
use Rattle.std.specs.Option.{option_or}
use mathlib.Core.Logic.{inl, inr}
use Rattle.import_map_spec.specs.ParsedMap.{Texts}
use Rattle.import_map_spec.specs.WrittenMaps.{insert_all}

-- the same text, as the order of keys has it
abbrev pub same_key : List ℕ → List ℕ → Bool
same_key = eq_by_cmp (slice_cmp nat_cmp)

ordering : (o : Ordering) → is_eq o ≡ true → o ≡ Equal
ordering Less e = cc
ordering Equal e = refl
ordering Greater e = cc

pub same_key_is : (a b : List ℕ) → same_key a b ≡ true → a ≡ b
same_key_is a b e = slice_cmp-IsAntisymmetric nat_cmp-IsAntisymmetric a b (ordering (slice_cmp nat_cmp a b) e)

pub same_key_itself : (a : List ℕ) → same_key a a ≡ true
same_key_itself a = ap is_eq (tied_itself nat_list_cmp_total a)

pub parts : (a b : Bool) → T (a && b) → T a × T b
parts true b t = (tt, t)
parts false b t = absurd t

pub not_same : (o : Ordering) → T (is_lt o) → is_eq o ≡ false
not_same Less t = refl
not_same Equal t = absurd t
not_same Greater t = absurd t

pub none_after : {X : Type 0} (o : Option X) → option_or o None ≡ o
none_after None = refl
none_after (Some x) = refl

-- what is looked up is there or not
pub cases_option : {A : Type 0} (found : Option A) → (found ≡ None) ⊎ ((x : A) × (found ≡ Some x))
cases_option None = inl refl
cases_option (Some x) = inr (x, refl)

-- what an insert and the empty map answer
pub get_inserted : {X : Type 0} (m : Texts X) (key : List ℕ) (x : X) (q : List ℕ) → get (insert m key x) q ≡ cond (same_key q key) (Some x) (get m q)
get_inserted m key x q = get-insert nat_list_cmp_total m key x q

pub get_nowhere : {X : Type 0} (q : List ℕ) → get {X = X} {R = slice_cmp nat_cmp} empty q ≡ None
get_nowhere q = get-empty (slice_cmp nat_cmp) q

again : {X : Type 0} (b : Bool) (x y : X) (o : Option X) → cond b (Some y) (cond b (Some x) o) ≡ cond b (Some y) o
again true x y o = refl
again false x y o = refl

pub no_entries : (X : Type 0) → entries (empty {X = X} {R = slice_cmp nat_cmp}) ≡ []
no_entries X = nil_from_length _ (sym (len-entries (empty {X = X} {R = slice_cmp nat_cmp})) ∙ len-empty (slice_cmp nat_cmp) X)

-- an insert at a key replaces what stood there
pub insert_again : {X : Type 0} (m : Texts X) (key : List ℕ) (x y : X) → insert (insert m key x) key y ≡ insert m key y
insert_again m key x y =
    same_map nat_list_cmp_total (slice_cmp-IsAntisymmetric nat_cmp-IsAntisymmetric) _ _
    (λ q. get_inserted (insert m key x) key y q ∙ (ap (cond (same_key q key) (Some y)) (get_inserted m key x q) ∙ (again (same_key q key) x y (get m q) ∙ sym (get_inserted m key y q))))

module _ {X : Type 0} where
  abbrev pub Below : List ℕ → List (List ℕ × X) → Type 0
  Below key es = T (below_all (slice_cmp nat_cmp) key es)

  abbrev pub Sorted : List (List ℕ × X) → Type 0
  Sorted es = T (is_sorted (slice_cmp nat_cmp) es)

  abbrev pub found : List ℕ → List (List ℕ × X) → Option X
  found = find (slice_cmp nat_cmp)

  absent : (key : List ℕ) (es : List (List ℕ × X)) → Below key es → found key es ≡ None
  absent key [] b = refl
  absent key (e ∷ es) b = let p = parts _ _ b in cond-false _ _ _ (not_same _ p.0) ∙ absent key es p.1

  absent_at : (q key : List ℕ) (es : List (List ℕ × X)) → Below key es → same_key q key ≡ true → found q es ≡ None
  absent_at q key es b t = ap (λ k. found k es) (same_key_is q key t) ∙ absent key es b

  abbrev pub AllEntries : (List ℕ → X → Type 0) → List (List ℕ × X) → Type 0
  AllEntries P [] = ⊤
  AllEntries P (e ∷ es) = P e.0 e.1 × AllEntries P es

  later : (e : List ℕ × X) (es : List (List ℕ × X)) → Below e.0 es → (k : List ℕ) (x : X) → found k es ≡ Some x → found k (e ∷ es) ≡ Some x
  later e es b k x h =
      elim (cases_Bool (same_key k e.0)) [
        | inl t ↦ absurd (never (absent_at k e.0 es b t) h)
        | inr f ↦ cond-false _ _ _ f ∙ h
      ]
    where
      never : {o : Option X} → o ≡ None → o ≡ Some x → ⊥
      never p q = cc

  all_found : (P : List ℕ → X → Type 0) (es : List (List ℕ × X)) → Sorted es → ((k : List ℕ) (x : X) → found k es ≡ Some x → P k x) → AllEntries P es
  all_found P [] s f = tt
  all_found P (e ∷ es) s f =
      let p = parts _ _ s in
      (f e.0 e.1 (cond-true _ _ _ (same_key_itself e.0)), all_found P es p.1 (λ k x h. f k x (later e es p.0 k x h)))

  -- what holds of each look-up holds of each entry
  pub all_entries : (P : List ℕ → X → Type 0) (m : Texts X) → ((k : List ℕ) (x : X) → get m k ≡ Some x → P k x) → AllEntries P (entries m)
  all_entries P m f = all_found P (entries m) (entries_sorted m) (λ k x h. f k x (get-entries m k ∙ h))

  shuffled : (b : Bool) (x : X) (o g : Option X) → (b ≡ true → o ≡ None) → option_or o (cond b (Some x) g) ≡ option_or (cond b (Some x) o) g
  shuffled true x o g none = rw (none refl) refl
  shuffled false x o g none = refl

  get-insert_all : (es : List (List ℕ × X)) (m : Texts X) (q : List ℕ) → Sorted es → get (insert_all m es) q ≡ option_or (found q es) (get m q)
  get-insert_all [] m q s = refl
  get-insert_all (e ∷ es) m q s =
      let p = parts _ _ s in
      get-insert_all es (insert m e.0 e.1) q p.1 ∙ (ap (option_or (found q es)) (get-insert nat_list_cmp_total m e.0 e.1 q) ∙ shuffled (same_key q e.0) e.1 (found q es) (get m q) (absent_at q e.0 es p.0))

  -- a map is its entries, inserted one after another
  pub inserted_entries : (m : Texts X) → insert_all empty (entries m) ≡ m
  inserted_entries m =
      same_map nat_list_cmp_total (slice_cmp-IsAntisymmetric nat_cmp-IsAntisymmetric) _ _
      (λ q. get-insert_all (entries m) empty q (entries_sorted m) ∙ (ap (option_or (found q (entries m))) (get-empty (slice_cmp nat_cmp) q) ∙ (none_after (found q (entries m)) ∙ sym (get-entries m q))))
