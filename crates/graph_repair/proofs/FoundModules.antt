-- One module more is found, or isn't.
--     nothing_yet      before the last module
--     found_more       a module in front of those that are found
use Rattle.std.proofs.Common.{◌≡◌, ◌≢◌, ◌+◌, ◌⊎◌, ◌++◌, ℕ, zero, suc, List, [], ◌∷◌, length, map, drop, reverse, Option, Some, None, option_map, refl, sym, ap, ◌∙◌, subst, inl, inr, arith}
use Rattle.std.specs.Prelude.{All, slice_get, slice_set}
use Rattle.std.proofs.lemmas.List.{reverse-append}
use Rattle.shared_types.proofs.ListSteps.{drop_at}
use Rattle.std.proofs.lemmas.List.Elements.{All-nil, All-cons, All-head, All-tail, All-weaker}
use Rattle.std.proofs.lemmas.Option.{slice_get-map}
use Rattle.slot_arena.specs.Slots.{Place, value_at}
use Rattle.slot_arena.specs.declared.slot.Slot.{Slot}
use Rattle.module_graph.specs.declared.module.Module as vertex
use Rattle.module_graph.specs.Modules.{set_one}
use Rattle.module_graph.specs.Many.{AreApart}
use Rattle.trace_spec.specs.Modules.{Module}
use Rattle.trace_graph.specs.Links.{IsLive, module_of, module_in}
use Rattle.graph_repair.specs.Matching.{AreOnce, somes, IsSame, IsAlike}
use Rattle.graph_repair.specs.Finding.{names, AreByKey, Takes, Keeps, HasLike, IsFound}

abbrev Vertex : Type 0
Vertex = vertex.Module

abbrev Places : Type 0
Places = List (Place Vertex)

pub set_some : (o : Option (Option Slot)) (k : Slot) → set_one o ≡ Some k → o ≡ Some (Some k)
set_some None k is = absurd (let bad : None ≡ Some k = is in cc)
set_some (Some o) k is = ap Some is

-- ---- what is left where one is taken out

at_some : (P : Slot → Type 0) (left : List (Option Slot)) (place : ℕ) (k : Slot) → slice_get left place ≡ Some (Some k) → All P (somes left) → P k
at_some P [] place k at all = absurd (let bad : None ≡ Some (Some k) = at in cc)
at_some P (None ∷ left) zero k at all = absurd (let bad : Some None ≡ Some (Some k) = at in cc)
at_some P (Some a ∷ left) zero k at all =
    let both : Some (Some a) ≡ Some (Some k) = at in let is : a ≡ k = cc in subst P is (All-head P a (somes left) all)
at_some P (None ∷ left) (suc place) k at all = at_some P left place k at all
at_some P (Some a ∷ left) (suc place) k at all = at_some P left place k at (All-tail P a (somes left) all)

all_after : (P : Slot → Type 0) (left : List (Option Slot)) (place : ℕ) → All P (somes left) → All P (somes (slice_set left place None))
all_after P [] place all = All-nil P
all_after P (None ∷ left) zero all = all
all_after P (Some a ∷ left) zero all = All-tail P a (somes left) all
all_after P (None ∷ left) (suc place) all = all_after P left place all
all_after P (Some a ∷ left) (suc place) all =
    All-cons P a (somes (slice_set left place None)) (All-head P a (somes left) all) (all_after P left place (All-tail P a (somes left) all))

apart_after : (left : List (Option Slot)) (place : ℕ) → AreApart (somes left) → AreApart (somes (slice_set left place None))
apart_after [] place apart = tt
apart_after (None ∷ left) zero apart = apart
apart_after (Some a ∷ left) zero apart = apart.1
apart_after (None ∷ left) (suc place) apart = apart_after left place apart
apart_after (Some a ∷ left) (suc place) apart = (all_after (λ t. t ≢ a) left place apart.0, apart_after left place apart.1)

others_after : (left : List (Option Slot)) (place : ℕ) (k : Slot) → slice_get left place ≡ Some (Some k) → AreApart (somes left)
    → All (λ t. t ≢ k) (somes (slice_set left place None))
others_after [] place k at apart = absurd (let bad : None ≡ Some (Some k) = at in cc)
others_after (None ∷ left) zero k at apart = absurd (let bad : Some None ≡ Some (Some k) = at in cc)
others_after (Some a ∷ left) zero k at apart =
    let both : Some (Some a) ≡ Some (Some k) = at in let is : a ≡ k = cc in
    subst (λ s. All (λ t. t ≢ s) (somes left)) is apart.0
others_after (None ∷ left) (suc place) k at apart = others_after left place k at apart
others_after (Some a ∷ left) (suc place) k at apart =
    All-cons (λ t. t ≢ k) a (somes (slice_set left place None)) (λ same. at_some (λ t. t ≢ a) left place k at apart.0 (sym same)) (others_after left place k at apart.1)

one_fewer : (left : List (Option Slot)) (place : ℕ) (k : Slot) → slice_get left place ≡ Some (Some k) → length (somes (slice_set left place None)) + 1 ≡ length (somes left)
one_fewer [] place k at = absurd (let bad : None ≡ Some (Some k) = at in cc)
one_fewer (None ∷ left) zero k at = absurd (let bad : Some None ≡ Some (Some k) = at in cc)
one_fewer (Some a ∷ left) zero k at = omega arith
one_fewer (None ∷ left) (suc place) k at = one_fewer left place k at
one_fewer (Some a ∷ left) (suc place) k at = let rest = one_fewer left place k at in omega (arith, rest)

other_after : (left : List (Option Slot)) (place i : ℕ) → (i ≡ place → ⊥) → slice_get (slice_set left place None) i ≡ slice_get left i
other_after [] place i apart = refl
other_after (o ∷ left) zero zero apart = absurd (apart refl)
other_after (o ∷ left) zero (suc i) apart = refl
other_after (o ∷ left) (suc place) zero apart = refl
other_after (o ∷ left) (suc place) (suc i) apart = other_after left place i (λ same. apart (ap (λ n. suc n) same))

same_or_not : (i j : ℕ) → (i ≡ j) ⊎ (i ≡ j → ⊥)
same_or_not zero zero = inl refl
same_or_not zero (suc j) = inr (λ same. omega (arith, same))
same_or_not (suc i) zero = inr (λ same. omega (arith, same))
same_or_not (suc i) (suc j) = elim (same_or_not i j) [ inl same ↦ inl (ap (λ n. suc n) same) | inr apart ↦ inr (λ same. apart (omega (arith, same))) ]

-- ---- modules that are alike

record Alike (o p : Option Vertex) : Type 0 where
  v : Vertex
  w : Vertex
  one : o ≡ Some v
  other : p ≡ Some w
  same : IsSame v w

alike : (o p : Option Vertex) → IsAlike o p → Alike o p
alike None p is = absurd is
alike (Some v) None is = absurd is
alike (Some v) (Some w) is = record { v = v; w = w; one = refl; other = refl; same = is }

pub name_at : (g : Places) (slots : List Slot) (i : ℕ) (s : Slot) → slice_get slots i ≡ Some s → slice_get (names g slots) i ≡ Some (module_in (value_at g s))
name_at g slots i s at = slice_get-map (λ s. module_in (value_at g s)) slots i ∙ ap (option_map (λ s. module_in (value_at g s))) at

-- two modules of a trace that are like one are one
not_twice : (g other : Places) (s t : Slot) (rest : List Slot) → AreOnce (names other (t ∷ rest)) → IsAlike (value_at g s) (value_at other t) → HasLike other rest (value_at g s) → ⊥
not_twice g other s t rest once one two =
    let a = alike (value_at g s) (value_at other t) one in
    let b = alike (value_at g s) (value_at other two.slot) two.alike in
    let v : Some a.v ≡ Some b.v = sym a.one ∙ b.one in
    let same : a.v ≡ b.v = cc in
    let here : module_in (value_at other t) ≡ module_of a.v = ap module_in a.other ∙ sym a.same.module_is in
    let there : module_in (value_at other two.slot) ≡ module_of a.v = ap module_in b.other ∙ (sym b.same.module_is ∙ ap module_of (sym same)) in
    let places : zero ≡ suc two.place = once zero (suc two.place) (module_of a.v) (ap Some here) (name_at other rest two.place two.slot two.there ∙ ap Some there) in
    omega (arith, places)

behind : (other : Places) (t : Slot) (rest : List Slot) (o : Option Vertex) → HasLike other rest o → HasLike other (t ∷ rest) o
behind other t rest o like = record { place = suc like.place; slot = like.slot; there = like.there; alike = like.alike }

once_behind : (m : Module) (modules : List Module) → AreOnce (m ∷ modules) → AreOnce modules
once_behind m modules once i j n at also = let same : suc i ≡ suc j = once (suc i) (suc j) n at also in omega (arith, same)

module _ (g : Places) (slots : List Slot) (other : Places) (find : Module → Option ℕ) (by : AreByKey g slots find) (t : Slot) (rest : List Slot) (left keeps : List (Option Slot))
    (found : IsFound g slots other rest left keeps) where
  -- the place of a module like the one at the front, which is left
  record AtFront (i : ℕ) (s : Slot) : Type 0 where
    v : Vertex
    there : value_at other t ≡ Some v
    place : find (module_of v) ≡ Some i
    is_left : slice_get left i ≡ Some (Some s)

  at_front : AreOnce (names g slots) → AreOnce (names other (t ∷ rest)) → (i : ℕ) (s : Slot) → slice_get slots i ≡ Some s → IsAlike (value_at g s) (value_at other t) → AtFront i s
  at_front once other_once i s at is =
      let a = alike (value_at g s) (value_at other t) is in
      record {
        v = a.w;
        there = a.other;
        place = ap find (sym a.same.module_is) ∙ by once i s a.v at a.one;
        is_left = elim (found.tracked i s at) [
          | inl there ↦ there
          | inr like ↦ absurd (not_twice g other s t rest other_once is like)
        ];
      }

  same_slot : (u : Slot) → slice_get (t ∷ rest) zero ≡ Some u → u ≡ t
  same_slot u at = let both : Some t ≡ Some u = at in let is : u ≡ t = cc in is

  none_more : ((v : Vertex) (place : ℕ) (s : Slot) → value_at other t ≡ Some v → find (module_of v) ≡ Some place → slice_get left place ≡ Some (Some s) → IsAlike (value_at g s) (value_at other t) → ⊥)
      → IsFound g slots other (t ∷ rest) left (None ∷ keeps)
  none_more unlike = record {
    kept = found.kept;
    live = found.live;
    apart = found.apart;
    stays = found.stays;
    left_apart = found.left_apart;
    left_live = found.left_live;
    counts = found.counts;
    found = λ once other_once i j s u at there is. not_here once other_once i s at j u there is;
    tracked = λ i s at.
        elim (found.tracked i s at) [
          | inl there ↦ inl there
          | inr like ↦ inr (behind other t rest (value_at g s) like)
        ];
  }
    where
      not_here : AreOnce (names g slots) → AreOnce (names other (t ∷ rest)) → (i : ℕ) (s : Slot) → slice_get slots i ≡ Some s → (j : ℕ) (u : Slot) → slice_get (t ∷ rest) j ≡ Some u
          → IsAlike (value_at g s) (value_at other u) → slice_get (None ∷ keeps) j ≡ Some (Some s)
      not_here once other_once i s at zero u there is =
          let here : IsAlike (value_at g s) (value_at other t) = subst (λ x. IsAlike (value_at g s) (value_at other x)) (same_slot u there) is in
          let front = at_front once other_once i s at here in
          absurd (unlike front.v i s front.there front.place front.is_left here)
      not_here once other_once i s at (suc j) u there is =
          found.found once (once_behind (module_in (value_at other t)) (names other rest) other_once) i j s u at there is

  some_more : (k : Slot) (v : Vertex) (place : ℕ) → value_at other t ≡ Some v → find (module_of v) ≡ Some place → slice_get left place ≡ Some (Some k) → IsAlike (value_at g k) (value_at other t)
      → IsFound g slots other (t ∷ rest) (slice_set left place None) (Some k ∷ keeps)
  some_more k v place w_is found_at was is = record {
    kept = (is, found.kept);
    live = All-cons (IsLive g) k (somes keeps) (at_some (IsLive g) left place k was found.left_live) found.live;
    apart = (
      All-weaker (λ s. All (λ u. u ≢ s) (somes left)) (λ s. s ≢ k) (λ s none same. at_some (λ u. u ≢ s) left place k was none (sym same)) (somes keeps) found.stays,
      found.apart,
    );
    stays = All-cons (λ s. All (λ u. u ≢ s) (somes (slice_set left place None))) k (somes keeps) (others_after left place k was found.left_apart)
        (All-weaker (λ s. All (λ u. u ≢ s) (somes left)) (λ s. All (λ u. u ≢ s) (somes (slice_set left place None))) (λ s none. all_after (λ u. u ≢ s) left place none) (somes keeps) found.stays);
    left_apart = apart_after left place found.left_apart;
    left_live = all_after (IsLive g) left place found.left_live;
    counts = (let counts = found.counts in let fewer = one_fewer left place k was in omega (arith, counts, fewer));
    found = λ once other_once i j s u at there like. is_here once other_once i s at j u there like;
    tracked = λ i s at. is_tracked i s at;
  }
    where
      is_here : AreOnce (names g slots) → AreOnce (names other (t ∷ rest)) → (i : ℕ) (s : Slot) → slice_get slots i ≡ Some s → (j : ℕ) (u : Slot) → slice_get (t ∷ rest) j ≡ Some u
          → IsAlike (value_at g s) (value_at other u) → slice_get (Some k ∷ keeps) j ≡ Some (Some s)
      is_here once other_once i s at zero u there like =
          let here : IsAlike (value_at g s) (value_at other t) = subst (λ x. IsAlike (value_at g s) (value_at other x)) (same_slot u there) like in
          let front = at_front once other_once i s at here in
          let one : Some front.v ≡ Some v = sym front.there ∙ w_is in
          let module_is : front.v ≡ v = cc in
          let both : Some i ≡ Some place = sym front.place ∙ (ap (λ x. find (module_of x)) module_is ∙ found_at) in
          let same : i ≡ place = cc in
          sym was ∙ (ap (slice_get left) (sym same) ∙ front.is_left)
      is_here once other_once i s at (suc j) u there like =
          found.found once (once_behind (module_in (value_at other t)) (names other rest) other_once) i j s u at there like

      is_tracked : (i : ℕ) (s : Slot) → slice_get slots i ≡ Some s → (slice_get (slice_set left place None) i ≡ Some (Some s)) ⊎ HasLike other (t ∷ rest) (value_at g s)
      is_tracked i s at =
          elim (found.tracked i s at) [
            | inl there ↦ elim (same_or_not i place) [
              | inl same ↦ inr (record {
                place = zero;
                slot = t;
                there = refl;
                alike = (let both : Some (Some k) ≡ Some (Some s) = sym was ∙ (ap (slice_get left) (sym same) ∙ there) in
                    let slot : k ≡ s = cc in subst (λ x. IsAlike (value_at g x) (value_at other t)) slot is);
              })
              | inr apart ↦ inl (other_after left place i apart ∙ there)
            ]
            | inr like ↦ inr (behind other t rest (value_at g s) like)
          ]

  pub found_more : (after : List (Option Slot)) (keep : Option Slot) → Keeps g find (value_at other t) left after keep → IsFound g slots other (t ∷ rest) after (keep ∷ keeps)
  found_more after None (is, unlike) = subst (λ ls. IsFound g slots other (t ∷ rest) ls (None ∷ keeps)) (sym is) (none_more unlike)
  found_more after (Some k) (v, place, w_is, found_at, (was, is, like)) =
      subst (λ ls. IsFound g slots other (t ∷ rest) ls (Some k ∷ keeps)) (sym is) (some_more k v place w_is found_at was like)

-- ---- before the last module

all_somes : (slots : List Slot) → somes (map Some slots) ≡ slots
all_somes [] = refl
all_somes (s ∷ slots) = ap (λ ss. s ∷ ss) (all_somes slots)

pub nothing_yet : (g : Places) (slots : List Slot) (other : Places) (left : List (Option Slot)) → left ≡ map Some slots → AreApart slots → All (IsLive g) slots
    → IsFound g slots other [] left []
nothing_yet g slots other left is apart alive =
    let same : somes left ≡ slots = ap somes is ∙ all_somes slots in
    record {
      kept = tt;
      live = All-nil (IsLive g);
      apart = tt;
      stays = All-nil (λ s. All (λ u. u ≢ s) (somes left));
      left_apart = subst AreApart (sym same) apart;
      left_live = subst (All (IsLive g)) (sym same) alive;
      counts = (let many = ap length same in omega (arith, many));
      found = λ once other_once i j s u at there. absurd (let bad : None ≡ Some u = there in cc);
      tracked = λ i s at. inl (ap (λ ls. slice_get ls i) is ∙ (slice_get-map Some slots i ∙ ap (option_map Some) at));
    }

-- the module at a place, in front of those behind it
pub found_at : (g : Places) (slots : List Slot) (other : Places) (find : Module → Option ℕ) → AreByKey g slots find → (theirs : List Slot) (p q : ℕ) (t : Slot)
    (left after keeps pushed : List (Option Slot)) (keep : Option Slot) → slice_get theirs p ≡ Some t → q ≡ p + 1 → IsFound g slots other (drop q theirs) left (reverse keeps)
    → Keeps g find (value_at other t) left after keep → pushed ≡ keeps ++ keep ∷ [] → IsFound g slots other (drop p theirs) after (reverse pushed)
found_at g slots other find by theirs p q t left after keeps pushed keep at next found kept is =
    subst (λ rest. IsFound g slots other rest after (reverse pushed)) (sym (drop_at theirs p t at))
    (subst (λ ks. IsFound g slots other (t ∷ drop (p + 1) theirs) after ks) (sym (ap reverse is ∙ reverse-append keeps (keep ∷ [])))
    (found_more g slots other find by t (drop (p + 1) theirs) left (reverse keeps) (subst (λ n. IsFound g slots other (drop n theirs) left (reverse keeps)) next found) after keep kept))

-- ---- what is taken out, by the table

pub keeps_by : (g : Places) (find : Module → Option ℕ) (v : Vertex) (place : ℕ) (left after : List (Option Slot)) (keep : Option Slot) → find (module_of v) ≡ Some place
    → Takes g place (Some v) left after keep → Keeps g find (Some v) left after keep
keeps_by g find v place left after (Some k) at takes = (v, place, refl, at, takes)
keeps_by g find v place left after None at (is, unlike) = (
  is,
  λ w p s same here was like.
      (let both : Some v ≡ Some w = same in
      let one : v ≡ w = cc in
      let places : Some place ≡ Some p = sym at ∙ (ap (λ x. find (module_of x)) one ∙ here) in
      let there : p ≡ place = cc in
      unlike s (ap (slice_get left) (sym there) ∙ was) like),
)

pub keeps_none : (g : Places) (find : Module → Option ℕ) (v : Vertex) (left : List (Option Slot)) → find (module_of v) ≡ None → Keeps g find (Some v) left left None
keeps_none g find v left none = (
  refl,
  λ w p s same here.
      (let both : Some v ≡ Some w = same in
      let one : v ≡ w = cc in
      absurd (let bad : None ≡ Some p = sym none ∙ (ap (λ x. find (module_of x)) one ∙ here) in cc)),
)
