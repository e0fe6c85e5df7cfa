-- Calls on many modules, one call after another.
use Rattle.std.proofs.Common.{◌≡◌, ◌≢◌, ◌≤◌, ◌<◌, ◌+◌, ◌⊎◌, inl, inr, ℕ, zero, suc, take, drop, Bool, true, false, List, [], ◌∷◌, length, map, Option, Some, None, refl, sym, ap, ◌∙◌, subst, arith}
use Rattle.std.specs.Prelude.{All}
use Rattle.std.proofs.lemmas.List.Elements.{All-nil, All-cons, All-head, All-tail, All-weaker}
use Rattle.slot_arena.specs.Slots.{Place, value_at, IsGiven, IsFresh, set_at, taken_from}
use Rattle.slot_arena.specs.Counts.{spare, live}
use Rattle.slot_arena.specs.Calls as arena
use Rattle.slot_arena.specs.declared.slot.Slot.{Slot}
use Rattle.slot_arena.proofs.SlotLaws.{same_slot_or_not, given_once, each_inserts, each_writes, each_removes}
use Rattle.module_graph.specs.declared.module.Module.{Module}
use Rattle.module_graph.specs.Modules.{with_target}
use Rattle.module_graph.specs.Calls.{Calls, begin, reserved, added, connected, removed}
use Rattle.module_graph.specs.Graphs.{Connects}
use Rattle.module_graph.specs.Many.{AddsAll, RemovesAll, SetsAll, with_targets, requests_in, AreLive, dealt, ConnectsAll}

pub calls_on : (a b c : List (Place Module)) → Calls a b → Calls b c → Calls a c
calls_on a b c first begin = first
calls_on a b c first (reserved {g = d} n more) = reserved n (calls_on a b d first more)
calls_on a b c first (added {g = d} s m fresh more) = added s m fresh (calls_on a b d first more)
calls_on a b c first (connected {g = d} s m i to is more) = connected s m i to is (calls_on a b d first more)
calls_on a b c first (removed {g = d} s m is more) = removed s m is (calls_on a b d first more)

-- ---- adding

pub adds_none : (g : List (Place Module)) → AddsAll g g [] []
adds_none g = record {
  calls = begin;
  under = refl;
  apart = tt;
  never = All-nil (λ s. IsGiven g s → ⊥);
  elsewhere = λ s apart. refl;
  less = omega arith;
  more = omega arith;
  made = refl;
}

pub spare_less : (g next : List (Place Module)) (s : Slot) (m : Module) → IsFresh g s → next ≡ set_at g s (Some m) → spare next + 1 ≡ spare g
spare_less g next s m fresh is = ap (λ h. spare h + 1) is ∙ (each_inserts Module g s m fresh).one_less

module _ (g next new : List (Place Module)) (s : Slot) (m : Module) (modules : List Module) (more : List Slot)
    (fresh : IsFresh g s) (is : next ≡ set_at g s (Some m)) (rest : AddsAll next new modules more) where
  put : Calls g next
  put = subst (Calls g) (sym is) (added s m fresh begin)

  given : IsGiven next s
  given = subst (λ h. IsGiven h s) (sym is) ((given_once Module).given g s m fresh)

  stays_given : (t : Slot) → IsGiven g t → IsGiven next t
  stays_given t was = subst (λ h. IsGiven h t) (sym is) ((given_once Module).stays g (set_at g s (Some m)) t was (arena.inserted s m fresh arena.begin))

  others : All (λ t. t ≢ s) more
  others = All-weaker (λ t. IsGiven next t → ⊥) (λ t. t ≢ s) (λ t never same. never (subst (IsGiven next) (sym same) given)) more rest.never

  here : value_at new s ≡ Some m
  here = rest.elsewhere s others ∙ (ap (λ h. value_at h s) is ∙ (each_inserts Module g s m fresh).here)

  pub adds_one : AddsAll g new (m ∷ modules) (s ∷ more)
  adds_one =
      let law = each_inserts Module g s m fresh in
      let same : set_at g s (Some m) ≡ next = sym is in
      record {
        calls = calls_on g next new put rest.calls;
        under = λ i. here i ∷ rest.under i;
        apart = (others, rest.apart);
        never = All-cons (λ t. IsGiven g t → ⊥) s more (λ was. (given_once Module).never_again g g s s was arena.begin fresh refl)
            (All-weaker (λ t. IsGiven next t → ⊥) (λ t. IsGiven g t → ⊥) (λ t never was. never (stays_given t was)) more rest.never);
        elsewhere = λ t apart.
            rest.elsewhere t (All-tail (λ u. u ≢ t) s more apart)
            ∙ (ap (λ h. value_at h t) is ∙ law.elsewhere t (λ e. All-head (λ u. u ≢ t) s more apart (sym e)));
        less = (let a = law.one_less in let b = ap spare same in let c = rest.less in omega (arith, a, b, c));
        more = (let a = law.one_more in let b = ap live same in let c = rest.more in omega (arith, a, b, c));
        made = rest.made ∙ (ap length is ∙ law.made);
      }

-- ---- removing

pub removes_none : (g : List (Place Module)) → RemovesAll g g []
removes_none g = record { calls = begin; here = All-nil (λ s. value_at g s ≡ None); elsewhere = λ s apart. refl; freed = omega arith; fewer = λ apart alive. omega arith; made = refl }

-- what one removal changes
record Takes (g next : List (Place Module)) (s : Slot) : Type 0 where
  calls : Calls g next
  here : value_at next s ≡ None
  elsewhere : (t : Slot) → t ≢ s → value_at next t ≡ value_at g t
  freed : spare g ≤ spare next
  less : (m : Module) → value_at g s ≡ Some m → live next + 1 ≡ live g
  made : length next ≡ length g

takes : (g next : List (Place Module)) (s : Slot) (found : Option Module) → value_at g s ≡ found → next ≡ taken_from g s found → Takes g next s
takes g next s None none is =
    subst (λ h. Takes g h s) (sym is)
    (record { calls = begin; here = none; elsewhere = λ t apart. refl; freed = omega arith; less = λ m some. (let both : Some m ≡ None = sym some ∙ none in absurd (cc)); made = refl })
takes g next s (Some m) some is =
    let law = each_removes Module g s m some in
    subst (λ h. Takes g h s) (sym is)
    (record { calls = removed s m some begin; here = law.here; elsewhere = law.elsewhere; freed = (let f = law.freed in omega (arith, f)); less = λ n is. law.one_less; made = law.made })

-- a slot is none of these, or what holds of them all holds of it
apart_or : (P : Slot → Type 0) (s : Slot) (slots : List Slot) → All P slots → All (λ t. t ≢ s) slots ⊎ P s
apart_or P s [] all = inl (All-nil (λ t. t ≢ s))
apart_or P s (t ∷ slots) all =
    elim (same_slot_or_not t s) [
      | inl same ↦ inr (subst P same (All-head P t slots all))
      | inr apart ↦ elim (apart_or P s slots (All-tail P t slots all)) [
        | inl others ↦ inl (All-cons (λ u. u ≢ s) t slots apart others)
        | inr is ↦ inr is
      ]
    ]

-- what is there under other slots is there still
still_there : (g next : List (Place Module)) (s : Slot) (slots : List Slot) → ((t : Slot) → t ≢ s → value_at next t ≡ value_at g t) → All (λ t. t ≢ s) slots → All (λ t. (m : Module) × (value_at g t ≡ Some m)) slots → All (λ t. (m : Module) × (value_at next t ≡ Some m)) slots
still_there g next s [] keeps apart alive = All-nil (λ t. (m : Module) × (value_at next t ≡ Some m))
still_there g next s (t ∷ slots) keeps apart alive =
    let here = All-head (λ t. (m : Module) × (value_at g t ≡ Some m)) t slots alive in
    All-cons (λ t. (m : Module) × (value_at next t ≡ Some m)) t slots
    (here.0, keeps t (All-head (λ u. u ≢ s) t slots apart) ∙ here.1)
    (still_there g next s slots keeps (All-tail (λ u. u ≢ s) t slots apart) (All-tail (λ t. (m : Module) × (value_at g t ≡ Some m)) t slots alive))

pub removes_one : (g next new : List (Place Module)) (s : Slot) (more : List Slot) (found : Option Module) → found ≡ value_at g s → next ≡ taken_from g s found → RemovesAll next new more → RemovesAll g new (s ∷ more)
removes_one g next new s more found value is rest =
    let one = takes g next s found (sym value) is in
    record {
      calls = calls_on g next new one.calls rest.calls;
      here = All-cons (λ t. value_at new t ≡ None) s more
          (elim (apart_or (λ t. value_at new t ≡ None) s more rest.here) [
            | inl others ↦ rest.elsewhere s others ∙ one.here
            | inr none ↦ none
          ])
          rest.here;
      elsewhere = λ t apart.
          rest.elsewhere t (All-tail (λ u. u ≢ t) s more apart)
          ∙ one.elsewhere t (λ e. All-head (λ u. u ≢ t) s more apart (sym e));
      freed = (let a = one.freed in let b = rest.freed in omega (arith, a, b));
      fewer = λ apart alive.
          (let first = All-head (λ t. (m : Module) × (value_at g t ≡ Some m)) s more alive in
          let behind = All-tail (λ t. (m : Module) × (value_at g t ≡ Some m)) s more alive in
          let a = one.less first.0 first.1 in
          let b = rest.fewer apart.1 (still_there g next s more one.elsewhere apart.0 behind) in omega (arith, a, b));
      made = rest.made ∙ one.made;
    }

-- ---- setting targets

pub sets_none : (g : List (Place Module)) (from : Slot) (k : ℕ) → SetsAll g g from k []
sets_none g from k = record { calls = begin; here = λ m is. is; elsewhere = λ s apart. refl; as_spare = refl; as_live = refl; made = refl }

same_module : (g : List (Place Module)) (s : Slot) (m n : Module) → value_at g s ≡ Some m → value_at g s ≡ Some n → m ≡ n
same_module g s m n is also = let both : Some m ≡ Some n = sym is ∙ also in cc

-- what one target changes, where there is the request
pub sets_one : (g next new : List (Place Module)) (from to : Slot) (k : ℕ) (more : List Slot) (done : Bool) (m : Module) → value_at g from ≡ Some m → k < length m.requests.value → Connects g next from k to done → SetsAll next new from (k + 1) more → SetsAll g new from k (to ∷ more)
sets_one g next new from to k more false m there within connects rest =
    absurd (let past = connects.1 m there in omega (arith, past, within))
sets_one g next new from to k more true m there within (n, is_n, below, is) rest =
    let law = each_writes Module g from n (with_target n k to) is_n in
    record {
      calls = calls_on g next new (subst (Calls g) (sym is) (connected from n k to is_n begin)) rest.calls;
      here = λ l at.
          rest.here (with_target l k to)
          (ap (λ h. value_at h from) is ∙ (law.here ∙ ap (λ x. Some (with_target x k to)) (same_module g from n l is_n at)));
      elsewhere = λ s apart. rest.elsewhere s apart ∙ (ap (λ h. value_at h s) is ∙ law.elsewhere s apart);
      as_spare = rest.as_spare ∙ (ap spare is ∙ law.as_spare);
      as_live = rest.as_live ∙ (ap live is ∙ law.as_live);
      made = rest.made ∙ (ap length is ∙ law.made);
    }

-- the module is still there, with as many requests
pub still_live : (g next : List (Place Module)) (from to : Slot) (k : ℕ) (done : Bool) (m : Module) → value_at g from ≡ Some m → k < length m.requests.value → Connects g next from k to done
    → (n : Module) × (value_at next from ≡ Some n) × (length n.requests.value ≡ length m.requests.value)
still_live g next from to k false m there within connects = absurd (let past = connects.1 m there in omega (arith, past, within))
still_live g next from to k true m there within (n, is_n, below, is) =
    let law = each_writes Module g from n (with_target n k to) is_n in
    (with_target n k to, ap (λ h. value_at h from) is ∙ law.here, ap (λ (x : Module). length x.requests.value) (same_module g from n m is_n there))

-- ---- the end of a list

pub no_slots : {X : Type 0} (xs : List X) → length xs ≡ 0 → xs ≡ []
no_slots [] e = refl
no_slots (x ∷ xs) e = cc

-- ---- connecting

-- the module under the first slot, and those under the others
record Parts (g : List (Place Module)) (s : Slot) (more : List Slot) (modules : List Module) : Type 0 where
  first : Module
  others : List Module
  are : modules ≡ first ∷ others
  here : value_at g s ≡ Some first
  there : map (value_at g) more ≡ map Some others

parts : (g : List (Place Module)) (s : Slot) (more : List Slot) (modules : List Module) → map (value_at g) (s ∷ more) ≡ map Some modules → Parts g s more modules
parts g s more [] e = absurd (cc)
parts g s more (m ∷ modules) e = record {
  first = m;
  others = modules;
  are = refl;
  here = (let p : value_at g s ≡ Some m = cc in p);
  there = (let p : map (value_at g) more ≡ map Some modules = cc in p);
}

-- the first slot of those that are live
pub record FirstLive (g : List (Place Module)) (s : Slot) (more : List Slot) (count : ℕ) : Type 0 where
  pub first : Module
  pub here : value_at g s ≡ Some first
  pub few : length first.requests.value ≤ count
  pub others : (left : ℕ) → left + length first.requests.value ≡ count → AreLive g more left

pub first_live : (g : List (Place Module)) (s : Slot) (more : List Slot) (count : ℕ) → AreLive g (s ∷ more) count → FirstLive g s more count
first_live g s more count live =
    let p = parts g s more live.modules live.under in
    let few : length p.first.requests.value + requests_in p.others ≤ count = subst (λ ms. requests_in ms ≤ count) p.are live.few in
    record {
      first = p.first;
      here = p.here;
      few = omega (arith, few);
      others = λ left e. record { modules = p.others; under = p.there; few = omega (arith, few, e) };
    }

kept_all : (g next : List (Place Module)) (s : Slot) (slots : List Slot) → ((t : Slot) → t ≢ s → value_at next t ≡ value_at g t) → All (λ t. t ≢ s) slots → map (value_at next) slots ≡ map (value_at g) slots
kept_all g next s [] keeps apart = refl
kept_all g next s (t ∷ slots) keeps apart =
    (λ i. keeps t (All-head (λ u. u ≢ s) t slots apart) i ∷ kept_all g next s slots keeps (All-tail (λ u. u ≢ s) t slots apart) i)

pub live_behind : (g next : List (Place Module)) (s : Slot) (more : List Slot) (count : ℕ) → ((t : Slot) → t ≢ s → value_at next t ≡ value_at g t) → All (λ t. t ≢ s) more → AreLive g more count → AreLive next more count
live_behind g next s more count keeps apart live = record { modules = live.modules; under = kept_all g next s more keeps apart ∙ live.under; few = live.few }

take_map : {X Y : Type 0} (f : X → Y) (n : ℕ) (xs : List X) → map f (take n xs) ≡ take n (map f xs)
take_map f zero xs = refl
take_map f (suc n) [] = refl
take_map f (suc n) (x ∷ xs) = ap (λ ys. f x ∷ ys) (take_map f n xs)

drop_map : {X Y : Type 0} (f : X → Y) (n : ℕ) (xs : List X) → map f (drop n xs) ≡ drop n (map f xs)
drop_map f zero xs = refl
drop_map f (suc n) [] = refl
drop_map f (suc n) (x ∷ xs) = drop_map f n xs

pub connects_none : (g : List (Place Module)) (targets : List Slot) → ConnectsAll g g [] targets
connects_none g targets = record { calls = begin; under = under; elsewhere = λ s apart. refl; as_spare = refl; as_live = refl; made = refl }
  where
    under : (modules : List Module) → [] ≡ map Some modules → [] ≡ map Some (dealt modules targets)
    under [] e = refl
    under (m ∷ modules) e = absurd (cc)

pub connects_one : (g next new : List (Place Module)) (s : Slot) (more : List Slot) (f : ℕ → Slot) (leads : List ℕ) (m : Module) → value_at g s ≡ Some m → All (λ t. t ≢ s) more → SetsAll g next s 0 (map f (take (length m.requests.value) leads)) → ConnectsAll next new more (map f (drop (length m.requests.value) leads))
    → ConnectsAll g new (s ∷ more) (map f leads)
connects_one g next new s more f leads m live apart one rest = record {
  calls = calls_on g next new one.calls rest.calls;
  under = under;
  elsewhere = λ t away. rest.elsewhere t (All-tail (λ u. u ≢ t) s more away) ∙ one.elsewhere t (λ e. All-head (λ u. u ≢ t) s more away (sym e));
  as_spare = rest.as_spare ∙ one.as_spare;
  as_live = rest.as_live ∙ one.as_live;
  made = rest.made ∙ one.made;
}
  where
    under : (modules : List Module) → map (value_at g) (s ∷ more) ≡ map Some modules → map (value_at new) (s ∷ more) ≡ map Some (dealt modules (map f leads))
    under modules e =
        let p = parts g s more modules e in
        let same : m ≡ p.first = same_module g s m p.first live p.here in
        let own : map f (take (length m.requests.value) leads) ≡ take (length p.first.requests.value) (map f leads) = take_map f (length m.requests.value) leads ∙ ap (λ (x : Module). take (length x.requests.value) (map f leads)) same in
        let others : map f (drop (length m.requests.value) leads) ≡ drop (length p.first.requests.value) (map f leads) = drop_map f (length m.requests.value) leads ∙ ap (λ (x : Module). drop (length x.requests.value) (map f leads)) same in
        let first : value_at new s ≡ Some (with_targets p.first 0 (take (length p.first.requests.value) (map f leads))) = rest.elsewhere s apart ∙ (one.here m live ∙ (λ i. Some (with_targets (same i) 0 (own i)))) in
        let behind : map (value_at new) more ≡ map Some (dealt p.others (drop (length p.first.requests.value) (map f leads))) = rest.under p.others (kept_all g next s more one.elsewhere apart ∙ p.there) ∙ ap (λ ts. map Some (dealt p.others ts)) others in
        (λ i. first i ∷ behind i) ∙ ap (λ ms. map Some (dealt ms (map f leads))) (sym p.are)
