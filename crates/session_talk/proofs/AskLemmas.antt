-- What turns ask, one after another.
use Rattle.std.proofs.Common.{◌≡◌, ◌++◌, ◌∷◌, [], ℕ, List, Bool, true, false, Option, Some, None, refl, sym, ap, ◌∙◌, subst, ⊎_elim, arith}
use Rattle.std.proofs.lemmas.Bool.{cases_Bool}
use Rattle.std.proofs.lemmas.List.{append-nil, append_assoc}
use Rattle.std.proofs.lemmas.List.Elements.{All-head, All-tail, All-nil, All-append, All-weaker, recursion_from_All}
use Rattle.std.proofs.lemmas.Slice.Eq.{bytes_eq-Decides}
use Rattle.std.specs.List.{IsDistinct, AllByRecursion}
use Rattle.std.specs.Prelude.{All, IfSome, bytes_eq}
use Rattle.tree_spec.proofs.FootprintSets.{distinct_none}
use Rattle.tree_spec.proofs.ToldStates.{if_some}
use Rattle.session_talk.specs.EditorLooks.{LookState, AsksUnkept, AsksAndKeeps, AsksSome, AsksKeeping, TurnAsks}

-- ---- paths

abbrev Apart : List (List ℕ) → List ℕ → Type 0
Apart paths path = All (λ other. bytes_eq path other ≡ false) paths

apart_append : (P : List ℕ → Type 0) (xs ys : List (List ℕ)) → AllByRecursion P xs → AllByRecursion P ys → AllByRecursion P (xs ++ ys)
apart_append P [] ys a b = b
apart_append P (x ∷ xs) ys a b = (a.0, apart_append P xs ys a.1 b)

distinct_append : (xs ys : List (List ℕ)) → IsDistinct bytes_eq xs → IsDistinct bytes_eq ys → All (Apart ys) xs → IsDistinct bytes_eq (xs ++ ys)
unfolding IsDistinct
distinct_append [] ys some more apart = more
distinct_append (x ∷ xs) ys some more apart = (
  apart_append (λ y. bytes_eq x y ≡ false) xs ys some.0
      (recursion_from_All (λ y. bytes_eq x y ≡ false) ys (All-head (Apart ys) x xs apart)),
  distinct_append xs ys some.1 more (All-tail (Apart ys) x xs apart),
)

kept_apart : (kept : List ℕ → Bool) (one other : List ℕ) → kept one ≡ true → kept other ≡ false → bytes_eq one other ≡ false
kept_apart kept one other held new =
    ⊎_elim
    (λ e. let same : one ≡ other = (bytes_eq-Decides one other).0 e in
    let none : kept one ≡ false = ap kept same ∙ new in
    absurd (cc))
    (λ e. e)
    (cases_Bool (bytes_eq one other))

not_before : (before after : Bool) → (before ≡ true → after ≡ true) → after ≡ false → before ≡ false
not_before true after keeps new = (let held = keeps refl in absurd (cc))
not_before false after keeps new = refl

-- ---- one after another

nothing_asked : (state : LookState) (told : Option (List (List ℕ))) → state.folder.asked ≡ told → IfSome told (λ old. AsksAndKeeps old state state)
nothing_asked state None is = tt
nothing_asked state (Some old) is = record {
  asks = record { more = []; asked = is ∙ ap Some (sym (append-nil old)); once = distinct_none; new = All-nil (λ path. state.kept path ≡ false) };
  held = All-nil (λ path. state.kept path ≡ true);
}

pub keeps_same : (state : LookState) → AsksKeeping state state
keeps_same state = record {
  asks = record { references = refl; tree = refl; writes = refl; later = omega arith; asked = nothing_asked state state.folder.asked refl };
  keeps = λ path held. held;
}

pub some_of_keeping : (before after : LookState) → AsksKeeping before after → AsksSome before after
some_of_keeping before after is = record {
  references = is.asks.references;
  tree = is.asks.tree;
  writes = is.asks.writes;
  later = is.asks.later;
  asked = if_some before.folder.asked (λ old both. both.asks) is.asks.asked;
}

module _ (before middle after : LookState) (first : AsksKeeping before middle) where
  abbrev join : (old : List (List ℕ)) (one : AsksAndKeeps old before middle) → AsksUnkept (old ++ one.asks.more) middle after → AsksUnkept old before after
  join old one two = record {
    more = one.asks.more ++ two.more;
    asked = two.asked ∙ ap Some (append_assoc old one.asks.more two.more);
    once = distinct_append one.asks.more two.more one.asks.once two.once
        (All-weaker (λ path. middle.kept path ≡ true) (Apart two.more)
        (λ path held. All-weaker (λ other. middle.kept other ≡ false) (λ other. bytes_eq path other ≡ false)
        (λ other new. kept_apart middle.kept path other held new) two.more two.new) one.asks.more one.held);
    new = All-append (λ path. before.kept path ≡ false) one.asks.more two.more one.asks.new
        (All-weaker (λ path. middle.kept path ≡ false) (λ path. before.kept path ≡ false)
        (λ path new. not_before (before.kept path) (middle.kept path) (first.keeps path) new) two.more two.new);
  }

  join_keeping : (old : List (List ℕ)) (one : AsksAndKeeps old before middle) → ((path : List ℕ) → middle.kept path ≡ true → after.kept path ≡ true)
      → AsksAndKeeps (old ++ one.asks.more) middle after → AsksAndKeeps old before after
  join_keeping old one keeps two = record {
    asks = join old one two.asks;
    held = All-append (λ path. after.kept path ≡ true) one.asks.more two.asks.more
        (All-weaker (λ path. middle.kept path ≡ true) (λ path. after.kept path ≡ true) keeps one.asks.more one.held) two.held;
  }

  joined : (told : Option (List (List ℕ))) → IfSome told (λ old. AsksAndKeeps old before middle) → IfSome middle.folder.asked (λ old. AsksUnkept old middle after) → IfSome told (λ old. AsksUnkept old before after)
  joined None one two = tt
  joined (Some old) one two = join old one (subst (λ (t : Option (List (List ℕ))). IfSome t (λ list. AsksUnkept list middle after)) one.asks.asked two)

  joined_keeping : (told : Option (List (List ℕ))) → ((path : List ℕ) → middle.kept path ≡ true → after.kept path ≡ true) → IfSome told (λ old. AsksAndKeeps old before middle)
      → IfSome middle.folder.asked (λ old. AsksAndKeeps old middle after) → IfSome told (λ old. AsksAndKeeps old before after)
  joined_keeping None keeps one two = tt
  joined_keeping (Some old) keeps one two = join_keeping old one keeps (subst (λ (t : Option (List (List ℕ))). IfSome t (λ list. AsksAndKeeps list middle after)) one.asks.asked two)

  pub keeping_then : AsksKeeping middle after → AsksKeeping before after
  keeping_then last = record {
    asks = record {
      references = last.asks.references ∙ first.asks.references;
      tree = last.asks.tree ∙ first.asks.tree;
      writes = last.asks.writes ∙ first.asks.writes;
      later = let a = first.asks.later in let b = last.asks.later in omega (arith, a, b);
      asked = joined_keeping before.folder.asked last.keeps first.asks.asked last.asks.asked;
    };
    keeps = λ path held. last.keeps path (first.keeps path held);
  }

  pub some_then : AsksSome middle after → AsksSome before after
  some_then last = record {
    references = last.references ∙ first.asks.references;
    tree = last.tree ∙ first.asks.tree;
    writes = last.writes ∙ first.asks.writes;
    later = let a = first.asks.later in let b = last.later in omega (arith, a, b);
    asked = joined before.folder.asked first.asks.asked last.asked;
  }

pub turn_same : (result : Option ℕ) (state : LookState) → TurnAsks result state state
turn_same None state = keeps_same state
turn_same (Some status) state = some_of_keeping state state (keeps_same state)

pub turn_keeping : (result : Option ℕ) (before after : LookState) → AsksKeeping before after → TurnAsks result before after
turn_keeping None before after is = is
turn_keeping (Some status) before after is = some_of_keeping before after is

pub ruleset asking = (keeps_same, some_of_keeping, keeping_then, some_then, turn_same, turn_keeping)
