-- Paths that a folder was asked for, and what is kept of it.
use Rattle.std.proofs.Common.{◌≡◌, ℕ, true, false, List, [], ◌∷◌, ◌++◌, Option, Some, None, refl, sym, ap, ◌∙◌, subst, append_assoc, append-nil, All, Contains}
use Rattle.std.specs.Prelude.{bytes_eq, is_some}
use Rattle.std.specs.Option.{option_or}
use Rattle.std.proofs.Common.{⊎_elim}
use Rattle.std.proofs.lemmas.Bool.{cases_Bool}
use Rattle.std.proofs.lemmas.List.Elements.{All-append, All-weaker, All-nil, All-contains, All-contains_itself}
use Rattle.std.proofs.lemmas.Slice.Eq.{bytes_eq-Decides}
use Rattle.tree_spec.proofs.FootprintSets.{distinct_none}
use Rattle.tree_spec.proofs.Fronts.{all_front}
use Rattle.tree_spec.specs.States.{FolderState}
use Rattle.tree_spec.specs.declared.Look.{Look}
use Rattle.package_lookup.specs.declared.known.Known.{Known}
use Rattle.package_lookup.specs.Looked.{laid_at, kept_at, known_at}
use Rattle.package_lookup.specs.Answered.{State, AsksOnce}
use Rattle.package_lookup.proofs.ButLast.{but_last_none, but_last_then}
use Rattle.package_lookup.proofs.PathSets.{Apart, distinct_append}
use Rattle.edit_session.specs.NewLooks.{KeepsLooks, AsksNew}

kept_apart : (known : Known) (one other : List ℕ) → is_some (kept_at known one) ≡ true → kept_at known other ≡ None
    → bytes_eq one other ≡ false
kept_apart known one other held new =
    ⊎_elim
    (λ e. let same : one ≡ other = (bytes_eq-Decides one other).0 e in
    let none : is_some (kept_at known one) ≡ false = ap (λ p. is_some (kept_at known p)) same ∙ ap is_some new in
    absurd (cc))
    (λ e. e)
    (cases_Bool (bytes_eq one other))

some_kept : (some other : Option Look) → ((look : Look) → some ≡ Some look → other ≡ Some look)
    → is_some some ≡ true → is_some other ≡ true
some_kept None other keeps e = absurd (cc)
some_kept (Some look) other keeps e = ap is_some (keeps look refl)

none_kept : (some other : Option Look) → ((look : Look) → some ≡ Some look → other ≡ Some look) → other ≡ None
    → some ≡ None
none_kept None other keeps e = refl
none_kept (Some look) other keeps e = (let f = keeps look refl in absurd (cc))

pub asks_new_then : (list : List (List ℕ)) (old mid new : Known) (middle after : FolderState) (some rest : Type 0)
    (First Last Whole : List ℕ → Type 0) → (some → ⊥) → KeepsLooks old mid → KeepsLooks mid new
    → ((path : List ℕ) → First path → Whole path) → ((path : List ℕ) → Last path → Whole path)
    → AsksNew list old middle mid some First
    → ((others : List (List ℕ)) → middle.asked ≡ Some others → AsksNew others mid after new rest Last)
    → AsksNew list old after new rest Whole
asks_new_then list old mid new middle after some rest First Last Whole done keeps goes first last one more =
    join (more (list ++ one.more) one.asked)
  where
    join : AsksNew (list ++ one.more) mid after new rest Last → AsksNew list old after new rest Whole
    join two =
        let was : All (λ path. is_some (kept_at mid path) ≡ true) one.more = one.held done in
        let still : All (λ path. is_some (kept_at new path) ≡ true) one.more =
        All-weaker (λ path. is_some (kept_at mid path) ≡ true) (λ path. is_some (kept_at new path) ≡ true)
        (λ path held. some_kept (kept_at mid path) (kept_at new path) (goes path) held) one.more was in
        record {
          more = one.more ++ two.more;
          asked = two.asked ∙ ap Some (append_assoc list one.more two.more);
          once = distinct_append one.more two.more one.once two.once
              (All-weaker (λ path. is_some (kept_at mid path) ≡ true) (Apart two.more)
              (λ path held. All-weaker (λ other. kept_at mid other ≡ None) (λ other. bytes_eq path other ≡ false)
              (λ other none. kept_apart mid path other held none) two.more two.new) one.more was);
          new = All-append (λ path. kept_at old path ≡ None) one.more two.more one.new
              (All-weaker (λ path. kept_at mid path ≡ None) (λ path. kept_at old path ≡ None)
              (λ path none. none_kept (kept_at old path) (kept_at mid path) (keeps path) none) two.more two.new);
          held = λ finished. All-append (λ path. is_some (kept_at new path) ≡ true) one.more two.more still
              (two.held finished);
          front = but_last_then (λ path. is_some (kept_at new path) ≡ true) one.more two.more still two.front;
          among = All-append Whole one.more two.more (All-weaker First Whole first one.more one.among)
              (All-weaker Last Whole last two.more two.among);
        }

pub asks_no_path : (list : List (List ℕ)) (old new : Known) (after : FolderState) (unfinished : Type 0)
    (Among : List ℕ → Type 0) → after.asked ≡ Some list → AsksNew list old after new unfinished Among
asks_no_path list old new after unfinished Among same = record {
  more = [];
  asked = same ∙ ap Some (sym (append-nil list));
  once = distinct_none;
  new = All-nil (λ path. kept_at old path ≡ None);
  held = λ finished. All-nil (λ path. is_some (kept_at new path) ≡ true);
  front = but_last_none (λ path. is_some (kept_at new path) ≡ true);
  among = All-nil Among;
}

pub asks_as : (list : List (List ℕ)) (old new : Known) (after : FolderState) (some other : Type 0)
    (One Other : List ℕ → Type 0) → (some → other) → ((path : List ℕ) → One path → Other path)
    → AsksNew list old after new some One → AsksNew list old after new other Other
asks_as list old new after some other One Other weaker goes asks = record {
  more = asks.more;
  asked = asks.asked;
  once = asks.once;
  new = asks.new;
  held = λ finished. asks.held (λ e. finished (weaker e));
  front = asks.front;
  among = All-weaker One Other goes asks.more asks.among;
}

-- ---- what was asked for once is kept

new_by : (laid kept : Option Look) → option_or laid kept ≡ None → kept ≡ None
new_by None kept e = e
new_by (Some look) kept e = absurd (cc)

unlaid_by : (laid kept : Option Look) → option_or laid kept ≡ None → laid ≡ None
unlaid_by None kept e = refl
unlaid_by (Some look) kept e = absurd (cc)

held_by : (laid kept : Option Look) → laid ≡ None → is_some (option_or laid kept) ≡ true → is_some kept ≡ true
held_by laid kept none held = ap (λ l. is_some (option_or l kept)) (sym none) ∙ held

both_by : (before after : Known) → ((path : List ℕ) → laid_at after path ≡ laid_at before path) → (more : List (List ℕ))
    → All (λ path. known_at before path ≡ None) more → All (λ path. is_some (known_at after path) ≡ true) more
    → All (λ path. is_some (kept_at after path) ≡ true) more
both_by before after laid more new held =
    All-weaker (Contains more) (λ path. is_some (kept_at after path) ≡ true)
    (λ path there. held_by (laid_at after path) (kept_at after path)
    (laid path ∙ unlaid_by (laid_at before path) (kept_at before path)
    (All-contains (λ other. known_at before other ≡ None) more path new there))
    (All-contains (λ other. is_some (known_at after other) ≡ true) more path held there))
    more (All-contains_itself more)

pub asks_once_new : (list : List (List ℕ)) (before after : State) (some other : Type 0) (One Other : List ℕ → Type 0)
    → ((path : List ℕ) → laid_at after.known path ≡ laid_at before.known path) → (some → other)
    → ((path : List ℕ) → One path → Other path) → AsksOnce list before after some One
    → AsksNew list before.known after.folder after.known other Other
asks_once_new list before after some other One Other laid weaker goes asks = record {
  more = asks.more;
  asked = asks.asked;
  once = asks.once;
  new = All-weaker (λ path. known_at before.known path ≡ None) (λ path. kept_at before.known path ≡ None)
      (λ path none. new_by (laid_at before.known path) (kept_at before.known path) none) asks.more asks.new;
  held = λ finished. both_by before.known after.known laid asks.more asks.new (asks.held (λ e. finished (weaker e)));
  front = λ first last e. both_by before.known after.known laid first
      (all_front (λ path. known_at before.known path ≡ None) first (last ∷ [])
      (subst (λ (paths : List (List ℕ)). All (λ path. known_at before.known path ≡ None) paths) e asks.new))
      (asks.front first last e);
  among = All-weaker One Other goes asks.more asks.among;
}
