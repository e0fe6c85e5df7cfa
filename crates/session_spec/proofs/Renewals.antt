-- How seldom a session begins another graph.
use Rattle.std.proofs.Common.{◌≡◌, ◌≤◌, ◌++◌, ◌∷◌, [], ℕ, List, length, Bool, true, false, refl, sym, ap, subst, arith}
use Rattle.std.specs.Prelude.{◌+◌, ◌*◌}
use Rattle.session_spec.specs.declared.Change.{Change}
use Rattle.session_spec.specs.Laws.{RenewalsAreRare}
use Rattle.session_spec.specs.SessionDoings.{Display, GraphGoes, goes_on, begins_anew, DoesEdit, DoesEdit as does_edit, is_anew, anew_at, Done, Does, begun, edits, collects, shows_it, anew_of, MayShow, MayShow as may_show, EditsDo, stands, stops, shown_anew, anew_to_end, IsOpening}
use Rattle.session_spec.specs.SessionStates.{SessionState}
use Rattle.session_spec.specs.Showings.{Shown, made_at_once}
use Rattle.session_spec.specs.Talks.{Standing}

-- ---- how many stand behind the last one that is so

abbrev since : ℕ → List Bool → ℕ
since n [] = n
since n (true ∷ more) = since 0 more
since n (false ∷ more) = since (n + 1) more

abbrev Spaced : ℕ → ℕ → List Bool → Type 0
Spaced some n [] = Unit {0}
Spaced some n (true ∷ more) = (some ≤ n) × Spaced some 0 more
Spaced some n (false ∷ more) = Spaced some (n + 1) more

abbrev since_one : ℕ → Bool → ℕ
since_one n true = 0
since_one n false = n + 1

since_then : (n : ℕ) (front : List Bool) (one : Bool) → since n (front ++ one ∷ []) ≡ since_one (since n front) one
since_then n [] true = refl
since_then n [] false = refl
since_then n (true ∷ front) one = since_then 0 front one
since_then n (false ∷ front) one = since_then (n + 1) front one

spaced_then : (some n : ℕ) (front : List Bool) (one : Bool) → Spaced some n front → (one ≡ true → some ≤ since n front) → Spaced some n (front ++ one ∷ [])
spaced_then some n [] true is enough = (enough refl, tt)
spaced_then some n [] false is enough = tt
spaced_then some n (true ∷ front) one is enough = (is.0, spaced_then some 0 front one is.1 enough)
spaced_then some n (false ∷ front) one is enough = spaced_then some (n + 1) front one is enough

since_few : (n : ℕ) (front : List Bool) → since n front ≤ n + length front
since_few n [] = omega arith
since_few n (true ∷ front) = (let few = since_few 0 front in omega (arith, few))
since_few n (false ∷ front) = (let few = since_few (n + 1) front in omega (arith, few))

spaced_at : (some n : ℕ) (front back : List Bool) → Spaced some n (front ++ true ∷ back) → some ≤ since n front
spaced_at some n [] back is = is.0
spaced_at some n (true ∷ front) back is = spaced_at some 0 front back is.1
spaced_at some n (false ∷ front) back is = spaced_at some (n + 1) front back is

spaced_behind : (some n : ℕ) (front back : List Bool) → Spaced some n (front ++ true ∷ back) → Spaced some 0 back
spaced_behind some n [] back is = is.1
spaced_behind some n (true ∷ front) back is = spaced_behind some 0 front back is.1
spaced_behind some n (false ∷ front) back is = spaced_behind some (n + 1) front back is

first_of : (some : ℕ) (anew front back : List Bool) → Spaced some 0 anew → anew ≡ front ++ true ∷ back → some ≤ length front
first_of some anew front back is e =
    let here = spaced_at some 0 front back (subst (Spaced some 0) e is) in
    let few = since_few 0 front in
    omega (arith, here, few)

between_of : (some : ℕ) (anew front middle back : List Bool) → Spaced some 0 anew → anew ≡ front ++ true ∷ (middle ++ true ∷ back) → some ≤ length middle
between_of some anew front middle back is e =
    first_of some (middle ++ true ∷ back) middle back (spaced_behind some 0 front (middle ++ true ∷ back) (subst (Spaced some 0) e is)) refl

-- ---- places

few_more : (made after n : ℕ) → made ≤ (n + 1) * 20063 → after ≤ made + 20063 → after ≤ (n + 1 + 1) * 20063
few_more made after n so_far few = omega (arith, so_far, few)

enough_edits : (made n : ℕ) → made ≤ (n + 1) * 20063 → 4294967232 ≤ made + 20063 + 20000 → 200000 ≤ n
enough_edits made n so_far full = omega (arith, so_far, full)

record IsBounded (made : ℕ) (anew : List Bool) : Type 0 where
  pub few : made ≤ (since 0 anew + 1) * 20063
  pub spaced : Spaced 200000 0 anew

-- what an edit makes, where it begins another graph and where it doesn't
record MakesFew (made : ℕ) (one : Bool) (after : ℕ) : Type 0 where
  pub few : after ≤ made + 20063
  pub anew : one ≡ true → (4294967232 ≤ made + 20063 + 20000) × (after ≤ 20063)

few_by : (state next : SessionState) (before after : Display) (graph : GraphGoes state next before after) → after.made ≤ before.made + made_at_once → MakesFew before.made (is_anew state next before after graph) after.made
few_by state next before after (goes_on keeps) few = record { few = few; anew = λ e. absurd (cc) }
few_by state next before after (begins_anew full at_once) few = record { few = few; anew = λ e. (full, at_once) }

makes_few : (state : SessionState) (edit : List Change) (before after : Display) (next : SessionState) (line : List ℕ) (showings : List (List Shown)) (does : DoesEdit state edit before after next line showings)
    → MakesFew before.made (anew_at state edit before after next line showings does) after.made
makes_few state edit before after _ _ _ (does_edit.accepted next line is displays) = few_by state next before after displays.graph displays.few
makes_few state edit before after _ _ _ (does_edit.refused line is displays) = record { few = displays.few; anew = λ e. absurd (cc) }

few_then : (made after : ℕ) (n : ℕ) (one : Bool) → made ≤ (n + 1) * 20063 → MakesFew made one after → after ≤ (since_one n one + 1) * 20063
few_then made after n true so_far makes = (let few = (makes.anew refl).1 in omega (arith, few))
few_then made after n false so_far makes = few_more made after n so_far makes.few

bounded_then : (made after : ℕ) (anew : List Bool) (one : Bool) → IsBounded made anew → MakesFew made one after → IsBounded after (anew ++ one ∷ [])
bounded_then made after anew one is makes = record {
  few = subst (λ (n : ℕ). after ≤ (n + 1) * 20063) (sym (since_then 0 anew one)) (few_then made after (since 0 anew) one is.few makes);
  spaced = spaced_then 200000 0 anew one is.spaced (λ e. enough_edits made (since 0 anew) is.few (makes.anew e).0);
}

bounded : (first : SessionState) (input : List ℕ) (opened : Done) → IsOpening first opened → (at : Standing) (text : List ℕ) (done : Done) (does : Does first input opened at text done)
    → IsBounded done.display.made (anew_of first input opened at text done does)
bounded first input opened is _ _ _ begun = record { few = (let few = is.few in omega (arith, few)); spaced = tt }
bounded first input opened is _ _ _ (edits at text so_far edit rest next line spent display showings goes e frugal does) =
    bounded_then so_far.display.made display.made (anew_of first input opened at text so_far goes) (anew_at at.state edit so_far.display display next line showings does)
    (bounded first input opened is at text so_far goes) (makes_few at.state edit so_far.display display next line showings does)
bounded first input opened is _ _ _ (collects at text done held rest goes e) = bounded first input opened is at text done goes
bounded first input opened is _ _ _ (shows_it at text done rest goes e) = bounded first input opened is at text done goes

-- the edit to which nothing was replied
append_none : (anew : List Bool) → anew ++ [] ≡ anew
append_none [] = refl
append_none (one ∷ anew) = ap (λ more. one ∷ more) (append_none anew)

spaced_by : (state : SessionState) (edit : List Change) (before : Display) (showings : List (List Shown)) (displays : MayShow state edit before showings) (anew : List Bool)
    → IsBounded before.made anew → Spaced 200000 0 (anew ++ shown_anew state edit before showings displays)
spaced_by state edit before _ may_show.nothing anew is = subst (Spaced 200000 0) (sym (append_none anew)) is.spaced
spaced_by state edit before _ (may_show.accepted next line after _ displays) anew is =
    (bounded_then before.made after.made anew (is_anew state next before after displays.graph) is
    (few_by state next before after displays.graph displays.few)).spaced

spaced_to_end : (first : SessionState) (input : List ℕ) (opened : Done) → IsOpening first opened → (text : List ℕ) (spent : ℕ) (showings : List (List Shown))
    (does : EditsDo first input opened text spent showings) → Spaced 200000 0 (anew_to_end first input opened text spent showings does)
spaced_to_end first input opened is _ _ _ (stands at text done goes) = (bounded first input opened is at text done goes).spaced
spaced_to_end first input opened is _ _ _ (stops at text done edit rest spent showings goes e frugal displays) =
    spaced_by at.state edit done.display showings displays (anew_of first input opened at text done goes)
    (bounded first input opened is at text done goes)

pub renewals_are_rare : RenewalsAreRare
renewals_are_rare first input opened text spent showings is does =
    let anew = anew_to_end first input opened text spent showings does in
    let spaced = spaced_to_end first input opened is text spent showings does in
    record { first = λ front back e. first_of 200000 anew front back spaced e; between = λ front middle back e. between_of 200000 anew front middle back spaced e }
