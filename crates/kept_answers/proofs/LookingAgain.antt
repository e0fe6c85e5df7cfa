-- Looks one after another.
--     Again before whole now rest       the looks before the rest saw the same again
--     again_err                         a fault that is handed on
--     again_begins, again_goes          at the first look, and behind one more
--     again_ends, again_fails, again_differs      at the end, where a look fails, and where one sees otherwise
--     SoFar before whole now rest looks           the looks at the paths before the rest
--     far_begins, far_goes, far_ends, far_fails, far_lost
use Rattle.std.proofs.Common.{◌≡◌, ℕ, List, [], ◌∷◌, ◌++◌, length, Bool, Option, Some, Result, refl, sym, ap, ◌∙◌, subst, append_assoc, append-nil}
use Rattle.std.specs.Prelude.{All}
use Rattle.std.specs.Result.{IsErrAnd}
use Rattle.std.proofs.lemmas.List.Elements.{All-nil, All-cons, All-append}
use Rattle.tree_spec.specs.LookAskings.{look_at, look_at_each}
use Rattle.tree_spec.specs.LookLimits.{Trail, begun}
use Rattle.tree_spec.specs.declared.Entry.{Entry}
use Rattle.package_lookup.specs.Answered.{State, state, Answered}
use Rattle.package_lookup.specs.LaidTrees.{look_for}
use Rattle.package_lookup.specs.Looked.{known_at}
use Rattle.package_lookup.specs.Responses.{given, fails, no_memory, never, by_fault}
use Rattle.package_lookup.specs.SeenLooks.{entry_of, look_seen}
use Rattle.package_lookup.specs.declared.fault.LookupFault.{LookupFault}
use Rattle.package_lookup.specs.declared.held.Seen.{Seen}
use Rattle.package_lookup.specs.declared.known.Known.{Known}
use Rattle.package_lookup.proofs.Questions.{Left, handed, left_begins, left_goes, looked_on, now_given, no_memory_now}
use Rattle.kept_spec.specs.Certificates.{LookSeen, paths_of}
use Rattle.kept_answers.specs.KnownLooks.{IsSmall, IsAsKnown, AreLooksAt, afresh, IsSeenAgain, LooksTo, IsOther, LooksAgain}
use Rattle.kept_answers.proofs.KnownLemmas.{as_seen, all_still}

paths_one : (same : List LookSeen) (look : LookSeen) (more : List (List ℕ))
    → paths_of (same ++ look ∷ []) ++ more ≡ paths_of same ++ look.path ∷ more
paths_one [] look more = refl
paths_one (first ∷ same) look more = ap (λ ps. first.path ∷ ps) (paths_one same look more)

-- a look whose path is known so
pub is_known : (known : Known) (path : List ℕ) (seen : Seen) (look : LookSeen)
    → known_at known path ≡ Some (look_seen seen) → look_seen seen ≡ look_for look.found → path ≡ look.path
    → IsSmall look.found → IsAsKnown known look
is_known known path seen look here same at small = record {
  known_so = ap (known_at known) (sym at) ∙ (here ∙ ap Some same);
  small = small;
}

-- ---- looks again

pub again_err : (before : State) (looks : List LookSeen) (result : Result Bool LookupFault) (fault : LookupFault)
    (after : State) → IsErrAnd result (λ given. given ≡ fault)
    → LooksTo before looks (by_fault (fails never) (fails never) fault) after → LooksAgain before looks result after
again_err before looks result fault after e to =
    subst (λ r. LooksAgain before looks r after) (sym (handed result fault e)) to

pub record Again (before : State) (whole : List LookSeen) (now : State) (rest : List LookSeen) : Type 0 where
  pub same : List LookSeen
  pub split : whole ≡ same ++ rest
  pub each : All (IsAsKnown now.known) same
  pub left :
      (more : List (List ℕ))
      → Left (afresh before) (look_at_each (paths_of same ++ more)) now (look_at_each more)

pub again_begins : (before : State) (whole : List LookSeen) (trail : Trail) → trail ≡ begun before.trail
    → Again before whole (state before.folder before.known trail) whole
again_begins before whole trail same =
    subst (λ t. Again before whole (state before.folder before.known t) whole) (sym same)
    (record {
      same = [];
      split = refl;
      each = All-nil (IsAsKnown before.known);
      left = λ more. left_begins (afresh before) (look_at_each more);
    })

module _ (before now later : State) (whole rest others : List LookSeen) (look : LookSeen) (path : List ℕ)
    (again : Again before whole now rest) (cut : rest ≡ look ∷ others) (at : path ≡ look.path) where
  split_here : whole ≡ again.same ++ look ∷ others
  split_here = again.split ∙ ap (λ r. again.same ++ r) cut

  left_at : (more : List (List ℕ)) (found : Option Entry) → Answered now (look_at path) (given found) later
      → Left (afresh before) (look_at_each (paths_of again.same ++ look.path ∷ more)) later (look_at_each more)
  left_at more found a =
      left_goes (afresh before) now later (look_at_each (paths_of again.same ++ look.path ∷ more)) (look_at look.path)
      (λ seen. look_at_each more) found (again.left (look.path ∷ more))
      (subst (λ p. Answered now (look_at p) (given found) later) at a)

  pub again_goes : (found : Option Entry) → Answered now (look_at path) (given found) later
      → IsAsKnown later.known look → Again before whole later others
  again_goes found a is = record {
    same = again.same ++ look ∷ [];
    split = split_here ∙ sym (append_assoc again.same (look ∷ []) others);
    each = All-append (IsAsKnown later.known) again.same (look ∷ [])
        (all_still now.known later.known a.known again.same again.each)
        (All-cons (IsAsKnown later.known) look [] is (All-nil (IsAsKnown later.known)));
    left = λ more. subst (λ ps. Left (afresh before) (look_at_each ps) later (look_at_each more))
        (sym (paths_one again.same look more)) (left_at more found a);
  }

  pub again_fails : (fault : LookupFault) → Answered now (look_at path) (by_fault (fails never) (fails never) fault) later
      → LooksTo before whole (by_fault (fails never) (fails never) fault) later
  again_fails fault a = record {
    same = again.same;
    next = look;
    rest = others;
    split = split_here;
    each = all_still now.known later.known a.known again.same again.each;
    answered = (again.left (look.path ∷ [])).completes (by_fault (fails never) (fails never) fault) later
        (looked_on now later (look_at look.path) (λ found. look_at_each []) fault
        (subst (λ p. Answered now (look_at p) (by_fault (fails never) (fails never) fault) later) at a));
  }

  pub again_differs : (seen : Seen) → Answered now (look_at path) (given (entry_of seen)) later
      → known_at later.known path ≡ Some (look_seen seen) → (look_seen seen ≡ look_for look.found → ⊥)
      → IsSmall look.found → (to : LooksTo before whole (given tt) later) × IsOther later.known to.next
  again_differs seen a here other small = (
    record {
      same = again.same;
      next = look;
      rest = others;
      split = split_here;
      each = all_still now.known later.known a.known again.same again.each;
      answered = (left_at [] (entry_of seen) a).completes (given tt) later (now_given later tt);
    },
    record {
      seen = look_seen seen;
      known_so = ap (known_at later.known) (sym at) ∙ here;
      other = other;
      small = small;
    },
  )

pub again_ends : (before now : State) (whole rest : List LookSeen) → Again before whole now rest → length rest ≡ 0
    → IsSeenAgain before whole now
again_ends before now whole [] again e =
    let same : whole ≡ again.same = again.split ∙ append-nil again.same in
    record {
      each = subst (All (IsAsKnown now.known)) (sym same) again.each;
      answered = subst (λ ps. Answered (afresh before) (look_at_each ps) (given tt) now)
          (append-nil (paths_of again.same) ∙ ap paths_of (sym same))
          ((again.left []).completes (given tt) now (now_given now tt));
    }
again_ends before now whole (look ∷ rest) again e = absurd (cc)

-- ---- looks at paths

pub record SoFar (before : State) (whole : List (List ℕ)) (now : State) (rest : List (List ℕ))
    (looks : List LookSeen) : Type 0 where
  pub left : Left before (look_at_each whole) now (look_at_each rest)
  pub split : whole ≡ paths_of looks ++ rest
  pub each : All (IsAsKnown now.known) looks

pub far_begins : (before : State) (whole : List (List ℕ)) (looks : List LookSeen) → looks ≡ []
    → SoFar before whole before whole looks
far_begins before whole looks none =
    subst (λ ls. SoFar before whole before whole ls) (sym none)
    (record {
      left = left_begins before (look_at_each whole);
      split = refl;
      each = All-nil (IsAsKnown before.known);
    })

module _ (before now later : State) (whole rest others : List (List ℕ)) (path : List ℕ) (looks : List LookSeen)
    (far : SoFar before whole now rest looks) (cut : rest ≡ path ∷ others) where
  left_behind : (found : Option Entry) → Answered now (look_at path) (given found) later
      → Left before (look_at_each whole) later (look_at_each others)
  left_behind found a =
      left_goes before now later (look_at_each whole) (look_at path) (λ seen. look_at_each others) found
      (subst (λ r. Left before (look_at_each whole) now (look_at_each r)) cut far.left) a

  pub far_goes : (seen : Seen) (own : List ℕ) (look : LookSeen) (more : List LookSeen) → own ≡ path
      → Answered now (look_at path) (given (entry_of seen)) later → known_at later.known path ≡ Some (look_seen seen)
      → IsSmall (entry_of seen) → look ≡ record { path = own; found = entry_of seen } → more ≡ looks ++ look ∷ []
      → SoFar before whole later others more
  far_goes seen own look more copy a here small is all =
      subst (λ ls. SoFar before whole later others ls)
      (sym (all ∙ (ap (λ l. looks ++ l ∷ []) is
      ∙ ap (λ p. looks ++ record { path = p; found = entry_of seen } ∷ []) copy)))
      (record {
        left = left_behind (entry_of seen) a;
        split = far.split ∙ (ap (λ r. paths_of looks ++ r) cut
            ∙ sym (paths_one looks (record { path = path; found = entry_of seen }) others));
        each = All-append (IsAsKnown later.known) looks (record { path = path; found = entry_of seen } ∷ [])
            (all_still now.known later.known a.known looks far.each)
            (All-cons (IsAsKnown later.known) (record { path = path; found = entry_of seen }) []
            (record { known_so = here ∙ ap Some (as_seen seen); small = small }) (All-nil (IsAsKnown later.known)));
      })

  pub far_fails : (fault : LookupFault) → Answered now (look_at path) (by_fault (fails never) (fails never) fault) later
      → Answered before (look_at_each whole) (by_fault (fails never) (fails never) fault) later
  far_fails fault a =
      far.left.completes (by_fault (fails never) (fails never) fault) later
      (subst (λ r. Answered now (look_at_each r) (by_fault (fails never) (fails never) fault) later) (sym cut)
      (looked_on now later (look_at path) (λ found. look_at_each others) fault a))

  -- memory was wanting behind the look
  pub far_lost : (found : Option Entry) → Answered now (look_at path) (given found) later
      → Answered before (look_at_each whole) (fails no_memory) later
  far_lost found a =
      (left_behind found a).completes (fails no_memory) later (no_memory_now later (look_at_each others))

pub far_ends : (before now : State) (whole rest : List (List ℕ)) (looks : List LookSeen)
    → SoFar before whole now rest looks → length rest ≡ 0
    → Answered before (look_at_each whole) (given tt) now × AreLooksAt now.known whole looks
far_ends before now whole [] looks far e = (
  far.left.completes (given tt) now (now_given now tt),
  record { paths_are = sym (far.split ∙ append-nil (paths_of looks)); each = far.each },
)
far_ends before now whole (path ∷ rest) looks far e = absurd (cc)
