-- Answers by what is kept, which is right or isn't.
--     untold_answered              what is done of a folder that tells a tree is done of one that tells none
--     seen_untold, to_untold       the same of looks again
--     if_whatever                  an answer that rests on nothing kept
--     if_when                      where what is kept is right because something else is
--     if_mapped                    the same answer, told otherwise
--     given_if, failed_if, behind_if      a kept answer, where its looks see the same, fail, or one sees otherwise
use Rattle.std.proofs.Common.{◌≡◌, ℕ, List, [], ◌∷◌, ◌++◌, IfSome, refl, ◌∙◌, subst}
use Rattle.tree_spec.proofs.Contained.{all_contained}
use Rattle.tree_spec.proofs.ToldStates.{if_all, if_some, if_two}
use Rattle.tree_spec.specs.LookAskings.{LookAsking, look_at_each}
use Rattle.package_lookup.specs.Answered.{State, Tells, IsLookOf, AsksOnce, Answered}
use Rattle.package_lookup.specs.Learning.{IsSameIn}
use Rattle.package_lookup.specs.Responses.{Response, Failing, given, fails, no_memory}
use Rattle.package_lookup.proofs.Learnings.{learns_by}
use Rattle.kept_spec.specs.Certificates.{LookSeen, paths_of}
use Rattle.kept_answers.specs.KnownLooks.{afresh, IsSeenAgain, LooksTo, IsKept}
use Rattle.kept_answers.specs.RightAnswers.{untold, untold_state, AnsweredIf}
use Rattle.kept_answers.proofs.Certifying.{given_again, failed_again, behind_looks}

module _ {X : Type 0} (before after : State) (asking : LookAsking X) (response : Response X) where
  pub same_by : Answered before asking response after → IfSome before.folder.holds (λ tree. IsSameIn tree before after)
  same_by a = (learns_by before after asking response a).same

  asked_untold : (old : List (List ℕ)) → AsksOnce old before after (response ≡ fails no_memory) (IsLookOf before asking)
      → AsksOnce old (untold_state before) (untold_state after) (response ≡ fails no_memory)
      (IsLookOf (untold_state before) asking)
  asked_untold old asks = record {
    more = asks.more;
    asked = asks.asked;
    once = asks.once;
    new = asks.new;
    held = asks.held;
    front = asks.front;
    among = all_contained (IsLookOf (untold_state before) asking) asks.more (λ path held. tt);
  }

  pub untold_answered : Answered before asking response after
      → Answered (untold_state before) asking response (untold_state after)
  untold_answered a = record {
    tells = tt;
    known = a.known;
    trail = a.trail;
    covered = a.covered;
    asked = if_some {P = λ old. AsksOnce old before after (response ≡ fails no_memory) (IsLookOf before asking)}
        {Q = λ old. AsksOnce old (untold_state before) (untold_state after) (response ≡ fails no_memory)
        (IsLookOf (untold_state before) asking)} before.folder.asked asked_untold a.asked;
    folder = record {
      tree = refl;
      writes = a.folder.writes;
      later = a.folder.later;
      cause = a.folder.cause;
      quiet = a.folder.quiet;
    };
    possible = a.possible;
  }

  pub if_whatever : (right : Type 0) → Answered before asking response after
      → AnsweredIf right before asking response after
  if_whatever right a = record {
    is = λ holds. a;
    always = untold_answered a;
    tree = a.folder.tree;
    same = same_by a;
  }

  pub if_when : (right wider : Type 0) → (wider → right) → AnsweredIf right before asking response after
      → AnsweredIf wider before asking response after
  if_when right wider so a = record {
    is = λ holds. a.is (so holds);
    always = a.always;
    tree = a.tree;
    same = a.same;
  }

pub if_mapped : {X Y : Type 0} (right : Type 0) (before after : State) (asking : LookAsking X) (other : LookAsking Y)
    (response : Response X) (named : Response Y)
    → ((from to : State) → Answered from asking response to → Answered from other named to)
    → AnsweredIf right before asking response after → AnsweredIf right before other named after
if_mapped right before after asking other response named so a = record {
  is = λ holds. so before after (a.is holds);
  always = so (untold_state before) (untold_state after) a.always;
  tree = a.tree;
  same = a.same;
}

-- ---- looks again

seen_untold : (before after : State) (looks : List LookSeen) → IsSeenAgain before looks after
    → IsSeenAgain (untold_state before) looks (untold_state after)
seen_untold before after looks again = record {
  each = again.each;
  answered = untold_answered (afresh before) after (look_at_each (paths_of looks)) (given tt) again.answered;
}

to_untold : (before after : State) (looks : List LookSeen) (response : Response (Unit {0}))
    → LooksTo before looks response after → LooksTo (untold_state before) looks response (untold_state after)
to_untold before after looks response to = record {
  same = to.same;
  next = to.next;
  rest = to.rest;
  split = to.split;
  each = to.each;
  answered = untold_answered (afresh before) after (look_at_each (paths_of to.same ++ to.next.path ∷ [])) response
      to.answered;
}

module _ {X : Type 0} (asking : LookAsking X) (value : X) (seen : List LookSeen) (before : State) (right : Type 0)
    (kept : right → IsKept asking value seen) where
  told_kept : right → IfSome before.folder.holds (λ tree. IsKept asking value seen)
  told_kept holds = if_all before.folder.holds (λ tree. kept holds)

  pub given_if : (after : State) → IsSeenAgain before seen after
      → AnsweredIf right (afresh before) asking (given value) after
  given_if after again = record {
    is = λ holds. given_again asking value seen before (told_kept holds) after again;
    always = given_again asking value seen (untold_state before) tt (untold_state after)
        (seen_untold before after seen again);
    tree = again.answered.folder.tree;
    same = same_by (afresh before) after (look_at_each (paths_of seen)) (given tt) again.answered;
  }

  pub failed_if : (failing : Failing) (after : State) → LooksTo before seen (fails failing) after
      → AnsweredIf {X = X} right (afresh before) asking (fails failing) after
  failed_if failing after to = record {
    is = λ holds. failed_again asking value seen before (told_kept holds) failing after to;
    always = failed_again asking value seen (untold_state before) tt failing (untold_state after)
        (to_untold before after seen (fails failing) to);
    tree = to.answered.folder.tree;
    same = same_by (afresh before) after (look_at_each (paths_of to.same ++ to.next.path ∷ [])) (fails failing)
        to.answered;
  }

  pub behind_if : (middle : State) → LooksTo before seen (given tt) middle → (response : Response X) (after : State)
      → Answered (afresh middle) asking response after → AnsweredIf right (afresh before) asking response after
  behind_if middle to response after rest = record {
    is = λ holds. behind_looks asking value seen before (told_kept holds) middle to response after rest;
    always = behind_looks asking value seen (untold_state before) tt (untold_state middle)
        (to_untold before middle seen (given tt) to) response (untold_state after)
        (untold_answered (afresh middle) after asking response rest);
    tree = rest.folder.tree ∙ to.answered.folder.tree;
    same = if_two {P = λ tree. IsSameIn tree (afresh before) middle} {Q = λ tree. IsSameIn tree (afresh middle) after}
        {R = λ tree. IsSameIn tree (afresh before) after} before.folder.holds
        (λ tree first last path. last path ∙ first path)
        (same_by (afresh before) middle (look_at_each (paths_of to.same ++ to.next.path ∷ [])) (given tt) to.answered)
        (subst (λ told. IfSome told (λ tree. IsSameIn tree (afresh middle) after)) to.answered.folder.tree
        (same_by (afresh middle) after asking response rest));
  }
