-- What one call after another learns.
--     learns_then          what two calls learn
--     learns_nothing       what none learns
--     learns_as            the same, where more may be left unfinished
--     learns_by            what a call that asks learns
--     learns_at            the same beside other trails
use Rattle.std.proofs.Common.{◌≡◌, ℕ, List, Option, Some, None, IfSome, refl, ◌∙◌, subst}
use Rattle.tree_spec.specs.LookAskings.{LookAsking}
use Rattle.tree_spec.specs.LookLimits.{Trail}
use Rattle.tree_spec.specs.Trees.{Tree}
use Rattle.tree_spec.proofs.ToldStates.{if_some}
use Rattle.package_lookup.specs.Answered.{State, state, Tells, IsLookOf, AsksOnce, Answered}
use Rattle.package_lookup.specs.Learning.{IsSameIn, Learns}
use Rattle.package_lookup.specs.Responses.{Response, fails, no_memory}
use Rattle.package_lookup.proofs.Questions.{grows_itself, grows_twice, asks_then, asks_nothing_told, asks_finished}

same_then : (told later : Option Tree) (before middle after : State) → later ≡ told
    → IfSome told (λ tree. IsSameIn tree before middle) → IfSome later (λ tree. IsSameIn tree middle after)
    → IfSome told (λ tree. IsSameIn tree before after)
same_then None later before middle after e first rest = tt
same_then (Some tree) later before middle after e first rest =
    (let two : IsSameIn tree middle after = subst (λ t. IfSome t (λ tree. IsSameIn tree middle after)) e rest in
    (λ path. two path ∙ first path))

same_now : (told : Option Tree) (before : State) → IfSome told (λ tree. IsSameIn tree before before)
same_now None before = tt
same_now (Some tree) before = λ path. refl

pub learns_then : (before middle after : State) (some rest : Type 0) (First Last Whole : List ℕ → Type 0) → (some → ⊥)
    → ((path : List ℕ) → First path → Whole path) → ((path : List ℕ) → Last path → Whole path)
    → Learns before middle some First → Learns middle after rest Last → Learns before after rest Whole
learns_then before middle after some rest First Last Whole done one two first last = record {
  tree = last.tree ∙ first.tree;
  same = same_then before.folder.holds middle.folder.holds before middle after first.tree first.same last.same;
  known = grows_twice before.known middle.known after.known first.known last.known;
  asked = if_some {P = λ old. AsksOnce old before middle some First} {Q = λ old. AsksOnce old before after rest Whole}
      before.folder.asked
      (λ old asks. asks_then old before middle after some rest First Last Whole done first.known last.known one two asks last.asked) first.asked;
}

pub learns_nothing : (before : State) (unfinished : Type 0) (Among : List ℕ → Type 0)
    → Learns before before unfinished Among
learns_nothing before unfinished Among = record {
  tree = refl;
  same = same_now before.folder.holds before;
  known = grows_itself before.known;
  asked = asks_nothing_told before.folder.asked before before unfinished Among refl;
}

pub learns_as : (before after : State) (some other : Type 0) (One Other : List ℕ → Type 0) → (some → other)
    → ((path : List ℕ) → One path → Other path) → Learns before after some One → Learns before after other Other
learns_as before after some other One Other weaker goes learns = record {
  tree = learns.tree;
  same = learns.same;
  known = learns.known;
  asked = if_some {P = λ old. AsksOnce old before after some One} {Q = λ old. AsksOnce old before after other Other}
      before.folder.asked
      (λ old asks. asks_finished old before after some other One Other weaker goes asks) learns.asked;
}

pub learns_by : {X : Type 0} (before after : State) (asking : LookAsking X) (response : Response X)
    → Answered before asking response after
    → Learns before after (response ≡ fails no_memory) (IsLookOf before asking)
learns_by before after asking response a = record {
  tree = a.folder.tree;
  same = if_some {P = λ tree. Tells tree before asking response after} {Q = λ tree. IsSameIn tree before after}
      before.folder.holds (λ tree tells. tells.same) a.tells;
  known = a.known;
  asked = a.asked;
}

pub learns_at : (before after : State) (first last : Trail) (unfinished : Type 0) (Among : List ℕ → Type 0)
    → Learns before after unfinished Among
    → Learns (state before.folder before.known first) (state after.folder after.known last) unfinished Among
learns_at before after first last unfinished Among learns = record {
  tree = learns.tree;
  same = learns.same;
  known = learns.known;
  asked = if_some {P = λ old. AsksOnce old before after unfinished Among}
      {Q = λ old. AsksOnce old (state before.folder before.known first) (state after.folder after.known last) unfinished Among}
      before.folder.asked
      (λ old asks. record {
        more = asks.more;
        asked = asks.asked;
        once = asks.once;
        new = asks.new;
        held = asks.held;
        front = asks.front;
        among = asks.among;
      })
      learns.asked;
}
