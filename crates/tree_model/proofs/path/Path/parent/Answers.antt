use Rattle.std.proofs.Common.{◌≡◌, ◌≢◌, List, ℕ, codes, ap, ◌∙◌, subst}
use Rattle.tree_spec.specs.Paths.{IsPath, IsParent}
use Rattle.tree_model.proofs.Segments.{other_test, none_test, some_test, none_below, below_path, parent_at_root, parent_at_front}
use Rattle.tree_model.proofs.path.Path.parent.Goals as goal
use Rattle.tree_model.proofs.path.Path.parent.Goals.{then-is_empty, else-is_empty}

pub returns-in_ok-text-in-Some-clause-parent : goal.returns-in_ok-text-in-Some-clause-parent
returns-in_ok-text-in-Some-clause-parent c =
    let same : c.as_str-text.result.now ≡ c.args.self.now = cc in
    let inner : c.self.inside.text ≡ c.as_str-text.result.now = cc in
    let P : List ℕ → Type 0 = λ x. IsPath x in
    let Q : List ℕ → Type 0 = λ x. IsParent c.in_ok-text-in-Some.text x in
    let is : IsPath c.as_str-text.result.now = subst P inner c.self.invariant in
    let other : c.as_str-text.result.now ≢ codes "/" = other_test _ _ c.eq.ensures c.if-eq.false in
    elim c.if-is_empty.branch [
      | then-is_empty w ↦
          let here : c.in_ok-text-in-Some.text ≡ codes "/" = c.in_ok-text-in-Some.ensures ∙ ap (λ lent. lent.now) w.parent-is in
          subst Q same (parent_at_root _ _ _ _ is other c.in-Some.ensures.0 c.in-Some.ensures.1 (none_test _ _ c.is_empty.ensures w.if-is_empty.true) here)
      | else-is_empty w ↦
          let here : c.in_ok-text-in-Some.text ≡ c.in-Some.front.now = c.in_ok-text-in-Some.ensures ∙ ap (λ lent. lent.now) w.parent-is in
          subst Q same (parent_at_front _ _ _ _ is other c.in-Some.ensures.0 c.in-Some.ensures.1 (some_test _ _ c.is_empty.ensures w.if-is_empty.false) here)
    ]

pub invariant_of-result : goal.invariant_of-result
invariant_of-result c = (returns-in_ok-text-in-Some-clause-parent c).is_path

pub returns-in-None-clause-parent : goal.returns-in-None-clause-parent
returns-in-None-clause-parent c =
    let inner : c.self.inside.text ≡ c.as_str-text.result.now = cc in
    let P : List ℕ → Type 0 = λ x. IsPath x in
    absurd (none_below _ _ c.in-None.ensures (below_path _ (other_test _ _ c.eq.ensures c.if-eq.false) (subst P inner c.self.invariant)))
