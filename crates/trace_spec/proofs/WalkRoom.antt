-- A walk never uses up its room: what is refused where it ends changes nothing.
use Rattle.std.specs.Prelude.{◌≡◌, ◌+◌, ℕ, zero, suc, List, [], ◌∷◌, slice_get, Option, Some, None, Result, Ok, Err}
use Rattle.std.proofs.Common.{refl, sym, ap, ◌∙◌, arith}
use Rattle.asking_spec.specs.Askings.{Asking, and_ok}
use Rattle.asking_spec.specs.Evaluation.{Ended, ends, stopped, Answers, evaluated}
use Rattle.asking_spec.proofs.EvaluationLemmas.{ends_then, refused_then, stopped_then}
use Rattle.trace_spec.specs.Walking.{Referrer, the_page, a_module, Rules, followed, visited, walked, walk}
use Rattle.trace_spec.specs.FirstRefusals.{Passed, page_passes, next_passes}
use Rattle.trace_spec.specs.Laws.{with_above}
use Rattle.trace_spec.proofs.WalkRefusals.{KeepsFew, visit_step, last_step, passed_few}

module _ {M B R Q T S : Type 0} {A : Q → Type 0} (answers : Answers T S Q A) (rules : Rules M B R Q A) (begun : T)
    (above : R) where
  followed_same : (referrer : Referrer M) (some : List (List ℕ)) (before : B)
      → followed (with_above rules above) before referrer some ≡ followed rules before referrer some
  followed_same referrer [] before = refl
  followed_same referrer (specifier ∷ more) before =
      λ i. and_ok (rules.follows before referrer specifier) (λ after. followed_same referrer more after i)

  visited_same : (before : B) (referrer : Referrer M)
      → visited (with_above rules above) before referrer ≡ visited rules before referrer
  visited_same before referrer =
      λ i. and_ok (rules.opens before referrer) (λ opened. followed_same referrer opened.specifiers opened.after i)

  -- what goes on behind one asking in two ways that come to the same
  same_behind : (asking : Asking Q A (Result B R)) (state : T) (one next : B → Asking Q A (Result B R))
      → ((after : B) (later : T) → evaluated answers state asking ≡ ends (Ok after) later
      → evaluated answers later (one after) ≡ evaluated answers later (next after))
      → (end : Ended (Result B R) T S) → evaluated answers state asking ≡ end
      → evaluated answers state (and_ok asking one) ≡ evaluated answers state (and_ok asking next)
  same_behind asking state one next same (ends (Ok after) later) e =
      ends_then answers state later asking one after e
      ∙ (same after later e ∙ sym (ends_then answers state later asking next after e))
  same_behind asking state one next same (ends (Err refusal) later) e =
      refused_then answers state later asking one refusal e
      ∙ sym (refused_then answers state later asking next refusal e)
  same_behind asking state one next same (stopped stop later) e =
      stopped_then answers state later asking one stop e ∙ sym (stopped_then answers state later asking next stop e)

  abbrev SameFrom : ℕ → B → T → ℕ → Type 0
  SameFrom room before state count =
      evaluated answers state (walked (with_above rules above) room before count)
      ≡ evaluated answers state (walked rules room before count)

  visit_same : (before : B) (state : T) (referrer : Referrer M) (one next : B → Asking Q A (Result B R))
      → ((after : B) (later : T) → evaluated answers state (visited rules before referrer) ≡ ends (Ok after) later
      → evaluated answers later (one after) ≡ evaluated answers later (next after))
      → evaluated answers state (and_ok (visited (with_above rules above) before referrer) one)
      ≡ evaluated answers state (and_ok (visited rules before referrer) next)
  visit_same before state referrer one next same =
      ap (λ visit. evaluated answers state (and_ok visit one)) (visited_same before referrer)
      ∙ same_behind (visited rules before referrer) state one next same
      (evaluated answers state (visited rules before referrer)) refl

  module _ (keeps : KeepsFew answers rules begun) where
    step_same : (room : ℕ) (before : B) (state : T) (count : ℕ) → Passed answers rules begun before state count
        → ((after : B) (later : T) → Passed answers rules begun after later (suc count)
        → SameFrom room after later (suc count))
        → (o : Option M) → slice_get (rules.modules before) count ≡ o → SameFrom (suc room) before state count
    step_same room before state count passed rest None is =
        ap (evaluated answers state) (last_step answers (with_above rules above) begun room before count is)
        ∙ sym (ap (evaluated answers state) (last_step answers rules begun room before count is))
    step_same room before state count passed rest (Some m) is =
        ap (evaluated answers state) (visit_step answers (with_above rules above) begun room before count m is)
        ∙ (visit_same before state (a_module m) _ _ (λ after later e. rest after later (next_passes passed is e))
        ∙ sym (ap (evaluated answers state) (visit_step answers rules begun room before count m is)))

    walked_same : (room : ℕ) (before : B) (state : T) (count : ℕ) → Passed answers rules begun before state count
        → room + count ≡ suc rules.most → SameFrom room before state count
    walked_same zero before state count passed sum =
        let few = passed_few answers rules begun keeps before state count passed in
        absurd (let a = few.within in let b = few.few in omega arith)
    walked_same (suc room) before state count passed sum =
        step_same room before state count passed
        (λ after later next. walked_same room after later (suc count) next (omega arith))
        (slice_get (rules.modules before) count) refl

    pub walk_same : evaluated answers begun (walk (with_above rules above)) ≡ evaluated answers begun (walk rules)
    walk_same =
        visit_same rules.start begun the_page _ _
        (λ after later e. walked_same (suc rules.most) after later 0 (page_passes e) (omega arith))
