-- What an object that was asked for a target's bare texts knows behind the calls.
use Rattle.std.proofs.Common.{◌≡◌, ℕ, true, false, List, [], ◌∷◌, ◌++◌, Some, None, refl, sym, ap, ◌∙◌, subst}
use Rattle.std.specs.Prelude.{All, ⊤}
use Rattle.std.proofs.lemmas.List.Elements.{All-head, All-tail}
use Rattle.asking_spec.specs.Evaluation.{ends, stopped}
use Rattle.node_spec.proofs.DecidingCall.{deciding_call_is_last}
use Rattle.node_spec.proofs.TargetsFollowed.{follows_target}
use Rattle.node_spec.specs.BareCalls.{WasInvalid, IsDecided, by_found, by_stop, by_target}
use Rattle.node_spec.specs.PackageTargetResolve.{Bares}
use Rattle.node_spec.specs.PackageTargets.{Call}
use Rattle.node_spec.specs.Laws.{TargetAnswered}
use Rattle.node_spec.specs.TargetCalls.{LookAnswers, Followed, no_call, a_call, a_stop, Answerer, GivesBare, a_value, a_limit, a_loss, Calls}
use Rattle.node_spec.specs.declared.BareAnswer.{BareAnswer}
use Rattle.node_spec.specs.declared.BareAnswer.TheVariants as bare_answer
use Rattle.node_spec.specs.declared.Outcome.{Outcome}

-- ---- no call behind a `Stop`

abbrev pub StopsLast : List Call → Type 0
StopsLast [] = ⊤
StopsLast (call ∷ more) = (call.1 ≡ bare_answer.Stop → more ≡ []) × StopsLast more

not_stopped : (call : Call) (more : List Call) → WasInvalid call → call.1 ≡ bare_answer.Stop → more ≡ []
not_stopped call more w e = absurd (cc)

only_invalid : (asked : List Call) → All WasInvalid asked → StopsLast asked
only_invalid [] all = tt
only_invalid (call ∷ more) all =
    (not_stopped call more (All-head WasInvalid call more all), only_invalid more (All-tail WasInvalid call more all))

then_last : (before : List Call) (last : Call) → All WasInvalid before → StopsLast (before ++ last ∷ [])
then_last [] last all = ((λ e. refl), tt)
then_last (call ∷ before) last all = (
  not_stopped call (before ++ last ∷ []) (All-head WasInvalid call before all),
  then_last before last (All-tail WasInvalid call before all),
)

pub stops_last : (asked : List Call) (out : Outcome) → IsDecided asked out → StopsLast asked
stops_last _ _ (by_found before text all) = then_last before (text, bare_answer.Found) all
stops_last _ _ (by_stop before text all) = then_last before (text, bare_answer.Stop) all
stops_last _ _ (by_target asked out all b s) = only_invalid asked all

pub nothing_called : {B : Type 0} (gives : B → List ℕ → BareAnswer → B → Type 0) (before after : B) (more : List Call)
    → Calls gives before more after → more ≡ [] → after ≡ before
nothing_called gives before after [] calls e = calls
nothing_called gives before after (call ∷ more) calls e = absurd (cc)

-- ---- the calls follow each other

module _ {T S X : Type 0} (answers : LookAnswers T S) (bares : Bares X) where
  abbrev Kept : Type 0
  Kept = Answerer T S X

  record IsFollowed (before : Kept) (asked : List Call) (after : Kept) : Type 0 where
    value :
        after.lost ≡ false → after.stop ≡ None
        → Followed answers bares before.state before.last asked (ends after.last after.state)
    limit :
        (stop : S) → after.lost ≡ false → after.stop ≡ Some stop
        → (at : T) × Followed answers bares before.state before.last asked (stopped stop at)

  no_calls : (before after : Kept) → before.stop ≡ None → after ≡ before → IsFollowed before [] after
  no_calls before after free e = record {
    value = λ kept none. subst (λ (b : Kept). Followed answers bares before.state before.last [] (ends b.last b.state)) (sym e) no_call;
    limit = λ stop kept some. absurd (let same : after.stop ≡ before.stop = ap (λ (b : Kept). b.stop) e in cc);
  }

  one_call : (before middle after : Kept) (text : List ℕ) (answer : BareAnswer) (more : List Call)
      → before.stop ≡ None → GivesBare answers bares before text answer middle
      → (answer ≡ bare_answer.Stop → more ≡ []) → (middle.stop ≡ None → IsFollowed middle more after)
      → (more ≡ [] → after ≡ middle) → IsFollowed before ((text, answer) ∷ more) after
  one_call before middle after text answer more free (a_value {value = value} r j l k m) ends_it rest still =
      let followed = rest (k ∙ free) in
      record {
        value = λ kept none. a_call r j (subst (λ o. Followed answers bares middle.state o more (ends after.last after.state)) l (followed.value kept none));
        limit = λ stop kept some.
            let found = followed.limit stop kept some in
            (found.0, a_call r j (subst (λ o. Followed answers bares middle.state o more (stopped stop found.0)) l found.1));
      }
  one_call before middle after text answer more free (a_limit {stop = name} {at = at} r s k) ends_it rest still =
      let same : after ≡ middle = still (ends_it s) in
      let stop_is : after.stop ≡ Some name = ap (λ (b : Kept). b.stop) same ∙ k in
      record {
        value = λ kept none. absurd (cc);
        limit = λ stop kept some.
            let one : name ≡ stop = cc in
            (at, a_stop (r ∙ ap (λ n. stopped n at) one) (ends_it s));
      }
  one_call before middle after text answer more free (a_loss s k) ends_it rest still =
      let same : after ≡ middle = still (ends_it s) in
      let lost_is : after.lost ≡ true = ap (λ (b : Kept). b.lost) same ∙ k in
      record { value = λ kept none. absurd (cc); limit = λ stop kept some. absurd (cc) }

  calls_follow : (before after : Kept) (asked : List Call) → before.stop ≡ None → StopsLast asked
      → Calls (GivesBare answers bares) before asked after → IsFollowed before asked after
  calls_follow before after [] free stops calls = no_calls before after free calls
  calls_follow before after (call ∷ more) free stops calls =
      one_call before calls.0 after call.0 call.1 more free calls.1 stops.0
      (λ still. calls_follow calls.0 after more still stops.1 calls.2)
      (nothing_called (GivesBare answers bares) calls.0 after more calls.2)

pub target_answered : {T S X : Type 0} → TargetAnswered T S X
target_answered answers bares rules target before asked out after free r calls =
    let stops = stops_last asked out (deciding_call_is_last rules target asked out r) in
    let followed = calls_follow answers bares before after asked free stops calls in
    record {
      value = λ kept none.
          follows_target answers bares rules target asked out r before.state before.last (ends after.last after.state)
          (followed.value kept none);
      limit = λ stop kept some.
          let found = followed.limit stop kept some in (
            found.0,
            follows_target answers bares rules target asked out r before.state before.last (stopped stop found.0)
                found.1,
          );
    }
