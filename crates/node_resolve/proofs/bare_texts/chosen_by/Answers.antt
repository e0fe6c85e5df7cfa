use mathlib.Core.Logic.{inl, inr}
use Rattle.std.proofs.Common.{◌≡◌, ◌++◌, List, [], ◌∷◌, ℕ, refl, ap}
use Rattle.node_spec.specs.PackageTargets.{Call}
use Rattle.condition_match.specs.Choosing.{IsLeft}
use Rattle.node_spec.specs.NodeAnswers.{Url, Resolving}
use Rattle.node_spec.specs.PackageResolve.{package_resolve}
use Rattle.package_lookup.specs.Lookups.{state_of}
use Rattle.node_resolve.specs.BareTexts.{Kept, kept, failing_of, last_shown, lost_by}
use Rattle.node_resolve.specs.declared.bare_texts.BareTexts.{BareTexts}
use Rattle.std.specs.Prelude.{option_map}
use Rattle.node_resolve.proofs.BareLemmas.{calls_seen, names_keep, choice_answered, choice_lost, answered_as, calls_end, chosen_same, failing_same, lost_same}
use Rattle.node_resolve.proofs.bare_texts.chosen_by.Goals as goal

pub returns-in-None-clause-answered : goal.returns-in-None-clause-answered
returns-in-None-clause-answered g c = λ given comes.
    let chosen = rw c.in-Ok.is at c.choose.ensures.chosen in
    let see : BareTexts g.row.F.Denot → Kept = λ b. kept (state_of g.F.Folder.state b.lookup.now) b.last.now b.fault in
    let ask_of : BareTexts g.row.F.Denot → List ℕ → Resolving Url = λ b. package_resolve b.conditions.now b.package_folder.now in
    let calls = calls_seen _ see ask_of (λ old new text answer gave. ((λ i. package_resolve ((gave.2 i).now) ((gave.1 i).now)), gave.3)) _ c.choose.new.bare chosen.asked chosen.calls in
    let answered = choice_answered _ _ _ chosen.asked c.in-Ok.outcome (comes _ chosen.asked c.in-Ok.outcome chosen.resolves) _ (see c.choose.new.bare) (ap (option_map failing_of) c.requires.fault) (ap last_shown c.requires.last) calls in
    answered_as _ _ _ _ _ (chosen_same (ask_of c.choose.new.bare) c.in-Ok.outcome (last_shown c.choose.new.bare.last.now) (last_shown c.choose.new.bare.last.now) (option_map failing_of c.choose.new.bare.fault) (ap (option_map failing_of) c.in-None.is) refl) answered

pub returns-in-Some-clause-answered : goal.returns-in-Some-clause-answered
returns-in-Some-clause-answered g c = λ given comes.
    let chosen = rw c.in-Ok.is at c.choose.ensures.chosen in
    let see : BareTexts g.row.F.Denot → Kept = λ b. kept (state_of g.F.Folder.state b.lookup.now) b.last.now b.fault in
    let ask_of : BareTexts g.row.F.Denot → List ℕ → Resolving Url = λ b. package_resolve b.conditions.now b.package_folder.now in
    let calls = calls_seen _ see ask_of (λ old new text answer gave. ((λ i. package_resolve ((gave.2 i).now) ((gave.1 i).now)), gave.3)) _ c.choose.new.bare chosen.asked chosen.calls in
    let answered = choice_answered _ _ _ chosen.asked c.in-Ok.outcome (comes _ chosen.asked c.in-Ok.outcome chosen.resolves) _ (see c.choose.new.bare) (ap (option_map failing_of) c.requires.fault) (ap last_shown c.requires.last) calls in
    answered_as _ _ _ _ _ (failing_same (ask_of c.choose.new.bare) c.in-Ok.outcome (last_shown c.choose.new.bare.last.now) (option_map failing_of c.choose.new.bare.fault) (failing_of c.in-Some.fault) (ap (option_map failing_of) c.in-Some.is)) answered

left_is : {B : Type 0} (middle new : B) (more : List Call) → IsLeft (λ (old : B) text (after : B). ⊥) middle more new → new ≡ middle
left_is middle new [] left = left
left_is middle new (call ∷ more) (inl same) = same
left_is middle new (call ∷ more) (inr never) = absurd never

pub returns-in-Err-clause-answered : goal.returns-in-Err-clause-answered
returns-in-Err-clause-answered g c = λ given comes.
    let begins = rw c.in-Err.is at c.choose.ensures.memory in
    let see : BareTexts g.row.F.Denot → Kept = λ b. kept (state_of g.F.Folder.state b.lookup.now) b.last.now b.fault in
    let ask_of : BareTexts g.row.F.Denot → List ℕ → Resolving Url = λ b. package_resolve b.conditions.now b.package_folder.now in
    let same : c.choose.new.bare ≡ begins.middle = left_is begins.middle c.choose.new.bare begins.more begins.left in
    let calls = calls_seen _ see ask_of (λ old new text answer gave. ((λ i. package_resolve ((gave.2 i).now) ((gave.1 i).now)), gave.3)) _ c.choose.new.bare begins.asked (calls_end _ _ begins.middle c.choose.new.bare begins.asked same begins.calls) in
    let answered = choice_lost _ _ _ begins.asked begins.more begins.out (comes _ (begins.asked ++ begins.more) begins.out begins.is) _ (see c.choose.new.bare) (ap (option_map failing_of) c.requires.fault) calls in
    answered_as _ _ _ _ _ (lost_same (lost_by (see c.choose.new.bare).fault) (failing_of c.lost.result) c.lost.ensures) answered

pub returns-in-None-clause-names : goal.returns-in-None-clause-names
returns-in-None-clause-names g c =
    let chosen = rw c.in-Ok.is at c.choose.ensures.chosen in
    names_keep _ (λ old new text answer gave. gave.0) _ c.choose.new.bare chosen.asked chosen.calls

pub returns-in-Some-clause-names : goal.returns-in-Some-clause-names
returns-in-Some-clause-names g c =
    let chosen = rw c.in-Ok.is at c.choose.ensures.chosen in
    names_keep _ (λ old new text answer gave. gave.0) _ c.choose.new.bare chosen.asked chosen.calls

pub returns-in-Err-clause-names : goal.returns-in-Err-clause-names
returns-in-Err-clause-names g c =
    let begins = rw c.in-Err.is at c.choose.ensures.memory in
    let same : c.choose.new.bare ≡ begins.middle = left_is begins.middle c.choose.new.bare begins.more begins.left in
    names_keep _ (λ old new text answer gave. gave.0) _ c.choose.new.bare begins.asked
    (calls_end _ _ begins.middle c.choose.new.bare begins.asked same begins.calls)
