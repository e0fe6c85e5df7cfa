-- One request, by what is checked of it and what Node answers.
use Rattle.std.proofs.Common.{◌≡◌, ◌∙◌, ℕ, List, Result, Ok, Err, refl, sym, ap, subst, arith}
use Rattle.std.specs.Result.{IsErrAnd}
use Rattle.asking_spec.specs.Askings.{Asking, answered, ask}
use Rattle.asking_spec.specs.Evaluation.{evaluated}
use Rattle.tree_spec.specs.declared.LimitName.TheVariants.{Depth}
use Rattle.node_spec.specs.declared.Cause.{Cause}
use Rattle.node_spec.specs.NodeAnswers.{Refusal, by_cause, too_deep}
use Rattle.package_lookup.proofs.Learnings.{learns_nothing}
use Rattle.trace_spec.specs.declared.AskCause.{AskCause}
use Rattle.trace_spec.specs.Causes.{ask_cause}
use Rattle.trace_spec.specs.declared.TraceFault.{TraceFault}
use Rattle.trace_spec.specs.declared.TraceFault.TheVariants.{Refused, Limit, ReadFault, Memory}
use Rattle.trace_spec.specs.Walking.{Referrer}
use Rattle.trace_spec.specs.Modules.{Config, Module, path_of}
use Rattle.trace_spec.specs.Questions.{Question, Answer, of_request}
use Rattle.trace_spec.specs.Checks.{Gathered, Wanted, checked, led, followed_by, follows}
use Rattle.trace_spec.specs.Traces.{result_of, state_of}
use Rattle.trace_walk.specs.declared.referrer.Referrer as code
use Rattle.trace_walk.specs.declared.tables.Tables.{Tables}
use Rattle.trace_walk.specs.Meeting.{AnswererState, fine, IsAskedBy, Met}
use Rattle.trace_walk.specs.Shown.{done}
use Rattle.trace_walk.specs.Walking.{IsReferrer, IsGiven}
use Rattle.trace_walk.proofs.FaultKinds.{handed}
use Rattle.trace_walk.proofs.Meetings.{failed, told_err, met_then, met_failed, met_lost, met_now}

refused_first : (before : AnswererState) (config : Config) (tables : Gathered) (r : Referrer Module) (specifier : List ℕ) (want : Result Wanted TraceFault) (fault : TraceFault) → IsGiven want (Err fault) → Met {X = Gathered} before (followed_by config tables r specifier want) (Err fault) before
refused_first before config tables r specifier want fault given = record {
  comes = λ told tells is_told. (let is : want ≡ Err fault = given.given (told_err {X = Wanted} {Y = Gathered} fault is_told).1 in record {
    is = ap (λ w. result_of (evaluated told.answers before.state (followed_by config tables r specifier w))) is;
    leaves = ap (λ w. state_of (evaluated told.answers before.state (followed_by config tables r specifier w))) is;
  });
  told = λ told tells. tells;
  keeps = refl;
  later = omega arith;
  cause = λ e. absurd (given.no_look (let f : fault ≡ ReadFault = cc in ap Err f));
  quiet = λ ne. refl;
  steps = λ told tells. omega arith;
  learns = learns_nothing before.looks (failed Gathered fault ≡ Err Memory)
      (IsAskedBy before (followed_by config tables r specifier want));
  covered = λ finished covers. covers;
  still_kept = λ told tells question kept. kept;
  asked_kept = λ told tells value e. absurd (cc);
}

-- a check before Node is asked isn't passed
pub follow_refused : (before : AnswererState) (config : Config) (tables : Gathered) (r : Referrer Module) (specifier : List ℕ) (fault : TraceFault) (result : Result (Unit {0}) TraceFault) (code : Tables) → IsErrAnd result (λ f. f ≡ fault) → IsGiven {X = Wanted} (checked config tables r specifier) (Err fault)
    → Met before (follows config tables r specifier) (done result code) before
follow_refused before config tables r specifier fault result code is given =
    subst (λ v. Met before (follows config tables r specifier) (done v code) before) (sym (handed result fault is)) (refused_first before config tables r specifier (checked config tables r specifier) fault given)

abbrev by_answer : Config → Gathered → Referrer Module → List ℕ → Wanted → Result Module Refusal → Asking Question Answer (Result Gathered TraceFault)
by_answer config tables r specifier want found = answered (led config tables r specifier want found)

-- the question as it is put
put_so : (before after : AnswererState) (config : Config) (r : Referrer Module) (conditions : List (List ℕ)) (path specifier : List ℕ) (result : Result (Result Module Refusal) TraceFault) → conditions ≡ config.conditions → path_of config r ≡ path
    → Met before (fine (ask (of_request conditions path specifier) answered)) result after → Met before (fine (ask (of_request config.conditions (path_of config r) specifier) answered)) result after
put_so before after config r conditions path specifier result on at met =
    subst (λ p. Met before (fine (ask (of_request config.conditions p specifier) answered)) result after) (sym at) (subst (λ names. Met before (fine (ask (of_request names path specifier) answered)) result after) on met)

-- Node has no answer
pub follow_failed : (before after : AnswererState) (config : Config) (tables : Gathered) (r : Referrer Module) (conditions : List (List ℕ)) (path specifier : List ℕ) (want : Wanted) (fault : TraceFault) (result : Result (Unit {0}) TraceFault) (code : Tables) → conditions ≡ config.conditions → path_of config r ≡ path
    → IsErrAnd result (λ f. f ≡ fault) → checked config tables r specifier ≡ Ok want → Met {X = Result Module Refusal} before (fine (ask (of_request conditions path specifier) answered)) (Err fault) after → Met before (follows config tables r specifier) (done result code) after
follow_failed before after config tables r conditions path specifier want fault result code on at is asks met =
    subst (λ v. Met before (follows config tables r specifier) (done v code) after) (sym (handed result fault is))
    (subst (λ w. Met {X = Gathered} before (followed_by config tables r specifier w) (Err fault) after) (sym asks)
    (met_failed before after (fine (ask (of_request config.conditions (path_of config r) specifier) answered)) (by_answer config tables r specifier want) fault (put_so before after config r conditions path specifier (Err fault) on at met)))

-- memory was wanting behind Node's answer
pub follow_lost : (before after : AnswererState) (config : Config) (tables : Gathered) (r : Referrer Module) (conditions : List (List ℕ)) (path specifier : List ℕ) (want : Wanted) (found : Result Module Refusal) (result : Result (Unit {0}) TraceFault) (code : Tables) → conditions ≡ config.conditions → path_of config r ≡ path
    → IsErrAnd result (λ f. f ≡ Memory) → checked config tables r specifier ≡ Ok want → Met {X = Result Module Refusal} before (fine (ask (of_request conditions path specifier) answered)) (Ok found) after → Met before (follows config tables r specifier) (done result code) after
follow_lost before after config tables r conditions path specifier want found result code on at is asks met =
    subst (λ v. Met before (follows config tables r specifier) (done v code) after) (sym (handed result Memory is))
    (subst (λ w. Met {X = Gathered} before (followed_by config tables r specifier w) (Err Memory) after) (sym asks)
    (met_lost before after (fine (ask (of_request config.conditions (path_of config r) specifier) answered)) (by_answer config tables r specifier want) found (put_so before after config r conditions path specifier (Ok found) on at met)))

-- Node's answer decides
pub follow_led : (before after : AnswererState) (config : Config) (tables : Gathered) (r : Referrer Module) (conditions : List (List ℕ)) (path specifier : List ℕ) (want : Wanted) (found : Result Module Refusal) (result : Result Gathered TraceFault) → conditions ≡ config.conditions → path_of config r ≡ path
    → checked config tables r specifier ≡ Ok want → Met {X = Result Module Refusal} before (fine (ask (of_request conditions path specifier) answered)) (Ok found) after → IsGiven (led config tables r specifier want found) result → Met before (follows config tables r specifier) result after
follow_led before after config tables r conditions path specifier want found result on at asks met given =
    subst (λ w. Met before (followed_by config tables r specifier w) result after) (sym asks)
    (met_then before after after (fine (ask (of_request config.conditions (path_of config r) specifier) answered)) (by_answer config tables r specifier want) found result (put_so before after config r conditions path specifier (Ok found) on at met)
    (met_now after (led config tables r specifier want found) result given))

-- Node refuses it
pub given_refused : (config : Config) (r : Referrer Module) (referrer : code.Referrer) (tables : Gathered) (specifier : List ℕ) (want : Wanted) (cause : Cause) (shown : AskCause) (fault : TraceFault) → IsReferrer config r referrer → shown ≡ ask_cause cause → fault ≡ Refused referrer.shown specifier shown
    → IsGiven {X = Gathered} (led config tables r specifier want (Err (by_cause cause))) (Err fault)
given_refused config r referrer tables specifier want cause shown fault is so says = record {
  given = λ ne. ap Err (ap (λ text. Refused text specifier (ask_cause cause)) is.shown_so ∙ (ap (Refused referrer.shown specifier) (sym so) ∙ sym says));
  no_look = λ e. (let f : fault ≡ ReadFault = cc in let g = sym says ∙ f in cc);
}

-- a limit is passed as a package.json is read
pub given_too_deep : (config : Config) (r : Referrer Module) (tables : Gathered) (specifier : List ℕ) (want : Wanted) → IsGiven {X = Gathered} (led config tables r specifier want (Err too_deep)) (Err (Limit Depth))
given_too_deep config r tables specifier want = record { given = λ ne. refl; no_look = λ e. cc }
