-- One question after another: what a whole asking comes to, by what its parts come to.
--     look_first, look_behind      a look of a part is a look of the whole
--     then_given, then_fails       a part, and what comes behind it
--     now_given                    nothing is asked
--     no_memory_now, unfinished    memory was wanting before anything was asked, or behind a part
--     looked_on, resolved_on ..    a fault of a part is the fault of the whole
--     known_on                     what is known is the same in another form
--     Left before whole middle rest      whatever the rest comes to from here, the whole comes to
use Rattle.std.proofs.Common.{◌≡◌, ◌++◌, [], ◌∷◌, ℕ, true, false, List, Option, Some, None, Result, Ok, Err, IfSome, refl, sym, ap, ◌∙◌, subst, arith}
use Rattle.std.specs.Prelude.{is_some, bytes_eq, All}
use Rattle.std.specs.FinMap.{get}
use Rattle.std.proofs.Common.{append_assoc, append-nil}
use Rattle.std.specs.Option.{option_or}
use Rattle.std.specs.Result.{IsErrAnd}
use Rattle.std.proofs.lemmas.Bool.{cases_Bool}
use Rattle.std.proofs.lemmas.Result.{err_from_is_err_and}
use Rattle.std.proofs.Common.{⊎_elim}
use Rattle.std.proofs.lemmas.List.Elements.{All-append, All-weaker, All-nil}
use Rattle.std.proofs.lemmas.Slice.Eq.{bytes_eq-Decides}
use Rattle.asking_spec.proofs.AskingLemmas.{questions_then}
use Rattle.asking_spec.proofs.EvaluationLemmas.{evaluated_then, ends_outcome}
use Rattle.asking_spec.specs.Askings.{answered, outcome, and_then, on_ok, and_ok}
use Rattle.asking_spec.specs.Evaluation.{Ended, ends, then_ended, evaluated, AreAlways}
use Rattle.node_spec.specs.NodeAnswers.{Refusal, by_cause, too_deep, Resolving}
use Rattle.node_spec.specs.declared.Cause.TheVariants as cause
use Rattle.tree_spec.specs.LookAskings.{Sights, LookAsking, looks}
use Rattle.tree_spec.specs.LookLimits.{Trail, look_limits, counted, told, limited}
use Rattle.tree_spec.specs.States.{FolderState, OnlyLooks}
use Rattle.tree_spec.specs.Trees.{Tree}
use Rattle.tree_spec.specs.declared.Entry.{Entry}
use Rattle.tree_spec.specs.declared.LimitName.{LimitName}
use Rattle.tree_spec.specs.declared.LimitName.TheVariants.{File, Bytes, Looks, Modules, ModuleRequests, Requests, Specifier, Entries, Brackets, Depth, Session, Map, Choices}
use Rattle.tree_spec.specs.declared.Look.{Look}
use Rattle.tree_spec.proofs.ToldStates.{if_some, if_two, looks_then, looks_as}
use Rattle.tree_spec.proofs.FootprintSets.{distinct_none}
use Rattle.package_lookup.specs.declared.fault.LookupFault.{LookupFault}
use Rattle.package_lookup.specs.declared.fault.LookupFault.TheVariants.{ReadFault, Limit, InvalidConfig, Memory}
use Rattle.package_lookup.specs.declared.known.Known.{Known}
use Rattle.package_lookup.specs.Looked.{laid_at, kept_at, known_at, look_or, look_in, Sees, Grows, IsSameKnown}
use Rattle.package_lookup.specs.SeenLooks.{IsWithin}
use Rattle.package_lookup.specs.Responses.{Failing, passes, not_read, no_memory, never, Response, given, fails, by_limit, by_fault, looked, bad_config, deep_config, resolved}
use Rattle.package_lookup.specs.Answered.{State, state, Fails, Comes, Tells, IsLookOf, AsksOnce, Answered}
use Rattle.package_lookup.specs.Trails.{Lengthens, IsReached}
use Rattle.package_lookup.proofs.ButLast.{but_last_none, but_last_then, but_last_weaker}
use Rattle.package_lookup.proofs.PathSets.{Apart, distinct_append}
use Rattle.package_lookup.proofs.Reaching.{reached_as, reached_behind, reached_by_front, looks_passed}

-- ---- what is known grows

known_by : (laid kept other : Option Look) (look : Look) → ((l : Look) → kept ≡ Some l → other ≡ Some l)
    → option_or laid kept ≡ Some look → option_or laid other ≡ Some look
known_by None kept other look grows e = grows look e
known_by (Some l) kept other look grows e = e

pub known_grows : (before after : Known) → Grows before after → (path : List ℕ) (look : Look)
    → known_at before path ≡ Some look → known_at after path ≡ Some look
known_grows before after grows path look e =
    ap (λ l. option_or l (kept_at after path)) (grows.laid path)
    ∙ known_by (laid_at before path) (kept_at before path) (kept_at after path) look (grows.kept path) e

held_by : (some other : Option Look) → ((look : Look) → some ≡ Some look → other ≡ Some look)
    → is_some some ≡ true → is_some other ≡ true
held_by None other grows e = absurd (cc)
held_by (Some look) other grows e = ap is_some (grows look refl)

within_by : (some other : Option Look) → ((look : Look) → some ≡ Some look → other ≡ Some look) → IsWithin some
    → IsWithin other
within_by None other grows within = absurd within
within_by (Some look) other grows within = subst IsWithin (sym (grows look refl)) within

-- what is known within the limit stays so
pub covers_still : (before after : Known) → Grows before after → (path : List ℕ) → IsWithin (known_at before path)
    → IsWithin (known_at after path)
covers_still before after grows path =
    within_by (known_at before path) (known_at after path) (known_grows before after grows path)

none_by : (some other : Option Look) → ((look : Look) → some ≡ Some look → other ≡ Some look) → other ≡ None
    → some ≡ None
none_by None other grows e = refl
none_by (Some look) other grows e = (let f = grows look refl in absurd (cc))

pub grows_itself : (known : Known) → Grows known known
grows_itself known = record { laid = λ path. refl; kept = λ path look e. e; under = λ path look e. refl }

pub grows_twice : (before middle after : Known) → Grows before middle → Grows middle after → Grows before after
grows_twice before middle after one rest = record {
  laid = λ path. rest.laid path ∙ one.laid path;
  kept = λ path look e. rest.kept path look (one.kept path look e);
  under = λ path look e. rest.under path look (one.laid path ∙ e) ∙ one.under path look e;
}

-- ---- what was counted stays so

pub lengthens_itself : (trail : Trail) → Lengthens trail trail
lengthens_itself trail = record { more = []; paths = sym (append-nil trail.paths); size = omega arith }

pub lengthens_twice : (before middle after : Trail) → Lengthens before middle → Lengthens middle after → Lengthens before after
lengthens_twice before middle after one rest = record {
  more = one.more ++ rest.more;
  paths = rest.paths ∙ (ap (λ paths. paths ++ rest.more) one.paths ∙ append_assoc before.paths one.more rest.more);
  size = (let a = one.size in let b = rest.size in omega arith);
}

pub lengthens_by_one : (before after : Trail) (path : List ℕ)
    → after ≡ record { paths = before.paths ++ path ∷ []; size = before.size; question = before.question }
    → Lengthens before after
lengthens_by_one before after path e = record {
  more = path ∷ [];
  paths = ap (λ (t : Trail). t.paths) e;
  size = (let same = ap (λ (t : Trail). t.size) e in omega arith);
}

-- ---- what the folder was asked for

-- what is known isn't what is new
known_apart : (known : Known) (one other : List ℕ) → is_some (known_at known one) ≡ true → known_at known other ≡ None
    → bytes_eq one other ≡ false
known_apart known one other held new =
    ⊎_elim
    (λ e. let same : one ≡ other = (bytes_eq-Decides one other).0 e in
    let none : is_some (known_at known one) ≡ false = ap (λ p. is_some (known_at known p)) same ∙ ap is_some new in
    absurd (cc))
    (λ e. e)
    (cases_Bool (bytes_eq one other))

pub asks_then : (old : List (List ℕ)) (before middle after : State) (some rest : Type 0)
    (First Last Whole : List ℕ → Type 0) → (some → ⊥) → Grows before.known middle.known
    → Grows middle.known after.known → ((path : List ℕ) → First path → Whole path)
    → ((path : List ℕ) → Last path → Whole path) → AsksOnce old before middle some First
    → IfSome middle.folder.asked (λ list. AsksOnce list middle after rest Last) → AsksOnce old before after rest Whole
asks_then old before middle after some rest First Last Whole done grew grows first last one more =
    join (subst (λ asked. IfSome asked (λ list. AsksOnce list middle after rest Last)) one.asked more)
  where
    join : AsksOnce (old ++ one.more) middle after rest Last → AsksOnce old before after rest Whole
    join two =
        let was : All (λ path. is_some (known_at middle.known path) ≡ true) one.more = one.held done in
        let still : All (λ path. is_some (known_at after.known path) ≡ true) one.more =
        All-weaker (λ path. is_some (known_at middle.known path) ≡ true) (λ path. is_some (known_at after.known path) ≡ true)
        (λ path held. held_by (known_at middle.known path) (known_at after.known path)
        (known_grows middle.known after.known grows path) held) one.more was in
        record {
          more = one.more ++ two.more;
          asked = two.asked ∙ ap Some (append_assoc old one.more two.more);
          once = distinct_append one.more two.more one.once two.once
              (All-weaker (λ path. is_some (known_at middle.known path) ≡ true) (Apart two.more)
              (λ path held. All-weaker (λ other. known_at middle.known other ≡ None) (λ other. bytes_eq path other ≡ false)
              (λ other new. known_apart middle.known path other held new) two.more two.new) one.more was);
          new = All-append (λ path. known_at before.known path ≡ None) one.more two.more one.new
              (All-weaker (λ path. known_at middle.known path ≡ None) (λ path. known_at before.known path ≡ None)
              (λ path none. none_by (known_at before.known path) (known_at middle.known path)
              (known_grows before.known middle.known grew path) none) two.more two.new);
          held = λ finished. All-append (λ path. is_some (known_at after.known path) ≡ true) one.more two.more still
              (two.held finished);
          front = but_last_then (λ path. is_some (known_at after.known path) ≡ true) one.more two.more still two.front;
          among = All-append Whole one.more two.more (All-weaker First Whole first one.more one.among)
              (All-weaker Last Whole last two.more two.among);
        }

pub asks_nothing : (old : List (List ℕ)) (before after : State) (unfinished : Type 0) (Among : List ℕ → Type 0)
    → after.folder.asked ≡ Some old → AsksOnce old before after unfinished Among
asks_nothing old before after unfinished Among same = record {
  more = [];
  asked = same ∙ ap Some (sym (append-nil old));
  once = distinct_none;
  new = All-nil (λ path. known_at before.known path ≡ None);
  held = λ finished. All-nil (λ path. is_some (known_at after.known path) ≡ true);
  front = but_last_none (λ path. is_some (known_at after.known path) ≡ true);
  among = All-nil Among;
}

pub asks_nothing_told : (asked : Option (List (List ℕ))) (before after : State) (unfinished : Type 0)
    (Among : List ℕ → Type 0) → after.folder.asked ≡ asked
    → IfSome asked (λ old. AsksOnce old before after unfinished Among)
asks_nothing_told None before after unfinished Among same = tt
asks_nothing_told (Some old) before after unfinished Among same = asks_nothing old before after unfinished Among same

pub asks_finished : (old : List (List ℕ)) (before after : State) (some other : Type 0) (One Other : List ℕ → Type 0)
    → (some → other) → ((path : List ℕ) → One path → Other path) → AsksOnce old before after some One
    → AsksOnce old before after other Other
asks_finished old before after some other One Other weaker goes one = record {
  more = one.more;
  asked = one.asked;
  once = one.once;
  new = one.new;
  held = λ finished. one.held (λ s. finished (weaker s));
  front = one.front;
  among = All-weaker One Other goes one.more one.among;
}

-- ---- what the folder did

pub no_looks : (folder : FolderState) (failed : Type 0) → (failed → ⊥) → OnlyLooks folder folder failed
no_looks folder failed fine = record {
  tree = refl;
  writes = refl;
  later = omega arith;
  cause = λ e. absurd (fine e);
  quiet = λ none. refl;
}

-- ---- what an asking comes to

pub sees_still : (tree : Tree) (before after : Known) (sights : Sights)
    → ((path : List ℕ) → look_in tree after path ≡ look_in tree before path) → Sees tree before sights
    → Sees tree after sights
sees_still tree before after sights same sees = record { each = λ path. sees.each path ∙ sym (same path) }

abbrev goes_on : {X Y : Type 0} → Sights → (X → LookAsking Y) → Ended X Trail LimitName → Ended Y Trail LimitName
goes_on sights next end = then_ended end (λ value after. evaluated (limited look_limits sights) after (next value))

tells_then : {X Y : Type 0} (tree : Tree) (before middle after : State) (part : LookAsking X) (next : X → LookAsking Y)
    (value : X) (response : Response Y) → Tells tree before part (given value) middle
    → Tells tree middle (next value) response after → Tells tree before (and_then part next) response after
tells_then tree before middle after part next value response one rest = record {
  says = λ sights sees. subst (λ end. Comes end response after.trail)
      (sym (evaluated_then (limited look_limits sights) before.trail part next
      ∙ ap (goes_on sights next) (one.says sights sees)))
      (rest.says sights (sees_still tree before.known middle.known sights one.same sees));
  same = λ path. rest.same path ∙ one.same path;
}

fails_on : {X Y : Type 0} (sights : Sights) (next : X → LookAsking Y) (end : Ended X Trail LimitName) (failing : Failing)
    (after : Trail) → Fails end failing after → Fails (goes_on sights next end) failing after
fails_on sights next end (passes name) after e = ap (goes_on sights next) e
fails_on sights next end not_read after e = tt
fails_on sights next end no_memory after e = tt
fails_on sights next end never after e = e

tells_fails : {X Y : Type 0} (tree : Tree) (before after : State) (part : LookAsking X) (next : X → LookAsking Y)
    (failing : Failing) → Tells {X = X} tree before part (fails failing) after
    → Tells {X = Y} tree before (and_then part next) (fails failing) after
tells_fails tree before after part next failing one = record {
  says = λ sights sees. subst (λ end. Fails end failing after.trail)
      (sym (evaluated_then (limited look_limits sights) before.trail part next))
      (fails_on sights next (evaluated (limited look_limits sights) before.trail part) failing after.trail
      (one.says sights sees));
  same = one.same;
}

tells_unfinished : {X Y : Type 0} (tree : Tree) (before after : State) (part : LookAsking X) (response : Response X)
    (whole : LookAsking Y) → Tells tree before part response after
    → Tells {X = Y} tree before whole (fails no_memory) after
tells_unfinished tree before after part response whole one = record { says = λ sights sees. tt; same = one.same }

-- the failing, as a response to an asking for this
abbrev pub failed : (X : Type 0) → Failing → Response X
failed X failing = fails failing

-- the same failing
pub carried : {X Y : Type 0} (one other : Failing) → failed X one ≡ failed X other → failed Y one ≡ failed Y other
carried one other e = (let same : one ≡ other = cc in ap fails same)

-- ---- which looks are those of the whole

looked_by : (found : Option Entry) (trail after : Trail) (c : Result Trail LimitName) (other : Option Entry)
    → told found trail c ≡ ends other after → other ≡ found
looked_by found trail after (Ok later) other e = cc
looked_by found trail after (Err name) other e = absurd (cc)

-- a look tells what stands there, where no limit stops it
pub limited_always : (sights : Sights) → AreAlways (limited look_limits sights) sights
limited_always sights trail after path found e =
    looked_by (sights path) trail after (counted look_limits trail path (sights path)) found e

abbrev Reaches : {X : Type 0} → State → LookAsking X → List ℕ → Tree → Type 0
Reaches before asking path tree =
    (sights : Sights) → Sees tree before.known sights
    → IsReached look_limits sights before.trail (looks sights asking) path

pub look_first : {X Y : Type 0} (before : State) (part : LookAsking X) (next : X → LookAsking Y) (path : List ℕ)
    → IsLookOf before part path → IsLookOf before (and_then part next) path
look_first before part next path is =
    if_some {P = Reaches before part path} {Q = Reaches before (and_then part next) path} before.folder.holds
    (λ tree each sights sees. reached_by_front look_limits sights before.trail (looks sights part)
    (looks sights (and_then part next)) path
    (looks sights (next (outcome sights part)), questions_then sights part next) (each sights sees)) is

behind_at : {X Y : Type 0} (tree : Tree) (before middle : State) (part : LookAsking X) (next : X → LookAsking Y)
    (value : X) (path : List ℕ) → Tells tree before part (given value) middle → Reaches middle (next value) path tree
    → Reaches before (and_then part next) path tree
behind_at tree before middle part next value path tells each sights sees =
    let end = tells.says sights sees in
    let is : value ≡ outcome sights part =
    ends_outcome (limited look_limits sights) sights (limited_always sights) before.trail middle.trail part value end in
    reached_as look_limits sights before.trail (looks sights part ++ looks sights (next value))
    (looks sights (and_then part next)) path
    (questions_then sights part next ∙ ap (λ v. looks sights part ++ looks sights (next v)) (sym is))
    (reached_behind look_limits sights before.trail middle.trail (looks sights part) (looks sights (next value)) path
    (looks_passed look_limits sights before.trail middle.trail part value end)
    (each sights (sees_still tree before.known middle.known sights tells.same sees)))

pub look_behind : {X Y : Type 0} (before middle : State) (part : LookAsking X) (next : X → LookAsking Y) (value : X)
    (path : List ℕ) → Answered before part (given value) middle → IsLookOf middle (next value) path
    → IsLookOf before (and_then part next) path
look_behind before middle part next value path one is =
    if_two {P = λ tree. Tells tree before part (given value) middle} {Q = Reaches middle (next value) path}
    {R = Reaches before (and_then part next) path} before.folder.holds
    (λ tree. behind_at tree before middle part next value path) one.tells
    (subst (λ holds. IfSome holds (Reaches middle (next value) path)) one.folder.tree is)

-- ---- a part, and what comes behind it

pub then_given : {X Y : Type 0} (before middle after : State) (part : LookAsking X) (next : X → LookAsking Y) (value : X)
    (response : Response Y) → Answered before part (given value) middle → Answered middle (next value) response after
    → Answered before (and_then part next) response after
then_given {X} before middle after part next value response one rest = record {
  tells = if_two {P = λ tree. Tells tree before part (given value) middle}
      {Q = λ tree. Tells tree middle (next value) response after}
      {R = λ tree. Tells tree before (and_then part next) response after} before.folder.holds
      (λ tree. tells_then tree before middle after part next value response) one.tells
      (subst (λ told. IfSome told (λ tree. Tells tree middle (next value) response after)) one.folder.tree rest.tells);
  known = grows_twice before.known middle.known after.known one.known rest.known;
  trail = lengthens_twice before.trail middle.trail after.trail one.trail rest.trail;
  covered = λ finished covers. rest.covered finished (one.covered (λ e. cc) covers);
  asked = if_some {P = λ old. AsksOnce old before middle (given value ≡ fails no_memory) (IsLookOf before part)}
      {Q = λ old. AsksOnce old before after (response ≡ fails no_memory) (IsLookOf before (and_then part next))}
      before.folder.asked
      (λ old asks. asks_then old before middle after (given value ≡ fails no_memory) (response ≡ fails no_memory)
      (IsLookOf before part) (IsLookOf middle (next value)) (IsLookOf before (and_then part next)) (λ e. cc) one.known
      rest.known (look_first before part next) (λ path. look_behind before middle part next value path one) asks
      rest.asked) one.asked;
  folder = looks_then {P = given value ≡ fails not_read} {Q = response ≡ fails not_read} before.folder middle.folder
      after.folder
      (λ e. cc) one.folder rest.folder;
  possible = rest.possible;
}

pub then_fails : {X Y : Type 0} (before after : State) (part : LookAsking X) (next : X → LookAsking Y)
    (failing : Failing) → Answered {X = X} before part (fails failing) after
    → Answered {X = Y} before (and_then part next) (fails failing) after
then_fails {X} {Y} before after part next failing one = record {
  tells = if_some {P = λ tree. Tells {X = X} tree before part (fails failing) after}
      {Q = λ tree. Tells {X = Y} tree before (and_then part next) (fails failing) after} before.folder.holds
      (λ tree. tells_fails tree before after part next failing) one.tells;
  known = one.known;
  trail = one.trail;
  covered = λ finished covers. one.covered (λ e. finished (carried failing no_memory e)) covers;
  asked = if_some {P = λ old. AsksOnce old before after (failed X failing ≡ fails no_memory) (IsLookOf before part)}
      {Q = λ old. AsksOnce old before after (failed Y failing ≡ fails no_memory) (IsLookOf before (and_then part next))}
      before.folder.asked
      (λ old. asks_finished old before after (failed X failing ≡ fails no_memory)
      (failed Y failing ≡ fails no_memory) (IsLookOf before part) (IsLookOf before (and_then part next))
      (carried failing no_memory) (look_first before part next)) one.asked;
  folder = looks_as {P = failed X failing ≡ fails not_read} {Q = failed Y failing ≡ fails not_read} before.folder
      after.folder (carried failing not_read) (carried failing not_read) one.folder;
  possible = λ e. one.possible (carried failing never e);
}

-- ---- without a question

nothing_told : {X : Type 0} (before : State) (asking : LookAsking X) (response : Response X) (told : Option Tree)
    → ((sights : Sights) → Comes (evaluated (limited look_limits sights) before.trail asking) response before.trail)
    → IfSome told (λ tree. Tells tree before asking response before)
nothing_told before asking response None comes = tt
nothing_told before asking response (Some tree) comes =
    record { says = λ sights sees. comes sights; same = λ path. refl }

pub nothing : {X : Type 0} (before : State) (asking : LookAsking X) (response : Response X)
    → ((sights : Sights) → Comes (evaluated (limited look_limits sights) before.trail asking) response before.trail)
    → (response ≡ fails not_read → ⊥) → (response ≡ fails never → ⊥) → Answered before asking response before
nothing before asking response comes read possible = record {
  tells = nothing_told before asking response before.folder.holds comes;
  known = grows_itself before.known;
  trail = lengthens_itself before.trail;
  covered = λ finished covers. covers;
  asked = asks_nothing_told before.folder.asked before before (response ≡ fails no_memory) (IsLookOf before asking)
      refl;
  folder = no_looks before.folder (response ≡ fails not_read) read;
  possible = possible;
}

pub now_given : {X : Type 0} (before : State) (value : X) → Answered before (answered value) (given value) before
now_given before value = nothing before (answered value) (given value) (λ sights. refl) (λ e. cc) (λ e. cc)

pub no_memory_now : {X : Type 0} (before : State) (asking : LookAsking X)
    → Answered {X = X} before asking (fails no_memory) before
no_memory_now before asking = nothing before asking (fails no_memory) (λ sights. tt) (λ e. cc) (λ e. cc)

-- want of memory behind a part leaves the whole unfinished
pub unfinished : {X Y : Type 0} (before after : State) (part : LookAsking X) (next : X → LookAsking Y) (value : X)
    → Answered before part (given value) after → Answered {X = Y} before (and_then part next) (fails no_memory) after
unfinished {X} {Y} before after part next value one = record {
  tells = if_some {P = λ tree. Tells tree before part (given value) after}
      {Q = λ tree. Tells {X = Y} tree before (and_then part next) (fails no_memory) after} before.folder.holds
      (λ tree. tells_unfinished tree before after part (given value) (and_then part next)) one.tells;
  known = one.known;
  trail = one.trail;
  covered = λ finished covers. absurd (finished refl);
  asked = if_some {P = λ old. AsksOnce old before after (given value ≡ fails no_memory) (IsLookOf before part)}
      {Q = λ old. AsksOnce old before after (failed Y no_memory ≡ fails no_memory) (IsLookOf before (and_then part next))}
      before.folder.asked
      (λ old. asks_finished old before after (given value ≡ fails no_memory)
      (failed Y no_memory ≡ fails no_memory) (IsLookOf before part) (IsLookOf before (and_then part next)) (λ e. refl)
      (look_first before part next)) one.asked;
  folder = looks_as {P = given value ≡ fails not_read} {Q = failed Y no_memory ≡ fails not_read} before.folder
      after.folder
      (λ e. absurd (cc)) (λ e. absurd (cc)) one.folder;
  possible = λ e. cc;
}

-- ---- faults are handed on

module _ {X Y : Type 0} (before after : State) (part : LookAsking X) (next : X → LookAsking Y) where
  limit_on : (deep : Response X) (other : Response Y)
      → (Answered before part deep after → Answered before (and_then part next) other after) → (which : LimitName)
      → Answered before part (by_limit deep which) after
      → Answered before (and_then part next) (by_limit other which) after
  limit_on deep other on File a = then_fails before after part next (passes File) a
  limit_on deep other on Bytes a = then_fails before after part next (passes Bytes) a
  limit_on deep other on Looks a = then_fails before after part next (passes Looks) a
  limit_on deep other on Modules a = then_fails before after part next never a
  limit_on deep other on ModuleRequests a = then_fails before after part next never a
  limit_on deep other on Requests a = then_fails before after part next never a
  limit_on deep other on Specifier a = then_fails before after part next never a
  limit_on deep other on Entries a = then_fails before after part next never a
  limit_on deep other on Brackets a = then_fails before after part next never a
  limit_on deep other on Depth a = on a
  limit_on deep other on Session a = then_fails before after part next never a
  limit_on deep other on Map a = then_fails before after part next never a
  limit_on deep other on Choices a = then_fails before after part next never a

  -- where what isn't well formed, and what is too deep, are handed on
  pub fault_on : (config deep : Response X) (other deeper : Response Y)
      → (Answered before part config after → Answered before (and_then part next) other after)
      → (Answered before part deep after → Answered before (and_then part next) deeper after) → (fault : LookupFault)
      → Answered before part (by_fault config deep fault) after
      → Answered before (and_then part next) (by_fault other deeper fault) after
  fault_on config deep other deeper on on_deep ReadFault a = then_fails before after part next not_read a
  fault_on config deep other deeper on on_deep Memory a = then_fails before after part next no_memory a
  fault_on config deep other deeper on on_deep InvalidConfig a = on a
  fault_on config deep other deeper on on_deep (Limit which) a = limit_on deep deeper on_deep which a

  impossible : (response : Response Y) → Answered {X = X} before part (fails never) after
      → Answered before (and_then part next) response after
  impossible response a = absurd (a.possible refl)

  -- a part that can't be refused, in a whole that can't be, and in one that may be
  pub looked_on : (fault : LookupFault) → Answered before part (by_fault (fails never) (fails never) fault) after
      → Answered before (and_then part next) (by_fault (fails never) (fails never) fault) after
  looked_on fault a =
      fault_on (fails never) (fails never) (fails never) (fails never) (impossible (fails never))
      (impossible (fails never)) fault a

  pub looked_to : (other deeper : Response Y) (fault : LookupFault)
      → Answered before part (by_fault (fails never) (fails never) fault) after
      → Answered before (and_then part next) (by_fault other deeper fault) after
  looked_to other deeper fault a =
      fault_on (fails never) (fails never) other deeper (impossible other) (impossible deeper) fault a

-- a part that may be refused, in a whole that hands the refusal on
pub refused_on : {X Y : Type 0} (before after : State) (part : Resolving X) (next : X → Resolving Y) (refusal : Refusal)
    → Answered before part (given (Err refusal)) after → Answered before (and_ok part next) (given (Err refusal)) after
refused_on before after part next refusal a =
    then_given before after after part (on_ok next) (Err refusal) (given (Err refusal)) a
    (now_given after (Err refusal))

pub resolved_on : {X Y : Type 0} (before after : State) (part : Resolving X) (next : X → Resolving Y)
    (fault : LookupFault) → Answered before part (by_fault bad_config deep_config fault) after
    → Answered before (and_ok part next) (by_fault bad_config deep_config fault) after
resolved_on before after part next fault a =
    fault_on before after part (on_ok next) bad_config deep_config bad_config deep_config
    (refused_on before after part next (by_cause cause.InvalidConfig)) (refused_on before after part next too_deep)
    fault a

-- ---- what is known in another form

pub same_known_at : (before after : Known) → IsSameKnown before after → (path : List ℕ)
    → known_at after path ≡ known_at before path
same_known_at before after same path = (λ i. option_or (same.laid path i) (same.kept path i))

known_tells : {X : Type 0} (tree : Tree) (before after : State) (known : Known) (asking : LookAsking X)
    (response : Response X) → IsSameKnown after.known known → Tells tree before asking response after
    → Tells tree before asking response (state after.folder known after.trail)
known_tells tree before after known asking response same one = record {
  says = one.says;
  same = λ path. ap (λ l. look_or l (get tree path)) (same_known_at after.known known same path) ∙ one.same path;
}

pub known_on : {X : Type 0} (before after : State) (known : Known) (asking : LookAsking X) (response : Response X)
    → IsSameKnown after.known known → Answered before asking response after
    → Answered before asking response (state after.folder known after.trail)
known_on before after known asking response same one = record {
  tells = if_some {P = λ tree. Tells tree before asking response after}
      {Q = λ tree. Tells tree before asking response (state after.folder known after.trail)} before.folder.holds
      (λ tree. known_tells tree before after known asking response same) one.tells;
  known = record {
    laid = λ path. same.laid path ∙ one.known.laid path;
    kept = λ path look e. same.kept path ∙ one.known.kept path look e;
    under = λ path look e. same.kept path ∙ one.known.under path look e;
  };
  trail = one.trail;
  covered = λ finished covers path held.
      subst IsWithin (sym (same_known_at after.known known same path)) (one.covered finished covers path held);
  asked = if_some {P = λ old. AsksOnce old before after (response ≡ fails no_memory) (IsLookOf before asking)}
      {Q = λ old. AsksOnce old before (state after.folder known after.trail) (response ≡ fails no_memory) (IsLookOf before asking)}
      before.folder.asked
      (λ old asks. record {
        more = asks.more;
        asked = asks.asked;
        once = asks.once;
        new = asks.new;
        held = λ finished. All-weaker (λ path. is_some (known_at after.known path) ≡ true)
            (λ path. is_some (known_at known path) ≡ true)
            (λ path held. ap is_some (same_known_at after.known known same path) ∙ held) asks.more (asks.held finished);
        front = but_last_weaker (λ path. is_some (known_at after.known path) ≡ true)
            (λ path. is_some (known_at known path) ≡ true) asks.more
            (λ path held. ap is_some (same_known_at after.known known same path) ∙ held) asks.front;
        among = asks.among;
      }) one.asked;
  folder = one.folder;
  possible = one.possible;
}

-- ---- whatever the rest comes to, the whole does

pub record Left {X : Type 0} (before : State) (whole : LookAsking X) (middle : State) (rest : LookAsking X) : Type 0 where
  pub completes :
      (response : Response X) (after : State) → Answered middle rest response after
      → Answered before whole response after

pub left_begins : {X : Type 0} (before : State) (whole : LookAsking X) → Left before whole before whole
left_begins before whole = record { completes = λ response after a. a }

pub left_twice : {X : Type 0} (before middle later : State) (whole rest last : LookAsking X)
    → Left before whole middle rest → Left middle rest later last → Left before whole later last
left_twice before middle later whole rest last one two = record {
  completes = λ response after a. one.completes response after (two.completes response after a);
}

pub left_goes : {X Y : Type 0} (before middle later : State) (whole : LookAsking Y) (part : LookAsking X)
    (next : X → LookAsking Y) (value : X) → Left before whole middle (and_then part next)
    → Answered middle part (given value) later → Left before whole later (next value)
left_goes before middle later whole part next value left a = record {
  completes = λ response after rest. left.completes response after
      (then_given middle later after part next value response a rest);
}

-- ---- the same asking, state and response under other names

pub asking_as : {X : Type 0} (before after : State) (one other : LookAsking X) (response : Response X) → one ≡ other
    → Answered before one response after → Answered before other response after
asking_as before after one other response same a = subst (λ asking. Answered before asking response after) same a

-- ---- what is returned where a call fails

pub handed : {X E : Type 0} (result : Result X E) (fault : E) → IsErrAnd result (λ given. given ≡ fault)
    → result ≡ Err fault
handed result fault e = (let p = err_from_is_err_and result e in p.1 ∙ ap Err p.2)

pub looked_err : {X Y : Type 0} (shown : X → Y) (before after : State) (asking : LookAsking Y)
    (result : Result X LookupFault) (fault : LookupFault) → IsErrAnd result (λ given. given ≡ fault)
    → Answered before asking (by_fault (fails never) (fails never) fault) after
    → Answered before asking (looked shown result) after
looked_err shown before after asking result fault e a =
    subst (λ r. Answered before asking (looked shown r) after) (sym (handed result fault e)) a

pub resolved_err : {X Y : Type 0} (shown : X → Y) (before after : State) (asking : Resolving Y)
    (result : Result X LookupFault) (fault : LookupFault) → IsErrAnd result (λ given. given ≡ fault)
    → Answered before asking (by_fault bad_config deep_config fault) after
    → Answered before asking (resolved shown result) after
resolved_err shown before after asking result fault e a =
    subst (λ r. Answered before asking (resolved shown r) after) (sym (handed result fault e)) a

pub given_as : {X : Type 0} (before after : State) (asking : LookAsking X) (value other : X) → other ≡ value
    → Answered before asking (given value) after → Answered before asking (given other) after
given_as before after asking value other same a = subst (λ v. Answered before asking (given v) after) (sym same) a
