-- Looks that are counted as a whole.
--     space_one, space_next     there is space for one, and for the others behind it
--     known_answered            a look at what is known, without a look at the folder
--     seen_all                  looks that are counted as a whole are looks one after another
--     lost                      memory was wanting before all were counted
--     shown_none, shown_one     none is left to be shown, and one more is shown
use Rattle.std.proofs.Common.{◌≡◌, ◌≢◌, ◌≤◌, ◌+◌, ◌++◌, [], ◌∷◌, ℕ, nat_lt, Bool, true, false, List, length, Option, Some, None, Result, Ok, Err, IfSome, refl, sym, ap, ◌∙◌, subst, inl, inr, arith, append-nil, length-append}
use Rattle.std.specs.Prelude.{not, All, bytes_eq, if◌then◌else◌}
use Rattle.std.specs.List.{IsDistinct}
use Rattle.std.proofs.lemmas.Bool.{cond_both, lt-ltb, le-ltb}
use Rattle.std.proofs.lemmas.List.Elements.{All-nil, All-cons, All-head, All-tail}
use Rattle.asking_spec.specs.Evaluation.{Ended, ends, then_ended}
use Rattle.tree_spec.specs.LookAskings.{look_at, look_at_each, is_seen, with_seen, noted}
use Rattle.tree_spec.specs.LookLimits.{Trail, look_limits, size_at, seen_again, seen_first, counted, told}
use Rattle.tree_spec.specs.States.{FolderState}
use Rattle.tree_spec.specs.Trees.{Tree}
use Rattle.tree_spec.specs.declared.Entry.{Entry}
use Rattle.tree_spec.specs.declared.Entry.TheVariants.{Stored, Directory}
use Rattle.tree_spec.specs.declared.LimitName.{LimitName}
use Rattle.tree_spec.specs.declared.LimitName.TheVariants.{File, Bytes, Looks}
use Rattle.package_lookup.specs.Answered.{State, state, Tells, IsLookOf, Answered}
use Rattle.package_lookup.specs.LaidTrees.{look_for}
use Rattle.package_lookup.specs.Looked.{known_at}
use Rattle.package_lookup.specs.Responses.{Response, given, fails, not_read, no_memory}
use Rattle.package_lookup.specs.SeenLooks.{IsWithin}
use Rattle.package_lookup.specs.Trails.{asked_again, passed, Lengthens}
use Rattle.package_lookup.specs.declared.known.Known.{Known}
use Rattle.package_lookup.proofs.LookCounts.{counted_paths}
use Rattle.package_lookup.proofs.NotedPaths.{noted_distinct}
use Rattle.package_lookup.proofs.Questions.{asks_nothing_told, grows_itself, no_looks, now_given, then_given}
use Rattle.kept_spec.specs.Certificates.{LookSeen, paths_of}
use Rattle.kept_answers.specs.KnownLooks.{IsSmall, IsAsKnown, IsSeenAgain, LooksTo, afresh}
use Rattle.kept_answers.specs.WholeLooks.{counted_all, total_size, AreShown, AreCountable, HasSpaceFor}
use Rattle.kept_answers.proofs.KnownLemmas.{seen_here}

-- ---- there is space

pub space_one : (trail : Trail) (look : LookSeen) (others : List LookSeen) → HasSpaceFor trail (look ∷ others)
    → trail.size + size_at look.found ≤ look_limits.bytes
space_one trail look others space = (let size = space.1 in omega (arith, size))

pub space_next : (trail : Trail) (look : LookSeen) (others : List LookSeen) → HasSpaceFor trail (look ∷ others)
    → HasSpaceFor (passed trail look.path (size_at look.found)) others
space_next trail look others space =
    cond_both (is_seen look.path trail.paths) trail _ (λ (t : Trail). HasSpaceFor t others)
    (λ seen. (let few = space.0 in omega (arith, few), let size = space.1 in omega (arith, size)))
    (λ new. (
      let few = space.0 in let long = length-append trail.paths (look.path ∷ []) in omega (arith, few, long),
      let size = space.1 in omega (arith, size),
    ))

pub lengthens_passed : (trail : Trail) (one other : List (List ℕ)) (path : List ℕ) (size : ℕ)
    → Lengthens (asked_again trail one) (asked_again (passed trail path size) other)
lengthens_passed trail one other path size =
    cond_both (is_seen path trail.paths) trail _
    (λ (t : Trail). Lengthens (asked_again trail one) (asked_again t other))
    (λ seen. record { more = []; paths = sym (append-nil trail.paths); size = omega arith })
    (λ new. record { more = path ∷ []; paths = refl; size = omega arith })

-- ---- one look is counted

passes_by : (trail : Trail) (question : List (List ℕ)) (path : List ℕ) (found : Option Entry)
    (seen few large heavy : Bool) → few ≡ true → large ≡ false → heavy ≡ false
    → (if seen then (if large then Err File else Ok (seen_again (asked_again trail question) path))
    else if not few then Err Looks else if large then Err File else if heavy then Err Bytes
    else Ok (seen_first (asked_again trail question) path found))
    ≡ Ok (asked_again (if seen then trail
    else record { paths = trail.paths ++ path ∷ []; size = trail.size + size_at found; question = trail.question })
    (with_seen question path))
passes_by trail question path found true few true heavy a b c = absurd (cc)
passes_by trail question path found true few false heavy a b c = refl
passes_by trail question path found false false large heavy a b c = absurd (cc)
passes_by trail question path found false true true heavy a b c = absurd (cc)
passes_by trail question path found false true false true a b c = absurd (cc)
passes_by trail question path found false true false false a b c = refl

counted_passed : (trail : Trail) (question : List (List ℕ)) (look : LookSeen) (others : List LookSeen)
    → IsSmall look.found → HasSpaceFor trail (look ∷ others)
    → counted look_limits (asked_again trail question) look.path look.found
    ≡ Ok (asked_again (passed trail look.path (size_at look.found)) (with_seen question look.path))
counted_passed trail question look others small space =
    passes_by trail question look.path look.found (is_seen look.path trail.paths)
    (nat_lt (length trail.paths) look_limits.looks) (nat_lt look_limits.file (size_at look.found))
    (nat_lt look_limits.bytes (trail.size + size_at look.found))
    (lt-ltb (length trail.paths) look_limits.looks (let few = space.0 in omega (arith, few))) small
    (le-ltb look_limits.bytes (trail.size + size_at look.found) (space_one trail look others space))

-- ---- a look at what is known

within_known : (found : Option Entry) → IsSmall found → IsWithin (Some (look_for found))
within_known None small = tt
within_known (Some Directory) small = tt
within_known (Some (Stored bytes)) small = small

abbrev End : Type 0
End = Ended (Option Entry) Trail LimitName

abbrev ends_by : Option Entry → Trail → Result Trail LimitName → End
ends_by found trail c = then_ended (told found trail c) (λ seen later. ends seen later)

module _ (folder : FolderState) (known : Known) where
  known_tells : (trail later : Trail) (look : LookSeen) → IsAsKnown known look
      → counted look_limits trail look.path look.found ≡ Ok later → (holds : Option Tree)
      → IfSome holds (λ tree. Tells tree (state folder known trail) (look_at look.path) (given look.found) (state folder known later))
  known_tells trail later look is count None = tt
  known_tells trail later look is count (Some tree) = record {
    says = λ sights sees.
        ap (λ found. ends_by found trail (counted look_limits trail look.path found)) (seen_here tree known sights look sees is)
        ∙ ap (ends_by look.found trail) count;
    same = λ path. refl;
  }

  pub known_answered : (trail later : Trail) (look : LookSeen) → IsAsKnown known look
      → counted look_limits trail look.path look.found ≡ Ok later → Lengthens trail later
      → Answered (state folder known trail) (look_at look.path) (given look.found) (state folder known later)
  known_answered trail later look is count lengthens = record {
    tells = known_tells trail later look is count folder.holds;
    known = grows_itself known;
    trail = lengthens;
    covered = λ finished covers path held. elim (counted_paths trail later look.path look.found count path held) [
      | inl earlier ↦ covers path earlier
      | inr same ↦ subst IsWithin (sym (ap (known_at known) same ∙ is.known_so)) (within_known look.found is.small)
    ];
    asked = asks_nothing_told folder.asked (state folder known trail) (state folder known later)
        (given look.found ≡ fails no_memory) (IsLookOf (state folder known trail) (look_at look.path)) refl;
    folder = no_looks folder (given look.found ≡ fails not_read) (λ e. cc);
    possible = λ e. cc;
  }

  -- ---- all of them

  all_counted : (trail : Trail) (question : List (List ℕ)) (looks : List LookSeen) → All (IsAsKnown known) looks
      → HasSpaceFor trail looks
      → Answered (state folder known (asked_again trail question)) (look_at_each (paths_of looks)) (given tt)
      (state folder known (asked_again (counted_all trail looks) (noted question (paths_of looks))))
  all_counted trail question [] each space = now_given (state folder known (asked_again trail question)) tt
  all_counted trail question (look ∷ looks) each space =
      let after = passed trail look.path (size_at look.found) in
      let asked = with_seen question look.path in
      let is = All-head (IsAsKnown known) look looks each in
      then_given (state folder known (asked_again trail question)) (state folder known (asked_again after asked))
      (state folder known (asked_again (counted_all after looks) (noted asked (paths_of looks)))) (look_at look.path)
      (λ found. look_at_each (paths_of looks)) look.found (given tt)
      (known_answered (asked_again trail question) (asked_again after asked) look is
      (counted_passed trail question look looks is.small space)
      (lengthens_passed trail question asked look.path (size_at look.found)))
      (all_counted after asked looks (All-tail (IsAsKnown known) look looks each) (space_next trail look looks space))

pub seen_all : (before : State) (looks : List LookSeen) (paths : List (List ℕ)) (counts after : Trail)
    → AreCountable before.known before.trail looks paths → counts ≡ counted_all before.trail looks
    → after ≡ asked_again counts paths → IsSeenAgain before looks (state before.folder before.known after)
seen_all before looks paths counts after are all asks =
    let question : noted [] (paths_of looks) ≡ paths =
    noted_distinct (paths_of looks) (subst (λ ps. IsDistinct bytes_eq ps) (sym are.at.paths_are) are.at.distinct)
    ∙ are.at.paths_are in
    let trail : asked_again (counted_all before.trail looks) (noted [] (paths_of looks)) ≡ after =
    ap (asked_again (counted_all before.trail looks)) question ∙ (ap (λ t. asked_again t paths) (sym all) ∙ sym asks) in
    record {
      each = are.each;
      answered = subst (λ t. Answered (afresh before) (look_at_each (paths_of looks)) (given tt) (state before.folder before.known t))
          trail (all_counted before.folder before.known before.trail [] looks are.each are.space);
    }

-- ---- memory was wanting

lost_tells : (before : State) (after : Trail) (path : List ℕ) (holds : Option Tree)
    → IfSome holds (λ tree. Tells tree (afresh before) (look_at_each (path ∷ [])) (fails no_memory) (state before.folder before.known after))
lost_tells before after path None = tt
lost_tells before after path (Some tree) = record { says = λ sights sees. tt; same = λ other. refl }

abbrev none_wanting : Response (Unit {0})
none_wanting = fails no_memory

pub lost : (before : State) (looks : List LookSeen) (after : Trail) → looks ≢ [] → Lengthens before.trail after
    → LooksTo before looks (fails no_memory) (state before.folder before.known after)
lost before [] after some lengthens = absurd (some refl)
lost before (look ∷ looks) after some lengthens = record {
  same = [];
  next = look;
  rest = looks;
  split = refl;
  each = All-nil (IsAsKnown before.known);
  answered = record {
    tells = lost_tells before after look.path before.folder.holds;
    known = grows_itself before.known;
    trail = record { more = lengthens.more; paths = lengthens.paths; size = lengthens.size };
    covered = λ finished covers. absurd (finished refl);
    asked = asks_nothing_told before.folder.asked (afresh before) (state before.folder before.known after)
        (none_wanting ≡ fails no_memory) (IsLookOf (afresh before) (look_at_each (look.path ∷ []))) refl;
    folder = no_looks before.folder (none_wanting ≡ fails not_read) (λ e. cc);
    possible = λ e. cc;
  };
}

-- ---- the same is known

pub shown_none : (known : Known) (whole rest : List LookSeen) (left most : ℕ)
    → (All (IsAsKnown known) rest → All (IsAsKnown known) whole) → (total_size rest ≤ left → total_size whole ≤ most)
    → length rest ≡ 0 → AreShown known whole most
shown_none known whole [] left most each size none =
    record { each = each (All-nil (IsAsKnown known)); size = size (omega arith) }
shown_none known whole (look ∷ rest) left most each size none = absurd (cc)

pub shown_one : (known : Known) (whole rest others : List LookSeen) (look : LookSeen) → rest ≡ look ∷ others
    → IsAsKnown known look → (All (IsAsKnown known) rest → All (IsAsKnown known) whole)
    → All (IsAsKnown known) others → All (IsAsKnown known) whole
shown_one known whole rest others look cut is each all =
    each (subst (All (IsAsKnown known)) (sym cut) (All-cons (IsAsKnown known) look others is all))

pub sizes_one : (whole rest others : List LookSeen) (look : LookSeen) (left less size most : ℕ) → rest ≡ look ∷ others
    → size ≡ size_at look.found → less + size ≡ left → (total_size rest ≤ left → total_size whole ≤ most)
    → total_size others ≤ less → total_size whole ≤ most
sizes_one whole rest others look left less size most cut is goes all within =
    all (let sum : total_size rest ≡ size_at look.found + total_size others = ap total_size cut in
    omega (arith, sum, is, goes, within))
