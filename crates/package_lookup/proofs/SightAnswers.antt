-- A look at a path, as an answer to the asking for it.
use Rattle.std.proofs.Common.{◌≡◌, ◌≢◌, ◌⊎◌, ◌++◌, [], ◌∷◌, ℕ, true, false, List, Option, Some, None, Result, Ok, Err, IfSome, refl, sym, ap, ◌∙◌, subst, inl, inr, append-nil, ⊎_elim}
use Rattle.std.specs.Prelude.{is_some, if◌then◌else◌}
use Rattle.std.specs.FinMap.{get}
use Rattle.std.proofs.lemmas.List.Elements.{All-cons, All-nil}
use Rattle.asking_spec.specs.Evaluation.{Ended, ends, then_ended, evaluated}
use Rattle.tree_spec.specs.LookAskings.{Sights, look_at, looks}
use Rattle.tree_spec.specs.LookLimits.{Trail, look_limits, counted, told, limited}
use Rattle.tree_spec.specs.States.{FolderState, OnlyLooks}
use Rattle.tree_spec.specs.Trees.{Tree}
use Rattle.tree_spec.specs.declared.Entry.{Entry}
use Rattle.tree_spec.specs.declared.LimitName.{LimitName}
use Rattle.tree_spec.specs.declared.LimitName.TheVariants as limit
use Rattle.tree_spec.specs.declared.Look.{Look}
use Rattle.tree_spec.specs.declared.Look.TheVariants.{TooLarge}
use Rattle.tree_spec.proofs.FootprintSets.{distinct_one}
use Rattle.package_lookup.specs.declared.fault.LookupFault.{LookupFault}
use Rattle.package_lookup.specs.declared.fault.LookupFault.TheVariants.{ReadFault, Limit, InvalidConfig, Memory}
use Rattle.package_lookup.specs.declared.held.Seen.{Seen}
use Rattle.package_lookup.specs.declared.known.Known.{Known}
use Rattle.package_lookup.specs.SeenLooks.{entry_of, look_seen, within_limit, IsWithin, seen_as}
use Rattle.package_lookup.specs.Looked.{known_at, look_or, look_in, Sees, Grows}
use Rattle.package_lookup.specs.Trails.{has_room, OnCount, Lengthens, IsReached}
use Rattle.package_lookup.specs.Responses.{passes, not_read, no_memory, never, Response, given, fails, by_limit, by_fault}
use Rattle.package_lookup.specs.Answered.{State, state, Comes, Tells, IsLookOf, IsCovered, AsksOnce, Answered}
use Rattle.package_lookup.specs.Fetching.{unknown, IsAsked, Fetches}
use Rattle.package_lookup.proofs.ButLast.{but_last_one}
use Rattle.package_lookup.proofs.LookCounts.{counted_large, counted_many, counted_named, counted_alike, counted_paths, counted_within, small_within, stands_counted, large_seen}
use Rattle.package_lookup.proofs.Reaching.{room_there, reached_now}
use Rattle.package_lookup.proofs.Questions.{nothing, asks_nothing, covers_still, failed, lengthens_itself}

abbrev End : Type 0
End = Ended (Option Entry) Trail LimitName

-- ---- what the folder was asked for

asks_by : (list : List (List ℕ)) (before after : State) (unfinished : Type 0) (Among : List ℕ → Type 0) (path : List ℕ)
    (more : List (List ℕ)) (found : Option Look) → Among path → known_at before.known path ≡ found → after.folder.asked ≡ Some (list ++ more)
    → more ≡ (if is_some found then [] else path ∷ [])
    → ((unfinished → ⊥) → is_some (known_at after.known path) ≡ true) → AsksOnce list before after unfinished Among
asks_by list before after unfinished Among path more (Some look) here known asked is held =
    asks_nothing list before after unfinished Among
    (asked ∙ (ap (λ m. Some (list ++ m)) is ∙ ap Some (append-nil list)))
asks_by list before after unfinished Among path more None here known asked is held = record {
  more = path ∷ [];
  asked = asked ∙ ap (λ m. Some (list ++ m)) is;
  once = distinct_one path;
  new = All-cons (λ p. known_at before.known p ≡ None) path [] known (All-nil (λ p. known_at before.known p ≡ None));
  held = λ finished. All-cons (λ p. is_some (known_at after.known p) ≡ true) path [] (held finished)
      (All-nil (λ p. is_some (known_at after.known p) ≡ true));
  front = but_last_one (λ p. is_some (known_at after.known p) ≡ true) path;
  among = All-cons Among path [] here (All-nil Among);
}

abbrev Covers : Known → Known → List ℕ → Type 0 → List (List ℕ) → Type 0
Covers old new path unfinished more =
    (more ≡ []) ⊎ ((more ≡ unknown old path) × ((unfinished → ⊥) → is_some (known_at new path) ≡ true))

asks_covered : (list : List (List ℕ)) (before after : State) (unfinished : Type 0) (Among : List ℕ → Type 0)
    (path : List ℕ) (more : List (List ℕ)) → Among path → after.folder.asked ≡ Some (list ++ more)
    → Covers before.known after.known path unfinished more → AsksOnce list before after unfinished Among
asks_covered list before after unfinished Among path more here asked (inl none) =
    asks_nothing list before after unfinished Among
    (asked ∙ (ap (λ m. Some (list ++ m)) none ∙ ap Some (append-nil list)))
asks_covered list before after unfinished Among path more here asked (inr one) =
    asks_by list before after unfinished Among path more (known_at before.known path) here refl asked one.0 one.1

asks_told : (told : Option (List (List ℕ))) (before after : State) (unfinished : Type 0) (Among : List ℕ → Type 0)
    (path : List ℕ) (result : Result Look LookupFault) → Among path
    → ((more : List (List ℕ)) → IsAsked before.known path result more
    → Covers before.known after.known path unfinished more)
    → IfSome told (λ list. (more : List (List ℕ)) × (after.folder.asked ≡ Some (list ++ more)) × IsAsked before.known path result more)
    → IfSome told (λ list. AsksOnce list before after unfinished Among)
asks_told None before after unfinished Among path result here covers asked = tt
asks_told (Some list) before after unfinished Among path result here covers asked =
    asks_covered list before after unfinished Among path asked.0 here asked.1 (covers asked.0 asked.2)

-- the path at which a look looks
looks_there : (path : List ℕ) (holds : Option Tree) (known : Known) (trail : Trail) → has_room trail path ≡ true
    → IfSome holds
    (λ tree. (sights : Sights) → Sees tree known sights
    → IsReached look_limits sights trail (looks sights (look_at path)) path)
looks_there path None known trail room = tt
looks_there path (Some tree) known trail room = λ sights sees.
    reached_now look_limits sights trail path [] (room_there sights trail path room)

-- ---- a look that was fetched

abbrev Same : Tree → Known → Known → Type 0
Same tree old new = (other : List ℕ) → look_in tree new other ≡ look_in tree old other

abbrev Told : Known → Known → Trail → List ℕ → Response (Option Entry) → Trail → Type 0
Told old new trail path response later =
    (tree : Tree) → Same tree old new → (sights : Sights) → Sees tree old sights
    → Comes (evaluated (limited look_limits sights) trail (look_at path)) response later

tells_told : (holds : Option Tree) (before after : FolderState) (old new : Known) (trail later : Trail) (path : List ℕ)
    (response : Response (Option Entry)) → Told old new trail path response later
    → IfSome holds (λ tree. Same tree old new)
    → IfSome holds (λ tree. Tells tree (state before old trail) (look_at path) response (state after new later))
tells_told None before after old new trail later path response told same = tt
tells_told (Some tree) before after old new trail later path response told same =
    record { says = told tree same; same = same }

module _ (before after : FolderState) (old new : Known) (trail : Trail) (path : List ℕ)
    (room : has_room trail path ≡ true) where
  answers : (later : Trail) (result : Result Look LookupFault) (response : Response (Option Entry))
      → Fetches before old path result after new → Told old new trail path response later
      → ((more : List (List ℕ)) → IsAsked old path result more → Covers old new path (response ≡ fails no_memory) more)
      → OnlyLooks before after (response ≡ fails not_read) → response ≢ fails never → Lengthens trail later
      → (response ≢ fails no_memory → IsCovered (state before old trail) → IsCovered (state after new later))
      → Answered (state before old trail) (look_at path) response (state after new later)
  answers later result response fetches told covers only possible lengthens keeps = record {
    tells = tells_told before.holds before after old new trail later path response told fetches.same;
    known = fetches.grows;
    trail = lengthens;
    covered = keeps;
    asked = asks_told before.asked (state before old trail) (state after new later) (response ≡ fails no_memory)
        (IsLookOf (state before old trail) (look_at path)) path result (looks_there path before.holds old trail room)
        covers fetches.asked;
    folder = only;
    possible = possible;
  }

  -- no path more is counted
  still_covered : Grows old new → IsCovered (state before old trail) → IsCovered (state after new trail)
  still_covered grows covers other held = covers_still old new grows other (covers other held)

  -- the path is counted, whose look is known
  now_covered : (later : Trail) (some : Seen) → Grows old new → known_at new path ≡ Some (look_seen some)
      → counted look_limits trail path (entry_of some) ≡ Ok later → IsCovered (state before old trail)
      → IsCovered (state after new later)
  now_covered later some grows known count covers other held =
      elim (counted_paths trail later path (entry_of some) count other held) [
        | inl earlier ↦ covers_still old new grows other (covers other earlier)
        | inr same ↦ subst IsWithin (sym (ap (known_at new) same ∙ known))
            (small_within some (counted_within trail later path (entry_of some) count))
      ]

  -- no look failed
  fine : (look : Look) (response : Response (Option Entry)) → (response ≡ fails not_read → ⊥)
      → OnlyLooks before after (Ok look ≡ Err ReadFault) → OnlyLooks before after (response ≡ fails not_read)
  fine look response not only = record {
    tree = only.tree;
    writes = only.writes;
    later = only.later;
    cause = λ e. absurd (not e);
    quiet = λ none. only.quiet (λ e. cc);
  }

  covered : (look : Look) (unfinished : Type 0) → known_at new path ≡ Some look → (more : List (List ℕ))
      → IsAsked old path (Ok look) more → Covers old new path unfinished more
  covered look unfinished held more is = inr (is, (λ finished. ap is_some held))

  -- what stands there, as far as the look tells
  seen_now : (look : Look) → known_at new path ≡ Some look → (tree : Tree) → Same tree old new → (sights : Sights)
      → Sees tree old sights → seen_as (sights path) ≡ within_limit look
  seen_now look held tree same sights sees =
      sees.each path ∙ (sym (same path) ∙ ap (λ l. look_or l (get tree path)) held)

  abbrev ends_by : (sights : Sights) → Result Trail LimitName → End
  ends_by sights c = then_ended (told (sights path) trail c) (λ found later. ends found later)

  pub sight_given : (later : Trail) (some : Seen) → Fetches before old path (Ok (look_seen some)) after new
      → counted look_limits trail path (entry_of some) ≡ Ok later → Lengthens trail later
      → Answered (state before old trail) (look_at path) (given (entry_of some)) (state after new later)
  sight_given later some fetches count lengthens =
      answers later (Ok (look_seen some)) (given (entry_of some)) fetches
      (λ tree same sights sees.
      let seen = seen_now (look_seen some) fetches.known tree same sights sees in
      ap (ends_by sights) (counted_alike trail path (sights path) some seen ∙ count)
      ∙ ap (λ found. ends found later) (stands_counted trail later path (sights path) some seen count))
      (covered (look_seen some) (given (entry_of some) ≡ fails no_memory) fetches.known)
      (fine (look_seen some) (given (entry_of some)) (λ e. cc) fetches.folder) (λ e. cc) lengthens
      (λ finished. now_covered later some fetches.grows fetches.known count)

  limit_passed : (look : Look) (which : LimitName) → Fetches before old path (Ok look) after new
      → ((tree : Tree) → Same tree old new → (sights : Sights) → Sees tree old sights
      → counted look_limits trail path (sights path) ≡ Err which)
      → Answered (state before old trail) (look_at path) (fails (passes which)) (state after new trail)
  limit_passed look which fetches count =
      answers trail (Ok look) (fails (passes which)) fetches
      (λ tree same sights sees. ap (ends_by sights) (count tree same sights sees))
      (covered look (failed (Option Entry) (passes which) ≡ fails no_memory) fetches.known)
      (fine look (fails (passes which)) (λ e. cc) fetches.folder) (λ e. cc) (lengthens_itself trail)
      (λ finished. still_covered fetches.grows)

  pub sight_large : Fetches before old path (Ok TooLarge) after new
      → Answered (state before old trail) (look_at path) (fails (passes limit.File)) (state after new trail)
  sight_large fetches =
      limit_passed TooLarge limit.File fetches
      (λ tree same sights sees. counted_large trail path (sights path) room
      (large_seen (sights path) (seen_now TooLarge fetches.known tree same sights sees)))

  unfinished_by : (look : Look) (later : Trail) → Fetches before old path (Ok look) after new → Lengthens trail later
      → Answered (state before old trail) (look_at path) (fails no_memory) (state after new later)
  unfinished_by look later fetches lengthens =
      answers later (Ok look) (fails no_memory) fetches (λ tree same sights sees. tt)
      (covered look (failed (Option Entry) no_memory ≡ fails no_memory) fetches.known)
      (fine look (fails no_memory) (λ e. cc) fetches.folder) (λ e. cc) lengthens
      (λ finished. absurd (finished refl))

  pub sight_fault : (later : Trail) (some : Seen) (fault : LookupFault)
      → Fetches before old path (Ok (look_seen some)) after new
      → OnCount trail (counted look_limits trail path (entry_of some)) (Err fault) later → Lengthens trail later
      → Answered (state before old trail) (look_at path) (by_fault (fails never) (fails never) fault) (state after new later)
  sight_fault later some ReadFault fetches count lengthens = absurd count
  sight_fault later some InvalidConfig fetches count lengthens = absurd count
  sight_fault later some Memory fetches count lengthens = unfinished_by (look_seen some) later fetches lengthens
  sight_fault later some (Limit which) fetches count lengthens =
      subst (λ t. Answered (state before old trail) (look_at path) (by_limit (fails never) which) (state after new t)) (sym count.1)
      (subst (λ r. Answered (state before old trail) (look_at path) r (state after new trail))
      (sym (counted_named trail path (entry_of some) (fails never) which count.0))
      (limit_passed (look_seen some) which fetches
      (λ tree same sights sees. counted_alike trail path (sights path) some
      (seen_now (look_seen some) fetches.known tree same sights sees) ∙ count.0)))

  pub sight_failed : (fault : LookupFault) → Fetches before old path (Err fault) after new
      → Answered (state before old trail) (look_at path) (by_fault (fails never) (fails never) fault) (state after new trail)
  sight_failed ReadFault fetches =
      answers trail (Err ReadFault) (fails not_read) fetches (λ tree same sights sees. tt) (λ more is. inl is)
      (record {
        tree = fetches.folder.tree;
        writes = fetches.folder.writes;
        later = fetches.folder.later;
        cause = λ e. fetches.folder.cause refl;
        quiet = λ none. absurd (none refl);
      }) (λ e. cc) (lengthens_itself trail) (λ finished. still_covered fetches.grows)
  sight_failed Memory fetches =
      answers trail (Err Memory) (fails no_memory) fetches (λ tree same sights sees. tt)
      (λ more is. ⊎_elim (λ none. inl none) (λ one. inr (one, (λ finished. absurd (finished refl)))) is)
      (record {
        tree = fetches.folder.tree;
        writes = fetches.folder.writes;
        later = fetches.folder.later;
        cause = λ e. absurd (cc);
        quiet = λ none. fetches.folder.quiet (λ e. cc);
      }) (λ e. cc) (lengthens_itself trail) (λ finished. absurd (finished refl))
  sight_failed InvalidConfig fetches = absurd fetches.outside
  sight_failed (Limit which) fetches = absurd fetches.outside

pub sight_many : (folder : FolderState) (known : Known) (trail : Trail) (path : List ℕ) → has_room trail path ≡ false
    → Answered (state folder known trail) (look_at path) (fails (passes limit.Looks)) (state folder known trail)
sight_many folder known trail path room =
    nothing (state folder known trail) (look_at path) (fails (passes limit.Looks))
    (λ sights. ap (λ c. then_ended (told (sights path) trail c) (λ found later. ends found later))
    (counted_many trail path (sights path) room)) (λ e. cc) (λ e. cc)
