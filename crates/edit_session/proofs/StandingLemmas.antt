-- What stands at a path by the look that is held for it, where other looks are laid for the call.
use Rattle.std.proofs.Common.{◌≡◌, ◌++◌, ◌∷◌, [], ℕ, Bool, true, false, List, Option, Some, None, Result, Ok, Err, refl, sym, ap, ◌∙◌, subst, inl, inr, append-nil}
use Rattle.std.specs.FinMap.{get}
use Rattle.std.specs.Prelude.{is_some, IfOk, if◌then◌else◌}
use Rattle.std.proofs.lemmas.List.Elements.{All-cons, All-nil}
use Rattle.tree_spec.specs.LookLimits.{no_trail}
use Rattle.tree_spec.specs.Paths.{IsPath}
use Rattle.tree_spec.specs.States.{FolderState}
use Rattle.tree_spec.specs.Trees.{Tree}
use Rattle.tree_spec.specs.declared.Entry.{Entry}
use Rattle.tree_spec.specs.declared.Entry.TheVariants.{Stored, Directory}
use Rattle.tree_spec.specs.declared.Look.{Look}
use Rattle.tree_spec.specs.declared.Look.TheVariants as sees
use Rattle.tree_spec.specs.declared.LookFault.{LookFault}
use Rattle.tree_spec.specs.declared.LookFault.TheVariants as look
use Rattle.tree_spec.proofs.FootprintSets.{distinct_one}
use Rattle.tree_spec.proofs.ToldStates.{if_some, looks_as}
use Rattle.package_lookup.specs.declared.fault.LookupFault.{LookupFault}
use Rattle.package_lookup.specs.declared.fault.LookupFault.TheVariants.{ReadFault, Limit, InvalidConfig, Memory}
use Rattle.package_lookup.specs.declared.known.Known.{Known}
use Rattle.package_lookup.specs.declared.over.Over.{Over}
use Rattle.package_lookup.specs.Answered.{State, state, AsksOnce}
use Rattle.package_lookup.specs.Fetching.{IsAsked, Fetches}
use Rattle.package_lookup.specs.LaidTrees.{IsLaid}
use Rattle.package_lookup.specs.Learning.{Learns}
use Rattle.package_lookup.specs.Looked.{known_at, over_at, look_or, look_in}
use Rattle.package_lookup.specs.SeenLooks.{within_limit, seen_as}
use Rattle.package_lookup.proofs.ButLast.{but_last_one}
use Rattle.package_lookup.proofs.Laying.{laid_is_seen}
use Rattle.package_lookup.proofs.Questions.{asks_nothing}
use Rattle.edit_session.specs.Standings.{standing_at, standing_seen, standing_by, Stands}
use Rattle.edit_session.specs.declared.standing.Standing.{Standing}
use Rattle.edit_session.specs.declared.standing.Standing.TheVariants.{File}
use Rattle.edit_session.proofs.LookedOn.{some_told, laid_back, stands_same}

-- ---- a look that failed, and want of memory

failed_back : (found : Result Look LookupFault) → standing_by found ≡ Err look.Failed → found ≡ Err ReadFault
failed_back (Ok held) e = absurd (cc)
failed_back (Err ReadFault) e = refl
failed_back (Err Memory) e = absurd (cc)
failed_back (Err InvalidConfig) e = absurd (cc)
failed_back (Err (Limit which)) e = absurd (cc)

-- ---- what the folder was asked for

abbrev IsOne : List ℕ → List ℕ → Type 0
IsOne path other = other ≡ path

asks_for : (list : List (List ℕ)) (before after : State) (unfinished : Type 0) (path : List ℕ) (more : List (List ℕ))
    (was : Option Look) → known_at before.known path ≡ was → after.folder.asked ≡ Some (list ++ more)
    → more ≡ (if is_some was then [] else path ∷ [])
    → ((unfinished → ⊥) → is_some (known_at after.known path) ≡ true)
    → AsksOnce list before after unfinished (IsOne path)
asks_for list before after unfinished path more (Some held) known asked is holds =
    asks_nothing list before after unfinished (IsOne path)
    (asked ∙ (ap (λ m. Some (list ++ m)) is ∙ ap Some (append-nil list)))
asks_for list before after unfinished path more None known asked is holds = record {
  more = path ∷ [];
  asked = asked ∙ ap (λ m. Some (list ++ m)) is;
  once = distinct_one path;
  new = All-cons (λ p. known_at before.known p ≡ None) path [] known (All-nil (λ p. known_at before.known p ≡ None));
  held = λ finished. All-cons (λ p. is_some (known_at after.known p) ≡ true) path [] (holds finished)
      (All-nil (λ p. is_some (known_at after.known p) ≡ true));
  front = but_last_one (λ p. is_some (known_at after.known p) ≡ true) path;
  among = All-cons (IsOne path) path [] refl (All-nil (IsOne path));
}

asks_by : (list : List (List ℕ)) (before after : State) (path : List ℕ) (found : Result Look LookupFault)
    (more : List (List ℕ)) → IfOk found (λ held. known_at after.known path ≡ Some held)
    → after.folder.asked ≡ Some (list ++ more) → IsAsked before.known path found more
    → AsksOnce list before after (found ≡ Err Memory) (IsOne path)
asks_by list before after path (Ok held) more known asked is =
    asks_for list before after (Ok held ≡ Err Memory) path more (known_at before.known path) refl asked is
    (λ finished. ap is_some known)
asks_by list before after path (Err Memory) more known asked (inl none) =
    asks_nothing list before after (Err Memory ≡ Err Memory) (IsOne path)
    (asked ∙ (ap (λ m. Some (list ++ m)) none ∙ ap Some (append-nil list)))
asks_by list before after path (Err Memory) more known asked (inr one) =
    asks_for list before after (Err Memory ≡ Err Memory) path more (known_at before.known path) refl asked one
    (λ finished. absurd (finished refl))
asks_by list before after path (Err ReadFault) more known asked none =
    asks_nothing list before after (Err ReadFault ≡ Err Memory) (IsOne path)
    (asked ∙ (ap (λ m. Some (list ++ m)) none ∙ ap Some (append-nil list)))
asks_by list before after path (Err (Limit which)) more known asked is = absurd is
asks_by list before after path (Err InvalidConfig) more known asked is = absurd is

-- ---- what the look tells

file_within : (large : Bool) (bytes : List ℕ) → standing_seen (if large then sees.TooLarge else sees.File bytes) ≡ File
file_within true bytes = refl
file_within false bytes = refl

standing_within : (held : Look) → standing_seen (within_limit held) ≡ standing_seen held
standing_within sees.Absent = refl
standing_within sees.Folder = refl
standing_within (sees.File bytes) = file_within _ bytes
standing_within sees.TooLarge = refl

standing_there : (there : Option Entry) → standing_seen (seen_as there) ≡ standing_at there
standing_there None = refl
standing_there (Some Directory) = refl
standing_there (Some (Stored bytes)) = file_within _ bytes

abbrev is_ok : Standing → Result Standing LookFault
is_ok standing = Ok standing

same_ok : (one other : Standing) → is_ok one ≡ is_ok other → other ≡ one
same_ok one other e = (let same : one ≡ other = cc in sym same)

standing_told : (tree : Tree) (learnt : Known) (path : List ℕ) (there : Option Entry)
    (found : Result Look LookupFault) (standing : Standing)
    → IfOk found (λ held. known_at learnt path ≡ Some held) → seen_as there ≡ look_in tree learnt path
    → standing_by found ≡ Ok standing → standing ≡ standing_at there
standing_told tree learnt path there (Ok held) standing known sees is =
    same_ok (standing_seen held) standing is
    ∙ (sym (standing_within held)
    ∙ (ap standing_seen (sym (sees ∙ ap (λ k. look_or k (get tree path)) known)) ∙ standing_there there))
standing_told tree learnt path there (Err ReadFault) standing known sees is = absurd (cc)
standing_told tree learnt path there (Err Memory) standing known sees is = absurd (cc)
standing_told tree learnt path there (Err InvalidConfig) standing known sees is = absurd (cc)
standing_told tree learnt path there (Err (Limit which)) standing known sees is = absurd (cc)

-- ---- the call

module _ (before after : FolderState) (known under learnt later : Known) (over left : Over) (path : List ℕ)
    (found : Result Look LookupFault) (laid_one : under.laid ≡ over) (kept_one : under.kept ≡ known.kept)
    (kept_two : later.kept ≡ learnt.kept) (laid_two : later.laid ≡ known.laid) (over_two : left ≡ learnt.laid)
    (is_path : IsPath path) (fetches : Fetches before under path found after learnt) where
  learns : Learns (state before under no_trail) (state after learnt no_trail) (found ≡ Err Memory) (IsOne path)
  learns = record {
    tree = fetches.folder.tree;
    same = fetches.same;
    known = fetches.grows;
    asked = if_some
        {P = λ list. (more : List (List ℕ)) × (after.asked ≡ Some (list ++ more)) × IsAsked under path found more}
        {Q = λ list. AsksOnce list (state before under no_trail) (state after learnt no_trail) (found ≡ Err Memory) (IsOne path)}
        before.asked
        (λ list told. asks_by list (state before under no_trail) (state after learnt no_trail) path found told.0
        fetches.known told.1 told.2)
        fetches.asked;
  }

  pub stands : Stands before known over path (standing_by found) after later left
  stands = record {
    looks = laid_back before after known under learnt later no_trail no_trail (found ≡ Err Memory)
        (standing_by found ≡ Err look.Failed) (standing_by found ≡ Err look.Memory) (IsOne path)
        (λ tree other. other ≡ path) kept_one kept_two laid_two (λ e. ap standing_by e) (λ other tree e is. is)
        learns (looks_as before after (failed_back found) (λ e. ap standing_by e) fetches.folder);
    is_path = is_path;
    same_over = λ other. ap (λ o. over_at o other) over_two ∙ (fetches.grows.laid other ∙ ap (λ o. over_at o other) laid_one);
    seen = λ tree seen standing e behind laid is.
        standing_told tree learnt path (get seen path) found standing fetches.known
        ((laid_is_seen tree seen under (stands_same tree known under kept_one behind)
        (subst (λ o. IsLaid tree o seen) (sym laid_one) laid)).each path
        ∙ sym (some_told (λ tree. (other : List ℕ) → look_in tree learnt other ≡ look_in tree under other)
        before.holds tree e fetches.same path))
        is;
  }
