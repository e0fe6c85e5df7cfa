-- Calls that look, one after another; and looks that are laid for a call and taken back.
use Rattle.std.proofs.Common.{◌≡◌, ℕ, List, Option, Some, None, IfSome, refl, sym, ap, ◌∙◌, subst, arith}
use Rattle.std.specs.Prelude.{is_some, true, bytes_eq}
use Rattle.std.specs.HashMap as map
use Rattle.std.proofs.lemmas.List.Elements.{All-weaker}
use Rattle.tree_spec.specs.LookLimits.{Trail}
use Rattle.tree_spec.specs.States.{FolderState, OnlyLooks}
use Rattle.tree_spec.specs.Trees.{Tree}
use Rattle.tree_spec.proofs.ToldStates.{looks_then, looks_as}
use Rattle.package_lookup.specs.declared.known.Known.{Known}
use Rattle.package_lookup.specs.Answered.{state, AsksOnce}
use Rattle.package_lookup.specs.LaidTrees.{StandsBehind}
use Rattle.package_lookup.specs.Learning.{Learns, IsSameIn}
use Rattle.package_lookup.specs.Looked.{kept_at}
use Rattle.package_lookup.proofs.ButLast.{but_last_weaker}
use Rattle.package_lookup.proofs.Laying.{looks_keep_behind}
use Rattle.edit_session.specs.LooksOn.{LooksOn}
use Rattle.edit_session.specs.NewLooks.{AsksNew}
use Rattle.edit_session.proofs.AskedPaths.{asks_new_then, asks_no_path, asks_as, asks_once_new}

pub some_told : {A : Type 0} (P : A → Type 0) (told : Option A) (x : A) → told ≡ Some x → IfSome told P → P x
some_told P told x e h = subst (λ t. IfSome t P) e h

pub all_told : {A : Type 0} (P : A → Type 0) (told : Option A) → ((x : A) → told ≡ Some x → P x) → IfSome told P
all_told P None f = tt
all_told P (Some x) f = f x refl

pub looks_on_then : (before middle after : FolderState) (old mid new : Known) (failed some fails rest : Type 0)
    (First Last Whole : Tree → List ℕ → Type 0) → (failed → ⊥) → (some → ⊥)
    → ((tree : Tree) (path : List ℕ) → before.holds ≡ Some tree → First tree path → Whole tree path)
    → ((tree : Tree) (path : List ℕ) → before.holds ≡ Some tree → Last tree path → Whole tree path)
    → LooksOn before old middle mid failed some First → LooksOn middle mid after new fails rest Last
    → LooksOn before old after new fails rest Whole
looks_on_then before middle after old mid new failed some fails rest First Last Whole fine done first last one two = record {
  laid = two.laid ∙ one.laid;
  kept = λ path look e. two.kept path look (one.kept path look e);
  behind = λ tree e stands. two.behind tree (one.looks.tree ∙ e) (one.behind tree e stands);
  asked = λ list e.
      asks_new_then list old mid new middle after some rest
      (λ path. (tree : Tree) → before.holds ≡ Some tree → First tree path)
      (λ path. (tree : Tree) → middle.holds ≡ Some tree → Last tree path)
      (λ path. (tree : Tree) → before.holds ≡ Some tree → Whole tree path) done one.kept two.kept
      (λ path is tree told. first tree path told (is tree told))
      (λ path is tree told. last tree path told (is tree (one.looks.tree ∙ told))) (one.asked list e) two.asked;
  looks = looks_then before middle after fine one.looks two.looks;
}

pub looks_on_nothing : (before : FolderState) (known : Known) (failed unfinished : Type 0)
    (Among : Tree → List ℕ → Type 0) → (failed → ⊥) → LooksOn before known before known failed unfinished Among
looks_on_nothing before known failed unfinished Among fine = record {
  laid = refl;
  kept = λ path look e. e;
  behind = λ tree e stands. stands;
  asked = λ list e.
      asks_no_path list known known before unfinished (λ path. (tree : Tree) → before.holds ≡ Some tree → Among tree path) e;
  looks = record { tree = refl; writes = refl; later = omega arith; cause = λ p. absurd (fine p); quiet = λ none. refl };
}

pub looks_on_as : (before after : FolderState) (old new : Known) (failed some fails rest : Type 0)
    (First Whole : Tree → List ℕ → Type 0) → (fails → failed) → (failed → fails) → (some → rest)
    → ((tree : Tree) (path : List ℕ) → before.holds ≡ Some tree → First tree path → Whole tree path)
    → LooksOn before old after new failed some First → LooksOn before old after new fails rest Whole
looks_on_as before after old new failed some fails rest First Whole back on weaker goes one = record {
  laid = one.laid;
  kept = one.kept;
  behind = one.behind;
  asked = λ list e.
      asks_as list old new after some rest (λ path. (tree : Tree) → before.holds ≡ Some tree → First tree path)
      (λ path. (tree : Tree) → before.holds ≡ Some tree → Whole tree path) weaker
      (λ path is tree told. goes tree path told (is tree told)) (one.asked list e);
  looks = looks_as before after back on one.looks;
}

-- ---- other looks are laid for a call

pub kept_same : (one other : Known) → other.kept ≡ one.kept → (path : List ℕ) → kept_at other path ≡ kept_at one path
kept_same one other e path = ap (λ kept. map.get bytes_eq kept path) e

pub stands_same : (tree : Tree) (one other : Known) → other.kept ≡ one.kept → StandsBehind tree one
    → StandsBehind tree other
stands_same tree one other e stands =
    record { kept = λ path look is. stands.kept path look (sym (kept_same one other e path) ∙ is) }

asks_same : (list : List (List ℕ)) (one other some any : Known) (after : FolderState) (unfinished : Type 0)
    (Among : List ℕ → Type 0) → other.kept ≡ one.kept → any.kept ≡ some.kept
    → AsksNew list other after some unfinished Among → AsksNew list one after any unfinished Among
asks_same list one other some any after unfinished Among e f asks = record {
  more = asks.more;
  asked = asks.asked;
  once = asks.once;
  new = All-weaker (λ path. kept_at other path ≡ None) (λ path. kept_at one path ≡ None)
      (λ path none. sym (kept_same one other e path) ∙ none) asks.more asks.new;
  held = λ finished. All-weaker (λ path. is_some (kept_at some path) ≡ true) (λ path. is_some (kept_at any path) ≡ true)
      (λ path held. ap is_some (kept_same some any f path) ∙ held) asks.more (asks.held finished);
  front = but_last_weaker (λ path. is_some (kept_at some path) ≡ true) (λ path. is_some (kept_at any path) ≡ true)
      asks.more (λ path held. ap is_some (kept_same some any f path) ∙ held) asks.front;
  among = asks.among;
}

pub laid_back : (before after : FolderState) (known under learnt later : Known) (first last : Trail)
    (unfinished failed some : Type 0) (Among : List ℕ → Type 0) (Whole : Tree → List ℕ → Type 0)
    → under.kept ≡ known.kept → later.kept ≡ learnt.kept → later.laid ≡ known.laid → (unfinished → some)
    → ((path : List ℕ) (tree : Tree) → before.holds ≡ Some tree → Among path → Whole tree path)
    → Learns (state before under first) (state after learnt last) unfinished Among → OnlyLooks before after failed
    → LooksOn before known after later failed some Whole
laid_back before after known under learnt later first last unfinished failed some Among Whole one two same weaker goes learns looks = record {
  laid = same;
  kept = λ path look e.
      kept_same learnt later two path ∙ learns.known.kept path look (kept_same known under one path ∙ e);
  behind = λ tree e stands.
      stands_same tree learnt later two
      (looks_keep_behind tree under learnt learns.known
      (some_told (λ tree. IsSameIn tree (state before under first) (state after learnt last)) before.holds tree e learns.same)
      (stands_same tree known under one stands));
  asked = λ list e.
      asks_same list known under learnt later after some (λ path. (tree : Tree) → before.holds ≡ Some tree → Whole tree path)
      one two
      (asks_once_new list (state before under first) (state after learnt last) unfinished some Among
      (λ path. (tree : Tree) → before.holds ≡ Some tree → Whole tree path) learns.known.laid weaker
      (λ path is tree told. goes path tree told is)
      (some_told (λ old. AsksOnce old (state before under first) (state after learnt last) unfinished Among)
      before.asked list e learns.asked));
  looks = looks;
}
