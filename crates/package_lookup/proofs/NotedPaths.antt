-- Paths that are noted one after another.
--     noted_distinct       distinct ones are all of them
--     noted_shared         where they were shared
--     noted_behind         one more behind them
--     noted_at_end         none are left
use Rattle.std.proofs.Common.{◌≡◌, ℕ, Bool, true, false, List, [], ◌∷◌, ◌++◌, length, Option, Some, None, Result, refl, sym, ap, ◌∙◌, subst, append_assoc, append-nil}
use Rattle.std.specs.Prelude.{◌||◌, bytes_eq, OnOk}
use Rattle.std.specs.List.{IsDistinct, AllByRecursion}
use Rattle.std.specs.declared.rc.Rc.{Rc}
use Rattle.std.specs.declared.alloc.Global.{Global}
use Rattle.std.proofs.lemmas.Bool.{cond-false}
use Rattle.tree_spec.specs.LookAskings.{is_seen, with_seen, noted}
use Rattle.tree_spec.proofs.FootprintSets.{seen_noted}
use Rattle.package_lookup.specs.SharedPaths.{shared_or, AreDistinct}

abbrev AreNew : List (List ℕ) → List (List ℕ) → Type 0
AreNew seen paths = AllByRecursion (λ path. is_seen path seen ≡ false) paths

neither : (a b : Bool) → a ≡ false → b ≡ false → (a || (b || false)) ≡ false
neither true b e f = absurd (cc)
neither false true e f = absurd (cc)
neither false false e f = refl

-- what is new stays so behind a path from which it differs
new_behind : (seen : List (List ℕ)) (path : List ℕ) (paths : List (List ℕ)) → AreNew seen paths
    → AllByRecursion (λ other. bytes_eq path other ≡ false) paths → AreNew (with_seen seen path) paths
new_behind seen path [] new apart = tt
new_behind seen path (other ∷ paths) new apart = (
  seen_noted other seen (path ∷ []) ∙ neither (is_seen other seen) (bytes_eq path other) new.0 apart.0,
  new_behind seen path paths new.1 apart.1,
)

noted_new : (seen paths : List (List ℕ)) → AreNew seen paths → IsDistinct bytes_eq paths
    → noted seen paths ≡ seen ++ paths
unfolding IsDistinct
noted_new seen [] new distinct = sym (append-nil seen)
noted_new seen (path ∷ paths) new distinct =
    noted_new (with_seen seen path) paths (new_behind seen path paths new.1 distinct.0) distinct.1
    ∙ (ap (λ ps. ps ++ paths) (cond-false _ _ _ new.0) ∙ append_assoc seen (path ∷ []) paths)

all_new : (paths : List (List ℕ)) → AreNew [] paths
all_new [] = tt
all_new (path ∷ paths) = (refl, all_new paths)

pub noted_distinct : (paths : List (List ℕ)) → IsDistinct bytes_eq paths → noted [] paths ≡ paths
noted_distinct paths distinct = noted_new [] paths (all_new paths) distinct

pub noted_shared : (own whole copy : List (List ℕ)) (shared : Option (Rc (List (List ℕ)) Global))
    (paths : Rc (List (List ℕ)) Global) → shared ≡ Some paths → shared_or own shared ≡ whole → AreDistinct shared
    → copy ≡ noted [] paths.value → copy ≡ whole
noted_shared own whole copy shared paths is view distinct copies =
    copies ∙ (noted_distinct paths.value (subst AreDistinct is distinct) ∙ (ap (shared_or own) (sym is) ∙ view))

pub noted_at_end : (seen rest whole : List (List ℕ)) → noted seen rest ≡ noted [] whole → length rest ≡ 0
    → seen ≡ noted [] whole
noted_at_end seen [] whole e none = e
noted_at_end seen (path ∷ rest) whole e none = absurd (cc)

-- one more behind a copy of all, which is no longer shared
pub noted_behind : {A E : Type 0} (result : Result A E) (new copy whole : List (List ℕ))
    (left : Option (Rc (List (List ℕ)) Global)) (path : List ℕ) → left ≡ None → copy ≡ whole
    → OnOk result (new ≡ with_seen copy path) → OnOk result (shared_or new left ≡ with_seen whole path)
noted_behind result new copy whole left path none same e =
    subst (λ l. OnOk result (shared_or new l ≡ with_seen whole path)) (sym none)
    (subst (λ w. OnOk result (new ≡ with_seen w path)) same e)
