-- What holds of all paths of a list but the last.
--     but_last_none, but_last_one      of no path, and of one, it says nothing
--     but_last_then                    paths of all of which it holds, and others behind them
--     but_last_weaker                  what follows from it
use Rattle.std.proofs.Common.{◌≡◌, ℕ, List, [], ◌∷◌, ◌++◌, subst}
use Rattle.std.specs.Prelude.{All}
use Rattle.std.proofs.lemmas.List.Elements.{All-nil, All-cons, All-head, All-tail, All-weaker}
use Rattle.package_lookup.specs.Answered.{AllButLast}

never_none : (front : List (List ℕ)) (last : List ℕ) → [] ≡ front ++ last ∷ [] → ⊥
never_none [] last e = cc
never_none (head ∷ front) last e = cc

front_of_one : (P : List ℕ → Type 0) (path : List ℕ) (front : List (List ℕ)) (last : List ℕ)
    → path ∷ [] ≡ front ++ last ∷ [] → All P front
front_of_one P path [] last e = All-nil P
front_of_one P path (head ∷ front) last e =
    (let behind : [] ≡ front ++ last ∷ [] = cc in absurd (never_none front last behind))

front_of_both : (P : List ℕ → Type 0) (xs ys : List (List ℕ)) → All P xs → AllButLast P ys
    → (front : List (List ℕ)) (last : List ℕ) → xs ++ ys ≡ front ++ last ∷ [] → All P front
front_of_both P [] ys some rest front last e = rest front last e
front_of_both P (x ∷ xs) ys some rest [] last e = All-nil P
front_of_both P (x ∷ xs) ys some rest (head ∷ front) last e =
    let same : x ≡ head = cc in
    let behind : xs ++ ys ≡ front ++ last ∷ [] = cc in
    All-cons P head front (subst P same (All-head P x xs some))
    (front_of_both P xs ys (All-tail P x xs some) rest front last behind)

pub but_last_none : (P : List ℕ → Type 0) → AllButLast P []
but_last_none P = λ front last e. absurd (never_none front last e)

pub but_last_one : (P : List ℕ → Type 0) (path : List ℕ) → AllButLast P (path ∷ [])
but_last_one P path = λ front last e. front_of_one P path front last e

pub but_last_then : (P : List ℕ → Type 0) (xs ys : List (List ℕ)) → All P xs → AllButLast P ys
    → AllButLast P (xs ++ ys)
but_last_then P xs ys some rest = λ front last e. front_of_both P xs ys some rest front last e

pub but_last_weaker : (P Q : List ℕ → Type 0) (xs : List (List ℕ)) → ((path : List ℕ) → P path → Q path)
    → AllButLast P xs → AllButLast Q xs
but_last_weaker P Q xs goes all = λ front last e. All-weaker P Q goes front (all front last e)
