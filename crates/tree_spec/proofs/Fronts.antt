-- What holds of all of a list holds of a front of it, and of what is behind that.
use Rattle.std.specs.Prelude.{List, [], ◌∷◌, ◌++◌, All}
use Rattle.std.proofs.lemmas.List.Elements.{All-nil, All-cons, All-head, All-tail}

pub all_front : {A : Type 0} (P : A → Type 0) (front back : List A) → All P (front ++ back) → All P front
all_front P [] back all = All-nil P
all_front P (x ∷ front) back all =
    All-cons P x front (All-head P x (front ++ back) all) (all_front P front back (All-tail P x (front ++ back) all))

pub all_behind : {A : Type 0} (P : A → Type 0) (front back : List A) → All P (front ++ back) → All P back
all_behind P [] back all = all
all_behind P (x ∷ front) back all = all_behind P front back (All-tail P x (front ++ back) all)
