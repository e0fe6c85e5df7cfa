-- What is told of a state, and looks one after another.
use Rattle.std.proofs.Common.{◌∙◌, Option, Some, None, IfSome, subst, arith}
use Rattle.tree_spec.specs.Counts.{Rose}
use Rattle.tree_spec.specs.States.{FolderState, OnlyLooks}

pub if_some : {A : Type 0} {P Q : A → Type 0} (told : Option A) → ((x : A) → P x → Q x) → IfSome told P → IfSome told Q
if_some None f h = h
if_some (Some x) f h = f x h

pub if_two : {A : Type 0} {P Q R : A → Type 0} (told : Option A) → ((x : A) → P x → Q x → R x) → IfSome told P
    → IfSome told Q → IfSome told R
if_two None f h k = h
if_two (Some x) f h k = f x h k

pub if_all : {A : Type 0} {P : A → Type 0} (told : Option A) → ((x : A) → P x) → IfSome told P
if_all None f = tt
if_all (Some x) f = f x

-- looks none of which failed, before others
pub looks_then : {P Q : Type 0} (before middle after : FolderState) → (P → ⊥) → OnlyLooks before middle P
    → OnlyLooks middle after Q → OnlyLooks before after Q
looks_then before middle after fine first last = record {
  tree = last.tree ∙ first.tree;
  writes = last.writes ∙ first.writes;
  later = (let a = first.later in let b = last.later in omega arith);
  cause = λ e. subst (λ n. Rose n after.look_faults) (first.quiet fine) (last.cause e);
  quiet = λ none. last.quiet none ∙ first.quiet fine;
}

-- looks of which one failed in the same case
pub looks_as : {P Q : Type 0} (before after : FolderState) → (Q → P) → (P → Q) → OnlyLooks before after P
    → OnlyLooks before after Q
looks_as before after back on looks = record {
  tree = looks.tree;
  writes = looks.writes;
  later = looks.later;
  cause = λ q. looks.cause (back q);
  quiet = λ none. looks.quiet (λ p. none (on p));
}
