-- What is so of a value where something else is.
--     if_ok_so, on_ok_so
use Rattle.std.proofs.Common.{Result, Ok, Err}
use Rattle.std.specs.Prelude.{IfOk, OnOk}

pub if_ok_so : {A E : Type 0} (P : Type 0) (Q : A → Type 0) (result : Result A E) → (P → IfOk result Q)
    → IfOk result (λ value. P → Q value)
if_ok_so P Q (Ok value) so = so
if_ok_so P Q (Err fault) so = tt

pub on_ok_so : {A E : Type 0} (P Q : Type 0) (result : Result A E) → (P → OnOk result Q) → OnOk result (P → Q)
on_ok_so P Q (Ok value) so = so
on_ok_so P Q (Err fault) so = tt
