-- Texts that are cut, as the code holds them.
--     cut_of parts            two parts of a text as a cut
--     cut_at at text          the text before this place, and behind the byte that stands there
--     next_number front digit     a number with one digit more, where it is one and isn't too large
use Rattle.std.specs.Prelude.{◌&&◌, ◌+◌, ◌-◌, ◌*◌, not, nat_lt, ℕ, List, take, drop, Option, Some, None, if◌then◌else◌}
use Rattle.std.specs.Borrow.{Bor}
use Rattle.tree_spec.specs.Limits.{limit_number}
use Rattle.tree_spec.specs.declared.LimitName.TheVariants.{File}
use Rattle.session_spec.specs.SessionLines.{Cut, is_digit}

abbrev pub cut_of : Bor (List ℕ) × Bor (List ℕ) → Cut
cut_of parts = record { front = parts.0.now; behind = parts.1.now }

abbrev pub cut_at : ℕ → List ℕ → Cut
cut_at at text = record { front = take at text; behind = drop (at + 1) text }

abbrev pub next_number : ℕ → ℕ → Option ℕ
next_number front digit =
    if is_digit digit && not (nat_lt (limit_number File) (front * 10 + (digit - 48)))
    then Some (front * 10 + (digit - 48))
    else None
