use Rattle.std.proofs.Common.{◌≡◌, [], ◌∷◌, ◌++◌, drop}
use Rattle.std.specs.List.{flat_map}
use Rattle.std.specs.Prelude.{string_bytes}
use Rattle.project_file.specs.Names.{joined}
use Rattle.project_file.proofs.lists.joined.Given as goal

-- with what is left put behind it, the text is the whole
abbrev pub invariant-loop-next : goal.invariant-loop-next
invariant-loop-next l =
    string_bytes l.text ++ flat_map (λ name. (44 ∷ []) ++ name) (drop l.next-index l.more) ≡ joined l.fn.texts
