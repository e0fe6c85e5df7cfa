-- A text has one outline or one first fault.
use Rattle.std.proofs.Common.{◌≡◌, List, length, reverse, refl, sym, ap, ◌∙◌}
use Rattle.module_spec.specs.Tokens.{Lexeme}
use Rattle.module_spec.specs.Tokens.Next.{Ends, Faults}
use Rattle.module_spec.specs.Places.{places}
use Rattle.module_spec.specs.Outlines.{outlined}
use Rattle.module_spec.specs.Outlines.ReadsOutline.{all, fault}
use Rattle.module_spec.specs.Laws.{OneOutline}
use Rattle.module_spec.proofs.TokenLaws.{same_end, ends_last, faults_last}

pub one_outline : OneOutline
one_outline text some found (all {before} {rest} x n e) (all {before = behind} {rest = back} y m f) =
    let same = same_end text before behind rest back Ends Ends x n ends_last y m ends_last in
    e ∙ (ap (λ (b : List Lexeme). outlined (reverse (places (length text) b))) same.lexemes ∙ sym f)
one_outline text some found (all {before} {rest} x n e) (fault {before = behind} {rest = back} {left} {kind} y m f) =
    let same = same_end text before behind rest back Ends (Faults left kind) x n ends_last y m (faults_last left kind) in
    let g = same.outs in absurd (cc)
one_outline text some found (fault {before} {rest} {left} {kind} x n e) (all {before = behind} {rest = back} y m f) =
    let same = same_end text before behind rest back (Faults left kind) Ends x n (faults_last left kind) y m ends_last in
    let g = same.outs in absurd (cc)
one_outline text some found (fault {before} {rest} {left} {kind} x n e) (fault {before = behind} {rest = back} {left = size} {kind = why} y m f) =
    let same = same_end text before behind rest back (Faults left kind) (Faults size why) x n (faults_last left kind) y m (faults_last size why) in
    let g = same.outs in
    let lefts : left ≡ size = cc in
    let kinds : kind ≡ why = cc in
    rw (e, f, lefts, kinds) refl
