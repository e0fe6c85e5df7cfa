-- What stands for the `*` of a pattern key is a slice of the text that it matches.
use Rattle.std.specs.Prelude.{◌≡◌, ◌-◌, ℕ, List, ◌++◌, length, take, drop}
use Rattle.std.proofs.Common.{refl, ap, ◌∙◌, arith}
use Rattle.std.proofs.Math.Seq.{take-append_seam, drop-append_seam}
use Rattle.node_spec.specs.PatternKeys.{IsPattern, FitsPattern}
use Rattle.node_spec.specs.PatternKeys.Matches.{by_pattern}
use Rattle.node_spec.specs.Laws.{IsPatternMatch, PatternMatchIsSlice}
use Rattle.node_spec.proofs.PatternParts.{part_of_match, part_length}

slice_is : (asked base part trailer : List ℕ) (size : ℕ) → asked ≡ base ++ (part ++ trailer) → size ≡ length part → take size (drop (length base) asked) ≡ part
slice_is asked base part trailer size e s = ap (λ n. take n (drop (length base) asked)) s ∙ (ap (take (length part)) (ap (drop (length base)) e ∙ drop-append_seam base (part ++ trailer)) ∙ take-append_seam part trailer)

pattern_slice : (asked key base trailer : List ℕ) → IsPattern key base trailer → FitsPattern asked key base trailer → IsPatternMatch asked key (length base) (length asked - length trailer)
pattern_slice asked key base trailer p f =
    let s = part_of_match asked key base trailer p f in
    let l = part_length asked base trailer s in
    record {
      base = base;
      part = s.part;
      trailer = trailer;
      pattern = p;
      stands = s.stands;
      some = s.some;
      begins = refl;
      ends = omega arith;
      slice = slice_is asked base s.part trailer (length asked - length trailer - length base) s.stands (omega arith);
    }

pub pattern_match_is_slice : PatternMatchIsSlice
pattern_match_is_slice asked key from to (by_pattern base trailer p f) = pattern_slice asked key base trailer p f
