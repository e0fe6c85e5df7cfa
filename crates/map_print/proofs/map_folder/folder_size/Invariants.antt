use Rattle.std.proofs.Common.{length}
use Rattle.map_print.proofs.FolderLemmas.{IsLeft}
use Rattle.map_print.proofs.map_folder.folder_size.Given as goal

abbrev pub invariant-loop-last : goal.invariant-loop-last
invariant-loop-last l = IsLeft l.fn.base l.front

abbrev pub decreases-loop-last : goal.decreases-loop-last
decreases-loop-last l = length l.front
