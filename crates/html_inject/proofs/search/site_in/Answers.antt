use Rattle.std.specs.Prelude.{is_some}
use Rattle.std.proofs.Common.{◌<◌, None, Some, sym, subst}
use Rattle.page_spec.specs.Places.{part_at}
use Rattle.html_inject.specs.Search.{parts_behind}
use Rattle.html_inject.proofs.Searching.{Searching, left_to_search, paired, at_piece, begins_with, searched_further, search_faults, less_to_search, unfaulted}
use Rattle.html_inject.proofs.search.site_in.Goals as goal

pub loop-next-init : goal.loop-next-init
loop-next-init c = begins_with c.args.text.now c.new-scanner.result c.next-next.new.self c.next-next.result c.new-scanner.ensures c.next-next.ensures.page c.next-next.ensures.next c.next-next.ensures.piece

pub fault_at-requires-clause-next : goal.fault_at-requires-clause-next
fault_at-requires-clause-next c =
    let s = at_piece c.args.text.now c.loop-next.scanner c.loop-next.next c.in-Some.piece c.loop-next.found c.in-Some.is c.loop-next.invariant in
    (paired c.args.text.now c.loop-next.scanner c.in-Some.piece c.next-next-in-Some.result c.next-next-in-Some.new.self.1.0 c.next-next-in-Some.new.self.1.1 c.loop-next.found s c.next-next-in-Some.ensures.next c.next-next-in-Some.ensures.piece).pair

pub more-found-requires-clause-next : goal.more-found-requires-clause-next
more-found-requires-clause-next c =
    let s = at_piece c.args.text.now c.loop-next.scanner c.loop-next.next c.in-Some.piece c.loop-next.found c.in-Some.is c.loop-next.invariant in
    (paired c.args.text.now c.loop-next.scanner c.in-Some.piece c.next-next-in-Some.result c.next-next-in-Some.new.self.1.0 c.next-next-in-Some.new.self.1.1 c.loop-next.found s c.next-next-in-Some.ensures.next c.next-next-in-Some.ensures.piece).pair

pub is_script-script-requires : goal.is_script-script-requires
is_script-script-requires c = (at_piece c.args.text.now c.loop-next.scanner c.loop-next.next c.in-Some.piece c.loop-next.found c.in-Some.is c.loop-next.invariant).behind.0

pub loop-next-smaller : goal.loop-next-smaller
loop-next-smaller c =
    let less = less_to_search c.loop-next.scanner c.next-next-in-Some.new.self c.in-Some.piece c.next-next-in-Some.result c.next-next-in-Some.ensures.next in
    subst (λ n. left_to_search c.next-next-in-Some.new.self c.next-next-in-Some.result < left_to_search c.loop-next.scanner n) (sym c.in-Some.is) less

pub loop-next-preserved : goal.loop-next-preserved
loop-next-preserved c =
    let s = at_piece c.args.text.now c.loop-next.scanner c.loop-next.next c.in-Some.piece c.loop-next.found c.in-Some.is c.loop-next.invariant in
    let q = paired c.args.text.now c.loop-next.scanner c.in-Some.piece c.next-next-in-Some.result c.next-next-in-Some.new.self.1.0 c.next-next-in-Some.new.self.1.1 c.loop-next.found s c.next-next-in-Some.ensures.next c.next-next-in-Some.ensures.piece in
    let none = unfaulted c.in-Some.piece c.is_some.result (is_some c.loop-next.found.map) (part_at c.args.text.now c.in-Some.piece) (parts_behind c.args.text.now c.next-next-in-Some.result) None c.is_some.ensures c.in-None.ensures in
    subst (λ f. Searching c.args.text.now c.next-next-in-Some.new.self c.next-next-in-Some.result f) (sym c.more-found.ensures) (searched_further c.args.text.now c.loop-next.scanner c.next-next-in-Some.new.self c.in-Some.piece c.next-next-in-Some.result c.loop-next.found s c.next-next-in-Some.ensures.page q none)

pub returns-in-Some-fault_at : goal.returns-in-Some-fault_at
returns-in-Some-fault_at c =
    let s = at_piece c.args.text.now c.loop-next.scanner c.loop-next.next c.in-Some.piece c.loop-next.found c.in-Some.is c.loop-next.invariant in
    let q = paired c.args.text.now c.loop-next.scanner c.in-Some.piece c.next-next-in-Some.result c.next-next-in-Some.new.self.1.0 c.next-next-in-Some.new.self.1.1 c.loop-next.found s c.next-next-in-Some.ensures.next c.next-next-in-Some.ensures.piece in
    let some = unfaulted c.in-Some.piece c.is_some.result (is_some c.loop-next.found.map) (part_at c.args.text.now c.in-Some.piece) (parts_behind c.args.text.now c.next-next-in-Some.result) (Some c.in-Some-fault_at.fault) c.is_some.ensures c.in-Some-fault_at.ensures in
    search_faults c.args.text.now c.loop-next.scanner c.in-Some.piece c.next-next-in-Some.result c.next-next-in-Some.new.self.1.0 c.next-next-in-Some.new.self.1.1 c.loop-next.found c.in-Some-fault_at.fault s q some
