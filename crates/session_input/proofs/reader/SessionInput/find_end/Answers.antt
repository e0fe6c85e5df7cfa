use Rattle.std.proofs.Common.{◌≡◌, ◌-◌, ℕ, List, length, ap, ◌∙◌, arith}
use Rattle.std.proofs.lemmas.List.{take_all, length-drop}
use Rattle.std.specs.Prelude.{take, drop}
use Rattle.session_spec.specs.SessionLines.{cut_first}
use Rattle.session_input.proofs.CutLemmas.{seen_all, found_behind}
use Rattle.session_input.proofs.reader.SessionInput.find_end.Goals as goal

-- what stands behind the bytes that were searched
rest_of : (shown unread : List ℕ) (searched : ℕ) → shown ≡ unread → take (length shown - searched) (drop searched shown) ≡ drop searched unread
rest_of shown unread searched e =
    take_all (length shown - searched) (drop searched shown) (omega (arith, length-drop searched shown)) ∙ ap (drop searched) e

pub invariant_of-self-clause-begun : goal.invariant_of-self-clause-begun
invariant_of-self-clause-begun c =
    let long = ap length c.unread-in-None.ensures in
    let left = length-drop c.args.self.now.start c.args.self.now.held.items in
    let begun = c.args.self.now.begun in
    omega (arith, long, left, begun)

pub invariant_of-self-clause-seen : goal.invariant_of-self-clause-seen
invariant_of-self-clause-seen c =
    let unread = drop c.args.self.now.start c.args.self.now.held.items in
    let rest = rest_of c.unread.result.now unread c.args.self.now.searched c.unread.ensures in
    let long = ap length c.unread-in-None.ensures in
    ap (cut_first 10) (take_all (length c.unread-in-None.result.now) unread (omega (arith, long)))
    ∙ seen_all unread _ c.args.self.now.searched c.args.self.now.seen rest c.in-None.ensures

pub returns-in-Some-clause-found : goal.returns-in-Some-clause-found
returns-in-Some-clause-found c =
    let unread = drop c.args.self.now.start c.args.self.now.held.items in
    let rest = rest_of c.unread.result.now unread c.args.self.now.searched c.unread.ensures in
    let long = ap length rest in
    let behind = length-drop c.args.self.now.searched unread in
    let left = length-drop c.args.self.now.start c.args.self.now.held.items in
    let begun = c.args.self.now.begun in
    let less = c.in-Some.ensures.0 in
    record {
      within = omega (arith, long, behind, less);
      first = found_behind unread _ c.args.self.now.searched c.in-Some.at (omega (arith, left, begun)) c.args.self.now.seen rest c.in-Some.ensures.1;
    }
