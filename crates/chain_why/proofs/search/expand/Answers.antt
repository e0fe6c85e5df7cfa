use Rattle.std.proofs.Common.{◌≡◌, ◌++◌, Some, sym, ap, ◌∙◌, subst, append-nil, arith}
use Rattle.std.specs.Prelude.{slice_get}
use Rattle.std.proofs.lemmas.List.{drop_all}
use Rattle.chain_search.specs.Searches.{fresh}
use Rattle.chain_why.specs.Askers.{asks}
use Rattle.chain_why.specs.Reaching.{is_slot, Shows}
use Rattle.chain_why.proofs.Kept.{one_looked_at}
use Rattle.chain_why.proofs.search.expand.Goals as goal

pub loop-number-preserved : goal.loop-number-preserved
loop-number-preserved c = λ targets places asker shows there same.
    let at : slice_get (asks c.args.asker.now) c.loop-number.number ≡ Some c.unwrap-slot.result = sym c.target.ensures ∙ c.unwrap-slot.ensures in
    one_looked_at targets c.loop-number.reached.keys c.insert.new.self.keys c.args.from c.loop-number.number (asks c.args.asker.now)
    asker _ c.unwrap-slot.result same at c.in_ok-insert.ensures.keys (c.loop-number.invariant targets places asker shows there same)

pub returns : goal.returns
returns c = λ targets places asker shows there same.
    let midway = c.loop-number.invariant targets places asker shows there same in
    let past = drop_all c.loop-number.number (asks c.args.asker.now) (let n = c.len.ensures in omega (arith, n, c.loop-number-test.false)) in
    subst (Shows targets c.loop-number.reached.keys)
    (sym (append-nil midway.now)
    ∙ (ap (λ ts. midway.now ++ fresh is_slot midway.now asker.back c.loop-number.number ts) (sym past) ∙ midway.left))
    midway.shows
