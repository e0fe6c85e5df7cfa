use Rattle.std.proofs.Common.{None, Some, subst}
use Rattle.chain_why.specs.Reaching.{IsSearched}
use Rattle.chain_why.specs.Shown.{targets_in}
use Rattle.chain_why.proofs.Finding.{no_answer, answer, goal_within}
use Rattle.chain_why.proofs.Kept.{in_order}
use Rattle.chain_why.proofs.why.chain.Goals as goal

pub returns-in-None : goal.returns-in-None
returns-in-None c =
    let found : IsSearched c.args.view c.args.roots.now c.args.path.now c.find.new.reached.keys None =
    subst (IsSearched c.args.view c.args.roots.now c.args.path.now c.find.new.reached.keys) c.in-None.is c.in_ok-find.ensures in
    no_answer c.args.view c.args.roots.now c.args.path.now found

pub chain_to-requires-clause-ordered : goal.chain_to-requires-clause-ordered
chain_to-requires-clause-ordered c =
    let found : IsSearched c.args.view c.args.roots.now c.args.path.now c.find.new.reached.keys (Some c.in-Some.goal) =
    subst (IsSearched c.args.view c.args.roots.now c.args.path.now c.find.new.reached.keys) c.in-Some.is c.in_ok-find.ensures in
    let is = found.goal_is in
    in_order (targets_in c.args.view c.args.roots.now) c.find.new.reached.keys is.places is.shows

pub chain_to-requires-clause-within : goal.chain_to-requires-clause-within
chain_to-requires-clause-within c =
    let found : IsSearched c.args.view c.args.roots.now c.args.path.now c.find.new.reached.keys (Some c.in-Some.goal) =
    subst (IsSearched c.args.view c.args.roots.now c.args.path.now c.find.new.reached.keys) c.in-Some.is c.in_ok-find.ensures in
    goal_within (targets_in c.args.view c.args.roots.now) c.find.new.reached.keys c.in-Some.goal found.back found.goal_is

pub returns : goal.returns
returns c =
    let found : IsSearched c.args.view c.args.roots.now c.args.path.now c.find.new.reached.keys (Some c.in-Some.goal) =
    subst (IsSearched c.args.view c.args.roots.now c.args.path.now c.find.new.reached.keys) c.in-Some.is c.in_ok-find.ensures in
    answer c.args.view c.args.roots.now c.args.path.now c.find.new.reached.keys c.in-Some.goal
    c.in_ok-chain_to-in-Some.field-0 found c.in_ok-chain_to-in-Some.ensures
