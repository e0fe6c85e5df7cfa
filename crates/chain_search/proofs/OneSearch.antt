-- A search comes to one thing.
use Rattle.std.proofs.Common.{◌≡◌, ℕ, Bool, List, Option, Some, None, refl, sym, ap, ◌∙◌, reverse}
use Rattle.std.proofs.lemmas.List.{reverse-reverse}
use Rattle.chain_spec.proofs.ChainLaws.{one_shortest}
use Rattle.chain_spec.specs.Chains.{Asker, Targets, of_modules}
use Rattle.chain_search.proofs.Search.{finds_shortest}
use Rattle.chain_search.specs.Laws.{IsFound, OneFound}

same : {M : Type 0} (targets : Targets M) (is_wanted : Asker M → Bool) (one other : Option (List ℕ))
    → IsFound targets is_wanted one → IsFound targets is_wanted other → one ≡ other
same targets is_wanted None None is also = refl
same targets is_wanted None (Some back) is also = absurd (is (reverse back) also.is_chain)
same targets is_wanted (Some back) None is also = absurd (also (reverse back) is.is_chain)
same targets is_wanted (Some one) (Some other) is also =
    let turned = one_shortest targets is_wanted (reverse one) (reverse other) is also in
    ap Some (sym (reverse-reverse one) ∙ (ap reverse turned ∙ reverse-reverse other))

pub one_found : {M : Type 0} → OneFound M
one_found targets is_same is_wanted one other decides is also =
    same targets (of_modules is_wanted) one other (finds_shortest targets is_same is_wanted one decides is)
    (finds_shortest targets is_same is_wanted other decides also)
