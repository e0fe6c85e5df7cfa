use Rattle.std.proofs.Common.{subst}
use Rattle.std.proofs.lemmas.Result.{IfOk-weaker}
use Rattle.html_inject.proofs.Outcomes.{Fits, fits, map_comes, element_comes}
use Rattle.html_inject.proofs.injection.put_at.Goals as goal

pub replaced-requires-clause-from : goal.replaced-requires-clause-from
replaced-requires-clause-from c = (subst (Fits c.args.page.now) c.in-Map.is (fits c.args.page.now c.args.site c.requires)).from

pub replaced-requires-clause-to : goal.replaced-requires-clause-to
replaced-requires-clause-to c = (subst (Fits c.args.page.now) c.in-Map.is (fits c.args.page.now c.args.site c.requires)).to

pub inserted-requires : goal.inserted-requires
inserted-requires c = (subst (Fits c.args.page.now) c.in-Place.is (fits c.args.page.now c.args.site c.requires)).from

pub returns-in-Map : goal.returns-in-Map
returns-in-Map c = IfOk-weaker c.replaced.result _ _ (λ new e. map_comes c.args.map.now c.args.page.now new.items c.args.site c.in-Map.from c.in-Map.to c.requires c.in-Map.is e) c.replaced.ensures

pub returns-in-Place : goal.returns-in-Place
returns-in-Place c = IfOk-weaker c.inserted.result _ _ (λ new e. element_comes c.args.map.now c.args.page.now new.items c.args.site c.in-Place.at c.requires c.in-Place.is e) c.inserted.ensures
