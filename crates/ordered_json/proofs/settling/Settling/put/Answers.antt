use Rattle.std.proofs.Common.{◌≡◌, Some}
use Rattle.ordered_json.specs.Pairs.{place_of}
use Rattle.ordered_json.proofs.PairsLemmas.{at_from, place_within, put_replaced, indexed_replaced}
use Rattle.ordered_json.proofs.settling.Settling.put.Goals as goal

pub replace_value-requires : goal.replace_value-requires
replace_value-requires c =
    let found : place_of c.args.name c.args.self.now.kept.items ≡ Some c.in-Some.place = (let r = c.requires c.args.name in let g = c.get.ensures.value in let f = c.copied-found.ensures in let i = c.in-Some.is in cc) in
    place_within (at_from c.args.name c.args.self.now.kept.items c.in-Some.place found)

pub returns-in-Some-clause-indexed : goal.returns-in-Some-clause-indexed
returns-in-Some-clause-indexed c =
    let found : place_of c.args.name c.args.self.now.kept.items ≡ Some c.in-Some.place = (let r = c.requires c.args.name in let g = c.get.ensures.value in let f = c.copied-found.ensures in let i = c.in-Some.is in cc) in
    indexed_replaced (at_from c.args.name c.args.self.now.kept.items c.in-Some.place found) c.args.value c.replace_value.ensures c.args.self.now.places c.requires

pub returns-in-Some-clause-put : goal.returns-in-Some-clause-put
returns-in-Some-clause-put c =
    let found : place_of c.args.name c.args.self.now.kept.items ≡ Some c.in-Some.place = (let r = c.requires c.args.name in let g = c.get.ensures.value in let f = c.copied-found.ensures in let i = c.in-Some.is in cc) in
    put_replaced (at_from c.args.name c.args.self.now.kept.items c.in-Some.place found) c.args.value c.replace_value.ensures
