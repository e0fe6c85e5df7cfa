use Rattle.package_record.proofs.NameLemmas.{any_index, index_there}
use Rattle.package_record.proofs.subpaths.index_of.Goals as goal

pub returns-in-None : goal.returns-in-None
returns-in-None c = any_index c.args.value.now c.no_index.result c.in-None.ensures

pub returns-in_ok-keys_in-in-Some : goal.returns-in_ok-keys_in-in-Some
returns-in_ok-keys_in-in-Some c = index_there c.args.value.now _ _ c.in-Some.ensures c.in_ok-keys_in-in-Some.ensures c.has_dotted.ensures c.are_dotted.ensures
