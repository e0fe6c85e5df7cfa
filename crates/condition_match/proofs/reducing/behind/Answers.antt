use Rattle.std.proofs.Common.{refl}
use Rattle.ordered_json.proofs.IsJsonLemmas.{json_of_null, json_of_bool}
use Rattle.condition_match.proofs.ReduceLemmas.{behind_none, behind_some}
use Rattle.condition_match.proofs.reducing.behind.Goals as goal

pub returns-in-Undefined : goal.returns-in-Undefined
returns-in-Undefined c = λ none. behind_none c.args.first c.args.back.items c.in-Undefined.is (none c.in-Undefined.is)

pub returns-in_ok-all-in-Null : goal.returns-in_ok-all-in-Null
returns-in_ok-all-in-Null c = λ none. behind_some _ c.args.first _ c.in_ok-all-in-Null.all.items c.args.back.items c.in-Null.is (λ e. cc) json_of_null c.in_ok-all-in-Null.ensures

pub returns-in_ok-all-in-InvalidTarget : goal.returns-in_ok-all-in-InvalidTarget
returns-in_ok-all-in-InvalidTarget c = λ none.
    behind_some _ c.args.first _ c.in_ok-all-in-InvalidTarget.all.items c.args.back.items c.in-InvalidTarget.is (λ e. cc) (json_of_bool _) c.in_ok-all-in-InvalidTarget.ensures

pub returns-in_ok-all-in-As : goal.returns-in_ok-all-in-As
returns-in_ok-all-in-As c = λ none. behind_some _ c.args.first _ c.in_ok-all-in-As.all.items c.args.back.items c.in-As.is (λ e. cc) refl c.in_ok-all-in-As.ensures
