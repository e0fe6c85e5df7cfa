use Rattle.std.proofs.Common.{refl}
use Rattle.kept_answers.specs.Entries.{is_request}
use Rattle.kept_answers.specs.Tables.{requests_at}
use Rattle.kept_answers.specs.declared.requests.KeptRequest.{KeptRequest}
use Rattle.kept_answers.proofs.SeenNow.{looks_set, looks_same}
use Rattle.kept_answers.proofs.RequestLemmas.{put_request}
use Rattle.kept_answers.proofs.requests.KeptRequests.put.Goals as goal

pub returns-clause-right : goal.returns-clause-right
returns-clause-right c =
    put_request c.args.request c.args.kept c.args.self.now
    (record { names = c.args.self.now.names; entries = c.insert.new.entries }) c.insert.result
    c.insert.ensures.set c.insert.ensures.same refl

pub returns-clause-set : goal.returns-clause-set
returns-clause-set c =
    looks_set (λ (kept : KeptRequest). kept.looks.value) is_request c.args.request c.args.kept
    (requests_at c.args.self.now)
    (requests_at (record { names = c.args.self.now.names; entries = c.insert.new.entries })) c.insert.result
    c.insert.ensures.set

pub returns-clause-same : goal.returns-clause-same
returns-clause-same c =
    looks_same (λ (kept : KeptRequest). kept.looks.value) is_request c.args.request c.args.kept
    (requests_at c.args.self.now)
    (requests_at (record { names = c.args.self.now.names; entries = c.insert.new.entries })) c.insert.result
    c.insert.ensures.same
