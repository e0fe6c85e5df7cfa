use Rattle.std.proofs.Common.{ap, arith}
use Rattle.disk_devices.proofs.ContentLemmas.{whole_content}
use Rattle.disk_devices.proofs.disk_folder.content.Goals as goal

pub returns : goal.returns
returns g c =
    let file = c.take-front.ensures.inner in
    let most = c.take-front.ensures.limit in
    let size = c.len.ensures in
    let short = c.if-len-limit.false in
    whole_content (g.F.Read.remaining c.args.file) (g.F.Read.remaining c.take-front.result.inner) c.args.limit c.take-front.result.limit _ _ _ (ap g.F.Read.remaining file) most c.«in_ok-bytes».ensures.items c.«in_ok-read_to_end».ensures.bytes (omega (arith, size, short)) c.from_vec.ensures
