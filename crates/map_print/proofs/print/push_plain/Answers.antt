use Rattle.map_print.proofs.PlainTests.{plain_pushed}
use Rattle.map_print.proofs.print.push_plain.Goals as goal

pub returns : goal.returns
returns c =
    plain_pushed c.args.out.now.items c.extend_from_slice.new.self.items c.extend_from_slice-2.new.self.items c.push.new.self.items c.as_slice.result.now c.as_bytes.result.now c.args.rest.now
    c.in_ok-extend_from_slice.ensures.items c.as_slice.ensures c.in_ok-extend_from_slice-2.ensures.items c.as_bytes.ensures.value c.in_ok-push.ensures.items c.requires
