use Rattle.std.proofs.Common.{subst, sym, ◌∙◌}
use Rattle.std.specs.Prelude.{IsUtf8}
use Rattle.integrity_spec.proofs.DigestTexts.{texts_are_utf8}
use Rattle.integrity_digest.proofs.kept_digest.Goals as goal

pub unreachable-requires : goal.unreachable-requires
unreachable-requires c =
    c.in-Err.ensures.cases.0 (subst IsUtf8 (sym (c.as_slice.ensures ∙ c.digest_text.ensures)) (texts_are_utf8 c.args.bytes.now))
