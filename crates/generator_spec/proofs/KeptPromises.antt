-- A run that ends as it must keeps all promises.
use Rattle.generator_spec.specs.Laws.{EndsKeepPromises}
use Rattle.generator_spec.proofs.Endings.{end_statuses, end_kept, end_kept_or_done, end_refused_words, end_not_plain, end_read, end_write, end_two, end_shows}
use Rattle.generator_spec.proofs.ToldLines.{end_tells}
use Rattle.generator_spec.proofs.Meetings.{end_meets}
use Rattle.generator_spec.proofs.Vendorings.{if_vendored}

pub ends_keep_promises : EndsKeepPromises
ends_keep_promises words before after out out_after result e = record {
  statuses = end_statuses words before after out out_after result e.status e.lines e.says e.ends;
  kept = end_kept words before after out out_after result e.status e.lines e.says e.untold e.ends;
  done = e.headline;
  copied = λ to asks done. if_vendored words before.holds after.holds to asks (e.headline done);
  write_fault =
      λ five. end_kept_or_done words before after out out_after result e.status e.lines e.says e.untold e.written;
  read = end_read words before after out out_after result e.status e.lines e.says e.ends;
  write = end_write words before after out out_after result e.status e.lines e.says e.ends;
  told = end_tells words before after e.status e.lines e.written out out_after result e.says e.ends;
  meets = end_meets words before after out out_after result e.status e.lines e.says e.ends;
  shows = end_shows words before after out out_after result e.status e.lines e.says e.ends;
  looks_later = e.looks_later;
  writes_later = e.writes_later;
  output_later = e.output_later;
  untold = e.untold;
  refused_words = end_refused_words words before after out out_after result e.status e.lines e.says e.untold e.ends;
  not_plain = end_not_plain words before after out out_after result e.status e.lines e.says e.untold e.ends;
  wrong_words = end_two words before after out out_after result e.status e.lines e.says e.ends;
}
