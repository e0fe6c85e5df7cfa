use Rattle.std.proofs.Common.{subst}
use Rattle.config_spec.specs.declared.Command.TheVariants.{Vendor}
use Rattle.generator_core.specs.Vendoring.{PreparesCopies}
use Rattle.generator_core.proofs.CopiesTold.{copies_end, copies_stop, still_asked}
use Rattle.generator_core.proofs.StepsByTrace.{fits_to_end, vendor_opening}
use Rattle.generator_core.proofs.running.tell_copies.Goals as goal

pub prepare_copies-requires : goal.prepare_copies-requires
prepare_copies-requires g c = c.requires

pub finish_copies-requires : goal.finish_copies-requires
finish_copies-requires g c =
    (subst (λ r. PreparesCopies c.args.to.now c.args.config.now (g.F.Folder.state c.args.folder.now) r (g.F.Folder.state c.prepare_copies.new.folder))
    c.in-Ok.is c.prepare_copies.ensures.prepares).ready.kept

pub returns-in-Ok : goal.returns-in-Ok
returns-in-Ok g c =
    let is = subst (λ r. PreparesCopies c.args.to.now c.args.config.now (g.F.Folder.state c.args.folder.now) r (g.F.Folder.state c.prepare_copies.new.folder))
    c.in-Ok.is c.prepare_copies.ensures.prepares in
    record {
      end = λ words asks is_config. copies_end words c.args.to.now c.args.config.now _ _ _ _ _ _ asks is_config c.in-Ok.copies is.ready c.finish_copies.ensures;
      asked = still_asked c.args.to.now c.args.config.now (g.F.Folder.state c.args.folder.now) (g.F.Folder.state c.prepare_copies.new.folder)
          (g.F.Folder.state c.finish_copies.new.folder) c.finish_copies.ensures.asked is.asked;
      spends = record { told = λ none. absurd none; bounded = c.prepare_copies.ensures.bounded };
      by_trace = fits_to_end Vendor c.args.config.now (g.F.Folder.state c.args.folder.now).holds _ _ (vendor_opening c.args.config.now (g.F.Folder.state c.args.folder.now).holds _ _) c.prepare_copies.ensures.to_end;
    }

pub returns-in-Err : goal.returns-in-Err
returns-in-Err g c =
    let is = subst (λ r. PreparesCopies c.args.to.now c.args.config.now (g.F.Folder.state c.args.folder.now) r (g.F.Folder.state c.prepare_copies.new.folder))
    c.in-Err.is c.prepare_copies.ensures.prepares in
    record {
      end = λ words asks is_config. copies_stop words c.args.to.now c.args.config.now _ (g.F.Folder.state c.args.folder.now) _ _ _ _ asks is_config c.in-Err.stop is.stopped c.close.ensures.tells c.close.ensures.later;
      asked = is.asked;
      spends = record { told = λ none. absurd none; bounded = c.prepare_copies.ensures.bounded };
      by_trace = fits_to_end Vendor c.args.config.now (g.F.Folder.state c.args.folder.now).holds _ _ (vendor_opening c.args.config.now (g.F.Folder.state c.args.folder.now).holds _ _) c.prepare_copies.ensures.to_end;
    }
