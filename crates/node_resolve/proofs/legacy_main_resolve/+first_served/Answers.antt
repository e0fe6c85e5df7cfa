use Rattle.std.proofs.Common.{◌++◌, ap}
use Rattle.std.proofs.lemmas.List.{nil_from_length}
use Rattle.std.specs.Prelude.{map}
use Rattle.node_resolve.specs.MainFiles.{texts_of}
use Rattle.node_resolve.proofs.MainLemmas.{no_text_first, first_fails, first_here, first_later}
use Rattle.node_resolve.proofs.legacy_main_resolve.+first_served.Goals as goal

pub returns-in-None-clause-answered : goal.returns-in-None-clause-answered
returns-in-None-clause-answered g t c = λ path e.
    no_text_first _ path _
    (ap (λ l. map (λ end. c.args.front.now ++ end) (texts_of l)) (nil_from_length c.args.ends.now c.in-None.ensures.cases))

pub returns-in-Err-clause-answered : goal.returns-in-Err-clause-answered
returns-in-Err-clause-answered g t c = λ path e.
    first_fails _ _ path (c.args.front.now ++ c.in-Some.end.now.now)
    (map (λ end. c.args.front.now ++ end) (texts_of c.in-Some.more.now)) _
    (ap (λ l. map (λ end. c.args.front.now ++ end) (texts_of l)) c.in-Some.ensures.cases.0) c.in-Err.fault
    (rw c.in-Err.is at (c.served.ensures.answered path e))

pub returns-in-Ok-Some-clause-answered : goal.returns-in-Ok-Some-clause-answered
returns-in-Ok-Some-clause-answered g t c = λ path e.
    first_here _ _ path (c.args.front.now ++ c.in-Some.end.now.now)
    (map (λ end. c.args.front.now ++ end) (texts_of c.in-Some.more.now)) _
    (ap (λ l. map (λ end. c.args.front.now ++ end) (texts_of l)) c.in-Some.ensures.cases.0) c.in-Ok-Some.found
    (rw (c.in-Ok-Some.is, c.in-Ok-Some.field-0-is) at (c.served.ensures.answered path e))

pub returns-in-Ok-None-clause-answered : goal.returns-in-Ok-None-clause-answered
returns-in-Ok-None-clause-answered g t c = λ path e.
    first_later _ _ path (c.args.front.now ++ c.in-Some.end.now.now)
    (map (λ end. c.args.front.now ++ end) (texts_of c.in-Some.more.now)) _
    (ap (λ l. map (λ end. c.args.front.now ++ end) (texts_of l)) c.in-Some.ensures.cases.0) _ _
    (rw (c.in-Ok-None.is, c.in-Ok-None.field-0-is) at (c.served.ensures.answered path e)) (c.first_served.ensures.answered path e)
