-- A turn, with nothing read or behind a read (`Reading`).
use Rattle.desk.proofs.Reading.{stepped-on, stepped-read}
use Rattle.desk.proofs.advance.Goals as goal

pub returns-then-not-f-clause-stepped : goal.returns-then-not-f-clause-stepped
returns-then-not-f-clause-stepped g c = stepped-on _ c.turn.ensures.box_stays c.if-not-f.true c.turn.ensures.turned

pub returns-clause-stepped : goal.returns-clause-stepped
returns-clause-stepped g c =
    stepped-read _ c.turn-2.ensures.box_stays _ _ c.if-not-f.false c.in_ok-got.ensures.fits c.in_ok-got.ensures.brings
    c.turn-2.ensures.turned
