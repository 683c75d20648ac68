-- A call that is barred leaves all alone; else a turn at the input's front (`Boxing`).
use Rattle.std.proofs.lemmas.Result.{err_from_is_err_and}
use Rattle.desk_stream.proofs.Boxing.{performing-barred, performing-one}
use Rattle.desk_stream.proofs.perform.Goals as goal

pub returns-in_err-barred-clause-performed : goal.returns-in_err-barred-clause-performed
returns-in_err-barred-clause-performed c =
    let a = c.args in
    let p = err_from_is_err_and c.from_residual.result c.from_residual.ensures.1 in
    rw (p.1, p.2) (performing-barred a.w.now a.ring.now a.reply.now a.s.now a.offset a.last a.out.now c.in_err-barred.ensures)

pub returns-clause-performed : goal.returns-clause-performed
returns-clause-performed c =
    let a = c.args in
    performing-one a.w.now a.ring.now a.reply.now a.s.now a.offset a.last a.out.now c.turn.result c.in_ok-barred.ensures
    c.turn.ensures.place c.turn.ensures.turns c.turn.ensures.lent
