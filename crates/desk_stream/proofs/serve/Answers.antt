-- A call that is barred leaves all alone; else the loop, with a reply of its own (`Boxing`).
use Rattle.std.proofs.lemmas.Result.{err_from_is_err_and}
use Rattle.desk_stream.proofs.Boxing.{serving-barred, serving-window}
use Rattle.desk_stream.proofs.serve.Goals as goal

pub returns-in_err-barred-clause-served : goal.returns-in_err-barred-clause-served
returns-in_err-barred-clause-served c =
    let a = c.args in
    let p = err_from_is_err_and c.from_residual.result c.from_residual.ensures.1 in
    rw (p.1, p.2) (serving-barred a.w.now a.ring.now a.s.now a.base a.last a.out.now c.in_err-barred.ensures)

pub returns-clause-served : goal.returns-clause-served
returns-clause-served c =
    let a = c.args in
    serving-window a.w.now a.ring.now a.s.now a.base a.last a.out.now c.serve_with.result c.in_ok-barred.ensures c.serve_with.ensures
