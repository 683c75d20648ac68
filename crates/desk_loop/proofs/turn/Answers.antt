-- The window is filled, served and settled (`Turning`).
use Rattle.std.proofs.Common.{length}
use Rattle.desk_loop.proofs.Turning.{turn-done}
use Rattle.desk_loop.proofs.turn.Goals as goal

pub returns-clause-turned : goal.returns-clause-turned
returns-clause-turned c =
    let a = c.args in
    turn-done a.f a.got a.w.now a.ring.now a.buf.now a.out.now c.fill-full.ensures c.serve-served.result (length c.serve-served.new.out)
    c.serve-served.auto.out c.pass.ensures c.settle.ensures.flow c.settle.ensures.window c.serve-served.ensures.served
