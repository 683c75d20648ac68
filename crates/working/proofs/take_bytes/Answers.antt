-- Quiet and the ring's two are kept: bytes change no more (`Little`).
use Rattle.working.proofs.Little.{bytes-heard}
use Rattle.working.proofs.Doing.{did, heard-does}
use Rattle.working.proofs.take_bytes.Goals as goal

pub returns : goal.returns
returns c = λ box.
    heard-does _ _ _ box _ (did _ _ _ box _ c.load-r.ensures c.bytes_sound-answer.ensures) c.told-w (bytes-heard _ _)
    (c.keep_heard.ensures.numbers, c.keep_heard.ensures.quiet_fits)
