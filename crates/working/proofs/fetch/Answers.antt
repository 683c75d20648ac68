-- All is kept where a side ends, else quiet and the ring's two: a fetch that is not the last changes no more (`Little`).
use Rattle.std.proofs.Common.{◌≡◌, false}
use Rattle.working.specs.Kept.{is_last}
use Rattle.working.proofs.Doing.{did, whole-does, heard-does, fetch-on}
use Rattle.working.proofs.fetch.Goals as goal

pub returns-then-is_last : goal.returns-then-is_last
returns-then-is_last c = λ box.
    whole-does _ _ _ box _ (did _ _ _ box _ c.load-r.ensures c.fetch_sound-answer.ensures) (c.keep.ensures.numbers, c.keep.ensures.fits)

pub returns-else-is_last : goal.returns-else-is_last
returns-else-is_last c = λ box.
    let told = c.fetch_sound-answer in
    let o = did _ _ _ box _ c.load-r.ensures told.ensures in
    let more : is_last told.result ≡ false = cc in
    heard-does _ _ _ box _ o c.told-w (fetch-on _ _ _ _ told.new.r told.result o more)
    (c.keep_heard.ensures.numbers, c.keep_heard.ensures.quiet_fits)
