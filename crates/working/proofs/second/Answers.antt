-- Nothing is kept in Idle, all where the job ends, else quiet and the ring's two, which a second leaves alone (`Little`).
use Rattle.std.proofs.Common.{◌≡◌, false, Ok, rules}
use Rattle.rules.specs.declared.Scan.{Scan}
use Rattle.answers.specs.declared.Told.{Told}
use Rattle.rules.specs.Record.{idle}
use Rattle.stored.proofs.Boxes.{box-fits}
use Rattle.working.proofs.Doing.{did, whole-does, still-does, heard-does, second-still, second-on}
use Rattle.working.proofs.second.Goals as goal

pub returns-then-matches : goal.returns-then-matches
returns-then-matches c = λ ring box.
    let at-rest : c.load-r.result.scanner.state ≡ Scan.Idle = search rules in
    still-does _ _ ring box (Ok Told.Done) (did _ _ ring box (Ok Told.Done) c.load-r.ensures (c.tick_sound-next.ensures ring)) c.told-w
    (second-still _ ring (c.load-r.ensures (box-fits _ _ box)) at-rest)

pub returns-then-matches-2 : goal.returns-then-matches-2
returns-then-matches-2 c = λ ring box.
    whole-does _ _ ring box (Ok Told.Done) (did _ _ ring box (Ok Told.Done) c.load-r.ensures (c.tick_sound-next.ensures ring))
    (c.keep.ensures.numbers, c.keep.ensures.fits)

pub returns-else-matches-2 : goal.returns-else-matches-2
returns-else-matches-2 c = λ ring box.
    let told = c.tick_sound-next in
    let o = did _ _ ring box (Ok Told.Done) c.load-r.ensures (told.ensures ring) in
    let on : idle told.result.scanner.state ≡ false = search rules in
    heard-does _ _ ring box (Ok Told.Done) o c.told-w (second-on _ told.result (Ok Told.Done) o on)
    (c.keep_heard.ensures.numbers, c.keep_heard.ensures.quiet_fits)
