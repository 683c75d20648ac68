-- By what is heard: a piece where nothing reads, or the answer to a record (`Pieces`).
use Rattle.std.proofs.Common.{◌+◌, length, drop, sym, refl, ap, ◌∙◌, arith}
use Rattle.answers.specs.Told.{state_of}
use Rattle.stored.specs.Stored.{recorded}
use Rattle.stored.proofs.Back.{kept-recorded}
use Rattle.stored.proofs.Boxes.{box-fits}
use Rattle.desk_stream.specs.Desk.{Heard}
use Rattle.desk_stream.specs.Window.{replied_in}
use Rattle.desk_stream.proofs.Hearing.{heard-bad}
use Rattle.desk_stream.proofs.Pieces.{unheard-turns, unheard-size, asked-place, asked-turns, asked-replies}
use Rattle.desk_stream.proofs.turn.Goals as goal

-- ---- nothing reads
pub returns-in_default-clause-place : goal.returns-in_default-clause-place
returns-in_default-clause-place c =
    let a = c.args in
    let box = state_of (recorded a.w.now) a.ring.now in
    let h = heard-bad a.s.now a.at (sym c.hear.ensures ∙ c.in_default.is) in
    omega (arith, c.stop.ensures.place, unheard-size (a.base + a.at) a.last box (drop a.at a.s.now) h (length a.reply.now))

pub returns-in_default-clause-turns : goal.returns-in_default-clause-turns
returns-in_default-clause-turns c =
    let a = c.args in
    let box = state_of (recorded a.w.now) a.ring.now in
    let h = heard-bad a.s.now a.at (sym c.hear.ensures ∙ c.in_default.is) in
    let same = kept-recorded a.w.now c.told-w (box-fits a.w.now (length a.ring.now) c.requires.boxed) in
    unheard-turns (a.base + a.at) a.last box (drop a.at a.s.now) h refl c.stop.ensures.ended
    c.stop.ensures.text (sym same) refl c.requires.boxed (length a.reply.now)

pub returns-in_default-clause-lent : goal.returns-in_default-clause-lent
returns-in_default-clause-lent c =
    let a = c.args in
    let box = state_of (recorded a.w.now) a.ring.now in
    let h = heard-bad a.s.now a.at (sym c.hear.ensures ∙ c.in_default.is) in
    sym (ap (λ (x : Heard). replied_in x box a.reply.now) h)

-- ---- a record
pub returns-clause-place : goal.returns-clause-place
returns-clause-place c =
    let a = c.args in
    let h = sym c.hear.ensures ∙ c.in-Ok.is in
    asked-place a.s.now a.at _ h _ c.payload-body.ensures _ c.given-given.ensures (length a.reply.now) (a.base + a.at) a.last
    (state_of (recorded a.w.now) a.ring.now) c.answer.ensures.place

pub returns-clause-turns : goal.returns-clause-turns
returns-clause-turns c =
    let a = c.args in
    let h = sym c.hear.ensures ∙ c.in-Ok.is in
    asked-turns a.s.now a.at _ h _ c.payload-body.ensures _ c.given-given.ensures (length a.reply.now) (a.base + a.at) a.last
    (state_of (recorded a.w.now) a.ring.now) c.answer.ensures.turns

pub returns-clause-lent : goal.returns-clause-lent
returns-clause-lent c =
    let a = c.args in
    let h = sym c.hear.ensures ∙ c.in-Ok.is in
    asked-replies a.s.now a.at _ h _ c.payload-body.ensures _ c.given-given.ensures
    (state_of (recorded a.w.now) a.ring.now) a.reply.now c.answer.ensures.lent
