-- The call's outcome, whatever the reply held, and its line.
use Rattle.desk_text.proofs.Putting.{moved}
use Rattle.desk_line.proofs.Room.{roomed-whole}
use Rattle.desk_stream.proofs.Replies.{number-stays, answered-turn}
use Rattle.desk_stream.proofs.answer.Goals as goal

pub returns-clause-turns : goal.returns-clause-turns
returns-clause-turns c =
    let a = c.args in
    let works = c.perform-answer.ensures c.requires.boxed in
    answered-turn a.request a.given.now a.w.now a.ring.now a.reply.now c.requires.boxed works a.kind
    c.load-next.ensures c.number-number.ensures
    (number-stays c.perform-answer.result c.map.result _ c.map.ensures.cases c.map.ensures.variant)
    (moved c.put_line.ensures (roomed-whole _ _ _ c.requires.roomy))
