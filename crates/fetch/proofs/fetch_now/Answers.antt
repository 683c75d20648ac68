-- What is handed over (`Handed`).
use Rattle.std.proofs.Common.{ℕ, min, ap, ◌∙◌}
use Rattle.moves.proofs.Renaming.{sound-named}
use Rattle.fetch.proofs.Handed.{least-goes, least-there, drains-held}
use Rattle.fetch.proofs.fetch_now.Goals as goal

pub returns-clause-value : goal.returns-clause-value
returns-clause-value c =
    let r = c.args.r.now in
    let want = c.min-want.ensures ∙ ap (λ (n : ℕ). min r.ring.stored n) c.from.ensures in
    let k = c.move_out-k.ensures.value in
    λ so.
    c.note.ensures (least-there _ _ _ _ _ _ so want k) (λ f. sound-named _ _ so (drains-held r.scanner.state f))
    ∙ rw (least-goes _ _ _ _ _ _ so want k)

pub returns-clause-reply_after : goal.returns-clause-reply_after
returns-clause-reply_after c =
    let want = c.min-want.ensures ∙ ap (λ (n : ℕ). min c.args.r.now.ring.stored n) c.from.ensures in
    λ so. rw (c.move_out-k.ensures.reply_after, least-goes _ _ _ _ _ _ so want c.move_out-k.ensures.value)
