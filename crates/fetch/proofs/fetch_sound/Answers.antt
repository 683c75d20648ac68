-- Past soundness the call's refusals are walked (`Leads`); what is left is the effect (`Handed`).
use borrow.Author.Tests.{le-ltb}
use Rattle.std.proofs.Common.{length, ap, ◌∙◌, not, arith}
use Rattle.rules.specs.Machine.{step, refusals, scan_refusals}
use Rattle.answers.proofs.Leads.{leads, accept, skip, through}
use Rattle.fetch.proofs.Handed.{handed}
use Rattle.fetch.proofs.fetch_sound.Goals as goal

pub returns : goal.returns
unfolding step refusals scan_refusals
returns c =
    λ so.
    let room = le-ltb (length c.args.reply.now) 4 (omega arith) in
    handed _ _ _ _ _ (c.fetch_now.ensures.value so) (c.fetch_now.ensures.reply_after so)
    ∙ leads (skip (ap not so) (skip (through c.is_other.ensures c.if-is_other.false) (skip room accept)))
