-- By the box; then the second's own equation, at a ring of zeros (`Hosting`).
use Rattle.bench_box.proofs.Hosting.{second_none, second-done}
use Rattle.bench_box.proofs.bench_box_tick.Goals as goal
use Rattle.std.proofs.Common.{refl, sym, ◌∙◌}

-- ---- no box
pub returns-then-not-is_box-clause-number : goal.returns-then-not-is_box-clause-number
returns-then-not-is_box-clause-number c =
    c.into.ensures ∙ (second_none c.args.words.now c.args.length (sym c.if-not-is_box.ensures)).0

pub returns-then-not-is_box-clause-words : goal.returns-then-not-is_box-clause-words
returns-then-not-is_box-clause-words c = (second_none c.args.words.now c.args.length (sym c.if-not-is_box.ensures)).1.0

-- ---- a box
pub returns-clause-number : goal.returns-clause-number
returns-clause-number c =
    (second-done c.args.words.now c.args.length (sym c.if-not-is_box.ensures) c.second.ensures refl).0

pub returns-clause-words : goal.returns-clause-words
returns-clause-words c =
    (second-done c.args.words.now c.args.length (sym c.if-not-is_box.ensures) c.second.ensures refl).1.0

pub returns-clause-box_stays : goal.returns-clause-box_stays
returns-clause-box_stays c =
    (second-done c.args.words.now c.args.length (sym c.if-not-is_box.ensures) c.second.ensures refl).1.1
