-- The call ran on the record that the numbers are; what it left is kept where it was accepted.
use Rattle.std.proofs.Common.{◌≡◌, true, false, refl, is_ok}
use Rattle.working.proofs.settle.Goals as goal

pub returns-then-is_ok : goal.returns-then-is_ok
returns-then-is_ok g c = λ e.
    let taken : is_ok c.call-answer.result ≡ true = cc in
    record {
      left = c.call-answer.new.arg2;
      ran = record { shown = _; shows = c.load-r.ensures e; left = _; met = c.call-answer.ensures; leaves = refl };
      numbers = rw taken c.keep.ensures.numbers;
      fits = c.keep.ensures.fits;
    }

pub returns-else-is_ok : goal.returns-else-is_ok
returns-else-is_ok g c = λ e.
    let refused : is_ok c.call-answer.result ≡ false = cc in
    record {
      left = c.call-answer.new.arg2;
      ran = record { shown = _; shows = c.load-r.ensures e; left = _; met = c.call-answer.ensures; leaves = refl };
      numbers = rw refused refl;
      fits = λ _. e;
    }
