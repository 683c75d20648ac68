-- Part by part, each of which fits.
use Rattle.std.proofs.Common.{refl}
use Rattle.rules.proofs.Sound.{holds}
use Rattle.stored.specs.Stored.{fitting, all_fit, recorded}
use Rattle.stored.proofs.load.Goals as goal

pub returns : goal.returns
unfolding all_fit recorded
returns c = λ e.
    let fit = holds (fitting c.args.w.now) e in
    rw (
      c.load-7.ensures fit.1.1.1.1.1.1.0,
      c.load-6.ensures refl,
      c.load-5.ensures fit.1.1.1.1.1.0,
      c.load-4.ensures fit.1.1.1.1.0,
      c.load-3.ensures fit.1.1.1.0,
      c.load-2.ensures fit.1.1.0,
      c.load.ensures fit.1.0,
    ) refl
