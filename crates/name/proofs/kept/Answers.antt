-- The test decides which bytes there are; they are the name's, two digits at a time (`Pairs`).
use borrow.Author.Tests.{eq-eqb, ne_eqb}
use Rattle.std.proofs.Common.{refl}
use Rattle.rules.specs.Name.{name_of, spelt}
use Rattle.name.proofs.Pairs.{with-side, without-side}
use Rattle.name.proofs.kept.Goals as goal

pub returns-then-append-eq1 : goal.returns-then-append-eq1
unfolding name_of spelt
returns-then-append-eq1 c =
    let second = with-side c.args.job c.pair-next.ensures c.digit.ensures c.args.number
    c.digit-hundreds.ensures c.pair.ensures c.joined.ensures in
    rw (eq-eqb _ _ c.if-append-eq1.true, c.front-first.ensures, second) refl

pub returns : goal.returns
unfolding name_of spelt
returns c =
    let second = without-side c.args.job c.pair-next.ensures c.digit.ensures c.joined-2.ensures in
    rw (ne_eqb _ _ c.if-append-eq1.false, c.front-first.ensures, second) refl
