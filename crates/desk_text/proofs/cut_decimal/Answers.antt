-- A number has at most twenty digits.
use Rattle.std.proofs.Common.{arith, sym, ◌∙◌}
use lib.Seq.{length-take-le}
use Rattle.desk_text.specs.Digits.{most_digits}
use Rattle.desk_text.proofs.Putting.{length_digits}
use Rattle.desk_text.proofs.cut_decimal.Goals as goal

pub slice_bounds-buffer-end : goal.slice_bounds-buffer-end
slice_bounds-buffer-end c = omega (arith, length_digits most_digits c.args.n)

pub slice_bounds-fill_digits-end : goal.slice_bounds-fill_digits-end
slice_bounds-fill_digits-end c = sym (length-take-le _ _ (omega (arith, length_digits most_digits c.args.n)))

pub fill_digits-requires : goal.fill_digits-requires
fill_digits-requires c = length-take-le _ _ (omega (arith, length_digits most_digits c.args.n)) ∙ c.requires
