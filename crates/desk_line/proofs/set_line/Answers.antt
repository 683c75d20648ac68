-- One part behind the other, and the parts in a row are the line (`Lines`).
use Rattle.desk_line.proofs.Lines.{line-put}
use Rattle.desk_line.proofs.set_line.Goals as goal

pub returns : goal.returns
returns c = line-put _ _ _ _ c.put_head-counts.ensures.puts c.put_counts-extra.ensures.puts c.put_extra-last.ensures.puts c.set_byte.ensures.puts
