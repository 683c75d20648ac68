-- The bytes of the present name.
use Rattle.std.proofs.Common.{◌∙◌}
use Rattle.name.proofs.Padded.{padded-spelled}
use Rattle.desk_text.proofs.Putting.{moved}
use Rattle.desk_line.proofs.lent.put_name.Goals as goal

pub returns-clause-puts : goal.returns-clause-puts
returns-clause-puts c = moved c.set_bytes.ensures.puts (c.as_bytes.ensures ∙ padded-spelled _ _ c.present.ensures)
