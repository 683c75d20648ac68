use Rattle.std.proofs.Common.{◌∙◌, ap}
use Rattle.rules.specs.Name.{same}
use Rattle.name.proofs.Padded.{padded-spelled}
use Rattle.name.proofs.Same.{same-is}
use Rattle.name.proofs.is_present.Goals as goal

pub returns : goal.returns
returns c =
    c.eq.ensures ∙ same-is c.args.called.now c.as_bytes.result.now ∙ ap (same c.args.called.now) (c.as_bytes.ensures ∙ padded-spelled _ _ c.present.ensures)
