use Rattle.std.proofs.Common.{sym, ◌∙◌}
use Rattle.vetting.proofs.Mentioned.{mentioned_by, mentioned_none}
use Rattle.vetting.proofs.speaking.mentions.Goals as goal

pub returns-in-Some : goal.returns-in-Some
returns-in-Some c = c.said.ensures ∙ mentioned_by c.args.subject c.args.row.now c.in-Some.kind c.in-Some.ensures

pub returns-in-None : goal.returns-in-None
returns-in-None c = sym (mentioned_none c.args.subject c.args.row.now c.in-None.ensures)
