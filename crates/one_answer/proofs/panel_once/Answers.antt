use Rattle.one_answer.proofs.Answering.{panel-only}
use Rattle.one_answer.proofs.panel_once.Goals as goal

pub returns : goal.returns
returns c = panel-only c.meirhuppa_panel.ensures
