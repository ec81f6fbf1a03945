use Rattle.meirhuppa.proofs.panel.meirhuppa_panel.Goals as goal
use Rattle.meirhuppa.proofs.PanelAnswers.{panel-listed, panel-refused, panel-short}

pub overflow_mul-count : goal.overflow_mul-count
overflow_mul-count c = record { fits = panel-short _ _ c.list_bits.ensures c.in-Ok.is }

pub returns-in-Ok : goal.returns-in-Ok
returns-in-Ok c = panel-listed _ _ c.list_bits.ensures c.in-Ok.is c.written.ensures

pub returns-in-Err : goal.returns-in-Err
returns-in-Err c = panel-refused _ _ c.list_bits.ensures c.in-Err.is c.code.ensures c.refused.ensures
