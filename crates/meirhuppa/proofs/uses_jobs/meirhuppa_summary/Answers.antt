use Rattle.meirhuppa.proofs.uses_jobs.meirhuppa_summary.Goals as goal
use Rattle.meirhuppa.proofs.UsesAnswers.{summary-made, summary-refused, summary-short, summary_sum, summary-bytes}

pub overflow_mul-names : goal.overflow_mul-names
overflow_mul-names c = record { fits = summary-short _ _ c.make.ensures c.in-Ok.is }

pub overflow_add-names : goal.overflow_add-names
overflow_add-names c = record { fits = summary_sum _ _ c.make.ensures c.in-Ok.is }

pub overflow_mul-names-in-Ok : goal.overflow_mul-names-in-Ok
overflow_mul-names-in-Ok c = record { fits = summary-bytes _ _ c.make.ensures c.in-Ok.is }

pub returns-in-Ok : goal.returns-in-Ok
returns-in-Ok c = summary-made _ _ c.make.ensures c.in-Ok.is c.written.ensures

pub returns-in-Err : goal.returns-in-Err
returns-in-Err c = summary-refused _ _ c.make.ensures c.in-Err.is c.refused.ensures
