use Rattle.one_answer.proofs.Answering.{scan-only}
use Rattle.one_answer.proofs.scan_once.Goals as goal

pub returns : goal.returns
returns c = scan-only c.meirhuppa_scan.ensures
