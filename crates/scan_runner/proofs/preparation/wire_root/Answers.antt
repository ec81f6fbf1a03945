use Rattle.scan_runner.proofs.Reading.{to_end}
use Rattle.scan_runner.proofs.Preparing.{root-wired}
use Rattle.scan_runner.proofs.preparation.wire_root.Goals as goal

pub returns : goal.returns
returns c = root-wired (to_end c.args.image.now c.args.root) c.wire.ensures
