use Rattle.std.proofs.Common.{refl}
use Rattle.wiring.proofs.Roots.{root-read, root-fault, fits-none}
use Rattle.wiring.proofs.wire.Goals as goal

pub returns-in-Ok : goal.returns-in-Ok
returns-in-Ok c = root-read _ _ _ _ c.wire_program.ensures.wires refl (fits-none c.requires.0 c.requires.1) c.requires.2 c.in-Ok.is

pub returns-in-Err : goal.returns-in-Err
returns-in-Err c = root-fault _ _ _ _ c.wire_program.ensures.wires refl (fits-none c.requires.0 c.requires.1) c.requires.2 c.in-Err.is
