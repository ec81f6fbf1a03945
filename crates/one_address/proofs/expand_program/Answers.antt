use Rattle.std.proofs.Common.{arith}
use Rattle.one_address.proofs.Keeping.{keeps}
use Rattle.one_address.proofs.expand_program.Goals as goal

pub returns : goal.returns
returns c = keeps _ _ _ _ c.meirhuppa_expand.ensures (λ n. omega (arith, c.shared_slice_known-1.given n))
