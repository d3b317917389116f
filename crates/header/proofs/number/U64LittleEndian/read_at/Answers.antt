use native.Mathlib.Omega.{arith}
use Rattle.header.proofs.Numbers.{two_parts}
use Rattle.header.proofs.number.U64LittleEndian.read_at.Goals as goal

pub returns-then-p-s : goal.returns-then-p-s
returns-then-p-s c = let a = c.args in omega (arith, two_parts 4 4 a.s.now a.p)
