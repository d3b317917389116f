-- The code's own, in no promise to a caller: a piece stored in a buffer.
use Rattle.std.specs.Prelude.{ℕ, ◌+◌, List, ◌++◌, ◌≡◌, length, take}

-- a piece put behind the first `at` bytes of b gives the first at' bytes of b'
pub record Stored (at : ℕ) (b piece : List ℕ) (at' : ℕ) (b' : List ℕ) : Type 0 where
  pub long : length b' ≡ length b
  pub next : at' ≡ at + length piece
  pub start : take at' b' ≡ take at b ++ piece
